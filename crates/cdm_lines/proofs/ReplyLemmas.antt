-- Each reply of a served day is one line.
use Rattle.std.proofs.Common.{◌≡◌, ◌∙◌, ℕ, ◌==◌, Bool, true, false, cond, List, [], ◌∷◌, ◌++◌, length, drop, filter, map, ap, append-nil}
use Rattle.std.proofs.{Common.{refl, subst, sym, Option, None, Some, Result, Ok, Err, inl, inr, codes, true≢false}, lemmas.Bool.false≢true}
use Rattle.std.specs.{Prelude.{⊤, bytes_eq, find, flat_map, is_some}, Cmp.Lexicographic.same_text, List.{AllByRecursion, IsDistinct}}
use Rattle.std.specs.Option.{option_map}
use Rattle.cdm_time.specs.declared.calendar.CalendarDate.{CalendarDate}
use Rattle.cdm_flight.specs.{Accepted.has_runway, Journal.{AirportRows, flight_of, runway_row}, Names.same_name, Words.text_of}
use Rattle.cdm_flight.specs.declared.{airport.RunwayRow.RunwayRow, flight.Flight.Flight, role.Role.Role, update.Update.Update, word.RefusalWord.RefusalWord}
use Rattle.cdm_flight.specs.declared.word.RefusalWord.TheVariants as word
use Rattle.cdm_runway.specs.Rules.{RunwayRules}
use Rattle.cdm_sequence.{proofs.OrderLemmas.same_flips, specs.declared.plan.Plan.Plan}
use Rattle.cdm_plan.{specs.Airport.IsAirport, specs.Day.{DayRecord, rules_of}, proofs.NameLemmas.{by_name_differ, find-rules, in_order}}
use Rattle.cdm_view.specs.{Load.unknown_in, declared.question.Question.TheVariants.{Why, Load}}
use Rattle.cdm_row.specs.Json.{count_json, object_of}
use Rattle.cdm_check.specs.Check.{cause_members}
use Rattle.cdm_desk.specs.Replies.{day_after, word_for}
use Rattle.cdm_kinds.specs.declared.format.Format.TheVariants.{Json}
use Rattle.cdm_files.specs.{Fields.{counted, field, flight_field, of_one, runway_field}, Parsing.parse_of}
use Rattle.cdm_journal.specs.Lines.{LineRecord, LineRecord.{Blank, One, Several}}
use Rattle.cdm_json.specs.{Lines.head_members, Loads.{AreLoadLines, load_line}}
use Rattle.cdm_json.specs.declared.plan.PlanOf.TheVariants as of
use Rattle.cdm_port.specs.{Event.Event, Event.Event.{Appended, Broken, End, Line, Replied}, Stop.{IsStopOf, IsTorn}}
use Rattle.cdm_serve.specs.{Asked.{AreOptionsTold, IsAnswerText, helpless_by}, Posted.IsRecordText, Refused.{IsToldBy, word_asked}}
use Rattle.cdm_serve.specs.Requests.{asked_by, flight_asked, options_asked, request_in, request_of, runway_asked}
use Rattle.cdm_serve.specs.Served.{AreReplies, Exchange, IsHeard, IsReplyTo, IsServed, IsStopped, answered, day_of, left_out, line_of}
use Rattle.cdm_serve.specs.Served.{numbered, reading, said, served, start_text, started, told_of}
use Rattle.cdm_serve.specs.{Taken.{TakenRecord, after, day_with, taken}, declared.asked.Asked.Asked}
use Rattle.cdm_serve.specs.declared.{asked.Asked.TheVariants.{Options as AskOptions, Plan as AskPlan, View}, request.Request.Request}
use Rattle.cdm_serve.specs.declared.request.Request.TheVariants.{Ask, Nothing, Post}
use Rattle.cdm_lines.specs.{Lines.{FitsLine, IsLine}, Replies.{AreReplyLines, BeginsLine, RepliesBefore, RepliesLine, json_form}}
use Rattle.cdm_lines.proofs.{AnswerLemmas.{is_load_line, is_plan_line, is_refused_line, is_reply_line, is_why}, OptionLemmas.is_options_reply, Texts.{fits, line_same}}
use Rattle.cdm_lines.proofs.Values.{small_decimal, small_object, small_string}

-- The start.

pub ready_fits : (count : ℕ) → FitsLine (object_of ((codes "ready", count_json count) ∷ []))
ready_fits count =
    let members = (codes "ready", count_json count) ∷ [] in fits (object_of members) (small_object 3 members (small_decimal 3 count, tt))

-- One runway of a name.

abbrev called : List ℕ → RunwayRules → Bool
called name rules = same_name name rules.name

none_called : (name other : List ℕ) (rs : List RunwayRules) → same_name name other ≡ true → AllByRecursion (λ n. same_name other n ≡ false) (map (λ r. r.name) rs)
    → filter (called name) rs ≡ []
none_called name other [] same apart = refl
none_called name other (r ∷ rs) same apart =
    let equal : name ≡ other = same_text name other (sym same) in
    let differ : same_name name r.name ≡ false = ap (λ n. same_name n r.name) equal ∙ apart.0 in
    ap (λ b. cond b (r ∷ filter (called name) rs) (filter (called name) rs)) differ ∙ none_called name other rs same apart.1

abbrev HasOne : List ℕ → List RunwayRules → Type 0
HasOne name rs = (r : RunwayRules) × (filter (called name) rs ≡ r ∷ [])

-- there is one among runways of different names
one_called : (name : List ℕ) (rs : List RunwayRules) → IsDistinct same_name (map (λ r. r.name) rs) → is_some (find (λ r. same_name r.name name) rs) ≡ true → HasOne name rs
unfolding IsDistinct
one_called name [] differ is = absurd (false≢true is)
one_called name (r ∷ rs) differ is = by (one_called name rs differ.1) (same_name r.name name) refl
  where
    by : (is_some (find (λ x. same_name x.name name) rs) ≡ true → HasOne name rs) → (b : Bool) → same_name r.name name ≡ b → HasOne name (r ∷ rs)
    by rest true e =
        let flipped : same_name name r.name ≡ true = same_flips name r.name ∙ e in (
          r,
          ap (λ b. cond b (r ∷ filter (called name) rs) (filter (called name) rs)) flipped ∙ ap (λ l. r ∷ l) (none_called name r.name rs flipped differ.0),
        )
    by rest false e =
        let flipped : same_name name r.name ≡ false = same_flips name r.name ∙ e in
        let later : is_some (find (λ x. same_name x.name name) rs) ≡ true = ap (λ b. is_some (cond b (Some r) (find (λ x. same_name x.name name) rs))) (sym e) ∙ is in
        let found = rest later in (found.0, ap (λ b. cond b (r ∷ filter (called name) rs) (filter (called name) rs)) flipped ∙ found.1)

known_by : (b : Bool) (name : List ℕ) → cond b None (Some name) ≡ None → b ≡ true
known_by true name is = refl
known_by false name is = absurd (true≢false (ap is_some is))

mapped : (o : Option RunwayRow) (f : RunwayRow → RunwayRules) → is_some (option_map f o) ≡ is_some o
mapped None f = refl
mapped (Some row) f = refl

is_load : (d : DayRecord) → IsAirport d.airport → (number : Option ℕ) (plan : Plan) (name text : List ℕ) → unknown_in d.airport (Some name) ≡ None
    → AreLoadLines d number plan (Some name) text → IsLine text
is_load d airport number plan name text known (rs, these, is) =
    let there : is_some (runway_row d.airport name) ≡ true = known_by (has_runway d.airport name) name known in
    let found : is_some (find (λ x. same_name x.name name) rs) ≡ true = ap (λ l. is_some (find (λ x. same_name x.name name) l)) (in_order d rs airport these)
    ∙ ap is_some (find-rules d.airport d.journal name airport) ∙ mapped (runway_row d.airport name) (rules_of d.airport d.journal) ∙ there in
    let one = one_called name rs (by_name_differ d rs airport these) found in
    line_same text _ (is ∙ ap (λ l. flat_map (load_line d.airport number plan) l) one.1 ∙ append-nil (load_line d.airport number plan one.0))
    (is_load_line d.airport number plan one.0)

-- A reply.

-- it asks for one thing
abbrev AsksOne : Request → Type 0
AsksOne Nothing = ⊥
AsksOne (Ask AskPlan) = ⊤
AsksOne (Ask (View (Why name))) = ⊤
AsksOne (Ask (View (Load None))) = ⊥
AsksOne (Ask (View (Load (Some name)))) = ⊤
AsksOne (Ask (AskOptions name)) = ⊤
AsksOne (Post spelled) = ⊤

counted_one : (wanted count : ℕ) (r : Result Asked RefusalWord) → AsksOne (asked_by r) → AsksOne (asked_by (counted wanted count r))
counted_one wanted count r one = by (count == wanted)
  where
    by : (b : Bool) → AsksOne (asked_by (cond b r (Err word.Fields)))
    by true = one
    by false = tt

flight_one : (r : Result (List ℕ) RefusalWord) → AsksOne (asked_by (of_one (λ flight. View (Why flight)) r))
flight_one (Ok name) = tt
flight_one (Err w) = tt

options_one : (r : Result (List ℕ) RefusalWord) → AsksOne (asked_by (of_one (λ flight. AskOptions flight) r))
options_one (Ok name) = tt
options_one (Err w) = tt

runway_one : (r : Result (List ℕ) RefusalWord) → AsksOne (asked_by (of_one (λ runway. View (Load (Some runway))) r))
runway_one (Ok name) = tt
runway_one (Err w) = tt

either_one : (b : Bool) (x y : Request) → AsksOne x → AsksOne y → AsksOne (cond b x y)
either_one true x y p q = p
either_one false x y p q = q

asks_one : (day : CalendarDate) (fields : List (List ℕ)) → AsksOne (request_in day fields)
unfolding request_in
asks_one day fields =
    let plan = asked_by (counted 1 (length fields) (Ok AskPlan)) in
    let why = asked_by (counted 2 (length fields) (flight_asked (field fields 1))) in
    let load = asked_by (counted 2 (length fields) (runway_asked (field fields 1))) in
    let options = asked_by (counted 2 (length fields) (options_asked (field fields 1))) in
    let post = Post (parse_of day fields) in
    let says_why = bytes_eq (field fields 0) (codes "WHY") in
    let says_load = bytes_eq (field fields 0) (codes "LOAD") in
    let says_options = bytes_eq (field fields 0) (codes "OPTIONS") in
    let of_plan : AsksOne plan = counted_one 1 (length fields) (Ok AskPlan) tt in
    let of_why : AsksOne why = counted_one 2 (length fields) (flight_asked (field fields 1)) (flight_one (flight_field (field fields 1))) in
    let of_load : AsksOne load = counted_one 2 (length fields) (runway_asked (field fields 1)) (runway_one (runway_field (field fields 1))) in
    let of_options : AsksOne options = counted_one 2 (length fields) (options_asked (field fields 1)) (options_one (flight_field (field fields 1))) in
    let later = cond says_options options post in
    let of_later : AsksOne later = either_one says_options options post of_options tt in
    either_one (bytes_eq (field fields 0) (codes "PLAN")) plan (cond says_why why (cond says_load load later)) of_plan
    (either_one says_why why (cond says_load load later) of_why (either_one says_load load later of_load of_later))

is_told : (refusal : Option RefusalWord) (d : DayRecord) (number : ℕ) (known : Option Flight) (text : List ℕ) → AreOptionsTold refusal Json d number known text → IsLine text
is_told (Some refusal) d number known text is = line_same text _ is (is_refused_line number refusal)
is_told None d number known text is = is_options_reply number d known None text is

is_posted : (d : DayRecord) (number : ℕ) (spelled : Result (Role × Update) RefusalWord) (text : List ℕ) → IsRecordText Json d number spelled text → IsLine text
is_posted d number spelled text (reply, of_day, is) = line_same text _ is (is_reply_line d.airport.day number (length (day_after d spelled).journal) reply)

is_answer : (d : DayRecord) → IsAirport d.airport → (number : ℕ) (asked : Asked) (text : List ℕ) → AsksOne (Ask asked) → IsAnswerText Json d number asked text → IsLine text
is_answer d airport number AskPlan text one (plan, of_day, is) = is_plan_line d (of.Asked number) plan [] text is
is_answer d airport number (View (Why name)) text one (inl (unknown, is)) = line_same text _ is (is_refused_line number word.Unknown)
is_answer d airport number (View (Why name)) text one (inr (plan, of_day, is)) = is_why d (Some number) plan (flight_of d.airport d.journal name) text is
is_answer d airport number (View (Load None)) text one is = absurd one
is_answer d airport number (View (Load (Some name))) text one (inl (unknown, is)) = line_same text _ is (is_refused_line number word.Unknown)
is_answer d airport number (View (Load (Some name))) text one (inr (plan, of_day, is)) = is_load d airport (Some number) plan name text is.0 is.1
is_answer d airport number (AskOptions name) text one is =
    is_told (helpless_by (flight_of d.airport d.journal name)) d number (flight_of d.airport d.journal name) text is

-- a refusal with its sentence
pub explained_fits : (number : ℕ) (word : RefusalWord) (sentence : List ℕ)
    → FitsLine (object_of (head_members (Some number) (codes "REFUSED") ++ cause_members word sentence))
explained_fits number word sentence =
    let members = head_members (Some number) (codes "REFUSED") ++ cause_members word sentence in
    fits (object_of members)
    (small_object 3 members
    (small_decimal 3 number, (small_string 3 (codes "REFUSED"), (small_string 3 (text_of word), (small_string 3 sentence, tt)))))

-- a reply that has a sentence, or is plain
told_fits : (refusal : Option RefusalWord) (sentences : Bool) (number : ℕ) (IsPlain : List ℕ → Type 0) (text : List ℕ) → (IsPlain text → IsLine text)
    → IsToldBy refusal sentences Json number IsPlain text → IsLine text
told_fits None sentences number IsPlain text plain is = plain is
told_fits (Some word) true number IsPlain text plain is = (_, explained_fits number word is.sentence, is.bytes)
told_fits (Some word) false number IsPlain text plain is = plain is

is_reply : (sentences : Bool) (d : DayRecord) → IsAirport d.airport → (number : ℕ) (request : Request) (text : List ℕ) → AsksOne request
    → IsReplyTo (json_form sentences) d number request text → IsLine text
is_reply sentences d airport number Nothing text one is = absurd one
is_reply sentences d airport number (Post spelled) text one is =
    told_fits (word_for d spelled) sentences number (IsRecordText Json d number spelled) text (is_posted d number spelled text) is
is_reply sentences d airport number (Ask asked) text one is =
    told_fits (word_asked d asked) sentences number (IsAnswerText Json d number asked) text (is_answer d airport number asked text one) is

-- What happens.

all-append : (a b : List Event) → AllByRecursion RepliesLine a → AllByRecursion RepliesLine b → AllByRecursion RepliesLine (a ++ b)
all-append [] b x y = y
all-append (e ∷ a) b x y = (x.0, all-append a b x.1 y)

told_line : (one : Option TakenRecord) (reply : List ℕ) → IsLine reply → AllByRecursion RepliesLine (told_of one reply)
told_line None reply is = (is, (tt, tt))
told_line (Some one) reply is = (tt, (tt, (is, (tt, tt))))

pub answer_line : (sentences : Bool) (d : DayRecord) (line : LineRecord) (number : ℕ) (reply : List ℕ) → IsAirport d.airport
    → IsReplyTo (json_form sentences) d number (request_of d.airport.day line) reply → AllByRecursion RepliesLine (answered d line reply)
answer_line sentences d Blank number reply airport is = tt
answer_line sentences d (One fields) number reply airport is =
    told_line (taken d (One fields)) reply (is_reply sentences d airport number (request_in d.airport.day fields) reply (asks_one d.airport.day fields) is)
answer_line sentences d Several number reply airport is = told_line (taken d Several) reply (is_reply sentences d airport number (Post (Err word.Fields)) reply tt is)

said_line : (heard : Option (List ℕ)) → RepliesLine (said heard)
said_line None = tt
said_line (Some line) = tt

airport_kept : (d : DayRecord) (one : Option TakenRecord) → IsAirport d.airport → IsAirport (day_with d one).airport
airport_kept d None airport = airport
airport_kept d (Some one) airport = airport

served_lines : (sentences : Bool) (exchanges : List Exchange) (d : DayRecord) (number : ℕ) → IsAirport d.airport → AreReplies (json_form sentences) d number exchanges → AllByRecursion RepliesLine (served d exchanges)
served_lines sentences [] d number airport are = tt
served_lines sentences (x ∷ later) d number airport are = (
  said_line x.heard,
  all-append (answered d (line_of x) x.reply) (served (after d (line_of x)) later)
      (answer_line sentences d (line_of x) (numbered number (line_of x)) x.reply airport are.0.1)
      (served_lines sentences later (after d (line_of x)) (numbered number (line_of x)) (airport_kept d (taken d (line_of x)) airport) are.1),
)

left_line : (bytes : List ℕ) → AllByRecursion RepliesLine (left_out bytes)
left_line [] = tt
left_line (byte ∷ bytes) = (tt, tt)

started_lines : (g : AirportRows) (marked : Bool) (bytes : List ℕ) → AllByRecursion RepliesLine (started Json g marked bytes)
started_lines g marked bytes = (
  tt,
  all-append (left_out (drop (length (start_text marked bytes)) bytes)) _ (left_line (drop (length (start_text marked bytes)) bytes))
      (tt, (tt, (tt, ((_, ready_fits (length (day_of g marked bytes).journal), refl), (tt, tt))))),
)

heard_line : (next : Event) → IsHeard next → RepliesLine next
heard_line End is = tt
heard_line Broken is = tt
heard_line (Line line) is = tt
heard_line other is = absurd is

pub served_told : (sentences : Bool) (g : AirportRows) (marked : Bool) (bytes : List ℕ) (next : Event) (whole : List Event) → IsAirport g → IsHeard next → IsServed (json_form sentences) g marked bytes next whole
    → AllByRecursion RepliesLine whole
served_told sentences g marked bytes next whole airport heard is =
    let d = day_of g marked bytes in
    let there = all-append (started Json g marked bytes) _ (started_lines g marked bytes)
    (all-append (served d is.exchanges) (next ∷ []) (served_lines sentences is.exchanges d 0 airport is.replies) (heard_line next heard, tt)) in
    subst (AllByRecursion RepliesLine) (sym is.events) there

-- Where a run stops.

begins : (event : Event) → RepliesLine event → BeginsLine event
begins (Replied text) is = (text, is, ([], sym (append-nil text)))
begins other is = tt

before_others : (event : Event) (others : List Event) → RepliesLine event → RepliesBefore event others
before_others event [] is = begins event is
before_others event (next ∷ later) is = is

torn_lines : (event : Event) (done : List Event) → RepliesLine event → IsTorn event done → AreReplyLines done
torn_lines (Appended bytes) done is (part, prefix, torn) = subst AreReplyLines (sym torn) (tt, tt)
torn_lines (Replied bytes) done is (part, prefix, torn) = subst AreReplyLines (sym torn) ((bytes, is, prefix), tt)
torn_lines other done is torn = absurd torn

stop_lines : (whole done : List Event) → AllByRecursion RepliesLine whole → IsStopOf done whole → AreReplyLines done
stop_lines [] done all is = subst AreReplyLines (sym is) tt
stop_lines (event ∷ whole) done all (inl is) = subst AreReplyLines (sym is) tt
stop_lines (event ∷ whole) done all (inr (inl torn)) = torn_lines event done all.0 torn
stop_lines (event ∷ whole) done all (inr (inr (rest, is, more))) =
    subst AreReplyLines (sym is) (before_others event rest all.0, stop_lines whole rest all.1 more)

reading_lines : (marked : Bool) (bytes : List ℕ) → AllByRecursion RepliesLine (reading marked bytes)
reading_lines marked bytes = (tt, left_line (drop (length (start_text marked bytes)) bytes))

pub stopped_lines : (sentences : Bool) (g : AirportRows) (marked : Bool) (done : List Event) → IsAirport g → IsStopped (json_form sentences) g marked done → AreReplyLines done
stopped_lines sentences g marked done airport (inl (bytes, stop)) = stop_lines (reading marked bytes) done (reading_lines marked bytes) stop
stopped_lines sentences g marked done airport (inr (bytes, next, whole, heard, served, stop)) =
    stop_lines whole done (served_told sentences g marked bytes next whole airport heard served) stop
