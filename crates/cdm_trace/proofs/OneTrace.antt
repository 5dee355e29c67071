-- A feed has one trace.
use Rattle.std.proofs.Common.{◌≡◌, ◌∙◌, ◌+◌, ℕ, Bool, true, false, List, [], ◌∷◌, ◌++◌, Option, None, Some, Ok, Err, sym, ap, subst, length}
use Rattle.std.specs.List.{IsDistinct}
use Rattle.cdm_flight.specs.{Accepted.{accepted, after_one, refusal}, Journal.AirportRows, Names.same_name, declared.role.Role.Role}
use Rattle.cdm_flight.specs.declared.{update.Update.Update, word.RefusalWord.RefusalWord}
use Rattle.cdm_sequence.specs.declared.plan.Plan.{Plan}
use Rattle.cdm_plan.{specs.Airport.IsAirport, specs.Day.{DayRecord, flights_in}, proofs.JournalFacts.names_after}
use Rattle.cdm_plan.proofs.OnePlanLemmas.{one_day_plan}
use Rattle.cdm_day.proofs.BatchLemmas.{accepted-keeps}
use Rattle.cdm_view.proofs.ChangeLemmas.{Own, one_changed_to}
use Rattle.cdm_row.{specs.Changed.changed_rows, specs.Rows.AreRows, specs.declared.row.Row.Row, proofs.RowLemmas.one_rows}
use Rattle.cdm_desk.specs.Replies.{AreChangedRows, IsReply, IsReplyBy, IsRowReply, IsRowReplyBy, day_after}
use Rattle.cdm_desk.specs.declared.reply.{DeskReply.DeskReply, DeskReply.TheVariants.{Accepted, Refused}, RowReply.RowReply}
use Rattle.cdm_desk.specs.declared.reply.RowReply.TheVariants as row_reply
use Rattle.cdm_kinds.specs.declared.format.Format.{Format, TheVariants.{Text, Json as AsJson}}
use Rattle.cdm_files.specs.{Parsing.parse_of, Records.records_of, Refused.Spelled}
use Rattle.cdm_trace.{specs.Traces.{IsPiece, IsPieceBy, IsTold, IsTrace, is_before, told, told_json}, proofs.TraceLemmas.first_day}

own_after : (d : DayRecord) (u : Role × Update) → IsDistinct same_name (flights_in d.journal) → IsDistinct same_name (flights_in (after_one d.airport d.journal u))
unfolding accepted
own_after d u own = accepted-keeps (λ a. IsDistinct same_name (flights_in a)) d.airport (names_after d.airport) d.journal (u ∷ []) own

own_next : (d : DayRecord) (spelled : Spelled) → Own d → Own (day_after d spelled)
own_next d (Ok u) own = (own.0, own_after d u own.1)
own_next d (Err word) own = own

-- the reply where this word refuses a record, or none does
one_reply_by : (o : Option RefusalWord) (d next : DayRecord) → Own d → Own next → (x y : DeskReply) → IsReplyBy o d next x → IsReplyBy o d next y → x ≡ y
one_reply_by (Some word) d next own after x y a b = a ∙ sym b
one_reply_by None d next own after (Accepted x) (Accepted y) a b = ap Accepted (one_changed_to d next own after x y a b)
one_reply_by None d next own after (Accepted x) (Refused word) a b = absurd b
one_reply_by None d next own after (Refused word) y a b = absurd a

one_reply : (d : DayRecord) (spelled : Spelled) → Own d → (x y : DeskReply) → IsReply d spelled x → IsReply d spelled y → x ≡ y
one_reply d (Ok u) own x y a b = one_reply_by (refusal d.airport d.journal u.0 u.1) d (day_after d (Ok u)) own (own_next d (Ok u) own) x y a b
one_reply d (Err word) own x y a b = a ∙ sym b

-- The reply by Rows.

one_changed_rows : (d next : DayRecord) → Own d → Own next → (x y : List Row) → AreChangedRows d next x → AreChangedRows d next y → x ≡ y
one_changed_rows d next own after x y a b =
    let plans : b.plan ≡ a.plan = one_day_plan d b.plan a.plan own.0 own.1 b.of_day a.of_day in
    let next_plans : b.next_plan ≡ a.next_plan = one_day_plan next b.next_plan a.next_plan after.0 after.1 b.of_next a.of_next in
    let had : a.had ≡ b.had =
    one_rows d a.plan own.0 own.1 a.of_day a.had b.had a.before (subst (λ (p : Plan). AreRows d p b.had) plans b.before) in
    let has : a.has ≡ b.has =
    one_rows next a.next_plan after.0 after.1 a.of_next a.has b.has a.after (subst (λ (p : Plan). AreRows next p b.has) next_plans b.after) in
    a.changes ∙ (λ i. changed_rows (had i) (has i)) ∙ sym b.changes

one_row_reply_by : (o : Option RefusalWord) (d next : DayRecord) → Own d → Own next → (x y : RowReply) → IsRowReplyBy o d next x → IsRowReplyBy o d next y → x ≡ y
one_row_reply_by (Some word) d next own after x y a b = a ∙ sym b
one_row_reply_by None d next own after (row_reply.Accepted x) (row_reply.Accepted y) a b = ap row_reply.Accepted (one_changed_rows d next own after x y a b)
one_row_reply_by None d next own after (row_reply.Accepted x) (row_reply.Refused word) a b = absurd b
one_row_reply_by None d next own after (row_reply.Refused word) y a b = absurd a

one_row_reply : (d : DayRecord) (spelled : Spelled) → Own d → (x y : RowReply) → IsRowReply d spelled x → IsRowReply d spelled y → x ≡ y
one_row_reply d (Ok u) own x y a b = one_row_reply_by (refusal d.airport d.journal u.0 u.1) d (day_after d (Ok u)) own (own_next d (Ok u) own) x y a b
one_row_reply d (Err word) own x y a b = a ∙ sym b

-- The trace.

-- what is told of a record
one_piece : (format : Format) (asked : Option (List ℕ)) (d : DayRecord) (number : ℕ) (fields : List (List ℕ)) → Own d
    → (x y : List ℕ) → IsPiece format asked d number fields x → IsPiece format asked d number fields y → x ≡ y
one_piece Text asked d number fields own x y a b =
    let reply : a.0 ≡ b.0 = one_reply d (parse_of d.airport.day fields) own a.0 b.0 a.1 b.1 in
    a.2 ∙ ap (told asked d.airport.day number fields) reply ∙ sym b.2
one_piece AsJson asked d number fields own x y a b =
    let spelled = parse_of d.airport.day fields in
    let reply : a.0 ≡ b.0 = one_row_reply d spelled own a.0 b.0 a.1 b.1 in
    a.2 ∙ ap (told_json asked d.airport.day number (length (day_after d spelled).journal) fields) reply ∙ sym b.2

one_piece_by : (before : Bool) (format : Format) (asked : Option (List ℕ)) (d : DayRecord) (number : ℕ) (fields : List (List ℕ)) → Own d
    → (x y : List ℕ) → IsPieceBy before format asked d number fields x → IsPieceBy before format asked d number fields y → x ≡ y
one_piece_by true format asked d number fields own x y a b = a ∙ sym b
one_piece_by false format asked d number fields own x y a b = one_piece format asked d number fields own x y a b

-- what is told of records
one_told : (from : ℕ) (format : Format) (asked : Option (List ℕ)) (d : DayRecord) (number : ℕ) (records : List (List (List ℕ))) → Own d
    → (x y : List ℕ) → IsTold from format asked d number records x → IsTold from format asked d number records y → x ≡ y
one_told from format asked d number [] own x y a b = a ∙ sym b
one_told from format asked d number (fields ∷ records) own x y a b =
    let spelled = parse_of d.airport.day fields in
    let piece : a.0 ≡ b.0 = one_piece_by (is_before from (day_after d spelled)) format asked d number fields own a.0 b.0 a.2 b.2 in
    let later : a.1 ≡ b.1 = one_told from format asked (day_after d spelled) (number + 1) records (own_next d spelled own) a.1 b.1 a.3 b.3 in
    a.4 ∙ ((λ i. piece i ++ later i) ∙ sym b.4)

own_first : (g : AirportRows) → IsAirport g → Own (first_day g)
unfolding IsDistinct
own_first g is = (is.names, tt)

pub one : (format : Format) (asked : Option (List ℕ)) (from : ℕ) (g : AirportRows) (feed : List ℕ) → IsAirport g
    → (x y : List ℕ) → IsTrace format asked from g feed x → IsTrace format asked from g feed y → x ≡ y
one format asked from g feed is = one_told from format asked (first_day g) 1 (records_of feed) (own_first g is)
