-- The notices that records make, and their texts.
use Rattle.std.proofs.Common.{◌≡◌, ◌<◌, ◌++◌, ◌∙◌, ℕ, subst, subst₂, Bool, false, All, List, [], Ok, sym, ap}
use Rattle.std.specs.{List.{IsDistinct, filter_map}, Prelude.{IsPermutation, IsSortedByKey, flat_map}}
use Rattle.cdm_time.specs.{Times.next_date, declared.calendar.CalendarDate.CalendarDate}
use Rattle.cdm_flight.specs.{Accepted.accepted, Journal.AirportRows, Names.{name_cmp, same_name}, declared.flight.Flight.Flight}
use Rattle.cdm_kinds.specs.declared.format.Format.{Format}
use Rattle.cdm_plan.{specs.{Day.{DayRecord, flights_in}, DayPlan.records_in}, proofs.{DayPlanLemmas.record_names_differ, NameLemmas.by_name}}
use Rattle.cdm_files.specs.{AirportFile.airport_in, FeedDay.{accepted_in, spelled_in}, Refused.{Spelled, updates_in}}
use Rattle.cdm_files.proofs.FeedDayLemmas.{own_journal}
use Rattle.cdm_carry.specs.{CarriedFeed.{IsCarriedFeed, IsNextDay}, NoticeTexts.{notice_end, notices_text}, Noticed.{AreNotices, IsCarryText, IsNoticeText}}
use Rattle.cdm_carry.specs.{Notices.{Numbered, carried_numbered, counts, earlier, left, notices, numbered, refused_of}, Texts.window_end, inner.Steps.AreMade}
use Rattle.cdm_carry.specs.declared.{carry_text.CarryText.CarryText, notice.Notice.Notice}
use Rattle.cdm_carry.specs.declared.carry_text.CarryText.TheVariants as asked
use Rattle.cdm_carry.proofs.{MadeLemmas.one_feed, NoticeLemmas.all_short}

-- Notices.

-- of a day that took the records of a feed, and of the day of the next airport
module _ (g : AirportRows) (spelled : List Spelled) (day : DayRecord) (is : day ≡ record { airport = g; journal = accepted g [] (updates_in spelled) })
    (h : AirportRows) (flights : List Flight) (records read carried : List Numbered) (taken : records ≡ numbered g [] 1 spelled) (same : read ≡ records)
    (go_on : carried ≡ filter_map (carried_numbered day.journal) read) where
  told : (next : DayRecord) (of_flights with_refused all : List Notice) (listed counted : List Flight) (given : List Numbered)
      → next ≡ record { airport = h; journal = [] } → of_flights ≡ filter_map left listed ++ flat_map earlier listed → listed ≡ flights
      → with_refused ≡ of_flights ++ refused_of next.airport next.journal given → given ≡ carried → all ≡ with_refused ++ counts counted → counted ≡ flights
      → all ≡ notices flights (accepted g [] (updates_in spelled)) (numbered g [] 1 spelled) h
  unfolding notices
  told next of_flights with_refused all listed counted given begins flown each refused also counts_are last =
      counts_are ∙ (λ i. refused i ++ counts (last i))
      ∙ (λ i. (flown i ++ refused_of (begins i).airport (begins i).journal (also i)) ++ counts flights)
      ∙ (λ i. ((filter_map left (each i) ++ flat_map earlier (each i)) ++ refused_of h [] (go_on i)) ++ counts flights)
      ∙ (λ i. ((filter_map left flights ++ flat_map earlier flights) ++ refused_of h [] (filter_map (carried_numbered (is i).journal) ((same ∙ taken) i))) ++ counts flights)

  pub are_notices : (next : DayRecord) (of_flights with_refused all : List Notice) (listed counted : List Flight) (given : List Numbered)
      → IsPermutation (records_in day.airport day.journal) flights → IsSortedByKey (λ f. f.name) name_cmp flights
      → next ≡ record { airport = h; journal = [] } → of_flights ≡ filter_map left listed ++ flat_map earlier listed → listed ≡ flights
      → with_refused ≡ of_flights ++ refused_of next.airport next.journal given → given ≡ carried → all ≡ with_refused ++ counts counted → counted ≡ flights
      → AreNotices g spelled h all
  are_notices next of_flights with_refused all listed counted given every by_name begins flown each refused also counts_are last = record {
    flights = flights;
    all = subst (λ (d : DayRecord). IsPermutation (records_in d.airport d.journal) flights) is every;
    by_name = by_name;
    value = told next of_flights with_refused all listed counted given begins flown each refused also counts_are last;
  }

  pub notices_short : (next : DayRecord) (of_flights with_refused all : List Notice) (listed counted : List Flight) (given : List Numbered)
      → All (λ n. window_end n.1.1 < 2880) carried
      → next ≡ record { airport = h; journal = [] } → of_flights ≡ filter_map left listed ++ flat_map earlier listed → listed ≡ flights
      → with_refused ≡ of_flights ++ refused_of next.airport next.journal given → given ≡ carried → all ≡ with_refused ++ counts counted → counted ≡ flights
      → All (λ n. notice_end n < 2880) all
  notices_short next of_flights with_refused all listed counted given short begins flown each refused also counts_are last =
      let journal = accepted g [] (updates_in spelled) in
      let ends : All (λ n. window_end n.1.1 < 2880) (filter_map (carried_numbered journal) (numbered g [] 1 spelled)) =
      subst (All (λ (n : Numbered). window_end n.1.1 < 2880)) (go_on ∙ (λ i. filter_map (carried_numbered (is i).journal) ((same ∙ taken) i))) short in
      subst (All (λ (n : Notice). notice_end n < 2880)) (sym (told next of_flights with_refused all listed counted given begins flown each refused also counts_are last))
      (all_short flights journal (numbered g [] 1 spelled) h ends)

-- Texts.

pub noticed_text : (format : Format) (airport feed next text : List ℕ) (care : Bool) (g h : AirportRows) (records : List Spelled) (d e : CalendarDate)
    → airport_in airport ≡ Ok g → airport_in next ≡ Ok h → d ≡ g.day → e ≡ h.day → IsNextDay d e → records ≡ spelled_in g feed → AreMade format g records h text care
    → IsNoticeText format care airport feed next text
noticed_text format airport feed next text care g h records d e said told same too after spelled made = record {
  rows = g;
  airport_file = said;
  next_rows = h;
  next_file = told;
  days = sym too ∙ after ∙ ap (λ (x : CalendarDate). next_date x) same;
  notices = made.notices;
  are = subst (λ (r : List Spelled). AreNotices g r h made.notices) spelled made.are;
  bytes = made.bytes;
  seen = made.seen;
}

-- what is asked for
pub feed_asked : (what : CarryText) (care : Bool) (airport feed next text : List ℕ) → what ≡ asked.Feed → IsCarriedFeed airport feed next text → care ≡ false
    → IsCarryText what care airport feed next text
feed_asked what care airport feed next text is made none = subst (λ (x : CarryText). IsCarryText x care airport feed next text) (sym is) (made, none)

pub notices_asked : (what : CarryText) (format : Format) (care : Bool) (airport feed next text : List ℕ) → what ≡ asked.Notices format
    → IsNoticeText format care airport feed next text → IsCarryText what care airport feed next text
notices_asked what format care airport feed next text is made = subst (λ (x : CarryText). IsCarryText x care airport feed next text) (sym is) made

-- One text.

own_flights : (g : AirportRows) (feed : List ℕ) → IsDistinct same_name (flights_in (accepted g [] (updates_in (spelled_in g feed))))
unfolding accepted_in
own_flights g feed = own_journal g feed

-- a feed has one list of notices, since its flights are taken by name
one_list : (g h : AirportRows) (feed : List ℕ) (x y : List Notice) → AreNotices g (spelled_in g feed) h x → AreNotices g (spelled_in g feed) h y → x ≡ y
one_list g h feed x y a b =
    let records = spelled_in g feed in
    let journal = accepted g [] (updates_in records) in
    let flights : a.flights ≡ b.flights =
    by_name (λ (f : Flight). f.name) (records_in g journal) a.flights b.flights (record_names_differ (record { airport = g; journal = journal }) (own_flights g feed))
    a.all b.all a.by_name b.by_name in
    a.value ∙ (λ i. notices (flights i) journal (numbered g [] 1 records) h) ∙ sym b.value

one_notices : (format : Format) (airport feed next x y : List ℕ) (c d : Bool) → IsNoticeText format c airport feed next x → IsNoticeText format d airport feed next y → x ≡ y
one_notices format airport feed next x y c d a b =
    let same : b.rows ≡ a.rows = cc (sym b.airport_file ∙ a.airport_file) in
    let too : b.next_rows ≡ a.next_rows = cc (sym b.next_file ∙ a.next_file) in
    let are = subst₂ (λ (g h : AirportRows). AreNotices g (spelled_in g feed) h b.notices) same too b.are in
    let list : a.notices ≡ b.notices = one_list a.rows a.next_rows feed a.notices b.notices a.are are in
    a.bytes ∙ (λ i. notices_text format (sym same i).day (sym too i).day (list i)) ∙ sym b.bytes

-- three files have one text of what is asked for
pub one_carried : (what : CarryText) (airport feed next x y : List ℕ) (c d : Bool) → IsCarryText what c airport feed next x → IsCarryText what d airport feed next y → x ≡ y
one_carried asked.Feed airport feed next x y c d a b = one_feed airport feed next x y a.0 b.0
one_carried (asked.Notices format) airport feed next x y c d a b = one_notices format airport feed next x y c d a b
