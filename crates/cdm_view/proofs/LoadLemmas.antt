-- Cells of a runway, the columns of their lines, and their counts.
use Rattle.std.proofs.Common.{ℕ, ◌≡◌, ◌+◌, ◌-◌, ◌/◌, ◌^◌, ◌<◌, ◌≤◌, Bool, true, IsTrue, List, [], ◌++◌, length, ap, slice_index, take, refl}
use Rattle.std.proofs.Common.{sym, ◌∙◌, arith, append_assoc, eq-eqb, eqb-true, suc, zero, false, cond, ◌∷◌, subst, add-one, zero-add}
use Rattle.std.proofs.Padding.{char_count-nil, padded_is, repeat_ascii, styled_decimal_is, take_chars_all}
use Rattle.std.proofs.lemmas.List.{Concat.flat_map-append, Elements.All-contains, Elements.filter-append, Elements.filter_passes}
use Rattle.std.proofs.lemmas.{List.Sums.sum_by-cons, Bool.{both_ways, cond-false, cond-true, le-ltb, lt-ltb, ne_eqb, Decides.nat_tests}}
use Rattle.std.{proofs.lemmas.Grind.common_steps, specs.Prelude.{◌==◌, nat_lt, filter, Option, slice_get}}
use Rattle.std.specs.List.{Contains, cons_option, flat_map, All, count_by, range_with_len, sum_by}
use Rattle.std.specs.Fmt.{format_spec, decimal, padded, styled_decimal, styled_text, padded_integral}
use Rattle.cdm_report.{proofs.Widths.char_count-ascii, specs.Columns.left_in, specs.Report.day_line}
use Rattle.cdm_flight.specs.{Cells.is_cell_length, Journal.AirportRows}
use Rattle.cdm_flight.proofs.Lists.{contains_kept, contains_head, contains_tail, sum_by-add, sum_by-zero}
use Rattle.cdm_runway.{specs.Rules.RunwayRules, proofs.CellLemmas.cell_below}
use Rattle.cdm_sequence.specs.declared.{plan.Plan.Plan, slot.Slot.Slot}
use Rattle.cdm_time.specs.declared.calendar.CalendarDate.{CalendarDate}
use Rattle.cdm_plan.{specs.{Day.DayRecord, DayPlan.AreByName}, proofs.NameLemmas.{rules_by_name, rules_in, take-next}}
use Rattle.cdm_view.specs.Load.{IsInOneLine, IsLoad, cells_of, flights_in_cell, is_asked, is_between, load_text, runway_load, tells}
use Rattle.cdm_view.{specs.Load.told_cells, proofs.RangeLemmas.{between_itself, range-contains, count_more, range-bounds}}

-- a number on the left of a width
pub left_number : (width n : ℕ) → styled_decimal (format_spec 32 1 0 width (2 ^ 64 - 1)) n ≡ left_in width (decimal n)
unfolding left_in padded_integral
left_number width n = grind (arith, common_steps, char_count-nil, styled_decimal_is, repeat_ascii)

-- an ASCII text on the left of a width
pub left_short : (width : ℕ) (text : List ℕ) → ((k : ℕ) → slice_index text k < 128) → length text ≤ width → 0 < width → width ≤ 7
    → styled_text (format_spec 32 1 0 width (2 ^ 64 - 1)) text ≡ left_in width text
unfolding left_in
left_short width text ascii short some few =
    let spec = format_spec 32 1 0 width (2 ^ 64 - 1) in
    let blanks = repeat_ascii (width - length text) 32 (omega arith) in
    let none : width - length text - 0 ≡ width - length text = omega arith in
    let missing = ap (λ n. width - n) (sym (char_count-ascii text ascii)) in
    let styled : styled_text spec text ≡ padded spec text = rw (ne_eqb width 0 (omega arith)) refl in
    styled ∙ sym (padded_is spec text text (width - length text) 0 (sym (take_chars_all _ text (omega arith))) missing refl)
    ∙ rw (none, blanks) refl

-- what is told of the runways asked, one after another
pub runways_more : (told : RunwayRules → List ℕ) (asked : RunwayRules → Bool) (start before after : List ℕ) (runways : List RunwayRules) (place : ℕ)
    (next : Option RunwayRules) → next ≡ slice_get runways place
    → before ≡ start ++ flat_map told (filter asked (take place runways)) → after ≡ before ++ flat_map told (filter asked (cons_option next []))
    → after ≡ start ++ flat_map told (filter asked (take (place + 1) runways))
runways_more told asked start before after runways place next at so_far more =
    let these = filter asked (take place runways) in
    let those = filter asked (cons_option next []) in
    let one_more = take-next runways place in
    let all = filter-append asked (take place runways) (cons_option next []) in
    let texts = flat_map-append told these those in
    cc (append_assoc start (flat_map told these) (flat_map told those))

-- a text that begins with the line of the day, and tells of the runways whichever they are by name, is the one text
-- that tells how full they are
module _ (d : DayRecord) (h : AirportRows) (plan : Plan) (asked : Option (List ℕ)) (day : CalendarDate) (clock : ℕ) (none begun text : List ℕ)
    (same : h ≡ d.airport) (of_day : day ≡ h.day) (now : clock ≡ plan.clock) (empty : none ≡ []) (first : begun ≡ none ++ day_line day clock)
    (rest : (runways : List RunwayRules) → AreByName d runways → text ≡ begun ++ flat_map (runway_load h plan) (filter (is_asked asked) runways)) where
  load_is : (runways : List RunwayRules) → AreByName d runways → text ≡ load_text d.airport plan asked runways
  unfolding load_text
  load_is runways by_name = let told = rest runways by_name in cc

  pub load_told : IsLoad d plan asked text
  load_told = (rules_in d.airport d.journal, rules_by_name d, load_is (rules_in d.airport d.journal) (rules_by_name d))

  pub load_one : (other : List ℕ) → IsLoad d plan asked other → other ≡ text
  load_one other (runways, by_name, is) = is ∙ sym (load_is runways by_name)

-- a cell with a flight is told
pub told_with_flight : (rules : RunwayRules) (usual : ℕ) (slots : List Slot) (k : ℕ) → k < 2880 / rules.cell
    → 0 < length (flights_in_cell rules slots k) → is_between (tells rules usual slots) (cells_of rules) k ≡ true
unfolding tells
told_with_flight rules usual slots k below more = grind (arith, common_steps, between_itself)

-- a flight is told in one line, that of the cell of its take-off
pub in_one_line : (rules : RunwayRules) (usual : ℕ) (slots : List Slot) (flight : Slot)
    → IsTrue (is_cell_length rules.cell) → Contains slots flight → flight.ttot < 2880 → IsInOneLine rules usual slots flight
unfolding told_cells
in_one_line rules usual slots flight length_ok among early =
    let k = flight.ttot / rules.cell in
    let n = 2880 / rules.cell in
    let below : k < n = cell_below rules.cell flight.ttot length_ok early in
    let here : Contains (flights_in_cell rules slots k) flight =
    contains_kept (λ s. s.ttot / rules.cell == k) slots flight among (eq-eqb k k refl) in
    record {
      told = contains_kept (is_between (tells rules usual slots) (cells_of rules)) (cells_of rules) k (range-contains n k below)
          (told_with_flight rules usual slots k below (omega (arith, here.1)));
      counted = here;
      once = λ j there.
          sym (eqb-true k j (All-contains (λ s. (s.ttot / rules.cell == j) ≡ true) (flights_in_cell rules slots j) flight
          (filter_passes (λ s. s.ttot / rules.cell == j) slots) there));
    }

abbrev is_number : ℕ → ℕ → ℕ
is_number t k = cond (t == k) 1 0

-- a number is once among those that it is below
once_more : (t n c : ℕ) → c ≡ cond (nat_lt t n) 1 0 → c + cond (t == n) 1 0 ≡ cond (nat_lt t (n + 1)) 1 0
once_more t n c e = grind (arith, nat_tests)

there_once : (t n : ℕ) → count_by (λ k. t == k) (range_with_len 0 n) ≡ cond (nat_lt t n) 1 0
there_once t zero = sym (cond-false {A = ℕ} (nat_lt t 0) 1 0 (le-ltb t 0 (omega arith)))
there_once t (suc n) =
    let test : ℕ → Bool = λ k. t == k in
    let next = count_more test 0 n n (sym (zero-add n)) in
    subst (λ (k : ℕ). count_by test (range_with_len 0 k) ≡ cond (nat_lt t k) 1 0) (add-one n)
    (next ∙ once_more t n (count_by test (range_with_len 0 n)) (there_once t n))

-- what is left out counts nothing
sum_kept : (f : ℕ → ℕ) (test : ℕ → Bool) (xs : List ℕ) → ((k : ℕ) → Contains xs k → test k ≡ false → f k ≡ 0) → sum_by f (filter test xs) ≡ sum_by f xs
sum_kept f test [] none = refl
sum_kept f test (x ∷ xs) none =
    grind (arith, common_steps, contains_tail, contains_head, sum_by-cons, sum_kept f test xs (λ k i. none k (contains_tail x xs k i)))

-- each slot is in one of the cells
module _ (c n : ℕ) where
  abbrev count_at : List Slot → ℕ → ℕ
  count_at slots k = length (filter (λ s. s.ttot / c == k) slots)

  one_more : (s : Slot) (slots : List Slot) (k : ℕ) → count_at (s ∷ slots) k ≡ is_number (s.ttot / c) k + count_at slots k
  one_more s slots k = grind arith

  all_counted : (slots : List Slot) → ((s : Slot) → Contains slots s → s.ttot / c < n) → sum_by (count_at slots) (range_with_len 0 n) ≡ length slots
  all_counted [] each = sum_by-zero (range_with_len 0 n)
  all_counted (s ∷ slots) each =
      let rest = all_counted slots (λ t i. each t (contains_tail s slots t i)) in
      let here = each s (contains_head s slots) in
      let once : sum_by (is_number (s.ttot / c)) (range_with_len 0 n) ≡ 1 =
      there_once (s.ttot / c) n ∙ cond-true {A = ℕ} (nat_lt (s.ttot / c) n) 1 0 (lt-ltb (s.ttot / c) n here) in
      let parts : sum_by (count_at (s ∷ slots)) (range_with_len 0 n) ≡ sum_by (is_number (s.ttot / c)) (range_with_len 0 n) + sum_by (count_at slots) (range_with_len 0 n) =
      (λ i. sum_by (λ k. one_more s slots k i) (range_with_len 0 n)) ∙ sum_by-add (is_number (s.ttot / c)) (count_at slots) (range_with_len 0 n) in
      omega arith

-- the counts of the lines that are told add up to the slots
pub counts_add : (rules : RunwayRules) (usual : ℕ) (slots : List Slot) → IsTrue (is_cell_length rules.cell) → All (λ s. s.ttot < 2880) slots
    → sum_by (λ k. length (flights_in_cell rules slots k)) (told_cells rules usual slots) ≡ length slots
unfolding told_cells
counts_add rules usual slots length_ok early =
    let n = 2880 / rules.cell in
    let told = is_between (tells rules usual slots) (cells_of rules) in
    sum_kept (count_at rules.cell n slots) told (cells_of rules) (λ k i untold.
    let bounds = range-bounds 0 n k i in
    let none : 0 < count_at rules.cell n slots k → ⊥ =
    λ more. both_ways (told k) untold (told_with_flight rules usual slots k (omega arith) more) in
    omega (arith, none))
    ∙ all_counted rules.cell n slots (λ s i. cell_below rules.cell s.ttot length_ok (All-contains (λ (t : Slot). t.ttot < 2880) slots s early i))
