use Rattle.std.{proofs.Common.{◌≡◌, ◌≤◌, ◌∙◌, length, map, sym, ap}, proofs.lemmas.Result.err_from_is_err_and, specs.Prelude.{ℕ, List, Ok}}
use Rattle.cdm_flight.specs.Journal.{AirportRows}
use Rattle.cdm_time.specs.declared.calendar.CalendarDate.{CalendarDate}
use Rattle.cdm_files.specs.{AirportFile.airport_in, Parsing.parse_of, Records.records_of, Refused.{Spelled, updates_in}}
use Rattle.cdm_live.specs.{Live.IsCountedText, LiveFaults.calls_needed}
use Rattle.cdm_live.proofs.LiveLemmas.{AreSpelled, board_fault-record, of_spelled}
use Rattle.cdm_live.proofs.live_run.report_of_inputs.Goals as goal

-- what was read of the inputs, by what each step says
spelled : (g : AirportRows) (airport feed1 feed2 a x y : List ℕ) (xs ys us vs : List Spelled) (d e : CalendarDate)
    → a ≡ airport → airport_in a ≡ Ok g → d ≡ g.day → e ≡ g.day → x ≡ feed1 → y ≡ feed2
    → us ≡ map (parse_of d) (records_of x) → vs ≡ map (parse_of e) (records_of y) → xs ≡ us → ys ≡ vs
    → AreSpelled g airport feed1 feed2 xs ys
spelled g airport feed1 feed2 a x y xs ys us vs d e is said day also first second spelled1 spelled2 same1 same2 = record {
  accepted = sym (ap airport_in is) ∙ said;
  first = same1 ∙ spelled1 ∙ (λ i. map (parse_of (day i)) (records_of (first i)));
  second = same2 ∙ spelled2 ∙ (λ i. map (parse_of (also i)) (records_of (second i)));
}

pub returns-in_err-report-clause-fault : goal.returns-in_err-report-clause-fault
returns-in_err-report-clause-fault over c =
    let read = spelled c.in_ok-airport.airport _ _ _ _ _ _ _ _ _ _ _ _ c.deref.ensures.value c.in_ok-airport.ensures.said c.day.ensures c.day-2.ensures
    c.deref-2.ensures.value c.deref-3.ensures.value c.in_ok-feed1.ensures.spelled c.in_ok-feed2.ensures.spelled c.deref-4.ensures.value c.deref-5.ensures.value in
    let p = err_from_is_err_and c.from_residual-in_err-report.result c.from_residual-in_err-report.ensures.1 in
    rw (p.1, p.2) (board_fault-record _ _ _ _ _ _ c.in_err-report.field-0.0 read c.in_err-report.ensures.fault)

pub returns-clause-counted : goal.returns-clause-counted
returns-clause-counted over c =
    let read = spelled c.in_ok-airport.airport _ _ _ _ _ _ _ _ _ _ _ _ c.deref.ensures.value c.in_ok-airport.ensures.said c.day.ensures c.day-2.ensures
    c.deref-2.ensures.value c.deref-3.ensures.value c.in_ok-feed1.ensures.spelled c.in_ok-feed2.ensures.spelled c.deref-4.ensures.value c.deref-5.ensures.value in
    let report = c.in_ok-report.report in
    of_spelled (λ g xs ys. IsCountedText g xs ys report.text.items report.counts) _ _ _ _ _ _ read c.in_ok-report.ensures.counted

pub returns-clause-fits : goal.returns-clause-fits
returns-clause-fits over c =
    let read = spelled c.in_ok-airport.airport _ _ _ _ _ _ _ _ _ _ _ _ c.deref.ensures.value c.in_ok-airport.ensures.said c.day.ensures c.day-2.ensures
    c.deref-2.ensures.value c.deref-3.ensures.value c.in_ok-feed1.ensures.spelled c.in_ok-feed2.ensures.spelled c.deref-4.ensures.value c.deref-5.ensures.value in
    of_spelled (λ g xs ys. calls_needed (length (updates_in xs)) (length (updates_in ys)) ≤ 4096) _ _ _ _ _ _ read c.in_ok-report.ensures.fits
