use Rattle.std.proofs.{Common.{sym, subst}, lemmas.Result.err_from_is_err_and}
use Rattle.cdm_files.proofs.RunLemmas.{of_known, of_told}
use Rattle.cdm_files.specs.declared.common_fault.CommonFault.TheVariants as common
use Rattle.cdm_files.specs.declared.run_error.RunError.TheVariants as error
use Rattle.cdm_feed.specs.{Counts.day_counts, Output.{HaveOneText, IsOutput}, declared.runs.RunCounts.RunCounts}
use Rattle.cdm_feed.proofs.{OutputLemmas.one-output, RunLemmas.{report-first, report-output, same-error}}
use Rattle.cdm_feed.proofs.runs.run.Goals as goal

pub returns-in_err-counted-clause-fault : goal.returns-in_err-counted-clause-fault
returns-in_err-counted-clause-fault g c =
    let p = err_from_is_err_and c.from_residual.result c.from_residual.ensures.1 in
    rw (p.1, p.2) (report-first _ _ _ c.in_err-counted.field-0.0 c.in_err-counted.ensures.fault)

pub returns-clause-written : goal.returns-clause-written
returns-clause-written g c =
    of_told _ _ _ c.in_ok-counted.ensures.written (λ x y z made.
    (made.0, subst (λ (counts : RunCounts). IsOutput x y z made.0 counts) (sym c.of_day.ensures) (report-output x y z made.0 c.in_ok-counted.counted made.1), made.2))

pub returns-clause-one : goal.returns-clause-one
returns-clause-one g c = of_known HaveOneText (g.A.Read.remaining c.args.airport.now.inner) (g.F.Read.remaining c.args.feed.now.inner)
    (g.S.Read.remaining c.args.scenarios.now.inner) one-output

pub returns-in_err-counted-clause-prefix : goal.returns-in_err-counted-clause-prefix
returns-in_err-counted-clause-prefix g c =
    let p = err_from_is_err_and c.from_residual.result c.from_residual.ensures.1 in
    rw (p.1, p.2) (λ is. of_told _ _ _ (c.in_err-counted.ensures.prefix (same-error c.in_err-counted.field-0.0 (error.Common common.Write) is)) (λ x y z made.
    (made.0, day_counts made.1, report-output x y z made.0 made.1 made.2, made.3, made.4)))

pub returns-clause-passed : goal.returns-clause-passed
returns-clause-passed g c =
    let passed = c.in_ok-counted.ensures.passed in
    record {
      airport = passed.airport;
      second = passed.second;
      third = passed.third;
      written = passed.written;
      from_airport = passed.from_airport;
      from_second = passed.from_second;
      from_third = passed.from_third;
      to_writer = passed.to_writer;
      holds = (
        subst (λ (counts : RunCounts). IsOutput passed.airport passed.second passed.third passed.written counts) (sym c.of_day.ensures)
            (report-output _ _ _ _ c.in_ok-counted.counted passed.holds.0),
        one-output _ _ _,
      );
    }

pub returns-in_err-counted-clause-passed_in_part : goal.returns-in_err-counted-clause-passed_in_part
returns-in_err-counted-clause-passed_in_part g c =
    let p = err_from_is_err_and c.from_residual.result c.from_residual.ensures.1 in
    rw (p.1, p.2) (λ is.
    let passed = c.in_err-counted.ensures.passed_in_part (same-error c.in_err-counted.field-0.0 (error.Common common.Write) is) in
    let made = passed.holds in
    record {
      airport = passed.airport;
      second = passed.second;
      third = passed.third;
      written = passed.written;
      from_airport = passed.from_airport;
      from_second = passed.from_second;
      from_third = passed.from_third;
      to_writer = passed.to_writer;
      holds = (made.0, day_counts made.1, report-output _ _ _ made.0 made.1 made.2, made.3, made.4);
    })
