use Rattle.std.{proofs.Common.{ℕ, List, take, refl, subst}, proofs.lemmas.Result.err_from_is_err_and, specs.Io.KnownBytes.Appends}
use Rattle.cdm_files.{proofs.RunLemmas.{input_fault-first, of_inputs}, specs.Device.Passes}
use Rattle.cdm_live.{specs.Live.{IsCounted, IsLive}, specs.LiveFaults.FitsBoard, proofs.LiveLemmas.record_fault-first}
use Rattle.cdm_live.proofs.live_run.run_live.Goals as goal

pub returns-in_err-inputs-clause-fault : goal.returns-in_err-inputs-clause-fault
returns-in_err-inputs-clause-fault g c =
    let p = err_from_is_err_and c.from_residual.result c.from_residual.ensures.1 in
    rw (p.1, p.2) (input_fault-first _ _ _ _ c.in_err-inputs.field-0.0 c.in_err-inputs.ensures.fault)

pub returns-in_err-report-clause-fault : goal.returns-in_err-report-clause-fault
returns-in_err-report-clause-fault g c =
    let inputs = c.in_ok-inputs.ensures in
    let p = err_from_is_err_and c.from_residual-in_err-report.result c.from_residual-in_err-report.ensures.1 in
    rw (p.1, p.2) (record_fault-first _ _ _ _ _ _ c.in_err-report.field-0.0 inputs.read inputs.airport inputs.second inputs.third c.in_err-report.ensures.fault)

pub returns-in_err-write_text-clause-fault : goal.returns-in_err-write_text-clause-fault
returns-in_err-write_text-clause-fault g c =
    let inputs = c.in_ok-inputs.ensures in
    let p = err_from_is_err_and c.from_residual-in_err-write_text.result c.from_residual-in_err-write_text.ensures.1 in
    rw (p.1, p.2) (inputs.read, of_inputs FitsBoard _ _ _ _ _ _ inputs.airport inputs.second inputs.third c.in_ok-report.ensures.fits)

pub returns-in_err-write_text-clause-prefix : goal.returns-in_err-write_text-clause-prefix
returns-in_err-write_text-clause-prefix g c = λ _.
    let inputs = c.in_ok-inputs.ensures in
    let report = c.in_ok-report.report in
    let Adds : List ℕ → Type 0 = Appends (g.W.Write.contents c.args.out.now.inner) (g.W.Write.contents c.write_text.new.device.inner) in
    let part = c.in_err-write_text.ensures.prefix in
    of_inputs (λ x y z. (text : List ℕ) × IsLive x y z text × (n : ℕ) × Adds (take n text)) _ _ _ _ _ _ inputs.airport inputs.second inputs.third
    (report.text.items, (report.counts, c.in_ok-report.ensures.counted), part.0, subst (λ (text : List ℕ). Adds (take part.0 text)) c.deref.ensures.value part.2)

pub returns-clause-written : goal.returns-clause-written
returns-clause-written g c =
    let inputs = c.in_ok-inputs.ensures in
    let report = c.in_ok-report.report in
    let Adds : List ℕ → Type 0 = Appends (g.W.Write.contents c.args.out.now.inner) (g.W.Write.contents c.write_text.new.device.inner) in
    of_inputs (λ x y z. (text : List ℕ) × IsLive x y z text × Adds text) _ _ _ _ _ _ inputs.airport inputs.second inputs.third
    (report.text.items, (report.counts, c.in_ok-report.ensures.counted), subst Adds c.deref.ensures.value c.in_ok-write_text.ensures.whole)

pub returns-clause-counts : goal.returns-clause-counts
returns-clause-counts g c =
    let inputs = c.in_ok-inputs.ensures in
    let report = c.in_ok-report.report in
    let Adds : List ℕ → Type 0 = Appends (g.W.Write.contents c.args.out.now.inner) (g.W.Write.contents c.write_text.new.device.inner) in
    of_inputs (λ x y z. (text : List ℕ) × IsCounted x y z text report.counts × Adds text) _ _ _ _ _ _ inputs.airport inputs.second inputs.third
    (report.text.items, c.in_ok-report.ensures.counted, subst Adds c.deref.ensures.value c.in_ok-write_text.ensures.whole)

pub returns-clause-fits : goal.returns-clause-fits
returns-clause-fits g c =
    let inputs = c.in_ok-inputs.ensures in
    of_inputs FitsBoard _ _ _ _ _ _ inputs.airport inputs.second inputs.third c.in_ok-report.ensures.fits

pub returns-clause-passed : goal.returns-clause-passed
returns-clause-passed g c =
    let inputs = c.in_ok-inputs.ensures in
    record {
      airport = c.in_ok-inputs.inputs.airport.items;
      second = c.in_ok-inputs.inputs.second.items;
      third = c.in_ok-inputs.inputs.third.items;
      written = c.in_ok-report.report.text.items;
      from_airport = inputs.airport_passed;
      from_second = inputs.second_passed;
      from_third = inputs.third_passed;
      to_writer = subst (Passes c.args.out.now c.write_text.new.device) c.deref.ensures.value c.in_ok-write_text.ensures.passed;
      holds = (c.in_ok-report.ensures.counted, c.in_ok-report.ensures.fits);
    }

pub returns-in_err-write_text-clause-passed_in_part : goal.returns-in_err-write_text-clause-passed_in_part
returns-in_err-write_text-clause-passed_in_part g c = λ _.
    let inputs = c.in_ok-inputs.ensures in
    let report = c.in_ok-report.report in
    let part = c.in_err-write_text.ensures.prefix in
    record {
      airport = c.in_ok-inputs.inputs.airport.items;
      second = c.in_ok-inputs.inputs.second.items;
      third = c.in_ok-inputs.inputs.third.items;
      written = take part.0 report.text.items;
      from_airport = inputs.airport_passed;
      from_second = inputs.second_passed;
      from_third = inputs.third_passed;
      to_writer = subst (λ (text : List ℕ). Passes c.args.out.now c.write_text.new.device (take part.0 text)) c.deref.ensures.value part.1;
      holds = (report.text.items, (report.counts, c.in_ok-report.ensures.counted), part.0, refl);
    }
