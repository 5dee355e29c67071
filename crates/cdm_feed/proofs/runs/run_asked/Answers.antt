use Rattle.std.{proofs.Common.{ℕ, List, take, refl, subst}, proofs.lemmas.Result.err_from_is_err_and, specs.Io.KnownBytes.Appends}
use Rattle.cdm_files.{proofs.RunLemmas.of_known, specs.Device.Passes}
use Rattle.cdm_feed.{specs.Made.HaveOne, proofs.OutputLemmas.one-each, proofs.RunLemmas.{input-first, of-read, unmade-first, write-first}}
use Rattle.cdm_feed.proofs.runs.run_asked.Goals as goal

pub returns-in_err-inputs-clause-fault : goal.returns-in_err-inputs-clause-fault
returns-in_err-inputs-clause-fault g c =
    let p = err_from_is_err_and c.from_residual.result c.from_residual.ensures.1 in
    rw (p.1, p.2) (input-first c.args.asked.now _ _ _ c.in_err-inputs.field-0.0 (rw c.third_input.ensures at c.in_err-inputs.ensures.fault))

pub returns-in_err-made-clause-fault : goal.returns-in_err-made-clause-fault
returns-in_err-made-clause-fault g c =
    let inputs = c.in_ok-inputs.ensures in
    let p = err_from_is_err_and c.from_residual-in_err-made.result c.from_residual-in_err-made.ensures.1 in
    rw (p.1, p.2)
    (unmade-first c.args.asked.now _ _ _ _ _ _ (rw c.third_input.ensures at inputs.read) inputs.airport_passed inputs.second_passed inputs.third_passed
    inputs.airport inputs.second inputs.third c.in_err-made.field-0.0 c.in_err-made.ensures.fault)

pub returns-in_err-write_text-clause-fault : goal.returns-in_err-write_text-clause-fault
returns-in_err-write_text-clause-fault g c =
    let inputs = c.in_ok-inputs.ensures in
    let made = c.in_ok-made.made in
    let p = err_from_is_err_and c.from_residual-in_err-write_text.result c.from_residual-in_err-write_text.ensures.1 in
    rw (p.1, p.2)
    (write-first c.args.asked.now _ _ _ _ _ _ (rw c.third_input.ensures at inputs.read) inputs.airport_passed inputs.second_passed inputs.third_passed
    inputs.airport inputs.second inputs.third (made.text.items, made.counted, c.in_ok-made.ensures.made))

pub returns-clause-read : goal.returns-clause-read
returns-clause-read g c = rw c.third_input.ensures at c.in_ok-inputs.ensures.read

pub returns-in_err-write_text-clause-prefix : goal.returns-in_err-write_text-clause-prefix
returns-in_err-write_text-clause-prefix g c = λ _.
    let inputs = c.in_ok-inputs.ensures in
    let made = c.in_ok-made.made in
    let Adds : List ℕ → Type 0 = Appends (g.W.Write.contents c.args.out.now.inner) (g.W.Write.contents c.write_text.new.device.inner) in
    let part = c.in_err-write_text.ensures.prefix in
    of-read _ _ _ inputs.airport inputs.second inputs.third
    (made.text.items, made.counted, c.in_ok-made.ensures.made, part.0, subst (λ (text : List ℕ). Adds (take part.0 text)) c.deref.ensures.value part.2)

pub returns-clause-written : goal.returns-clause-written
returns-clause-written g c =
    let inputs = c.in_ok-inputs.ensures in
    let made = c.in_ok-made.made in
    let Adds : List ℕ → Type 0 = Appends (g.W.Write.contents c.args.out.now.inner) (g.W.Write.contents c.write_text.new.device.inner) in
    of-read _ _ _ inputs.airport inputs.second inputs.third
    (made.text.items, c.in_ok-made.ensures.made, subst Adds c.deref.ensures.value c.in_ok-write_text.ensures.whole)

pub returns-clause-one : goal.returns-clause-one
returns-clause-one g c =
    of_known (HaveOne c.args.asked.now) (g.A.Read.remaining c.args.airport.now.inner) (g.F.Read.remaining c.args.feed.now.inner)
    (g.T.Read.remaining c.args.third.now.inner) (one-each c.args.asked.now)

pub returns-clause-passed : goal.returns-clause-passed
returns-clause-passed g c =
    let inputs = c.in_ok-inputs.ensures in
    record {
      airport = c.in_ok-inputs.inputs.airport.items;
      second = c.in_ok-inputs.inputs.second.items;
      third = c.in_ok-inputs.inputs.third.items;
      written = c.in_ok-made.made.text.items;
      from_airport = inputs.airport_passed;
      from_second = inputs.second_passed;
      from_third = inputs.third_passed;
      to_writer = subst (Passes c.args.out.now c.write_text.new.device) c.deref.ensures.value c.in_ok-write_text.ensures.passed;
      holds = (c.in_ok-made.ensures.made, one-each c.args.asked.now _ _ _);
    }

pub returns-in_err-write_text-clause-passed_in_part : goal.returns-in_err-write_text-clause-passed_in_part
returns-in_err-write_text-clause-passed_in_part g c = λ _.
    let inputs = c.in_ok-inputs.ensures in
    let made = c.in_ok-made.made in
    let part = c.in_err-write_text.ensures.prefix in
    record {
      airport = c.in_ok-inputs.inputs.airport.items;
      second = c.in_ok-inputs.inputs.second.items;
      third = c.in_ok-inputs.inputs.third.items;
      written = take part.0 made.text.items;
      from_airport = inputs.airport_passed;
      from_second = inputs.second_passed;
      from_third = inputs.third_passed;
      to_writer = subst (λ (text : List ℕ). Passes c.args.out.now c.write_text.new.device (take part.0 text)) c.deref.ensures.value part.1;
      holds = (made.text.items, made.counted, c.in_ok-made.ensures.made, part.0, refl);
    }
