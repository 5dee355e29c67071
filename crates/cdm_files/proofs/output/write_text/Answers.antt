use Rattle.cdm_files.proofs.Words.{◌≡◌, ◌-◌, length, take, drop, arith, take-add, append_assoc, common_steps, Appends-trans, ◌∙◌}
use Rattle.cdm_files.proofs.output.write_text.Goals as goal

-- the bytes written so far, and then those that this write took
pub loop-written-preserved : goal.loop-written-preserved
loop-written-preserved g c =
    let text = c.args.text.now in
    let n = c.loop-written.written in
    let rest : take (length text - n) (drop n text) ≡ drop n text = grind (arith, common_steps) in
    let taken = rw rest at c.in-Ok.ensures.bytes in
    let passed = rw rest at c.in-Ok.ensures.passed in
    record {
      within = grind (arith, common_steps);
      bytes = rw (take-add n c.in-Ok.count text) (Appends-trans _ _ _ _ _ c.loop-written.invariant.bytes taken);
      passed = rw (take-add n c.in-Ok.count text) ((rw c.loop-written.invariant.passed at passed) ∙ append_assoc c.args.device.now.passed (take n text) (take c.in-Ok.count (drop n text)));
      fresh = grind (arith, common_steps);
    }
