use Rattle.cdm_files.proofs.Words.{◌≡◌, ◌≤◌, ◌-◌, ◌++◌, false, length, take, Appends}
use Rattle.cdm_files.proofs.output.write_text.Given as goal

abbrev pub invariant-loop-written : goal.invariant-loop-written
invariant-loop-written g l = record {
  within : l.written ≤ length l.text;
  bytes : Appends (g.W.Write.contents l.fn.device.inner) (g.W.Write.contents l.device.inner) (take l.written l.text);
  passed : l.device.passed ≡ l.fn.device.passed ++ take l.written l.text;
  fresh : l.device.failed ≡ false;
}

abbrev pub decreases-loop-written : goal.decreases-loop-written
decreases-loop-written g l = length l.text - l.written
