use Rattle.cdm_files.{proofs.Words.{◌≡◌, ◌≤◌, ◌-◌, ◌++◌, false, vec_len, Consumes}, specs.Input.input_limit}
use Rattle.cdm_files.proofs.input.read_input.Given as goal

abbrev pub invariant-loop-count : goal.invariant-loop-count
invariant-loop-count g l = record {
  limit : vec_len l.input ≤ input_limit;
  bytes : Consumes (g.R.Read.remaining l.fn.device.inner) (g.R.Read.remaining l.device.inner) l.input.items;
  passed : l.device.passed ≡ l.fn.device.passed ++ l.input.items;
  fresh : l.device.failed ≡ false;
}

abbrev pub decreases-loop-count : goal.decreases-loop-count
decreases-loop-count g l = input_limit - vec_len l.input
