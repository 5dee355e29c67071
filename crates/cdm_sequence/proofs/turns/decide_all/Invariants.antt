use Rattle.cdm_sequence.proofs.Words.{◌≡◌, ◌≤◌, ◌+◌, ◌++◌, take, map, length, filter_map, ArePassed}
use Rattle.cdm_sequence.specs.inner.Turns.{taken_in, AreDecided}
use Rattle.cdm_sequence.proofs.turns.decide_all.Given as goal

abbrev pub invariant-loop-target : goal.invariant-loop-target
invariant-loop-target l = record {
  cell : l.load.cell ≡ l.runway.cell;
  room : length l.load.taken ≤ length l.fn.load.taken + l.target-index;
  targets : map (λ d. d.target) l.decisions.items ≡ take l.target-index (map (λ t. t.now) l.targets);
  taken : l.load.taken ≡ l.fn.load.taken ++ filter_map (taken_in l.runway) l.decisions.items;
  passed : ArePassed l.runway l.load.taken l.passed;
  decided : AreDecided l.runway l.fn.load.taken l.decisions.items;
}
