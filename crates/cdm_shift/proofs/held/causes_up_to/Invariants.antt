use Rattle.std.{proofs.Common.{◌≡◌, ◌+◌, ◌-◌, ◌≤◌, ◌⊎◌}, specs.List.{filter_map, range_with_len}}
use Rattle.cdm_view.specs.Causes.{cause_at}
use Rattle.cdm_shift.proofs.held.causes_up_to.Given as goal

abbrev pub invariant-loop-number : goal.invariant-loop-number
invariant-loop-number l = record {
  causes : l.causes.items ≡ filter_map (cause_at l.waiting) (range_with_len (l.waiting.tobt + l.waiting.exot) (l.number - (l.waiting.tobt + l.waiting.exot)));
  short : (l.number ≤ l.number-end) ⊎ (l.number ≡ l.initial.number);
}
