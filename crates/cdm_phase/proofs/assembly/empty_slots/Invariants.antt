use Rattle.std.proofs.Common.{◌≡◌, All, IsNone, vec_len}
use Rattle.cdm_phase.proofs.assembly.empty_slots.Given as goal

abbrev pub invariant-loop : goal.invariant-loop
invariant-loop g l = record {
  len : vec_len l.slots ≡ l.counter;
  empty : All (λ slot. IsNone slot) l.slots.items;
}
