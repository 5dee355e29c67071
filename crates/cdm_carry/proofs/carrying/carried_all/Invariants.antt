use Rattle.std.proofs.Common.{◌≡◌, ◌<◌, All, take}
use Rattle.cdm_carry.specs.{Carry.carried_all, Texts.window_end}
use Rattle.cdm_carry.proofs.carrying.carried_all.Given as goal

abbrev pub invariant-loop-item : goal.invariant-loop-item
invariant-loop-item l = record {
  value : l.carried.items ≡ carried_all l.day.journal (take l.item-index l.records);
  short : All (λ p. window_end p.1 < 2880) l.carried.items;
}
