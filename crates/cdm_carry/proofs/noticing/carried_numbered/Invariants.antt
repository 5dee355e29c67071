use Rattle.std.{proofs.Common.{◌≡◌, ◌<◌, All, take}, specs.List.filter_map}
use Rattle.cdm_carry.specs.{Notices.carried_numbered, Texts.window_end}
use Rattle.cdm_carry.proofs.noticing.carried_numbered.Given as goal

abbrev pub invariant-loop-item : goal.invariant-loop-item
invariant-loop-item l = record {
  value : l.carried.items ≡ filter_map (carried_numbered l.day.journal) (take l.item-index l.records);
  short : All (λ n. window_end n.1.1 < 2880) l.carried.items;
}
