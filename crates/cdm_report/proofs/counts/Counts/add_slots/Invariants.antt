use Rattle.std.proofs.Common.{◌≡◌, ◌+◌, ◌*◌, ◌≤◌, take, fold}
use Rattle.cdm_report.specs.inner.Counting.{delays_in, with_delay}
use Rattle.cdm_report.proofs.counts.Counts.add_slots.Given as goal

abbrev pub invariant-loop-slot : goal.invariant-loop-slot
invariant-loop-slot l = record {
  counted : l.self ≡ fold with_delay l.initial.self (delays_in (take l.slot-index l.slots));
  placed : l.self.placed ≤ l.initial.self.placed + l.slot-index;
  late : l.self.late ≤ l.initial.self.late + l.slot-index;
  sum : l.self.delay ≤ l.initial.self.delay + 65535 * l.slot-index;
}
