use Rattle.std.{proofs.Common.{◌≡◌, ◌*◌, ◌≤◌, length, take, fold, sum_by}, specs.List.flat_map}
use Rattle.cdm_report.specs.inner.Counting.{delays_in, with_delay}
use Rattle.cdm_report.proofs.counts.indicators.Given as goal

abbrev pub invariant-loop-runway : goal.invariant-loop-runway
invariant-loop-runway l = record {
  counted : l.counts ≡ fold with_delay l.initial.counts (flat_map (λ r. delays_in r.slots) (take l.runway-index l.runway-items));
  placed : l.counts.placed ≤ sum_by (λ r. length r.slots) (take l.runway-index l.runway-items);
  late : l.counts.late ≤ sum_by (λ r. length r.slots) (take l.runway-index l.runway-items);
  sum : l.counts.delay ≤ 65535 * sum_by (λ r. length r.slots) (take l.runway-index l.runway-items);
}
