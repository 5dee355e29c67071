use Rattle.std.proofs.Common.{leb, leb-true, leb-false, ltb-true, ltb-false, rules, sym, arith}
use Rattle.std.proofs.lemmas.List.Sorted.{IsPartitionPoint-from_clause, IsPartitionedBy-leb}
use Rattle.cdm_runway.proofs.IntervalLemmas.{ends_in_order, first_after, none_after}
use Rattle.cdm_runway.proofs.intervals.first_ending_after.Goals as goal

pub returns-in_err-get : goal.returns-in_err-get
returns-in_err-get g c =
    let parted = IsPartitionedBy-leb (λ x. x.to) c.args.listed.now c.args.place (ends_in_order 0 c.args.listed.now c.requires) in
    let point = IsPartitionPoint-from_clause (λ x. leb x.to c.args.place) _ _ c.partition_point-first.ensures.partitioned parted (λ a r q k. search rules) in
    rw c.from_residual.ensures
    (none_after c.args.listed.now c.args.place (λ j d below.
    leb-true _ _ (point.0 j d (omega arith) (omega (arith, ltb-false _ _ (sym c.in_err-get.ensures.lookup.0))))))

pub returns : goal.returns
returns g c =
    let parted = IsPartitionedBy-leb (λ x. x.to) c.args.listed.now c.args.place (ends_in_order 0 c.args.listed.now c.requires) in
    let point = IsPartitionPoint-from_clause (λ x. leb x.to c.args.place) _ _ c.partition_point-first.ensures.partitioned parted (λ a r q k. search rules) in
    let found = ltb-true _ _ (sym c.in_ok-get.ensures.lookup.0) in
    first_after 0 c.args.listed.now _ c.args.place c.in_ok-get.field-0.now c.requires found c.in_ok-get.ensures.lookup.1
    (λ j d below. leb-true _ _ (point.0 j d (omega arith) below))
    (rw (sym c.in_ok-get.ensures.lookup.1) at (leb-false _ _ (point.1 _ c.in_ok-get.field-0.now (omega arith) found)))
