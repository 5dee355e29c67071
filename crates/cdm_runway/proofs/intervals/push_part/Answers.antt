use Rattle.std.proofs.Common.{arith}
use Rattle.cdm_runway.proofs.IntervalLemmas.{cut_none, cut_asks, cut_more}
use Rattle.cdm_runway.proofs.intervals.push_part.Goals as goal

pub loop-interval-init : goal.loop-interval-init
loop-interval-init g c = cut_none c.args.from c.args.to c.args.kept.now.items c.requires.kept c.requires.after c.requires.places

pub push_joined-requires-clause-after : goal.push_joined-requires-clause-after
push_joined-requires-clause-after g c =
    omega (
      arith,
      cut_asks _ _ _ c.args.listed.now _ c.loop-interval.kept.items c.interval-item.result c.requires.order
          c.loop-interval-test.true c.interval-item.is c.loop-interval.invariant,
    )

pub loop-interval-preserved : goal.loop-interval-preserved
loop-interval-preserved g c =
    cut_more _ _ _ c.args.listed.now _ c.loop-interval.kept.items c.interval-item.result c.requires.order
    c.loop-interval-test.true c.interval-item.is c.loop-interval.invariant _ _ _ c.max.ensures c.min.ensures c.in_ok-push_joined.ensures
