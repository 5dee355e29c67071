use Rattle.std.proofs.Common.{map, Bor, ◌≡◌}
use Rattle.cdm_plan.proofs.{ListWords.filter_map, PlanWords.{Flight, fixed_on, target_for}, PlanningLemmas.{on_it, fixed_on-lent}}
use Rattle.cdm_plan.proofs.jobs.runway_plan.Goals as goal

pub sequence-requires-clause-runway : goal.sequence-requires-clause-runway
sequence-requires-clause-runway c = rw (c.deref-2.ensures.value, c.in_ok-targets.ensures, c.name-2.ensures) (on_it c.args.runway.now.name c.args.aims.now)

pub sequence-requires-clause-names : goal.sequence-requires-clause-names
sequence-requires-clause-names c =
    let lent = fixed_on-lent c.name.result c.args.flights.now in
    rw (c.deref-2.ensures.value, c.in_ok-targets.ensures, c.name-2.ensures, c.deref.ensures.value, c.in_ok-fixed.ensures, lent, c.name.ensures) c.requires.names

pub sequence-requires-clause-fixed : goal.sequence-requires-clause-fixed
sequence-requires-clause-fixed c =
    let lent = fixed_on-lent c.name.result c.args.flights.now in
    rw (c.deref.ensures.value, c.in_ok-fixed.ensures, lent, c.name.ensures) c.requires.left

pub sequence-requires-clause-few : goal.sequence-requires-clause-few
sequence-requires-clause-few c =
    let lent = fixed_on-lent c.name.result c.args.flights.now in
    rw (c.deref-2.ensures.value, c.in_ok-targets.ensures, c.name-2.ensures, c.deref.ensures.value, c.in_ok-fixed.ensures, lent, c.name.ensures) c.requires.few

pub returns : goal.returns
returns c =
    let targets : c.deref-2.result.now ≡ filter_map (target_for c.args.runway.now.name) c.args.aims.now =
    rw (c.deref-2.ensures.value, c.in_ok-targets.ensures, c.name-2.ensures) in
    let fixed : c.deref.result.now ≡ fixed_on c.args.runway.now.name (map (λ (f : Bor Flight). f.now) c.args.flights.now) =
    rw (c.deref.ensures.value, c.in_ok-fixed.ensures, fixed_on-lent c.name.result c.args.flights.now, c.name.ensures) in
    rw (← targets, ← fixed) c.in_ok-plan.ensures.sequence
