use Rattle.std.proofs.{Common.map, Common.arith, lemmas.Grind.common_steps}
use Rattle.cdm_plan.proofs.ListWords.{IsPermutation, IsPermutation-map, IsPermutation-trans}
use Rattle.cdm_view.specs.Standings.{flight_name, standings_of}
use Rattle.cdm_view.proofs.{KnownLemmas.each_stands, StandingLemmas.one_standings, StandingLemmas.standings_apart}
use Rattle.cdm_view.proofs.standings.Standings.of.Goals as goal

pub by_name-requires : goal.by_name-requires
by_name-requires g c = grind (arith, common_steps, standings_apart)

pub returns-clause-all : goal.returns-clause-all
returns-clause-all g c =
    let d = g.R.Records.day c.args.records.now in
    let plan = c.args.plan.now in
    let all : IsPermutation (standings_of d plan) _ = rw (← c.in_ok-items.ensures.all) c.by_name.ensures.all in
    record {
      all = all;
      by_name = c.by_name.ensures.keeps.by_name;
      each = IsPermutation-trans _ (map flight_name (standings_of d plan)) _ (each_stands d plan c.in_ok-items.ensures.sound c.requires)
          (IsPermutation-map flight_name (standings_of d plan) _ all);
    }

pub returns-clause-only : goal.returns-clause-only
returns-clause-only g c = λ other are.
    let sound = c.in_ok-items.ensures.sound.day in
    one_standings (g.R.Records.day c.args.records.now) c.args.plan.now sound.airport.names sound.names c.requires other _ are (returns-clause-all g c)
