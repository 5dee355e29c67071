use Rattle.std.proofs.Common.{◌≡◌, rules}
use Rattle.cdm_flight.proofs.NameLemmas.{IsOk-from_utf8}
use Rattle.cdm_scenario.proofs.NameLemmas.{ascii-of_name}
use Rattle.cdm_scenario.proofs.name.ScenarioName.text.Goals as goal

pub unwrap-requires : goal.unwrap-requires
unwrap-requires c =
    IsOk-from_utf8 _ _ _ _ c.from_utf8.ensures.cases (rw c.bytes.ensures.value (ascii-of_name c.args.self.now c.bytes.ensures.name))

pub returns-clause-ascii : goal.returns-clause-ascii
returns-clause-ascii c =
    let value : c.unwrap.result.now ≡ c.args.self.now = search rules in
    rw value (ascii-of_name c.args.self.now c.bytes.ensures.name)
