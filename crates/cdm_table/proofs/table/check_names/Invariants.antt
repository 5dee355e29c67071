use Rattle.std.proofs.Common.{◌≡◌, drop}
use Rattle.cdm_table.specs.Tables.{named_as_day}
use Rattle.cdm_table.proofs.table.check_names.Given as goal

abbrev pub invariant-loop-scenario : goal.invariant-loop-scenario
invariant-loop-scenario l = named_as_day 1 l.scenarios ≡ named_as_day l.number (drop l.scenario-index l.scenarios)
