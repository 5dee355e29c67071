use Rattle.std.proofs.Common.{rules}
use Rattle.cdm_day.proofs.TableLemmas.{brief_told}
use Rattle.cdm_day.proofs.tables.records.TablesRecords.briefs.Goals as goal

pub returns-clause-each : goal.returns-clause-each
returns-clause-each c = search (rules, brief_told)
