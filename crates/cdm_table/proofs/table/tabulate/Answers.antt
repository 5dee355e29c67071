use Rattle.std.proofs.Common.{rules}
use Rattle.cdm_table.proofs.TableLemmas.{one_table}
use Rattle.cdm_table.proofs.table.tabulate.Goals as goal

pub returns-in_ok-csv-in-Csv-clause-only : goal.returns-in_ok-csv-in-Csv-clause-only
returns-in_ok-csv-in-Csv-clause-only g c = λ other is.
    let sound = c.values-values.ensures.sound in
    one_table c.args.base.now sound.airport.names sound.names c.args.table c.args.scenarios.now other _ is (search rules)

pub returns-in_ok-comparison_csv-in-ComparisonCsv-clause-only : goal.returns-in_ok-comparison_csv-in-ComparisonCsv-clause-only
returns-in_ok-comparison_csv-in-ComparisonCsv-clause-only g c = λ other is.
    let sound = c.values-values.ensures.sound in
    one_table c.args.base.now sound.airport.names sound.names c.args.table c.args.scenarios.now other _ is (search rules)

pub returns-in_ok-comparison-in-Comparison-clause-only : goal.returns-in_ok-comparison-in-Comparison-clause-only
returns-in_ok-comparison-in-Comparison-clause-only g c = λ other is.
    let sound = c.values-values.ensures.sound in
    one_table c.args.base.now sound.airport.names sound.names c.args.table c.args.scenarios.now other _ is (search rules)

pub returns-in_ok-comparison_json-in-ComparisonJson-clause-only : goal.returns-in_ok-comparison_json-in-ComparisonJson-clause-only
returns-in_ok-comparison_json-in-ComparisonJson-clause-only g c = λ other is.
    let sound = c.values-values.ensures.sound in
    one_table c.args.base.now sound.airport.names sound.names c.args.table c.args.scenarios.now other _ is (search rules)

pub returns-in_ok-sweep-in-Sweep-clause-only : goal.returns-in_ok-sweep-in-Sweep-clause-only
returns-in_ok-sweep-in-Sweep-clause-only g c = λ other is.
    let sound = c.values-values.ensures.sound in
    one_table c.args.base.now sound.airport.names sound.names c.args.table c.args.scenarios.now other _ is (search rules)

pub returns-in_ok-sweep_json-in-SweepJson-clause-only : goal.returns-in_ok-sweep_json-in-SweepJson-clause-only
returns-in_ok-sweep_json-in-SweepJson-clause-only g c = λ other is.
    let sound = c.values-values.ensures.sound in
    one_table c.args.base.now sound.airport.names sound.names c.args.table c.args.scenarios.now other _ is (search rules)
