use Rattle.std.proofs.Common.{◌≡◌, [], ◌∷◌, ◌++◌, rules}
use Rattle.cdm_port.specs.declared.happening.Happening.TheVariants as happening
use Rattle.cdm_port.proofs.WriteLemmas.{renamed_alone}
use Rattle.cdm_run_tests.proofs.PortLemmas.{on_err}
use Rattle.cdm_run_tests.proofs.tests.serve.memory.Memory.rename.Goals as goal

pub returns-in_err-make-clause-err : goal.returns-in_err-make-clause-err
returns-in_err-make-clause-err c =
    let is : c.make.new.self.history.notes ≡ c.args.self.now.history.notes ++ (happening.Renamed, c.args.bytes.now) ∷ [] = search rules in
    on_err c.from_residual-in_err-make.result (renamed_alone c.args.bytes.now c.args.self.now.history.notes c.make.new.self.history.notes is)
