use Rattle.std.proofs.Common.{◌≡◌, [], ◌∷◌, ◌++◌, take, rules}
use Rattle.cdm_port.specs.declared.happening.Happening.TheVariants as happening
use Rattle.cdm_port.proofs.WriteLemmas.{append_torn}
use Rattle.cdm_run_tests.proofs.PortLemmas.{on_err}
use Rattle.cdm_run_tests.proofs.tests.serve.memory.Memory.write.Goals as goal

pub returns-clause-err : goal.returns-clause-err
returns-clause-err c =
    let count = c.written-count.result in
    let is : c.note.new.self.notes ≡ c.args.self.now.history.notes ++ (happening.Appended, take count c.args.bytes.now) ∷ [] = search rules in
    on_err c.make-made.result (append_torn count c.args.bytes.now c.args.self.now.history.notes c.note.new.self.notes is)
