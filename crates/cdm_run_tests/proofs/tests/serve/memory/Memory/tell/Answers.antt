use Rattle.std.proofs.Common.{◌≡◌, [], ◌∷◌, ◌++◌, take, rules}
use Rattle.cdm_port.{specs.Event.Event.Replied, proofs.WriteLemmas.reply_torn}
use Rattle.cdm_port.specs.declared.happening.Happening.TheVariants as happening
use Rattle.cdm_run_tests.proofs.PortLemmas.{not_done, on_err}
use Rattle.cdm_run_tests.proofs.tests.serve.memory.Memory.tell.Goals as goal

pub returns-in_err-extend_from_slice-clause-err : goal.returns-in_err-extend_from_slice-clause-err
returns-in_err-extend_from_slice-clause-err c = on_err c.from_residual.result (not_done (Replied c.args.bytes.now) _ _ (search rules))

pub returns-clause-err : goal.returns-clause-err
returns-clause-err c =
    let count = c.written-count.result in
    let is : c.note.new.self.notes ≡ c.args.self.now.history.notes ++ (happening.Replied, take count c.args.bytes.now) ∷ [] = search rules in
    on_err c.make-made.result (reply_torn count c.args.bytes.now c.args.self.now.history.notes c.note.new.self.notes is)
