use Rattle.std.{proofs.Common.{sym, ap, ◌∙◌}, specs.Result.result_err}
use Rattle.cdm_day.proofs.BatchLemmas.{good_from}
use Rattle.cdm_plan.proofs.KeptLemmas.{since_taken}
use Rattle.cdm_day.proofs.draft.Draft.reply_to.Goals as goal

pub take-requires-clause-accepted : goal.take-requires-clause-accepted
take-requires-clause-accepted c = good_from c.args.self.now.tables c.args.role c.args.update.now (sym c.judge_as.ensures.word ∙ ap result_err c.in-Ok.is)

pub returns-in_ok-note-in-Ok-2-clause-since : goal.returns-in_ok-note-in-Ok-2-clause-since
returns-in_ok-note-in-Ok-2-clause-since c = λ first since.
    since_taken c.args.self.now.noting first c.args.self.now.tables c.take.new.self c.args.self.now.touched c.note.new.self c.note-in-Ok.new.self c.args.update.now
    c.in_ok-take-in-Ok.ensures.ok c.in_ok-note-in-Ok.ensures c.in_ok-note-in-Ok-2.ensures since
