use Rattle.std.proofs.{Common.◌≡◌, Common.List, Common.length, Common.ap, Common.◌∙◌, lemmas.List.length-map, lemmas.Result.IfOk-weaker}
use Rattle.cdm_flight.specs.{declared.update.Update.Update, Accepted.replies_to, Journal.AirportRows}
use Rattle.cdm_day.{specs.Replies.reply_of, proofs.BatchLemmas.replies_to-length}
use Rattle.cdm_board.specs.History.{answers_to, journal_now}
use Rattle.cdm_board.proofs.board.Board.post.Goals as goal

pub returns-clause-replies : goal.returns-clause-replies
returns-clause-replies g c =
    let b = c.deref_mut.result.now in
    IfOk-weaker c.post_to.result (λ r. r.items ≡ answers_to b.airport (journal_now b) c.args.batch.now)
    (λ r. (g : AirportRows) × (a : List Update) × (r.items ≡ answers_to g a c.args.batch.now)) (λ r is. (b.airport, journal_now b, is)) c.post_to.ensures.replies

pub returns-clause-each : goal.returns-clause-each
returns-clause-each g c =
    let b = c.deref_mut.result.now in
    let batch = c.args.batch.now in
    IfOk-weaker c.post_to.result (λ r. r.items ≡ answers_to b.airport (journal_now b) batch) (λ r. length r.items ≡ length batch)
    (λ r is. ap length is ∙ (length-map (replies_to b.airport (journal_now b) batch) reply_of ∙ replies_to-length b.airport (journal_now b) batch)) c.post_to.ensures.replies
