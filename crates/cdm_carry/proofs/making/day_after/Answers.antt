use Rattle.std.proofs.{Common.{◌≡◌, ◌∙◌, true, sym, ap}, lemmas.Slice.Eq.bytes_eq-Decides}
use Rattle.std.specs.Prelude.{bytes_eq}
use Rattle.cdm_time.specs.Times.{time_text}
use Rattle.cdm_carry.proofs.DayLemmas.{next_by_text, text_of_next}
use Rattle.cdm_carry.proofs.making.day_after.Goals as goal

pub returns-then-eq-clause-after : goal.returns-then-eq-clause-after
returns-then-eq-clause-after c =
    let same = (bytes_eq-Decides c.time_text.result c.time_text-2.result).0 (sym c.eq.ensures ∙ c.if-eq.true) in
    let first = c.time_text.ensures.text ∙ ap (time_text c.args.next) c.at.ensures in
    let after = c.time_text-2.ensures.text ∙ ap (time_text c.args.day) c.at-2.ensures in
    next_by_text c.args.day c.args.next (sym first ∙ same ∙ after)

pub returns-else-eq-clause-other : goal.returns-else-eq-clause-other
returns-else-eq-clause-other c = λ is.
    let first = c.time_text.ensures.text ∙ ap (time_text c.args.next) c.at.ensures in
    let after = c.time_text-2.ensures.text ∙ ap (time_text c.args.day) c.at-2.ensures in
    let same : c.time_text.result ≡ c.time_text-2.result = first ∙ text_of_next c.args.day c.args.next is ∙ sym after in
    let yes : bytes_eq c.time_text.result c.time_text-2.result ≡ true = (bytes_eq-Decides c.time_text.result c.time_text-2.result).1 same in
    cc (sym yes ∙ sym c.eq.ensures ∙ c.if-eq.false)
