use Rattle.std.{proofs.Common.{◌≡◌, ◌∙◌, sym, subst, rules}, specs.String.string_bytes}
use Rattle.cdm_check.{specs.Check.IsSentence, proofs.LineLemmas.{cut_sentence, sentence-utf8}}
use Rattle.cdm_check.proofs.lines.sentence_of.Goals as goal

pub unwrap-requires : goal.unwrap-requires
unwrap-requires c =
    let is = subst IsSentence (sym c.in_ok-sentence.ensures) (cut_sentence c.as_bytes.result.now) in
    c.from_utf8.ensures.succeeds (sentence-utf8 _ is)

pub returns : goal.returns
returns c =
    let same : string_bytes c.unwrap.result ≡ c.in_ok-sentence.sentence.items = search rules in
    subst IsSentence (sym (same ∙ c.in_ok-sentence.ensures)) (cut_sentence c.as_bytes.result.now)
