use Rattle.std.{proofs.Common.{◌∙◌, ap}, proofs.lemmas.Result.IfOk-weaker, specs.String.string_bytes}
use Rattle.cdm_serve.specs.Refused.{sentence_line}
use Rattle.cdm_serve.proofs.refusing.explained.Goals as goal

pub returns : goal.returns
returns c = IfOk-weaker c.sentence_line.result _ _
    (λ text is. record {
      sentence = string_bytes c.in_ok-sentence.sentence;
      of_words = c.in_ok-sentence.ensures;
      bytes = is ∙ ap (λ told. sentence_line c.args.format c.args.number c.args.word told) c.deref.ensures;
    })
    c.sentence_line.ensures
