use Rattle.std.{proofs.Common.{ℕ, List, [], ◌∷◌}, proofs.lemmas.Result.on_ok_weaker, specs.Prelude.codes}
use Rattle.json.specs.Json.{Json, string}
use Rattle.cdm_flight.specs.Words.{text_of}
use Rattle.cdm_json.proofs.TokenLemmas.{more_members, one_member}
use Rattle.cdm_check.proofs.objects.push_cause.Goals as goal

pub returns-clause-tokens : goal.returns-clause-tokens
returns-clause-tokens c =
    let old = c.args.writer.now.tokens in
    let word : List ℕ × Json = (codes "word", string (text_of c.args.word)) in
    let sentence : List ℕ × Json = (codes "sentence", string c.args.sentence.now) in
    let one = one_member old _ word (rw c.text.ensures at c.in_ok-push_text.ensures.tokens) in
    on_ok_weaker c.push_text-2.result (more_members old _ _ (word ∷ []) sentence one) c.push_text-2.ensures.tokens
