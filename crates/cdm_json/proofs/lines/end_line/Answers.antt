use Rattle.cdm_json.proofs.Words.{◌≡◌, ◌∙◌, ◌++◌, [], ◌∷◌, List, ℕ, ap, refl, rules, print, begin_object, json_tokens, object_of}
use Rattle.cdm_json.{proofs.Words.object_written, proofs.ReadBack.read_back, specs.Lines.json_line}
use Rattle.json.specs.Lex.{tokens}
use Rattle.cdm_json.proofs.lines.end_line.Goals as goal

pub returns-clause-line : goal.returns-clause-line
unfolding json_line
returns-clause-line c = λ members is.
    let written : c.end_object.new.self.tokens ≡ json_tokens (object_of members) =
    object_written [] (begin_object ∷ []) c.args.writer.tokens c.end_object.new.self.tokens members refl is c.in_ok-end_object.ensures.ok in
    let before : c.end_object.new.self.before ≡ [] = search rules in
    let text : c.into_inner-text.result.items ≡ print (json_tokens (object_of members)) =
    c.into_inner-text.ensures.items ∙ (λ i. before i ++ print (written i)) in
    c.in_ok-push.ensures.items ∙ ap (λ (l : List ℕ). l ++ 10 ∷ []) text

pub returns-clause-read_back : goal.returns-clause-read_back
returns-clause-read_back c = λ members is shallow.
    let value = object_of members in
    let written : c.end_object.new.self.tokens ≡ json_tokens value =
    object_written [] (begin_object ∷ []) c.args.writer.tokens c.end_object.new.self.tokens members refl is c.in_ok-end_object.ensures.ok in
    let read : tokens (print (json_tokens value)) ≡ json_tokens value = rw written at c.into_inner-text.ensures.reads_back in
    read_back value read shallow
