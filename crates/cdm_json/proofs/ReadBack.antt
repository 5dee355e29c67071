-- A value is read back from its text.
use Rattle.cdm_json.proofs.Words.{◌≡◌, ◌∙◌, ◌≤◌, [], ap, append-nil, sym, option_and_then, Json, if_last, max_depth, value, print, depth}
use Rattle.cdm_json.{proofs.Words.json_tokens, specs.Lines.IsReadBack}
use Rattle.json.{specs.Lex.tokens, proofs.Printed.Trees.value-json_tokens}

pub read_back : (v : Json) → tokens (print (json_tokens v)) ≡ json_tokens v → depth v ≤ max_depth → IsReadBack v
read_back v same shallow =
    ap (λ ts. option_and_then (λ p. if_last p.0 p.1) (value max_depth ts)) (same ∙ sym (append-nil (json_tokens v)))
    ∙ ap (option_and_then (λ p. if_last p.0 p.1)) (value-json_tokens v max_depth [] shallow)
