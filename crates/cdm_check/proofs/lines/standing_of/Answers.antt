use Rattle.std.{proofs.Common.{◌≡◌, ◌∙◌, [], ◌∷◌, codes, sym, subst, rules}, proofs.lemmas.Result.IfOk-weaker, specs.Fmt.decimal}
use Rattle.std.specs.{List.concat, Str.IsUtf8, String.string_bytes}
use Rattle.cdm_check.proofs.LineLemmas.{cut_utf8, is_standing}
use Rattle.cdm_check.proofs.lines.standing_of.Goals as goal

pub unwrap-words-requires : goal.unwrap-words-requires
unwrap-words-requires c = c.from_utf8.ensures.succeeds (subst IsUtf8 (sym c.in_ok-words.ensures) (cut_utf8 130 c.as_bytes.result.now))

pub returns : goal.returns
returns c =
    let words = c.in_ok-words.words.items in
    let n = c.args.records in
    let same : string_bytes c.unwrap-words.result ≡ words = search rules in
    IfOk-weaker c.format.result _ _
    (λ sentence is. is_standing c.as_bytes.result.now words (string_bytes sentence) n c.requires c.in_ok-words.ensures
    (is ∙ (λ i. concat (same i ∷ codes " (all " ∷ decimal n ∷ codes " records refused)" ∷ []))))
    c.format.ensures.ok
