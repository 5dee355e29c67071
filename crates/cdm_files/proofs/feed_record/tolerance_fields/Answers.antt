use Rattle.cdm_files.proofs.Words.{◌≡◌, ℕ, Bool, true, false, Ok, Err, sym, ◌∙◌, refl, if◌then◌else◌, err_from_is_err_and, RefusalWord}
use Rattle.cdm_files.{proofs.Words.{Text, Range}, specs.Fields.{both, number_field, tolerance_fields}}
use Rattle.std.specs.Prelude.{Result}
use Rattle.cdm_files.proofs.feed_record.tolerance_fields.Goals as goal

-- the form of each of two numbers is asked before the range of either
form_first : (x y : Result ℕ RefusalWord) (u v i j : Bool) (m n : ℕ) (word : RefusalWord)
    → x ≡ (if u then Err Text else Ok m) → y ≡ (if v then Err Text else Ok n) → both x y ≡ Err word
    → both (if u then Err Text else if i then Ok m else Err Range) (if v then Err Text else if j then Ok n else Err Range) ≡ Err word
unfolding both
form_first x y true v i j m n word p q e = sym (λ k. both (p k) y) ∙ e
form_first x y false true true j m n word p q e = sym (λ k. both (p k) (q k)) ∙ e
form_first x y false true false j m n word p q e = sym (λ k. both (p k) (q k)) ∙ e
form_first x y false false i j m n word p q e = cc

pub returns-in_err-before : goal.returns-in_err-before
unfolding number_field tolerance_fields
returns-in_err-before c =
    let p = err_from_is_err_and c.from_residual.result c.from_residual.ensures.1 in
    let e = c.in_err-before.ensures in
    rw (p.1, p.2, form_first c.number_field.result c.number_field-2.result _ _ _ _ _ _ _ c.number_field.ensures c.number_field-2.ensures (sym e)) refl
