use Rattle.std.proofs.Common.{◌∙◌, ap, false, sym}
use Rattle.std.specs.{List.list_any, Option.option_map_or}
use Rattle.cdm_options.specs.Helping.{outdoes}
use Rattle.cdm_options.proofs.helping.is_outdone.Goals as goal

pub returns-in-Some : goal.returns-in-Some
returns-in-Some c =
    let all = c.args.all.now in
    let h = c.args.helping.now in
    c.has_larger.ensures ∙ sym (ap (λ o. option_map_or (λ p. list_any (outdoes p h) all) o false) (sym c.priority_of.ensures ∙ c.in-Some.is))
