use Rattle.cdm_json.proofs.Words.{◌∙◌, ◌++◌, [], ◌∷◌, append_assoc, ap, flat_map, print, end_object, member_tokens}
use Rattle.cdm_json.specs.Plans.{refused_members}
use Rattle.cdm_json.proofs.plan.end_plan.Goals as goal

pub returns : goal.returns
returns c =
    let old = c.args.text.items in
    let members = flat_map member_tokens (refused_members c.args.refused.now) in
    let end = print (members ++ end_object ∷ []) in
    let before = c.in_ok-end_object.ensures.room.0 ∙ c.in_ok-push_refused.ensures.before ∙ c.new-writer.ensures.before ∙ c.in_ok-push.ensures.items in
    let begun = c.in_ok-push_refused.ensures.tokens ∙ ap (λ ts. ts ++ members) c.new-writer.ensures.tokens in
    let tokens = c.in_ok-end_object.ensures.ok ∙ ap (λ ts. ts ++ end_object ∷ []) begun in
    let made = c.into_inner-line.ensures.items ∙ (λ i. before i ++ print (tokens i)) in
    c.in_ok-push-2.ensures.items ∙ ap (λ l. l ++ 10 ∷ []) made
    ∙ append_assoc (old ++ 44 ∷ []) end (10 ∷ []) ∙ append_assoc old (44 ∷ []) (end ++ 10 ∷ [])
