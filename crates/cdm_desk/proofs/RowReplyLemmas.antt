-- The changed Rows of a reply suffice.
use Rattle.std.proofs.{Common.{◌≡◌, ◌++◌, List, [], ◌∷◌, Bool, true, false, refl, sym, subst}, lemmas.List.append-nil}
use Rattle.std.specs.Prelude.{if◌then◌else◌, is_none}
use Rattle.cdm_flight.specs.{Accepted.refusal, declared.role.Role.Role, declared.update.Update.Update}
use Rattle.cdm_plan.specs.{Day.DayRecord, Sound.IsSound}
use Rattle.cdm_row.{specs.Changed.Suffice, specs.declared.row.Row.Row, proofs.OverLemmas.changed_suffice}
use Rattle.cdm_desk.specs.Replies.{AreChangedRows, with_one}

-- what an update adds to the journal
longer : (b : Bool) (journal : List Update) (u : Update) → (more : List Update) × ((if b then journal ++ u ∷ [] else journal) ≡ journal ++ more)
longer true journal u = (u ∷ [], refl)
longer false journal u = ([], sym (append-nil journal))

pub reply_suffices : (d : DayRecord) (update : Role × Update) (changed : List Row) → IsSound (with_one d update)
    → (are : AreChangedRows d (with_one d update) changed) → Suffice are.had changed are.has
reply_suffices d update changed sound are =
    let more = longer (is_none (refusal d.airport d.journal update.0 update.1)) d.journal update.1 in
    subst (λ (rows : List Row). Suffice are.had rows are.has) (sym are.changes)
    (changed_suffice d (with_one d update) are.plan are.next_plan more.0 are.had are.has sound more.1 are.before are.after)
