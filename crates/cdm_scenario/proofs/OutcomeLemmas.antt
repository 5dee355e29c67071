-- The first update that a word refuses.
use Rattle.cdm_scenario.proofs.Words.{◌≡◌, ℕ, ◌+◌, ◌≤◌, take, length, Option, None, Some, Ok, Err, List, ◌++◌, refl, sym, ap, ◌∙◌, arith}
use Rattle.cdm_scenario.proofs.Words.{rules, is_none, slice_get, if◌then◌else◌, option_and_then, Update, refusal_of, DayRecord, with_update}
use Rattle.cdm_scenario.specs.{Overlay.{after_judged, with_updates}, Outcome.{AreTaken, IsLaid, word_at}}
use Rattle.cdm_scenario.specs.inner.OneOutcome.{no_more, one_more}
use borrow.Author.Count.{below_more}
use Rattle.cdm_flight.specs.declared.word.RefusalWord.{RefusalWord}
use Rattle.cdm_day.specs.Replies.{reply_of}
use Rattle.cdm_plan.proofs.NameLemmas.{all_taken}
use Rattle.cdm_day.specs.declared.reply.Reply.TheVariants as reply

-- the day has the first k updates, and no word refused one of them
pub record HasTaken (d : DayRecord) (updates : List Update) (k : ℕ) (day : DayRecord) : Type 0 where
  pub same : day ≡ with_updates d (take k updates)
  pub taken : AreTaken d updates k

accepted_word : (o : Option RefusalWord) → reply.Accepted ≡ reply_of o → o ≡ None
accepted_word o h = search rules

refused_word : (o : Option RefusalWord) (w : RefusalWord) → reply.Refused w ≡ reply_of o → o ≡ Some w
refused_word o w h = search rules

module _ (d : DayRecord) (us : List Update) where
  pub none_taken : (day : DayRecord) → day ≡ d → HasTaken d us 0 day
  none_taken day same = record { same = same ∙ no_more d us; taken = λ k h. absurd (omega arith) }

  module _ (k : ℕ) (u : Update) (at : slice_get us k ≡ Some u) (day : DayRecord) (so_far : HasTaken d us k day) where
    word_here : word_at d us k ≡ refusal_of day.airport day.journal u
    word_here = ap (option_and_then (refusal_of d.airport (d.journal ++ take k us))) at ∙ sym (ap (λ (x : DayRecord). refusal_of x.airport x.journal u) so_far.same)

    pub one_more_taken : (next : DayRecord) → reply.Accepted ≡ reply_of (refusal_of day.airport day.journal u) → next ≡ after_judged day u → HasTaken d us (k + 1) next
    one_more_taken next accepted after =
        let none = accepted_word (refusal_of day.airport day.journal u) accepted in
        record {
          same = after ∙ (ap (λ o. if is_none o then with_update day u else day) none ∙ (ap (λ (x : DayRecord). with_update x u) so_far.same ∙ one_more d us k u at));
          taken = below_more (λ j. word_at d us j ≡ None) k so_far.taken (word_here ∙ none);
        }

    pub refused_here : (w : RefusalWord) → reply.Refused w ≡ reply_of (refusal_of day.airport day.journal u) → IsLaid d us (Err (k + 1, w))
    refused_here w refused = (k, (refl, so_far.taken, word_here ∙ refused_word (refusal_of day.airport day.journal u) w refused))

  pub all_taken_here : (k : ℕ) (day : DayRecord) → HasTaken d us k day → length us ≤ k → IsLaid d us (Ok day)
  all_taken_here k day so_far all = (λ j h. so_far.taken j (omega arith), so_far.same ∙ ap (with_updates d) (all_taken us k (omega arith)))
