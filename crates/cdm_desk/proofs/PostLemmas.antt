-- An update that is posted, and its reply.
use Rattle.std.proofs.Common.{◌≡◌, ◌∙◌, Bool, true, false, List, [], ◌∷◌, ◌++◌, map, Option, None, Some, sym, subst}
use Rattle.std.specs.Prelude.{if◌then◌else◌, is_none}
use Rattle.cdm_day.specs.{Replies.reply_of, declared.reply.Reply.Reply}
use Rattle.cdm_flight.specs.{Accepted.{accepted, after_one, refusal, refusal_of, replies_to}, Authority.may_make, declared.role.Role.Role}
use Rattle.cdm_flight.specs.declared.{update.Update.Update, word.RefusalWord.RefusalWord}
use Rattle.cdm_flight.specs.declared.word.RefusalWord.TheVariants as word
use Rattle.cdm_plan.specs.Day.{DayRecord, with_update}
use Rattle.cdm_view.specs.{declared.standing.Standing.Standing, Standings.IsChangedTo}
use Rattle.cdm_row.specs.declared.row.Row.{Row}
use Rattle.cdm_desk.specs.{Replies.{AreChangedRows, IsReplyBy, IsRowReplyBy}, declared.reply.DeskReply.TheVariants.Accepted}
use Rattle.cdm_desk.specs.declared.reply.RowReply.TheVariants as row_reply

module _ (d : DayRecord) (u : Role × Update) where
  abbrev pub said : Option RefusalWord
  said = refusal d.airport d.journal u.0 u.1

  abbrev pub with_it : DayRecord
  with_it = record d { journal = after_one d.airport d.journal u }

  -- what is not refused is not refused by the journal, and is added to it
  pub by_journal : said ≡ None → refusal_of d.airport d.journal u.1 ≡ None
  unfolding refusal
  by_journal = by (may_make u.0 u.1)
    where
      by : (b : Bool) → (if b then refusal_of d.airport d.journal u.1 else Some word.Authority) ≡ None → refusal_of d.airport d.journal u.1 ≡ None
      by true h = h
      by false h = cc

  pub day_added : said ≡ None → with_it ≡ with_update d u.1
  day_added none = λ i. record d { journal = if is_none (none i) then d.journal ++ u.1 ∷ [] else d.journal }

  -- the word that the replies to the update alone have is its word
  pub word_said : (copy : DayRecord) (replies : List Reply) (word : Option RefusalWord) → copy ≡ d
      → replies ≡ map reply_of (replies_to copy.airport copy.journal (u ∷ []))
      → ((w : Option RefusalWord) → replies ≡ reply_of w ∷ [] → word ≡ w) → said ≡ word
  unfolding replies_to
  word_said copy replies word same are is =
      sym (is said (are ∙ (λ i. map reply_of (replies_to (same i).airport (same i).journal (u ∷ [])))))

  -- a refused update leaves the day as it was
  pub refused_day : (word : RefusalWord) → said ≡ Some word → d ≡ with_it
  refused_day word is = λ i. record d { journal = if is_none (sym is i) then d.journal ++ u.1 ∷ [] else d.journal }

  -- the day after the update alone
  pub day_with : (copy next : DayRecord) → copy ≡ d → next ≡ record copy { journal = accepted copy.airport copy.journal (u ∷ []) } → next ≡ with_it
  unfolding accepted
  day_with copy next same is = is ∙ (λ i. record (same i) { journal = accepted (same i).airport (same i).journal (u ∷ []) })

  pub accepted_reply : (next : DayRecord) (changed told : List Standing) → said ≡ None → next ≡ with_it → told ≡ changed → IsChangedTo d next changed
      → IsReplyBy said d with_it (Accepted told)
  accepted_reply next changed told none same e is =
      subst (λ o. IsReplyBy o d with_it (Accepted told)) (sym none)
      (subst (λ (l : List Standing). IsChangedTo d with_it l) (sym e) (subst (λ (n : DayRecord). IsChangedTo d n changed) same is))

  -- the day with it, by the journal with it
  pub day_taken : (copy next : DayRecord) → copy ≡ d → next ≡ record copy { journal = accepted copy.airport copy.journal (u ∷ []) }
      → next ≡ record d { journal = accepted d.airport d.journal (u ∷ []) }
  day_taken copy next same is = is ∙ (λ i. record (same i) { journal = accepted (same i).airport (same i).journal (u ∷ []) })

  pub accepted_rows : (next : DayRecord) (changed told : List Row) → said ≡ None → next ≡ with_it → told ≡ changed → AreChangedRows d next changed
      → IsRowReplyBy said d with_it (row_reply.Accepted told)
  accepted_rows next changed told none same e is =
      subst (λ o. IsRowReplyBy o d with_it (row_reply.Accepted told)) (sym none)
      (subst (λ (l : List Row). AreChangedRows d with_it l) (sym e) (subst (λ (n : DayRecord). AreChangedRows d n changed) same is))
