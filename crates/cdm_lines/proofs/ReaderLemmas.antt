-- Who puts the Rows of each reply in the place of his own has the Rows of the day after all of them.
use Rattle.std.proofs.Common.{◌≡◌, ◌∙◌, ℕ, ◌++◌, List, [], ◌∷◌, Option, None, Some, Result, Ok, Err, refl, sym, ap, subst}
use Rattle.std.specs.{Prelude.{if◌then◌else◌, is_none}, Option.option_or}
use Rattle.cdm_flight.specs.Accepted.{accepted, refusal}
use Rattle.cdm_flight.specs.declared.{role.Role.Role, update.Update.Update, word.RefusalWord.RefusalWord}
use Rattle.cdm_plan.{specs.{Day.DayRecord, Sound.IsSound}, proofs.OnePlanLemmas.one_day_plan}
use Rattle.cdm_day.proofs.{BatchLemmas.accepted-keeps, SoundLemmas.sound_after}
use Rattle.cdm_row.{specs.Changed.row_named, specs.Rows.AreRows, specs.declared.row.Row.Row, proofs.RowLemmas.one_rows}
use Rattle.cdm_desk.{specs.Replies.{AreChangedRows, IsRowReplyBy, day_after, with_one}, proofs.RowReplyLemmas.reply_suffices}
use Rattle.cdm_desk.specs.declared.reply.RowReply.{RowReply}
use Rattle.cdm_desk.specs.declared.reply.RowReply.TheVariants.{Accepted, Refused}
use Rattle.cdm_lines.specs.Readers.{AreRowReplies, HasRows, Reader, day_after_all, with_replies, with_reply}

-- a sound day stays one
sound_next : (d : DayRecord) (update : Role × Update) → IsSound d → IsSound (with_one d update)
unfolding accepted
sound_next d update sound =
    accepted-keeps (λ a. IsSound (record { airport = d.airport; journal = a })) d.airport
    (λ a u good before. sound_after (record { airport = d.airport; journal = a }) u before good) d.journal (update ∷ []) sound

sound_after_record : (d : DayRecord) (spelled : Result (Role × Update) RefusalWord) → IsSound d → IsSound (day_after d spelled)
sound_after_record d (Ok update) sound = sound_next d update sound
sound_after_record d (Err word) sound = sound

-- a day with its plan has one list of Rows, so the reader had those that the reply was made by
changed : (d : DayRecord) (update : Role × Update) (rows : List Row) (has : Reader) → IsSound d → HasRows d has → AreChangedRows d (with_one d update) rows
    → HasRows (with_one d update) (with_reply has (Accepted rows))
changed d update rows has sound reader are =
    let plan = one_day_plan d reader.plan are.plan sound.airport.names sound.names reader.of_day are.of_day in
    let had = one_rows d are.plan sound.airport.names sound.names are.of_day reader.rows are.had (subst (λ p. AreRows d p reader.rows) plan reader.are) are.before in
    record {
      plan = are.next_plan;
      of_day = are.of_next;
      rows = are.has;
      are = are.after;
      each = λ name.
          ap (λ o. option_or (row_named rows name) o) (reader.each name ∙ ap (λ rs. row_named rs name) had)
          ∙ reply_suffices d update rows (sound_next d update sound) are name;
    }

refused : (d : DayRecord) (has : Reader) (word : RefusalWord) (reply : RowReply) → HasRows d has → reply ≡ Refused word → HasRows d (with_reply has reply)
refused d has word reply reader is = subst (λ r. HasRows d (with_reply has r)) (sym is) reader

-- one record more
one_more : (d : DayRecord) (update : Role × Update) (reply : RowReply) (has : Reader) → IsSound d → HasRows d has → (o : Option RefusalWord)
    → refusal d.airport d.journal update.0 update.1 ≡ o → IsRowReplyBy o d (with_one d update) reply → HasRows (with_one d update) (with_reply has reply)
one_more d update (Accepted rows) has sound reader None e is = changed d update rows has sound reader is
one_more d update (Refused word) has sound reader None e is = absurd is
one_more d update reply has sound reader (Some word) e is =
    subst (λ (o : Option RefusalWord). HasRows (record { airport = d.airport; journal = if is_none o then d.journal ++ update.1 ∷ [] else d.journal }) (with_reply has reply)) (sym e)
    (refused d has word reply reader is)

pub keeps_up : (d : DayRecord) (records : List (Result (Role × Update) RefusalWord)) (replies : List RowReply) (has : Reader) → IsSound d → HasRows d has
    → AreRowReplies d records replies → HasRows (day_after_all d records) (with_replies has replies)
keeps_up d [] [] has sound reader are = reader
keeps_up d [] (reply ∷ replies) has sound reader are = absurd are
keeps_up d (spelled ∷ records) [] has sound reader are = absurd are
keeps_up d (Ok update ∷ records) (reply ∷ replies) has sound reader are =
    keeps_up (with_one d update) records replies (with_reply has reply) (sound_next d update sound)
    (one_more d update reply has sound reader (refusal d.airport d.journal update.0 update.1) refl are.0) are.1
keeps_up d (Err word ∷ records) (reply ∷ replies) has sound reader are =
    keeps_up d records replies (with_reply has reply) sound (refused d has word reply reader are.0) are.1
