-- What a day replies to a record.
use Rattle.std.specs.Prelude.{◌≡◌, ℕ, List, [], ◌∷◌, ◌++◌, codes, flat_map, length, Option, None, Some, Result, Ok, Err}
use Rattle.std.specs.Fmt.{decimal}
use Rattle.std.specs.List.{concat}
use Rattle.cdm_time.specs.declared.calendar.CalendarDate.{CalendarDate}
use Rattle.cdm_flight.specs.Accepted.{after_one, refusal}
use Rattle.cdm_flight.specs.Words.{text_of}
use Rattle.cdm_flight.specs.declared.role.Role.{Role}
use Rattle.cdm_flight.specs.declared.update.Update.{Update}
use Rattle.cdm_flight.specs.declared.word.RefusalWord.{RefusalWord}
use Rattle.cdm_plan.specs.Day.{DayRecord}
use Rattle.cdm_plan.specs.DayPlan.{IsDayPlan}
use Rattle.cdm_report.specs.Report.{line_end}
use Rattle.cdm_sequence.specs.declared.plan.Plan.{Plan}
use Rattle.cdm_row.specs.Changed.{changed_rows}
use Rattle.cdm_row.specs.Rows.{AreRows}
use Rattle.cdm_row.specs.declared.row.Row.{Row}
use Rattle.cdm_view.specs.Standings.{IsChangedTo, standing_line}
use Rattle.cdm_view.specs.declared.standing.Standing.{Standing}
use Rattle.cdm_desk.specs.declared.reply.DeskReply.{DeskReply}
use Rattle.cdm_desk.specs.declared.reply.DeskReply.TheVariants.{Accepted, Refused}
use Rattle.cdm_desk.specs.declared.reply.RowReply.{RowReply}
use Rattle.cdm_desk.specs.declared.reply.RowReply.TheVariants as row_reply

-- the word that refuses a record, in itself or by its update
abbrev pub word_for : DayRecord → Result (Role × Update) RefusalWord → Option RefusalWord
word_for d (Ok update) = refusal d.airport d.journal update.0 update.1
word_for d (Err word) = Some word

-- the day after an update, where no word refuses it, else the day as it was
abbrev pub with_one : DayRecord → Role × Update → DayRecord
with_one d update = record d { journal = after_one d.airport d.journal update }

-- the day after a record: with its update, where no word refuses it
abbrev pub day_after : DayRecord → Result (Role × Update) RefusalWord → DayRecord
day_after d (Ok update) = with_one d update
day_after d (Err word) = d

-- the reply where this word refuses the record, or none does
abbrev pub IsReplyBy : Option RefusalWord → DayRecord → DayRecord → DeskReply → Type 0
IsReplyBy (Some word) d next reply = reply ≡ Refused word
IsReplyBy None d next (Accepted changed) = IsChangedTo d next changed
IsReplyBy None d next (Refused word) = ⊥

-- the reply to a record
abbrev pub IsReply : DayRecord → Result (Role × Update) RefusalWord → DeskReply → Type 0
IsReply d spelled reply = IsReplyBy (word_for d spelled) d (day_after d spelled) reply

-- The reply by Rows.

-- these are the changed Rows from a day to another, by their plans
pub record AreChangedRows (d next : DayRecord) (changed : List Row) : Type 0 where
  pub plan : Plan
  pub next_plan : Plan
  pub of_day : IsDayPlan d plan
  pub of_next : IsDayPlan next next_plan
  pub had : List Row
  pub has : List Row
  pub before : AreRows d plan had
  pub after : AreRows next next_plan has
  pub changes : changed ≡ changed_rows had has

-- the reply where this word refuses the record, or none does
abbrev pub IsRowReplyBy : Option RefusalWord → DayRecord → DayRecord → RowReply → Type 0
IsRowReplyBy (Some word) d next reply = reply ≡ row_reply.Refused word
IsRowReplyBy None d next (row_reply.Accepted changed) = AreChangedRows d next changed
IsRowReplyBy None d next (row_reply.Refused word) = ⊥

abbrev pub IsRowReply : DayRecord → Result (Role × Update) RefusalWord → RowReply → Type 0
IsRowReply d spelled reply = IsRowReplyBy (word_for d spelled) d (day_after d spelled) reply

-- Texts.

-- a standing's line
abbrev pub changed_line : CalendarDate → Standing → List ℕ
changed_line day s = standing_line day s ++ line_end

-- the text of a reply to the record of this number
unfoldable pub reply_text : CalendarDate → ℕ → DeskReply → List ℕ
reply_text day number (Refused word) = concat (decimal number ∷ codes " REFUSED " ∷ text_of word ∷ line_end ∷ [])
reply_text day number (Accepted changed) =
    concat (decimal number ∷ codes " ACCEPTED " ∷ decimal (length changed) ∷ line_end ∷ []) ++ flat_map (changed_line day) changed
