-- Records that are posted to a served day, and their replies.
use Rattle.std.specs.Prelude.{◌≡◌, ℕ, List, length, Result}
use Rattle.cdm_desk.specs.Replies.{IsReply, IsRowReply, day_after, reply_text}
use Rattle.cdm_desk.specs.declared.reply.DeskReply.{DeskReply}
use Rattle.cdm_desk.specs.declared.reply.RowReply.{RowReply}
use Rattle.cdm_flight.specs.declared.role.Role.{Role}
use Rattle.cdm_flight.specs.declared.update.Update.{Update}
use Rattle.cdm_flight.specs.declared.word.RefusalWord.{RefusalWord}
use Rattle.cdm_json.specs.Records.{reply_line}
use Rattle.cdm_kinds.specs.declared.format.Format.{Format}
use Rattle.cdm_kinds.specs.declared.format.Format.TheVariants.{Json, Text}
use Rattle.cdm_plan.specs.Day.{DayRecord}

-- the text replies to a record of this number; a line of JSON has the Rows that changed, and how many updates the day has then
abbrev pub IsRecordText : Format → DayRecord → ℕ → Result (Role × Update) RefusalWord → List ℕ → Type 0
IsRecordText Text d number spelled text = (reply : DeskReply) × IsReply d spelled reply × (text ≡ reply_text d.airport.day number reply)
IsRecordText Json d number spelled text =
    (reply : RowReply) × IsRowReply d spelled reply × (text ≡ reply_line d.airport.day number (length (day_after d spelled).journal) reply)
