-- Questions of a served day, and their replies.
use Rattle.std.specs.Prelude.{◌≡◌, ◌⊎◌, ◌==◌, ℕ, List, [], ◌∷◌, ◌++◌, codes, count_by, Option, None, Some, if◌then◌else◌}
use Rattle.std.specs.Fmt.{decimal}
use Rattle.std.specs.List.{concat}
use Rattle.std.specs.Option.{IsSome}
use Rattle.cdm_desk.specs.Replies.{reply_text}
use Rattle.cdm_desk.specs.declared.reply.DeskReply.TheVariants.{Refused}
use Rattle.cdm_flight.specs.Journal.{flight_of}
use Rattle.cdm_flight.specs.Record.{is_planned}
use Rattle.cdm_flight.specs.declared.flight.Flight.{Flight}
use Rattle.cdm_flight.specs.declared.flight.Status.{Status}
use Rattle.cdm_flight.specs.declared.flight.Status.TheVariants.{OffBlock}
use Rattle.cdm_flight.specs.declared.word.RefusalWord.{RefusalWord}
use Rattle.cdm_flight.specs.declared.word.RefusalWord.TheVariants as word
use Rattle.cdm_json.specs.Answers.{IsJsonAnswer}
use Rattle.cdm_json.specs.Plans.{IsPlanLine}
use Rattle.cdm_json.specs.Records.{refused_line}
use Rattle.cdm_json.specs.declared.plan.PlanOf.TheVariants as of
use Rattle.cdm_kinds.specs.declared.format.Format.{Format}
use Rattle.cdm_kinds.specs.declared.format.Format.TheVariants.{Json, Text}
use Rattle.cdm_options_text.specs.Texts.{IsOptionsReply, IsOptionsText}
use Rattle.cdm_plan.specs.Day.{DayRecord}
use Rattle.cdm_plan.specs.DayPlan.{IsDayPlan}
use Rattle.cdm_report.specs.Report.{line_end, report_bytes}
use Rattle.cdm_sequence.specs.declared.plan.Plan.{Plan}
use Rattle.cdm_view.specs.Load.{unknown_in}
use Rattle.cdm_view.specs.Questions.{IsAnswer}
use Rattle.cdm_view.specs.declared.question.Question.{Question}
use Rattle.cdm_view.specs.declared.question.Question.TheVariants as question
use Rattle.cdm_serve.specs.declared.asked.Asked.{Asked}
use Rattle.cdm_serve.specs.declared.asked.Asked.TheVariants as asked

-- the word of a question
abbrev pub word_of : Question → List ℕ
word_of (question.Why name) = codes "WHY"
word_of (question.Load runway) = codes "LOAD"

-- a number, a word, how many lines follow, and these
unfoldable pub told_text : ℕ → List ℕ → List ℕ → List ℕ
told_text number word body =
    concat (decimal number ∷ codes " " ∷ word ∷ codes " " ∷ decimal (count_by (λ byte. byte == 10) body) ∷ line_end ∷ []) ++ body

-- the day doesn't know the flight, or its airport has no such runway
abbrev pub IsUnknown : DayRecord → Question → Type 0
IsUnknown d (question.Why name) = flight_of d.airport d.journal name ≡ None
IsUnknown d (question.Load runway) = IsSome (unknown_in d.airport runway)

-- the word that refuses a question of a flight that isn't on its stand: it is off-block, or else airborne or cancelled
abbrev pub word_at : Status → RefusalWord
word_at (OffBlock aobt exot) = word.OffBlock
word_at other = word.Ended

-- the word that refuses to say what could help a flight, if one does: it isn't known, or not on its stand any more
abbrev pub helpless_by : Option Flight → Option RefusalWord
helpless_by None = Some word.Unknown
helpless_by (Some f) = if is_planned f.status then None else Some (word_at f.status)

-- the text replies with what could help a flight, whoever may send it, or with the word that refuses to tell
abbrev pub AreOptionsTold : Option RefusalWord → Format → DayRecord → ℕ → Option Flight → List ℕ → Type 0
AreOptionsTold (Some refusal) Text d number known text = text ≡ reply_text d.airport.day number (Refused refusal)
AreOptionsTold (Some refusal) Json d number known text = text ≡ refused_line number refusal
AreOptionsTold None Text d number known text = (body : List ℕ) × IsOptionsText Text d known None body × (text ≡ told_text number (codes "OPTIONS") body)
AreOptionsTold None Json d number known text = IsOptionsReply number d known None text

-- the same of the flight of this name
abbrev pub IsHelpTold : Format → DayRecord → ℕ → List ℕ → List ℕ → Type 0
IsHelpTold format d number name text = AreOptionsTold (helpless_by (flight_of d.airport d.journal name)) format d number (flight_of d.airport d.journal name) text

-- the text replies to a question of this number: the report of the day's plan without refused records, or the answer of a view, or the
-- same as a line of JSON; UNKNOWN refuses a flight or a runway that isn't there
abbrev pub IsAnswerText : Format → DayRecord → ℕ → Asked → List ℕ → Type 0
IsAnswerText Text d number asked.Plan text = (plan : Plan) × IsDayPlan d plan × (text ≡ told_text number (codes "PLAN") (report_bytes d.airport.day plan []))
IsAnswerText Text d number (asked.View q) text =
    (IsUnknown d q × (text ≡ reply_text d.airport.day number (Refused word.Unknown)))
    ⊎ ((plan : Plan) × (body : List ℕ) × IsDayPlan d plan × IsAnswer q d plan body × (text ≡ told_text number (word_of q) body))
IsAnswerText Text d number (asked.Options name) text = IsHelpTold Text d number name text
IsAnswerText Json d number asked.Plan text = (plan : Plan) × IsDayPlan d plan × IsPlanLine d (of.Asked number) plan [] text
IsAnswerText Json d number (asked.View q) text =
    (IsUnknown d q × (text ≡ refused_line number word.Unknown)) ⊎ ((plan : Plan) × IsDayPlan d plan × IsJsonAnswer q d (Some number) plan text)
IsAnswerText Json d number (asked.Options name) text = IsHelpTold Json d number name text
