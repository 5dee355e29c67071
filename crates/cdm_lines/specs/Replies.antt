-- What each reply of a served day keeps.
use Rattle.std.specs.Prelude.{⊤, ℕ, Bool, List, [], ◌∷◌}
use Rattle.cdm_kinds.specs.declared.format.Format.TheVariants.{Json}
use Rattle.cdm_port.specs.Event.{Event}
use Rattle.cdm_port.specs.Event.Event.{Replied}
use Rattle.cdm_port.specs.Stop.{IsPrefix}
use Rattle.cdm_serve.specs.declared.form.ReplyForm.{ReplyForm}
use Rattle.cdm_lines.specs.Lines.{IsLine}

-- replies as lines of JSON, with sentences or without
abbrev pub json_form : Bool → ReplyForm
json_form sentences = record { format = Json; sentences = sentences }

-- where it is a reply, it is one line
abbrev pub RepliesLine : Event → Type 0
RepliesLine (Replied text) = IsLine text
RepliesLine other = ⊤

-- where it is a reply, it is the first bytes of a line
abbrev pub BeginsLine : Event → Type 0
BeginsLine (Replied text) = (line : List ℕ) × IsLine line × IsPrefix text line
BeginsLine other = ⊤

-- an event before these others: only the last may have stopped in its midst
abbrev pub RepliesBefore : Event → List Event → Type 0
RepliesBefore event [] = BeginsLine event
RepliesBefore event (next ∷ later) = RepliesLine event

-- each reply is one line, of which the last may be incomplete
abbrev pub AreReplyLines : List Event → Type 0
AreReplyLines [] = ⊤
AreReplyLines (event ∷ later) = RepliesBefore event later × AreReplyLines later
