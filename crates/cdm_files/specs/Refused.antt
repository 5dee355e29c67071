-- The updates that a feed spells, and its refused records.
use Rattle.std.specs.Prelude.{ℕ, ◌+◌, List, [], ◌∷◌, ◌++◌, Option, None, Some, Result, Ok, Err, map}
use Rattle.std.specs.List.{filter_map}
use Rattle.std.specs.Option.{option_map, option_to_list}
use Rattle.std.specs.Result.{result_err, result_ok}
use Rattle.cdm_flight.specs.Accepted.{after_one, refusal}
use Rattle.cdm_flight.specs.Journal.{AirportRows}
use Rattle.cdm_flight.specs.declared.role.Role.{Role}
use Rattle.cdm_flight.specs.declared.update.Update.{Update}
use Rattle.cdm_flight.specs.declared.word.RefusalWord.{RefusalWord}
use Rattle.cdm_day.specs.declared.reply.Reply.{Reply}
use Rattle.cdm_day.specs.declared.reply.Reply.TheVariants.{Accepted, Refused}

-- what a record spells: a role and an update, or the word that refuses it
abbrev pub Spelled : Type 0
Spelled = Result (Role × Update) RefusalWord

-- the updates that the records spell, in order
unfoldable pub updates_in : List Spelled → List (Role × Update)
updates_in records = filter_map result_ok records

-- the word that refuses a record in itself, or none
abbrev pub OwnWord : Type 0
OwnWord = Option RefusalWord

-- each record's own word
abbrev pub own_words : List Spelled → List OwnWord
own_words records = map result_err records

-- a record by its number, if a word refuses it
abbrev pub if_refused : ℕ → Option RefusalWord → List (ℕ × RefusalWord)
if_refused number refusal = option_to_list (option_map (λ word. (number, word)) refusal)

-- the refused records, by number: those that spell no update, and those whose update is refused after
-- the updates that were accepted before it. The first record has this number.
unfoldable pub refused_in : AirportRows → List Update → ℕ → List Spelled → List (ℕ × RefusalWord)
refused_in g a number [] = []
refused_in g a number (Err word ∷ later) = (number, word) ∷ refused_in g a (number + 1) later
refused_in g a number (Ok p ∷ later) = if_refused number (refusal g a p.0 p.1) ++ refused_in g (after_one g a p) (number + 1) later

-- the word by which a reply refuses an update
abbrev pub word_in : Reply → Option RefusalWord
word_in Accepted = None
word_in (Refused word) = Some word

-- the refused records, by number, where these are their own words: those that have one, and those whose update has a
-- reply that refuses it. The first record has this number, and the replies are those to the updates, in order.
unfoldable pub refused_by_replies : ℕ → List OwnWord → List Reply → List (ℕ × RefusalWord)
refused_by_replies number [] replies = []
refused_by_replies number (Some word ∷ later) replies = (number, word) ∷ refused_by_replies (number + 1) later replies
refused_by_replies number (None ∷ later) [] = refused_by_replies (number + 1) later []
refused_by_replies number (None ∷ later) (reply ∷ replies) =
    if_refused number (word_in reply) ++ refused_by_replies (number + 1) later replies
