-- Replies that refuse, with a sentence that says why.
use Rattle.std.specs.Prelude.{◌≡◌, ℕ, Bool, true, false, List, [], ◌∷◌, codes, is_none, is_some, Option, None, Some, if◌then◌else◌}
use Rattle.std.specs.Fmt.{decimal}
use Rattle.std.specs.List.{concat}
use Rattle.cdm_check.specs.Check.{IsSentence, cause_members}
use Rattle.cdm_flight.specs.Journal.{flight_of}
use Rattle.cdm_flight.specs.Words.{text_of}
use Rattle.cdm_flight.specs.declared.word.RefusalWord.{RefusalWord}
use Rattle.cdm_flight.specs.declared.word.RefusalWord.TheVariants.{Unknown}
use Rattle.cdm_json.specs.Lines.{answer_line}
use Rattle.cdm_kinds.specs.declared.format.Format.{Format}
use Rattle.cdm_kinds.specs.declared.format.Format.TheVariants.{Json, Text}
use Rattle.cdm_plan.specs.Day.{DayRecord}
use Rattle.cdm_report.specs.Report.{line_end}
use Rattle.cdm_view.specs.Load.{unknown_in}
use Rattle.cdm_view.specs.declared.question.Question.{Question}
use Rattle.cdm_view.specs.declared.question.Question.TheVariants.{Load, Why}
use Rattle.cdm_serve.specs.Asked.{helpless_by}
use Rattle.cdm_serve.specs.declared.asked.Asked.{Asked}
use Rattle.cdm_serve.specs.declared.asked.Asked.TheVariants.{Options, Plan, View}

-- whether the day doesn't know what a question of a view asks for
abbrev pub is_unknown : DayRecord → Question → Bool
is_unknown d (Why name) = is_none (flight_of d.airport d.journal name)
is_unknown d (Load runway) = is_some (unknown_in d.airport runway)

-- the word that refuses a question, if one does
abbrev pub word_asked : DayRecord → Asked → Option RefusalWord
word_asked d Plan = None
word_asked d (View q) = if is_unknown d q then Some Unknown else None
word_asked d (Options name) = helpless_by (flight_of d.airport d.journal name)

-- a refusal as text: the number, the word and the sentence
unfoldable pub refused_text : ℕ → RefusalWord → List ℕ → List ℕ
refused_text number word sentence =
    concat (decimal number ∷ codes " REFUSED " ∷ text_of word ∷ codes ": " ∷ sentence ∷ line_end ∷ [])

-- a refusal with its sentence
abbrev pub sentence_line : Format → ℕ → RefusalWord → List ℕ → List ℕ
sentence_line Text number word sentence = refused_text number word sentence
sentence_line Json number word sentence = answer_line (Some number) (codes "REFUSED") (cause_members word sentence)

-- the reply of this number refuses by the word, and a sentence says why; what it says is only tested
pub record IsExplained (format : Format) (number : ℕ) (word : RefusalWord) (text : List ℕ) : Type 0 where
  pub sentence : List ℕ
  pub of_words : IsSentence sentence
  pub bytes : text ≡ sentence_line format number word sentence

-- the reply of this number, which a word refuses or none: one that refuses has a sentence where sentences are told, and each other is plain
abbrev pub IsToldBy : Option RefusalWord → Bool → Format → ℕ → (List ℕ → Type 0) → List ℕ → Type 0
IsToldBy None sentences format number IsPlain text = IsPlain text
IsToldBy (Some word) true format number IsPlain text = IsExplained format number word text
IsToldBy (Some word) false format number IsPlain text = IsPlain text
