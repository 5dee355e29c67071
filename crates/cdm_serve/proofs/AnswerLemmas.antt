-- What a line asks for, and what is done then.
use Rattle.std.{proofs.Common.{◌≡◌, ℕ, Bool, true, false, Result, Ok, Err, List, refl}, specs.Prelude.{if◌then◌else◌, bytes_eq, codes}}
use Rattle.cdm_time.specs.declared.calendar.CalendarDate.{CalendarDate}
use Rattle.cdm_files.specs.{Fields.field, Parsing.parse_of}
use Rattle.cdm_flight.specs.declared.word.RefusalWord.{RefusalWord}
use Rattle.cdm_journal.specs.Lines.{LineRecord, LineRecord.{Blank, One, Several}}
use Rattle.cdm_serve.specs.{Requests.{asked_by, request_in, request_of}, declared.asked.Asked.Asked, declared.request.Request.Request}
use Rattle.cdm_serve.specs.declared.request.Request.TheVariants.{Ask, Nothing, Post}

module _ (P : Request → Type 0) (day : CalendarDate) (fields : List (List ℕ)) (asked : (asked : Asked) → P (Ask asked)) (refused : (word : RefusalWord) → P (Post (Err word))) where
  either : (b : Bool) (question : Result Asked RefusalWord) (other : Request) → P other → P (if b then asked_by question else other)
  either true (Ok question) other is = asked question
  either true (Err word) other is = refused word
  either false question other is = is

  -- a record of these fields asks a question, or is refused, or is posted
  pub asks : P (Post (parse_of day fields)) → P (request_in day fields)
  unfolding request_in
  asks posted =
      either (bytes_eq (field fields 0) (codes "PLAN")) _ _
      (either (bytes_eq (field fields 0) (codes "WHY")) _ _
      (either (bytes_eq (field fields 0) (codes "LOAD")) _ _
      (either (bytes_eq (field fields 0) (codes "OPTIONS")) _ _ posted)))

-- only a blank line asks for nothing
pub blank_line : (day : CalendarDate) (line : LineRecord) → request_of day line ≡ Nothing → line ≡ Blank
blank_line day Blank is = refl
blank_line day (One fields) is = absurd (asks (λ request. request ≡ Nothing → ⊥) day fields (λ asked none. cc) (λ word none. cc) (λ none. cc) is)
blank_line day Several is = absurd (cc is)
