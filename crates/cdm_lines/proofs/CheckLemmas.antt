-- A check is lines.
use Rattle.std.proofs.{Common.{◌≡◌, ◌∙◌, ◌++◌, ℕ, Bool, true, false, List, [], ◌∷◌, length, take, refl, sym, ap}, lemmas.List.append-nil}
use Rattle.std.{proofs.lemmas.List.Elements.recursion_from_All, specs.List.concat}
use Rattle.cdm_flight.specs.{Words.text_of, declared.word.RefusalWord.RefusalWord}
use Rattle.cdm_kinds.specs.declared.format.Format.TheVariants.{Json as AsJson}
use Rattle.cdm_row.specs.Json.{object_of}
use Rattle.cdm_files.specs.Records.{records_of}
use Rattle.cdm_check.specs.Check.{AreFeedHintsOf, AreHintsOf, AreLinesOf, HasStandingHintOf, IsCheck, IsHintOf, IsLineOf, IsStandingHintOf}
use Rattle.cdm_check.specs.Check.{cause_members, counts_in, hint_members, last_line, last_members, most_told, place_members}
use Rattle.cdm_check.specs.Findings.{File, Finding, is_stood_for, told_in}
use Rattle.cdm_lines.{specs.Lines.{AreLines, FitsLine}, proofs.Texts.{fits, lines-all, lines-concat, lines-zip, lines_same, one_line}}
use Rattle.cdm_lines.proofs.Values.{small_decimal, small_object, small_string}

pub finding_fits : (path : List ℕ) (line number : ℕ) (word : RefusalWord) (sentence : List ℕ)
    → FitsLine (object_of (place_members path line number ++ cause_members word sentence))
finding_fits path line number word sentence =
    let members = place_members path line number ++ cause_members word sentence in
    fits (object_of members)
    (small_object 3 members
    (small_string 3 path, (small_decimal 3 line, (small_decimal 3 number, (small_string 3 (text_of word), (small_string 3 sentence, tt))))))

pub hint_fits : (path hint : List ℕ) → FitsLine (object_of (hint_members path hint))
hint_fits path hint = fits (object_of (hint_members path hint)) (small_object 3 (hint_members path hint) (small_string 3 path, (small_string 3 hint, tt)))

pub last_fits : (records refused : ℕ) → FitsLine (object_of (last_members records refused))
last_fits records refused = fits (object_of (last_members records refused)) (small_object 3 (last_members records refused) (small_decimal 3 records, (small_decimal 3 refused, tt)))

finding_line : (found : Finding) (text : List ℕ) → IsLineOf AsJson found text → AreLines text
finding_line found text is = one_line text (_, finding_fits found.path is.line found.number found.word is.sentence, is.bytes)

hint_line : (path text : List ℕ) → IsHintOf AsJson path text → AreLines text
hint_line path text is = one_line text (_, hint_fits path is.hint, is.bytes)

are_findings : (found : List Finding) (text : List ℕ) → AreLinesOf AsJson found text → AreLines text
are_findings found text are =
    lines_same text _ are.bytes (lines-concat are.lines (lines-zip (IsLineOf AsJson) finding_line found are.lines are.each))

are_hints : (path text : List ℕ) → AreHintsOf AsJson path text → AreLines text
are_hints path text are =
    lines_same text _ are.bytes
    (lines-concat are.lines (lines-all (IsHintOf AsJson path) (hint_line path) are.lines (recursion_from_All (IsHintOf AsJson path) are.lines are.each)))

standing_line : (path : List ℕ) (records : ℕ) (text : List ℕ) → IsStandingHintOf AsJson path records text → AreLines text
standing_line path records text is = one_line text (_, hint_fits path is.hint, is.bytes)

standing_hints : (path : List ℕ) (records : ℕ) (text : List ℕ) → HasStandingHintOf AsJson path records text → AreLines text
standing_hints path records text has =
    let two : has.first ++ has.others ≡ concat (has.first ∷ has.others ∷ []) = ap (λ (x : List ℕ). has.first ++ x) (sym (append-nil has.others)) in
    lines_same text _ (has.bytes ∙ two)
    (lines-concat (has.first ∷ has.others ∷ []) (standing_line path records has.first has.stands, (are_hints path has.others has.of_others, tt)))

feed_hints : (stood_for : Bool) (path : List ℕ) (records : ℕ) (text : List ℕ) → AreFeedHintsOf AsJson stood_for path records text → AreLines text
feed_hints true path records text has = standing_hints path records text has
feed_hints false path records text are = are_hints path text are

pub is_check : (a f s : File) (text : List ℕ) → IsCheck AsJson a f s text → AreLines text
is_check a f s text is =
    let counts = counts_in a f s in
    lines_same text _ is.bytes
    (lines-concat (is.hints_airport ∷ is.hints_feed ∷ is.hints_scenarios ∷ is.found ∷ last_line AsJson counts.records counts.refused (length (told_in a f s)) ∷ []) (
      are_hints a.path is.hints_airport is.of_airport,
      (
        feed_hints (is_stood_for a f) f.path (length (records_of f.bytes)) is.hints_feed is.of_feed,
        (
          are_hints s.path is.hints_scenarios is.of_scenarios,
          (
            are_findings (take most_told (told_in a f s)) is.found is.of_findings,
            (one_line _ (_, last_fits counts.records counts.refused, refl), tt),
          ),
        ),
      ),
    ))
