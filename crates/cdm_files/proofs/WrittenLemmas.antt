-- Written records are read back.
use Rattle.cdm_files.proofs.Words.{◌≡◌, ◌<◌, ◌≤◌, ◌+◌, ◌∷◌, ◌++◌, ◌∙◌, ◌==◌, ◌||◌, ℕ, zero, suc, false, List, [], length, map, Option, Some}
use Rattle.cdm_files.proofs.Words.{IsTrue, refl, sym, ap, arith, append_assoc, All-head, All-tail, All, filter_map, flat_map, list_any}
use Rattle.cdm_files.{proofs.Words.{list_all, cons_option, default_config, records_from, State}, specs.Records.records_of}
use Rattle.cdm_files.specs.Written.{AreWritten, Field, InQuotes, Line, LineEnd, Lf, CrLf, Plain, after_commas, end_of, field_bytes}
use Rattle.cdm_files.specs.Written.{field_text, is_field, is_mark, is_written, joined, record_of, records_in, text_of}
use Rattle.std.proofs.lemmas.{Bool.{and_parts, not-true, or_parts}, List.{length-append, append-nil}}
use Rattle.csv.specs.{Machine.{Read, next_record}, Writing.{default_writer, escaped, needs_byte}}
use Rattle.csv.proofs.RoundTrip.{plain-run, quoted-run, record-same, start-same}
use Rattle.csv.specs.declared.parser.State.TheVariants as st

-- the state of the reader after the bytes of a field
abbrev state_in : Field → State
state_in (Plain []) = st.StartField
state_in (Plain (b ∷ bs)) = st.InField
state_in (InQuotes x) = st.AfterQuote

-- the state and the bytes after a record whose line ends so
abbrev state_after : LineEnd → State
state_after Lf = st.StartRecord
state_after CrLf = st.AfterCr

abbrev bytes_after : LineEnd → List ℕ → List ℕ
bytes_after Lf tail = tail
bytes_after CrLf tail = 10 ∷ tail

-- Fields.

unmarked_byte : (b : ℕ) → is_mark b ≡ false → ((b == 34) ≡ false) × ((b == 13) ≡ false) × ((b == 10) ≡ false) × (needs_byte default_writer b ≡ false)
unmarked_byte b e =
    let n = or_parts ((b == 44) || (b == 34) || (b == 13)) (b == 10) e in
    let r = or_parts ((b == 44) || (b == 34)) (b == 13) n.0 in
    let q = or_parts (b == 44) (b == 34) r.0 in
    (q.1, r.1, n.1, rw (q.0, q.1, r.1, n.1))

pub unmarked : (x : List ℕ) → list_any is_mark x ≡ false → list_any (needs_byte default_writer) x ≡ false
unmarked [] e = refl
unmarked (b ∷ bs) e =
    let q = or_parts (is_mark b) (list_any is_mark bs) e in
    rw ((unmarked_byte b q.0).3, unmarked bs q.1) refl

-- a field, from where one may start
one-field : (fields : List (List ℕ)) (f : Field) (tail : List ℕ) → IsTrue (is_field f)
    → next_record default_config st.StartField fields [] (field_text f ++ tail) ≡ next_record default_config (state_in f) fields (field_bytes f) tail
unfolding next_record
one-field fields (Plain []) tail h = refl
one-field fields (Plain (b ∷ bs)) tail h =
    let e = not-true (list_any is_mark (b ∷ bs)) h in
    let q = unmarked_byte b (or_parts (is_mark b) (list_any is_mark bs) e).0 in
    start-same fields [] b (bs ++ tail) q.0 ∙ plain-run fields [] (b ∷ bs) tail (unmarked (b ∷ bs) e)
one-field fields (InQuotes x) tail h =
    ap (next_record default_config st.InQuoted fields []) (append_assoc (escaped default_writer x) (34 ∷ []) tail) ∙ quoted-run fields [] x tail

-- a comma ends a field
comma : (fields : List (List ℕ)) (f : Field) (tail : List ℕ)
    → next_record default_config (state_in f) fields (field_bytes f) (44 ∷ tail) ≡ next_record default_config st.StartField (fields ++ field_bytes f ∷ []) [] tail
unfolding next_record
comma fields (Plain []) tail = refl
comma fields _ tail = refl

-- and so does the end of a line
line_end : (fields : List (List ℕ)) (f : Field) (end : LineEnd) (tail : List ℕ)
    → next_record default_config (state_in f) fields (field_bytes f) (end_of end ++ tail) ≡ Some (fields ++ field_bytes f ∷ [], state_after end, bytes_after end tail)
unfolding next_record
line_end fields (Plain []) Lf tail = refl
line_end fields (Plain (b ∷ bs)) Lf tail = refl
line_end fields (InQuotes x) Lf tail = refl
line_end fields _ _ tail = refl

-- and that of the text
text_end : (fields : List (List ℕ)) (f : Field) → next_record default_config (state_in f) fields (field_bytes f) [] ≡ Some (fields ++ field_bytes f ∷ [], st.StartRecord, [])
unfolding next_record
text_end fields (Plain []) = refl
text_end fields _ = refl

-- Records.

-- what the reader gives where these bytes end a field and its record
abbrev Ends : (List (List ℕ) → Option Read) → List ℕ → Type 0
Ends ended tail = (fields : List (List ℕ)) (f : Field) → next_record default_config (state_in f) fields (field_bytes f) tail ≡ ended (fields ++ field_bytes f ∷ [])

module _ (ended : List (List ℕ) → Option Read) (tail : List ℕ) (ends : Ends ended tail) where
  -- a field and further ones
  further : (fields : List (List ℕ)) (f : Field) (fs : List Field) → IsTrue (list_all is_field fs)
      → next_record default_config (state_in f) fields (field_bytes f) (after_commas fs ++ tail) ≡ ended (fields ++ map field_bytes (f ∷ fs))
  unfolding after_commas
  further fields f [] h = ends fields f
  further fields f (g ∷ gs) h =
      let each = and_parts (is_field g) (list_all is_field gs) h in
      let before = fields ++ field_bytes f ∷ [] in
      comma fields f ((field_text g ++ after_commas gs) ++ tail)
      ∙ (ap (next_record default_config st.StartField before []) (append_assoc (field_text g) (after_commas gs) tail)
      ∙ (one-field before g (after_commas gs ++ tail) each.0
      ∙ (further before g gs each.1 ∙ ap ended (append_assoc fields (field_bytes f ∷ []) (map field_bytes (g ∷ gs))))))

  -- a record starts as its first field does
  starts : (f : Field) (fs : List Field) → IsTrue (is_written (f ∷ fs))
      → next_record default_config st.StartRecord [] [] (field_text f ++ (after_commas fs ++ tail)) ≡ next_record default_config st.StartField [] [] (field_text f ++ (after_commas fs ++ tail))
  unfolding next_record after_commas
  starts (Plain []) [] h = cc
  starts (Plain []) (g ∷ gs) h = refl
  starts (Plain (b ∷ bs)) fs h =
      let first = and_parts _ _ (and_parts _ _ h).0 in
      let q = unmarked_byte b (or_parts (is_mark b) (list_any is_mark bs) (not-true (list_any is_mark (b ∷ bs)) first.0)).0 in
      record-same [] [] b (bs ++ (after_commas fs ++ tail)) q.1 q.2
  starts (InQuotes x) fs h = refl

  whole : (f : Field) (fs : List Field) → IsTrue (is_written (f ∷ fs)) → next_record default_config st.StartRecord [] [] (joined (f ∷ fs) ++ tail) ≡ ended (map field_bytes (f ∷ fs))
  whole f fs h =
      let each = and_parts (is_field f) (list_all is_field fs) (and_parts _ _ h).0 in
      ap (next_record default_config st.StartRecord [] []) (append_assoc (field_text f) (after_commas fs) tail)
      ∙ (starts f fs h ∙ (one-field [] f (after_commas fs ++ tail) each.0 ∙ further [] f fs each.1))

-- Lines.

-- a line feed after a record is passed over
after_line : (n : ℕ) (end : LineEnd) (tail : List ℕ) → records_from default_config n (state_after end) (bytes_after end tail) ≡ records_from default_config n st.StartRecord tail
unfolding records_from next_record
after_line (suc n) CrLf tail = refl
after_line _ _ tail = refl

-- and so is a blank line
blank_line : (n : ℕ) (end : LineEnd) (tail : List ℕ) → records_from default_config n st.StartRecord (end_of end ++ tail) ≡ records_from default_config n st.StartRecord tail
unfolding records_from next_record
blank_line (suc n) Lf tail = refl
blank_line _ _ tail = refl

no_more : (n : ℕ) → records_from default_config n st.StartRecord [] ≡ []
unfolding records_from next_record
no_more zero = refl
no_more (suc n) = refl

-- a last line that nothing ends
last_read : (n : ℕ) (last : List Field) → IsTrue (is_written last) → records_from default_config (suc n) st.StartRecord (joined last) ≡ filter_map record_of (last ∷ [])
unfolding records_from next_record
last_read n [] h = refl
last_read n (f ∷ fs) h =
    let one : next_record default_config st.StartRecord [] [] (joined (f ∷ fs)) ≡ Some (map field_bytes (f ∷ fs), st.StartRecord, []) =
    ap (next_record default_config st.StartRecord [] []) (sym (append-nil (joined (f ∷ fs)))) ∙ whole (λ us. Some (us, st.StartRecord, [])) [] text_end f fs h in
    rw one (ap (λ rs. map field_bytes (f ∷ fs) ∷ rs) (no_more n))

end_length : (end : LineEnd) → 0 < length (end_of end)
end_length Lf = omega arith
end_length CrLf = omega arith

-- a line before others
line_read : (n : ℕ) (fs : List Field) (end : LineEnd) (rest : List ℕ) (records : List (List (List ℕ))) → IsTrue (is_written fs)
    → ((k : ℕ) → n ≤ k → length rest < k → records_from default_config k st.StartRecord rest ≡ records) → length ((joined fs ++ end_of end) ++ rest) < suc n
    → records_from default_config (suc n) st.StartRecord ((joined fs ++ end_of end) ++ rest) ≡ cons_option (record_of fs) records
unfolding records_from
line_read n [] end rest records h later few = blank_line (suc n) end rest ∙ later (suc n) (omega arith) (omega (arith, length-append (end_of end) rest))
line_read n (f ∷ fs) end rest records h later few =
    let one = ap (next_record default_config st.StartRecord [] []) (append_assoc (joined (f ∷ fs)) (end_of end) rest)
    ∙ whole (λ us. Some (us, state_after end, bytes_after end rest)) (end_of end ++ rest) (λ us g. line_end us g end rest) f fs h in
    let long = length-append (joined (f ∷ fs) ++ end_of end) rest in
    let ended = length-append (joined (f ∷ fs)) (end_of end) in
    let some = end_length end in
    rw one (ap (λ rs. map field_bytes (f ∷ fs) ∷ rs) (after_line n end rest ∙ later n (omega arith) (omega arith)))

abbrev pub Told : Line → Type 0
Told line = IsTrue (is_written line.fields)

-- each line after the other
lines_read : (n : ℕ) (lines : List Line) (last : List Field) → All Told lines → IsTrue (is_written last) → length (text_of lines last) < n
    → records_from default_config n st.StartRecord (text_of lines last) ≡ records_in lines last
lines_read zero lines last each at_end few = absurd (omega arith)
lines_read (suc n) [] last each at_end few = last_read n last at_end
lines_read (suc n) (line ∷ lines) last each at_end few =
    let split = append_assoc (joined line.fields ++ end_of line.end) (flat_map (λ l. joined l.fields ++ end_of l.end) lines) (joined last) in
    rw split (line_read n line.fields line.end (text_of lines last) (records_in lines last) (All-head Told line lines each)
    (λ k le short. lines_read k lines last (All-tail Told line lines each) at_end short) (rw split at few))

pub read_back : (lines : List Line) (last : List Field) → AreWritten lines last → records_of (text_of lines last) ≡ records_in lines last
unfolding records_of
read_back lines last h =
    let text = text_of lines last in
    ap (λ (t : List ℕ). records_from default_config (length t + 1) st.StartRecord t) h.unmarked ∙ lines_read (length text + 1) lines last h.each h.at_end (omega arith)
