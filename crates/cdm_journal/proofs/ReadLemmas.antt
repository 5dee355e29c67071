-- A journal is read back.
use Rattle.std.proofs.Common.{◌≡◌, ◌<◌, ◌≤◌, ◌+◌, ◌∙◌, ℕ, zero, suc, List, [], ◌∷◌, ◌++◌, length, map, Ok, refl, ap, arith}
use Rattle.std.proofs.lemmas.List.{length-append, map-append, append-nil, Concat.flat_map-append, Elements.{All-head, All-tail}}
use Rattle.std.specs.List.{All}
use Rattle.csv.specs.{Reading.{default_config, records_from, strip_bom}, Machine.next_record, Writing.{fields_text, is_blank, read_back}}
use Rattle.csv.proofs.RoundTrip.{read-write}
use Rattle.csv.specs.declared.parser.State.TheVariants as st
use Rattle.cdm_flight.specs.{Accepted.accepted, Journal.AirportRows, declared.update.Update.Update}
use Rattle.cdm_files.specs.{FeedDay.{accepted_in, refusals_in}, Parsing.parse_of, Records.records_of}
use Rattle.cdm_files.specs.{Refused.{Spelled, refused_in, updates_in}, Roles.role_of}
use Rattle.cdm_files.proofs.StretchLemmas.{accepted-both, refused-both}
use Rattle.cdm_journal.specs.{Journal.{journal_line, journal_text}, Laws.{IsTaken, Make}}
use Rattle.cdm_journal.proofs.RecordLemmas.{Spells, both-spelled, each-taken, of-role}
use Rattle.cdm_time.specs.declared.calendar.CalendarDate.{CalendarDate}

-- Lines.

-- the line of a record that spells an update begins with a role's word, and with no byte order mark
line-unmarked : (day : CalendarDate) (fields : List (List ℕ)) (later : List ℕ) → Spells day fields → strip_bom (journal_line fields ++ later) ≡ journal_line fields ++ later
unfolding parse_of journal_line is_blank fields_text strip_bom
line-unmarked day (x ∷ y ∷ fields) later is =
    of-role (λ z. strip_bom (journal_line (z ∷ y ∷ fields) ++ later) ≡ journal_line (z ∷ y ∷ fields) ++ later) x refl refl refl refl refl
    (both-spelled (role_of x) _ is).0
line-unmarked day _ later is = cc

-- and it is read back as it is
line-back : (day : CalendarDate) (fields : List (List ℕ)) → Spells day fields → read_back fields ≡ fields
unfolding parse_of
line-back day [] is = cc
line-back day (x ∷ fields) is = refl

-- Journals.

rows-few : (records : List (List (List ℕ))) → length records ≤ length (journal_text records)
unfolding journal_text journal_line
rows-few [] = omega arith
rows-few (fields ∷ records) = simp length-append (omega (arith, rows-few records))

unmarked : (day : CalendarDate) (records : List (List (List ℕ))) → All (Spells day) records → strip_bom (journal_text records) ≡ journal_text records
unfolding journal_text strip_bom
unmarked day [] each = refl
unmarked day (fields ∷ records) each = line-unmarked day fields (journal_text records) (All-head (Spells day) fields records each)

rows-read : (day : CalendarDate) (n : ℕ) (records : List (List (List ℕ))) → length records < n → All (Spells day) records → records_from default_config n st.StartRecord (journal_text records) ≡ records
unfolding records_from next_record journal_text journal_line
rows-read day zero records few each = absurd (omega (arith, few))
rows-read day (suc n) [] few each = refl
rows-read day (suc n) (fields ∷ records) few each =
    let later = rows-read day n records (omega (arith, few)) (All-tail (Spells day) fields records each) in
    rw (read-write fields (journal_text records), line-back day fields (All-head (Spells day) fields records each), later) refl

module _ (g : AirportRows) where
  pub reads-back : (records : List (List (List ℕ))) (updates : List Update) → Make g records updates → records_of (journal_text records) ≡ records
  unfolding records_of
  reads-back records updates make =
      let each = (each-taken g [] 1 records make.none_refused (omega arith)).0 in
      ap (λ (t : List ℕ). records_from default_config (length t + 1) st.StartRecord t) (unmarked g.day records each)
      ∙ rows-read g.day (length (journal_text records) + 1) records (omega (arith, rows-few records)) each

  pub has-updates : (records : List (List (List ℕ))) (updates : List Update) → Make g records updates
      → (refusals_in g (journal_text records) ≡ []) × (accepted_in g (journal_text records) ≡ updates)
  unfolding accepted_in refusals_in
  has-updates records updates make =
      let back = ap (map (parse_of g.day)) (reads-back records updates make) in
      (ap (refused_in g [] 1) back ∙ make.none_refused, ap (λ (rs : List Spelled). accepted g [] (updates_in rs)) back ∙ make.accepts)

  pub feed-makes : (feed : List ℕ) → refusals_in g feed ≡ [] → Make g (records_of feed) (accepted_in g feed)
  unfolding accepted_in refusals_in
  feed-makes feed none = record { none_refused = none; accepts = refl }

  pub adds-update : (records : List (List (List ℕ))) (updates : List Update) (fields : List (List ℕ)) (update : Update)
      → Make g records updates → IsTaken g updates fields update → Make g (records ++ fields ∷ []) (updates ++ update ∷ [])
  unfolding accepted refused_in updates_in
  adds-update records updates fields update make (role, spells, free) =
      let before = map (parse_of g.day) records in
      let all : map (parse_of g.day) (records ++ fields ∷ []) ≡ before ++ Ok (role, update) ∷ [] =
      map-append (parse_of g.day) records (fields ∷ []) ∙ ap (λ (r : Spelled). before ++ r ∷ []) spells in
      let are = make.accepts in
      record {
        none_refused = rw (all, refused-both g [] 1 before (Ok (role, update) ∷ []), make.none_refused, are, free) refl;
        accepts = rw (all, accepted-both g [] before (Ok (role, update) ∷ []), are, free) refl;
      }

pub adds-line : (records : List (List (List ℕ))) (fields : List (List ℕ)) → journal_text (records ++ fields ∷ []) ≡ journal_text records ++ journal_line fields
unfolding journal_text
adds-line records fields = flat_map-append journal_line records (fields ∷ []) ∙ ap (λ (l : List ℕ). journal_text records ++ l) (append-nil (journal_line fields))
