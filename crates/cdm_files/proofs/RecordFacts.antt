-- What a read of one record does to the records that a reader has still to give.
use Rattle.std.proofs.lemmas.Bool.{cases_Bool}
use Rattle.std.proofs.Common.{inr, rules, tests, ◌≡◌, ◌≤◌, ◌<◌, ◌+◌, ◌∷◌, ◌++◌, ◌∙◌, ℕ, zero, suc, Bool, true, false, not, List, [], length}
use Rattle.std.proofs.Common.{Option, Some, None, refl, sym, ap, arith, if◌then◌else◌, Bor, add-one, inl}
use Rattle.csv.specs.Machine.{Read, ends_at_end, fields_after, is_end, next_record, step}
use Rattle.csv.specs.Reading.{NextIs, ReadRecord, ReadsNext, default_config, is_flexible, pending_of, records_from, records_next}
use Rattle.csv.specs.{Reading.{took_first, strip_bom}, declared.reader.Reader.Reader, declared.parser.Action.Action}
use Rattle.csv.specs.declared.parser.State.{State}
use Rattle.csv.specs.declared.parser.State.TheVariants as st
use Rattle.cdm_files.specs.{Records.records_of, inner.RecordsLeft.{IsBetweenRecords, records_at, records_left, unread}}

-- an outcome that ends a record is between two records
abbrev pub EndsBetween : State × Action → Type 0
EndsBetween o = is_end o.1 ≡ true → ends_at_end o.0 ≡ false

-- where a byte ends a record, the machine is between two records
pub step-between : (s : State) (c : ℕ) → EndsBetween (step default_config s c)
step-between st.StartRecord c = search rules
step-between _ c = grind (arith, tests)

-- after a record the machine is between two records, and no more bytes are left than there were
record AfterRecord (xs : List ℕ) (p : Read) : Type 0 where
  pub state : ends_at_end p.1 ≡ false
  pub no_longer : length p.2 ≤ length xs

next_record-after : (s : State) (fields : List (List ℕ)) (field xs : List ℕ) (p : Read)
    → next_record default_config s fields field xs ≡ Some p → AfterRecord xs p
unfolding next_record
next_record-after s fields field [] p e = elim (cases_Bool (ends_at_end s)) [
  | inl h ↦
      let i : (fields ++ (field ∷ []), st.StartRecord, []) ≡ p = cc (rw h at e) in rw (← i) (record { state = refl; no_longer = omega arith })
  | inr h ↦ cc (rw h at e)
]
next_record-after s fields field (c ∷ xs) p e = elim (cases_Bool (is_end (step default_config s c).1)) [
  | inl h ↦
      let i : (fields_after (step default_config s c).1 fields field, (step default_config s c).0, xs) ≡ p = cc (rw h at e) in
      rw (← i) (record { state = step-between s c h; no_longer = omega arith })
  | inr h ↦
      let m = next_record-after (step default_config s c).0 _ _ xs p (rw h at e) in
      record { state = m.state; no_longer = omega (arith, m.no_longer) }
]

-- a record that is read between two records takes a byte at least
next_record-shorter : (s : State) (xs : List ℕ) (p : Read) → ends_at_end s ≡ false
    → next_record default_config s [] [] xs ≡ Some p → length p.2 < length xs
unfolding next_record
next_record-shorter s [] p h e = cc (rw h at e)
next_record-shorter s (c ∷ xs) p h e = elim (cases_Bool (is_end (step default_config s c).1)) [
  | inl t ↦
      let i : (fields_after (step default_config s c).1 [] [], (step default_config s c).0, xs) ≡ p = cc (rw t at e) in rw (← i) (omega arith)
  | inr t ↦ let m = next_record-after (step default_config s c).0 _ _ xs p (rw t at e) in omega (arith, m.no_longer)
]

-- the records of a text don't depend on the count, where it is large enough
records_from-count : (n m : ℕ) (s : State) (xs : List ℕ) → ends_at_end s ≡ false → length xs < n → length xs < m
    → records_from default_config n s xs ≡ records_from default_config m s xs
unfolding records_from
records_from-count zero m s xs h a b = absurd (omega arith)
records_from-count (suc n) zero s xs h a b = absurd (omega arith)
records_from-count (suc n) (suc m) s xs h a b = by (records_from-count n m) (next_record default_config s [] [] xs) refl
  where
    by : ((s2 : State) (ys : List ℕ) → ends_at_end s2 ≡ false → length ys < n → length ys < m
        → records_from default_config n s2 ys ≡ records_from default_config m s2 ys)
        → (o : Option Read) → next_record default_config s [] [] xs ≡ o
        → records_next (records_from default_config n) (next_record default_config s [] [] xs)
        ≡ records_next (records_from default_config m) (next_record default_config s [] [] xs)
    by more None e = rw e refl
    by more (Some p) e =
        let t = next_record-shorter s xs p h e in
        let between = (next_record-after s [] [] xs p e).state in
        rw e (ap (λ (l : List (List (List ℕ))). p.0 ∷ l) (more p.1 p.2 between (omega (arith, t)) (omega (arith, t))))

-- a read that finds a record takes it off those that are left
record Took (s : State) (xs : List ℕ) (after : Option (List ℕ)) (fields : List (List ℕ)) (s2 : State) : Type 0 where
  pub known : (ys : List ℕ) × (after ≡ Some ys)
  pub state : ends_at_end s2 ≡ false
  pub left : records_at s (Some xs) ≡ fields ∷ records_at s2 after

records_at-found : (s s2 : State) (xs : List ℕ) (after : Option (List ℕ)) (fields : List (List ℕ)) → ends_at_end s ≡ false
    → ReadsNext default_config s (Some xs) after true fields s2 → Took s xs after fields s2
unfolding records_at records_from
records_at-found s s2 xs None fields h r = absurd r
records_at-found s s2 xs (Some ys) fields h r = by (next_record default_config s [] [] xs) refl r
  where
    by : (o : Option Read) → next_record default_config s [] [] xs ≡ o → NextIs o true fields s2 ys → Took s xs (Some ys) fields s2
    by None e n = cc n
    by (Some p) e n =
        let t = next_record-shorter s xs p h e in
        let a = next_record-after s [] [] xs p e in
        let same : records_from default_config (length xs) p.1 p.2 ≡ records_from default_config (length p.2 + 1) p.1 p.2 =
        records_from-count (length xs) (length p.2 + 1) p.1 p.2 a.state t (omega arith) in
        record {
          known = (ys, refl);
          state = rw n.2 a.state;
          left = rw (add-one (length xs), e) (rw (n.1, n.2, n.3) (ap (λ (l : List (List (List ℕ))). p.0 ∷ l) same));
        }

-- a read that finds none had none left
records_at-none : (s s2 : State) (xs : List ℕ) (after : Option (List ℕ)) (fields : List (List ℕ))
    → ReadsNext default_config s (Some xs) after false fields s2 → records_at s (Some xs) ≡ []
unfolding records_at records_from
records_at-none s s2 xs None fields r = absurd r
records_at-none s s2 xs (Some ys) fields r = by (next_record default_config s [] [] xs) refl r
  where
    by : (o : Option Read) → next_record default_config s [] [] xs ≡ o → NextIs o false fields s2 ys
        → records_from default_config (length xs + 1) s xs ≡ []
    by None e n = rw (add-one (length xs), e) refl
    by (Some p) e n = cc n.0

-- the bytes of a slice are known
abbrev pub slice_remaining : Bor (List ℕ) → Option (List ℕ)
slice_remaining s = Some s.now

-- what a read of a record leaves: a reader between two records where it found one, and the records that are left
pub record ReadOne (a b : Reader (Bor (List ℕ))) (found : Bool) (fields : List (List ℕ)) : Type 0 where
  pub between : not found ≡ false → IsBetweenRecords b
  pub left : records_left a ≡ (if found then (fields ∷ (if not found then [] else records_left b)) else [])

pub records_left-read : (a b : Reader (Bor (List ℕ))) (found : Bool) (fields : List (List ℕ)) → IsBetweenRecords a → took_first b ≡ true
    → is_flexible b ≡ is_flexible a → ReadRecord slice_remaining a b found fields → ReadOne a b found fields
records_left-read a b true fields h first flexible r =
    let known = h.known in
    let n = rw (h.config, known.1) at r.0 in
    let t = records_at-found a.state b.state known.0 (pending_of (slice_remaining b.rdr) b) fields h.state n in
    let source : pending_of (slice_remaining b.rdr) b ≡ unread b = rw r.1 refl in
    record {
      between = λ _. record {
        config = r.2 ∙ h.config;
        trim = r.3 ∙ h.trim;
        flexible = flexible ∙ h.flexible;
        ready = inl first;
        state = t.state;
        known = (t.known.0, sym source ∙ t.known.1);
      };
      left = rw (known.1, ← source) t.left;
    }
records_left-read a b false fields h first flexible r =
    let known = h.known in
    let n = rw (h.config, known.1) at r.0 in
    record {
      between = λ e. cc e;
      left = rw known.1 (records_at-none a.state b.state known.0 (pending_of (slice_remaining b.rdr) b) fields n);
    }

records_from-length : (n : ℕ) (s : State) (xs : List ℕ) → ends_at_end s ≡ false → length (records_from default_config n s xs) ≤ length xs
unfolding records_from
records_from-length zero s xs h = omega arith
records_from-length (suc n) s xs h = by (records_from-length n) (next_record default_config s [] [] xs) refl
  where
    by : ((s2 : State) (ys : List ℕ) → ends_at_end s2 ≡ false → length (records_from default_config n s2 ys) ≤ length ys)
        → (o : Option Read) → next_record default_config s [] [] xs ≡ o
        → length (records_next (records_from default_config n) (next_record default_config s [] [] xs)) ≤ length xs
    by more None e = rw e (omega arith)
    by more (Some p) e =
        let t = next_record-shorter s xs p h e in
        let m = more p.1 p.2 (next_record-after s [] [] xs p e).state in
        rw e (omega (arith, t, m))

strip_bom-length : (xs : List ℕ) → length (strip_bom xs) ≤ length xs
unfolding strip_bom
strip_bom-length (a ∷ b ∷ c ∷ rest) = grind (arith, tests)
strip_bom-length _ = omega arith

-- a text has no more records than bytes
pub records_of-length : (text : List ℕ) → length (records_of text) ≤ length text
unfolding records_of
records_of-length text =
    omega (arith, records_from-length (length (strip_bom text) + 1) st.StartRecord (strip_bom text) refl, strip_bom-length text)
