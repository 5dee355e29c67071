-- A record more in a batch.
use Rattle.std.proofs.Common.{◌≡◌, ◌≤◌, ◌∙◌, ℕ, Bool, true, false, List, [], ◌∷◌, ◌++◌, Ok, Err, refl, sym, ap, subst, arith}
use Rattle.std.specs.Prelude.{is_none, unwrap_or, if◌then◌else◌}
use Rattle.cdm_flight.specs.{Accepted.{accepted, after_one, refusal}, Journal.{AirportRows, clock_given, values_of}}
use Rattle.cdm_flight.specs.declared.{role.Role.Role, update.Update.Update, update.Update.TheVariants.{Clock, Tol}}
use Rattle.cdm_flight.specs.declared.{values.DayValues.DayValues, word.RefusalWord.RefusalWord}
use Rattle.cdm_flight.proofs.JournalLemmas.{values_of-clock, values_of-tolerance, values_of-untouched}
use Rattle.cdm_plan.specs.Day.{DayRecord}
use Rattle.cdm_desk.specs.Replies.{day_after, with_one}
use Rattle.cdm_files.specs.Refused.{Spelled}

-- The clock after a record.

-- the clock that an update sets, or the first minute
abbrev pub clock_named : Update → ℕ
clock_named u = unwrap_or (clock_given u) 0

pub none_named : (u : Update) → ((m : ℕ) → u ≡ Clock m → ⊥) → clock_named u ≡ 0
none_named (Clock m) h = absurd (h m refl)
none_named _ h = refl

pushed-clock : (a : List Update) (u : Update) (latest : ℕ) → (values_of a).clock ≤ latest → clock_named u ≤ latest → (values_of (a ++ u ∷ [])).clock ≤ latest
pushed-clock a (Clock m) latest old new = subst (λ (v : DayValues). v.clock ≤ latest) (sym (values_of-clock a m)) new
pushed-clock a (Tol t) latest old new = subst (λ (v : DayValues). v.clock ≤ latest) (sym (values_of-tolerance a t)) old
pushed-clock a u latest old new = subst (λ (v : DayValues). v.clock ≤ latest) (sym (values_of-untouched a u refl)) old

kept-clock : (taken : Bool) (a : List Update) (u : Update) (latest : ℕ) → (values_of a).clock ≤ latest → clock_named u ≤ latest
    → (values_of (if taken then a ++ u ∷ [] else a)).clock ≤ latest
kept-clock true a u latest old new = pushed-clock a u latest old new
kept-clock false a u latest old new = old

module _ (d : DayRecord) (spelled : Spelled) (latest : ℕ) where
  -- the clock of the day after the record is no later
  abbrev pub Ends : Type 0
  Ends = (values_of (day_after d spelled).journal).clock ≤ latest

  pub ends_update : (p : Role × Update) → spelled ≡ Ok p → (values_of d.journal).clock ≤ latest → clock_named p.1 ≤ latest → Ends
  ends_update p is old new =
      subst (λ (x : Spelled). (values_of (day_after d x).journal).clock ≤ latest) (sym is)
      (kept-clock (is_none (refusal d.airport d.journal p.0 p.1)) d.journal p.1 latest old new)

  pub ends_word : (word : RefusalWord) → spelled ≡ Err word → (values_of d.journal).clock ≤ latest → Ends
  ends_word word is old = subst (λ (x : Spelled). (values_of (day_after d x).journal).clock ≤ latest) (sym is) old

-- The day after a batch.

abbrev pub after_batch : DayRecord → List (Role × Update) → DayRecord
after_batch d batch = record d { journal = accepted d.airport d.journal batch }

pub no_batch : (d : DayRecord) (batch : List (Role × Update)) → batch ≡ [] → after_batch d batch ≡ d
unfolding accepted
no_batch d batch none = ap (after_batch d) none

-- the clock of a day as it begins
pub begun_clock : (d s : DayRecord) (batch : List (Role × Update)) (values : DayValues) → batch ≡ [] → values ≡ values_of s.journal → s ≡ d
    → (values_of (after_batch d batch).journal).clock ≤ values.clock
begun_clock d s batch values none are same =
    let is : (values_of (after_batch d batch).journal).clock ≡ values.clock =
    ap (λ (x : DayRecord). (values_of x.journal).clock) (no_batch d batch none ∙ sym same) ∙ ap (λ (v : DayValues). v.clock) (sym are) in
    omega (arith, is)

accepted-last : (g : AirportRows) (a : List Update) (batch : List (Role × Update)) (p : Role × Update)
    → accepted g a (batch ++ p ∷ []) ≡ after_one g (accepted g a batch) p
unfolding accepted
accepted-last g a [] p = refl
accepted-last g a (q ∷ batch) p = accepted-last g (after_one g a q) batch p

-- one update more
pub joined : (d whole : DayRecord) (batch more : List (Role × Update)) (p : Role × Update) (spelled : Spelled) → after_batch d batch ≡ whole
    → more ≡ batch ++ p ∷ [] → spelled ≡ Ok p → after_batch d more ≡ day_after whole spelled
joined d whole batch more p spelled is longer says =
    ap (after_batch d) longer
    ∙ ((λ i. record d { journal = accepted-last d.airport d.journal batch p i })
    ∙ (ap (λ (x : DayRecord). with_one x p) is ∙ ap (day_after whole) (sym says)))
