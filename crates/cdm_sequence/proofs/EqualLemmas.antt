-- Values that `==` finds equal are equal, and only those.
use Rattle.cdm_sequence.proofs.Words.{◌≡◌, ◌&&◌, ℕ, Bool, Option, rules, Decides, option_eq, Decides-and, Decides-eqb, Decides-like}
use Rattle.cdm_sequence.{proofs.OrderLemmas.names_decide, specs.declared.slot.Mark.Mark, specs.declared.slot.Slot.Slot}
use Rattle.cdm_flight.specs.declared.group.Group.{Group}
use Rattle.cdm_time.specs.contracts.minute.MinutePartialEq.TheImpl as minute_eq
use Rattle.cdm_flight.specs.contracts.group.GroupPartialEq.TheImpl as group_eq
use Rattle.cdm_sequence.specs.contracts.slot.MarkPartialEq.TheImpl as mark_eq
use Rattle.cdm_sequence.specs.contracts.slot.SlotPartialEq.TheImpl as slot_eq

-- what is known of both, or of neither
pub any_decide : {X : Type 0} (e : X → X → Bool) → ((a b : X) → Decides (e a b) (a ≡ b)) → (a b : Option X) → Decides (option_eq e a b) (a ≡ b)
any_decide e own z2 z3 = search rules

pub times_decide : (a b : Option ℕ) → Decides (option_eq (minute_eq.ghosts).eq a b) (a ≡ b)
times_decide a b = search rules

pub groups_decide : (a b : Group) → Decides ((group_eq.ghosts).eq a b) (a ≡ b)
groups_decide a b = search rules

marks_decide : (a b : Mark) → Decides ((mark_eq.ghosts).eq a b) (a ≡ b)
marks_decide a b = search rules

-- what a test says of the parts of two values, it says of the values
pub decide_by : {P Q : Type 0} {r : Bool} → Decides r P → (P → Q) → (Q → P) → Decides r Q
decide_by {r = r} parts whole apart = Decides-like r whole apart parts

-- and the next test of them
pub also : {P Q : Type 0} {x y : Bool} → Decides x P → Decides y Q → Decides (x && y) (P × Q)
also {x = x} {y = y} = Decides-and x y

pub slots_decide : (s t : Slot) → Decides ((slot_eq.ghosts).eq s t) (s ≡ t)
slots_decide s t =
    decide_by (also (names_decide s.name t.name) (also (times_decide s.tobt t.tobt) (also (Decides-eqb s.exot t.exot) (also (times_decide s.ctot t.ctot)
    (also (groups_decide s.group t.group) (also (Decides-eqb s.tsat t.tsat) (also (Decides-eqb s.ttot t.ttot)
    (also (marks_decide s.mark t.mark) (times_decide s.delay t.delay)))))))))
    (λ e i. record { name = e.0 i; tobt = e.1.0 i; exot = e.1.1.0 i; ctot = e.1.1.1.0 i; group = e.1.1.1.1.0 i; tsat = e.1.1.1.1.1.0 i; ttot = e.1.1.1.1.1.1.0 i; mark = e.1.1.1.1.1.1.1.0 i; delay = e.1.1.1.1.1.1.1.1 i })
    (λ e. (λ i. (e i).name, (λ i. (e i).tobt, (λ i. (e i).exot, (λ i. (e i).ctot, (λ i. (e i).group, (λ i. (e i).tsat, (λ i. (e i).ttot, (λ i. (e i).mark, λ i. (e i).delay)))))))))
