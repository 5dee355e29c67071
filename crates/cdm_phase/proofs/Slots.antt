-- The slots that pieces are put into.
use Rattle.std.proofs.Common.{◌≡◌, ℕ, zero, suc, set, ◌<◌, List, [], ◌∷◌, length, get_or, sym, Option, Some, None, IsNone, IfSome, All}
use Rattle.std.proofs.{Common.{Contains, Vec, Global, arith}, lemmas.List.Elements.{All-same, All-head, All-rest, All-contains_itself}}
use Rattle.cdm_phase.specs.{inner.Slots.AreSlotsOf, declared.piece.Piece.Piece}

-- a fact of each place and its element, after a write
each-set : {X : Type 0} (P : ℕ → X → Type 0) (xs : List X) (k : ℕ) (a : X) → P k a
    → ((n : ℕ) (d : X) → n < length xs → P n (get_or xs n d))
    → (n : ℕ) (d : X) → n < length (set xs k a) → P n (get_or (set xs k a) n d)
each-set P [] k a here before n d l = before n d l
each-set P (x ∷ xs) zero a here before zero d l = here
each-set P (x ∷ xs) zero a here before (suc n) d l = before (suc n) d l
each-set P (x ∷ xs) (suc k) a here before zero d l = before zero d (omega arith)
each-set P (x ∷ xs) (suc k) a here before (suc n) d l =
    each-set (λ m. P (suc m)) xs k a here (λ m e h. before (suc m) e (omega arith)) n d (omega arith)

-- a piece that is still to be put into its slot, one of `count`
abbrev pub IsLeft : {Y : Type 0} → List (Piece Y) → ℕ → Piece Y → Type 0
IsLeft pieces count piece = (piece.number < count) × Contains pieces piece

-- the pieces so far stand in their slots, and the others are left
pub record ArePut {Y : Type 0} (pieces : List (Piece Y)) (count : ℕ) (slots : List (Option (Vec Y Global))) (left : List (Piece Y)) : Type 0 where
  pub in_slots : AreSlotsOf pieces slots
  pub are_left : All (IsLeft pieces count) left

module _ {Y : Type 0} (pieces : List (Piece Y)) where
  abbrev IsFrom : ℕ → Option (Vec Y Global) → Type 0
  IsFrom n slot = IfSome slot (λ outs. Contains pieces (record { number = n; outs = outs }))

  none-from : (n : ℕ) (slot : Option (Vec Y Global)) → IsNone slot → IsFrom n slot
  none-from n None h = tt
  none-from n (Some outs) h = absurd (cc)

  -- at first all slots are empty, and all pieces are left
  pub ArePut-none : (count : ℕ) (slots : List (Option (Vec Y Global))) (left : List (Piece Y)) → All (λ slot. IsNone slot) slots → left ≡ pieces
      → All (λ piece. piece.number < count) pieces → ArePut pieces count slots left
  ArePut-none count slots left empty is numbers = record {
    in_slots = record { from_pieces = λ n d h. none-from n _ (empty n d h) };
    are_left = All-same (IsLeft pieces count) left pieces is (λ k d h. (numbers k d h, All-contains_itself pieces k d h));
  }

  -- the first of the pieces left is put into its slot
  pub ArePut-more : (count : ℕ) (slots : List (Option (Vec Y Global))) (piece : Piece Y) (left next : List (Piece Y)) → left ≡ piece ∷ next
      → ArePut pieces count slots left → ArePut pieces count (set slots piece.number (Some piece.outs)) next
  ArePut-more count slots piece left next is before =
      let IsOne = IsLeft pieces count in
      let first = All-head IsOne piece next (All-same IsOne (piece ∷ next) left (sym is) before.are_left) in
      record {
        in_slots = record { from_pieces = each-set IsFrom slots piece.number (Some piece.outs) first.1 before.in_slots.from_pieces };
        are_left = All-rest IsOne piece next left is before.are_left;
      }

  -- a slot is emptied
  pub AreSlotsOf-take : (slots : List (Option (Vec Y Global))) (n : ℕ) → AreSlotsOf pieces slots → AreSlotsOf pieces (set slots n None)
  AreSlotsOf-take slots n before = record { from_pieces = each-set IsFrom slots n None tt before.from_pieces }
