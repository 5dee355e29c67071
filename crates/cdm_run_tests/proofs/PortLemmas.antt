-- What a port in memory does.
use Rattle.std.proofs.Common.{◌≡◌, ◌≢◌, ◌≤◌, inl, ℕ, ◌==◌, ◌||◌, Bool, true, false, List, [], ◌∷◌, length, refl, sym, ◌∙◌, arith}
use Rattle.std.{proofs.lemmas.List.append-nil, proofs.lemmas.Bool.Decides.nat_tests, specs.Prelude.{OnErr, Result, Ok, Err}}
use Rattle.std.specs.List.{AllByRecursion, list_any}
use Rattle.cdm_port.specs.{Event.Event, Heard.IsLine, Stop.Stops}

pub on_err : {T E P : Type 0} (r : Result T E) → P → OnErr r P
on_err (Ok x) p = tt
on_err (Err y) p = p

-- nothing has happened
pub not_done : (event : Event) (old new : List Event) → new ≡ old → Stops old (event ∷ []) new
not_done event old new same = ([], inl refl, same ∙ sym (append-nil old))

first_differs : (x : ℕ) (more : Bool) → ((x == 10) || more) ≡ false → x ≢ 10
first_differs x more none = λ is. grind (arith, nat_tests, is, none)

others : (b more : Bool) → (b || more) ≡ false → more ≡ false
others true more none = absurd (cc none)
others false more none = none

has_no_lf : (bytes : List ℕ) → list_any (λ y. y == 10) bytes ≡ false → AllByRecursion (λ byte. byte ≢ 10) bytes
has_no_lf [] none = tt
has_no_lf (x ∷ bytes) none = (first_differs x (list_any (λ y. y == 10) bytes) none, has_no_lf bytes (others (x == 10) (list_any (λ y. y == 10) bytes) none))

-- bytes without an LF are a line where they aren't too many
pub is_line : (bytes : List ℕ) → length bytes ≤ 4096 → list_any (λ y. y == 10) bytes ≡ false → IsLine bytes
is_line bytes short none = (short, has_no_lf bytes none)
