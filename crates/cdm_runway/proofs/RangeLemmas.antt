-- A list after a range of it was given one value.
use Rattle.cdm_runway.proofs.Words.{◌≡◌, ℕ, ◌≤◌, List, length, get_or, arith, if◌then◌else◌, nat_tests, get_or-replicate, places}
use Rattle.cdm_runway.{proofs.Words.window_has, specs.Rules.with_range}

-- what a list has at a place after a range of it was given one value
pub get_or-with_range : {X : Type 0} (xs : List X) (from to : ℕ) (x d : X) (k : ℕ) → from ≤ to → to ≤ length xs
    → get_or (with_range xs from to x) k d ≡ (if window_has from to k then x else get_or xs k d)
get_or-with_range xs from to x d k order within = grind (arith, places, nat_tests, get_or-replicate)

-- it is as long as before
pub length-with_range : {X : Type 0} (xs : List X) (from to : ℕ) (x : X) → from ≤ to → to ≤ length xs → length (with_range xs from to x) ≡ length xs
length-with_range xs from to x order within = grind (arith, places)
