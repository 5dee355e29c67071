-- Where the numbers that pass a test begin and end.
use Rattle.std.specs.Prelude.{◌≡◌, ℕ, ◌-◌, ◌<◌, ◌≤◌, Bool, true}

-- of the numbers below `count` that pass, all are from `from` up to `to`, and if there is one, the first and the last of
-- these pass
pub record AreEnds (test : ℕ → Bool) (count from to : ℕ) : Type 0 where
  pub order : from ≤ to
  pub within : to ≤ count
  pub around : (k : ℕ) → k < count → test k ≡ true → (from ≤ k) × (k < to)
  pub first : from < to → test from ≡ true
  pub last : from < to → test (to - 1) ≡ true
