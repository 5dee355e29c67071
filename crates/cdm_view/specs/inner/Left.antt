-- What is left of two lists without what they share.
use Rattle.std.specs.Prelude.{List, ◌++◌, IsPermutation}
use Rattle.cdm_view.specs.declared.standing.Standing.{Standing}
use Rattle.cdm_view.specs.declared.differing.Differing.{Differing}

-- both lists have the same elements, and these are left of them
pub record AreRests {X : Type 0} (one other first second : List X) : Type 0 where
  pub same : List X
  pub of_one : IsPermutation (same ++ first) one
  pub of_other : IsPermutation (same ++ second) other

-- of standings
abbrev pub AreLeft : List Standing → List Standing → Differing → Type 0
AreLeft one other left = AreRests one other left.before.items left.after.items
