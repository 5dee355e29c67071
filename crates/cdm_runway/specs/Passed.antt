-- Minutes that searches passed over.
use Rattle.std.specs.Prelude.{◌≡◌, ℕ, ◌<◌, ◌≤◌, false, List}
use Rattle.cdm_flight.specs.declared.group.Group.{Group}
use Rattle.cdm_flight.specs.declared.group.Group.TheVariants.{Light, Medium, Heavy}
use Rattle.cdm_runway.specs.Rules.{RunwayRules}
use Rattle.cdm_runway.specs.Room.{is_closed, IsFree, IsSpaced}
use Rattle.cdm_runway.specs.declared.load.Taken.{Taken}
use Rattle.cdm_runway.specs.declared.passed.Stretch.{Stretch}
use Rattle.cdm_runway.specs.declared.passed.Passed.{Passed}
use Rattle.cdm_runway.specs.declared.passed.PassedOver.{PassedOver}

-- a minute is one of a stretch
pub record IsIn (s : Stretch) (k : ℕ) : Type 0 where
  pub begun : s.from ≤ k
  pub before : k < s.to

-- a flight of the group may take no minute from `from` up to `to`
abbrev pub NoneFree : RunwayRules → List Taken → Group → ℕ → ℕ → Type 0
NoneFree r taken group from to = (k : ℕ) → from ≤ k → k < to → IsFree r taken group k → ⊥

-- at each open minute from `from` up to `to` a flight of the group meets another
abbrev pub NoneSpaced : RunwayRules → List Taken → Group → ℕ → ℕ → Type 0
NoneSpaced r taken group from to = (k : ℕ) → from ≤ k → k < to → is_closed r k ≡ false → IsSpaced r taken group k → ⊥

-- what was passed over for a group holds
pub record IsPassed (r : RunwayRules) (taken : List Taken) (group : Group) (p : Passed) : Type 0 where
  pub unfree : NoneFree r taken group p.unfree.from p.unfree.to
  pub met : NoneSpaced r taken group p.met.from p.met.to

abbrev pub passed_of : PassedOver → Group → Passed
passed_of p Light = p.light
passed_of p Medium = p.medium
passed_of p Heavy = p.heavy

-- and so for each group
abbrev pub ArePassed : RunwayRules → List Taken → PassedOver → Type 0
ArePassed r taken p = (group : Group) → IsPassed r taken group (passed_of p group)

-- with others for one group
abbrev pub with_passed : PassedOver → Group → Passed → PassedOver
with_passed p Light of_group = record p { light = of_group }
with_passed p Medium of_group = record p { medium = of_group }
with_passed p Heavy of_group = record p { heavy = of_group }
