-- What `==` says of updates and their roles.
use Rattle.std.{proofs.Common.{rules, ◌≡◌, Bool, ◌&&◌, ap}, proofs.lemmas.Bool.Decides.Decides-and, specs.Bool.Decides}
use Rattle.cdm_flight.specs.contracts.update.UpdatePartialEq.TheImpl as update_eq
use Rattle.cdm_flight.specs.contracts.role.RolePartialEq.TheImpl as role_eq
use Rattle.cdm_flight.{proofs.UpdateLemmas.update_eq-Decides, specs.declared.{role.Role.Role, update.Update.Update}}

pub role_eq-Decides : (a b : Role) → Decides ((role_eq.ghosts).eq a b) (a ≡ b)
role_eq-Decides a b = search rules

-- equality as it is derived for a role and an update
abbrev pub same_pair : Role × Update → Role × Update → Bool
same_pair a b = (role_eq.ghosts).eq a.0 b.0 && (update_eq.ghosts).eq a.1 b.1

by_parts : {r : Bool} {a b : Role × Update} → Decides r ((a.0 ≡ b.0) × (a.1 ≡ b.1)) → Decides r (a ≡ b)
by_parts parts = ((λ yes. λ i. ((parts.0 yes).0 i, (parts.0 yes).1 i)), λ same. parts.1 (ap (λ (x : Role × Update). x.0) same, ap (λ (x : Role × Update). x.1) same))

pub pair-Decides : (a b : Role × Update) → Decides (same_pair a b) (a ≡ b)
pair-Decides a b = by_parts (Decides-and _ _ (role_eq-Decides a.0 b.0) (update_eq-Decides a.1 b.1))
