-- Who may send each kind, and what comes first in it.
use Rattle.std.{proofs.Common.{◌≡◌, List, ◌∷◌, refl}, specs.Prelude.filter}
use Rattle.cdm_flight.specs.{Authority.may_make, declared.update.Update.Update}
use Rattle.cdm_flight.specs.declared.update.Update.TheVariants as update
use Rattle.cdm_kinds.specs.{Kinds.{all_roles, fields_of, kind_of, roles_of, subject_of}, declared.field.Field.Field}
use Rattle.cdm_kinds.specs.declared.kind.Kind.{Kind}
use Rattle.cdm_kinds.specs.declared.field.Field.TheVariants as field
use Rattle.cdm_kinds.specs.declared.kind.Kind.TheVariants as kind
use Rattle.cdm_kinds.specs.declared.subject.Subject.TheVariants as subject

pub their_roles : (u : Update) → roles_of (kind_of u) ≡ filter (λ role. may_make role u) all_roles
their_roles (update.Flt f p) = refl
their_roles _ = refl

pub flight_first : (kind : Kind) → subject_of kind ≡ subject.Flight → (others : List Field) × (fields_of kind ≡ field.Flight ∷ others)
flight_first kind.Rate is = cc
flight_first kind.Close is = cc
flight_first kind.Reopen is = cc
flight_first kind.Taxi is = cc
flight_first kind.Clock is = cc
flight_first kind.Tol is = cc
flight_first _ is = (_, refl)
