-- A minute has a cause exactly where it has a reason.
use Rattle.std.proofs.{Common.{ℕ, Bool, true, false, Option, Some, None, arith}, lemmas.Grind.common_steps}
use Rattle.std.specs.{Prelude.◌↔◌, Prelude.if◌then◌else◌, Option.IsSome}
use Rattle.cdm_view.specs.{Reasons.Waiting, Reasons.reason_at, Causes.cause_at, declared.cause.Cause.Cause, declared.reason.Reason.Reason}
use Rattle.cdm_view.specs.declared.cause.Cause.TheVariants as cause
use Rattle.cdm_view.specs.declared.reason.Reason.TheVariants as reason

-- of the same tests, those of the first that asks one early and those of the second that asks it last find something in the same cases
abbrev reason_by : Bool → Bool → Bool → Bool → Bool → Bool → Reason × Reason → Option Reason
reason_by a b c d e n r =
    if a then Some reason.Ice else if n then Some reason.Now else if b then Some reason.Ctot else if c then Some reason.Closure
    else if d then Some r.0 else if e then Some r.1 else None

abbrev cause_by : Bool → Bool → Bool → Bool → Bool → Bool → Option Cause
cause_by a b c d e n =
    if a then Some cause.Ice else if b then Some cause.Ctot else if c then Some cause.Closure else if d then Some cause.Spacing
    else if e then Some cause.Rate else if n then Some cause.Now else None

either : (a b c d e n : Bool) (r : Reason × Reason) → IsSome (reason_by a b c d e n r) ↔ IsSome (cause_by a b c d e n)
either true b c d e n r = (λ x. x, λ x. x)
either false true c d e true r = (λ x. x, λ x. x)
either false true c d e false r = (λ x. x, λ x. x)
either false false true d e true r = (λ x. x, λ x. x)
either false false true d e false r = (λ x. x, λ x. x)
either false false false true e true r = (λ x. x, λ x. x)
either false false false true e false r = (λ x. x, λ x. x)
either false false false false true true r = (λ x. x, λ x. x)
either false false false false true false r = (λ x. x, λ x. x)
either false false false false false true r = (λ x. x, λ x. x)
either false false false false false false r = (λ x. x, λ x. x)

pub both : (w : Waiting) (m : ℕ) → IsSome (reason_at w m) ↔ IsSome (cause_at w m)
unfolding reason_at cause_at
both w m = grind (arith, common_steps, either)
