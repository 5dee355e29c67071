-- The minutes of the six causes add up.
use Rattle.std.proofs.{Common.{◌≡◌, suc, ◌+◌, List, [], ◌∷◌, cond, length, refl, arith}, lemmas.List.Sums.sum_by-append}
use Rattle.std.specs.Prelude.{flat_map}
use Rattle.cdm_sequence.specs.declared.plan.Plan.{Plan}
use Rattle.cdm_plan.specs.Day.{DayRecord}
use Rattle.cdm_row.specs.declared.row.Row.{Row}
use Rattle.cdm_view.specs.{Causes.same_cause, declared.cause.Cause.Cause}
use Rattle.cdm_view.specs.declared.cause.Cause.TheVariants.{Ice, Ctot, Closure, Spacing, Rate, Now}
use Rattle.cdm_shift.specs.{Costs.{costs_of, minutes_of}, Held.causes_named}

-- one more minute counts for its own cause alone
one_more : (cause x : Cause) (causes : List Cause) → minutes_of cause (x ∷ causes) ≡ 0 + cond (same_cause cause x) 1 0 + minutes_of cause causes
one_more cause x causes = sum_by-append (λ k. cond (same_cause cause k) 1 0) (x ∷ []) causes

own_alone : (x : Cause)
    → cond (same_cause Ice x) 1 0 + cond (same_cause Ctot x) 1 0 + cond (same_cause Closure x) 1 0 + cond (same_cause Spacing x) 1 0
    + cond (same_cause Rate x) 1 0 + cond (same_cause Now x) 1 0 ≡ 1
own_alone Ice = refl
own_alone _ = refl

counted : (causes : List Cause)
    → minutes_of Ice causes + minutes_of Ctot causes + minutes_of Closure causes + minutes_of Spacing causes + minutes_of Rate causes + minutes_of Now causes
    ≡ length causes
counted [] = refl
counted (x ∷ causes) =
    let longer : length (x ∷ causes) ≡ suc (length causes) = refl in
    omega (
      arith,
      one_more Ice x causes,
      one_more Ctot x causes,
      one_more Closure x causes,
      one_more Spacing x causes,
      one_more Rate x causes,
      one_more Now x causes,
      own_alone x,
      counted causes,
      longer,
    )

pub add_up : (d : DayRecord) (plan : Plan) (rows : List Row) → let c = costs_of d plan rows in
    c.ice + c.ctot + c.closure + c.spacing + c.rate + c.clock ≡ c.delay
unfolding costs_of
add_up d plan rows = counted (flat_map (λ row. causes_named d plan row.flight) rows)
