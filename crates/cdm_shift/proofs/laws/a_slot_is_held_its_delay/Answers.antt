use Rattle.std.{proofs.Common.{ℕ, ◌<◌, Option, None, Some}, specs.Option.IsSomeAnd}
use Rattle.cdm_shift.proofs.HeldLemmas.{held_so_long, own_is, waits_are}
use Rattle.cdm_shift.proofs.laws.a_slot_is_held_its_delay.Goals as goal

pub returns : goal.returns
returns c = λ d plan f w s is own.
    let on = c.a_waiting_flight_is_placed_or_blocked.ensures.runway d plan f w is in
    let (shown, named) = own_is plan f w.rules.name s on own in
    let long = held_so_long d plan f w s in
    let each = λ (m : ℕ) (k : m < s.ttot). (c.a_reason_has_a_cause.ensures w m).0 (c.a_placed_flight_waits_its_delay.ensures.held d plan f w s is shown named m k) in
    by s.delay (c.a_placed_flight_waits_its_delay.ensures.delayed d plan f w s is shown named) (λ delay delayed. long delay (waits_are d plan f w is) own delayed each)
  where
    by : {P Q : ℕ → Type 0} (o : Option ℕ) → IsSomeAnd o P → ((n : ℕ) → P n → Q n) → IsSomeAnd o Q
    by None is then = absurd is
    by (Some n) is then = then n is
