use Rattle.std.proofs.Common.{◌≡◌, ◌/◌, arith, sym}
use Rattle.cdm_time.proofs.DateFacts.{day_number-next_date, is_date-first_day}
use Rattle.cdm_time.proofs.day.Day.date_at.Goals as goal

pub returns-else-get-lt1440-clause-day : goal.returns-else-get-lt1440-clause-day
returns-else-get-lt1440-clause-day c =
    let first = c.self.inside.date in
    let one : c.args.minute / 1440 ≡ 1 = omega (arith, c.get.ensures.value, c.get.ensures.in_horizon, c.if-get-lt1440.false) in
    let next = day_number-next_date first (is_date-first_day first c.self.invariant) in
    rw (c.next.ensures.value, sym c.self.view_is, one) next
