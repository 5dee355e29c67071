use Rattle.std.proofs.{Common.arith, lemmas.Int.ints}
use Rattle.cdm_time.proofs.day.minutes_apart.Goals as goal

pub overflow_add-result : goal.overflow_add-result
overflow_add-result c = omega (arith, ints, c.ranges.day, c.ranges.first, c.from.ensures, c.from-2.ensures, c.from-3.ensures)

pub returns : goal.returns
returns c = omega (arith, ints, c.ranges.day, c.ranges.first, c.from.ensures, c.from-2.ensures, c.from-3.ensures)
