use Rattle.std.proofs.{Common.{w64, rules, FitsSigned}, lemmas.Int.to_z-of_z}
use Rattle.cdm_time.specs.Times.{is_time_text, minutes_between}
use Rattle.cdm_time.proofs.day.Day.minutes_to.Goals as goal

pub returns : goal.returns
unfolding is_time_text minutes_between
returns c =
    let fits : FitsSigned w64 c.minutes_apart.result = search rules in
    simp to_z-of_z (rw c.minutes_apart.ensures (search rules))
