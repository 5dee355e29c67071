-- The steps at which scenarios are tried.
use Rattle.std.specs.Prelude.{ℕ, ◌+◌, ◌-◌, ◌%◌, ◌==◌, List, [], ◌∷◌, flat_map, Option, if◌then◌else◌}
use Rattle.std.specs.List.{range_with_len}
use Rattle.std.specs.Option.{option_and_then, option_map}
use Rattle.std.specs.Result.{result_ok}
use Rattle.cdm_time.specs.Times.{minute_up_to}
use Rattle.cdm_time.specs.declared.calendar.CalendarDate.{CalendarDate}
use Rattle.cdm_table.specs.declared.each.Each.{Each}

-- FROM and TO as minutes, if both are times of an airport's two days
abbrev pub ends_of : CalendarDate → Each → Option (ℕ × ℕ)
ends_of day each =
    option_and_then (λ from. option_map (λ to. (from, to)) (result_ok (minute_up_to 2879 day each.to))) (result_ok (minute_up_to 2879 day each.from))

-- a minute, if whole steps lie between FROM and it
abbrev pub step_at : ℕ → ℕ → ℕ → List ℕ
step_at step from minute = if (minute - from) % step == 0 then minute ∷ [] else []

-- FROM, FROM + STEP, .. up to TO
abbrev pub minutes_by : ℕ → ℕ → ℕ → List ℕ
minutes_by step from to = flat_map (step_at step from) (range_with_len from (to + 1 - from))

abbrev pub steps_of : CalendarDate → Each → Option (List ℕ)
steps_of day each = option_map (λ ends. minutes_by each.step ends.0 ends.1) (ends_of day each)
