-- Lines of a report that are made already.
use Rattle.std.specs.Prelude.{◌≡◌}
use Rattle.std.specs.String.{string_bytes}
use Rattle.cdm_time.specs.declared.calendar.CalendarDate.{CalendarDate}
use Rattle.cdm_report.specs.declared.made.RunwayLines.{RunwayLines}
use Rattle.cdm_report.specs.Report.{runway_lines}

-- the text is the runway's lines in a report of this day
abbrev pub AreLines : CalendarDate → RunwayLines → Type 0
AreLines day lines = string_bytes lines.text ≡ runway_lines day lines.plan.now
