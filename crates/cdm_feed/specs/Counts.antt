-- What is counted of a day.
use Rattle.cdm_feed.specs.declared.counted.Counted.{Counted}
use Rattle.cdm_feed.specs.declared.counted.Counted.TheVariants.{Day, Check, Carry}
use Rattle.cdm_feed.specs.declared.runs.RunCounts.{RunCounts}

-- what a run counts of a day, and nothing of any other text
abbrev pub day_counts : Counted → RunCounts
day_counts (Day counts) = counts
day_counts (Check counts) = record { accepted = 0; refused = 0; scenarios = 0 }
day_counts (Carry needs_care) = record { accepted = 0; refused = 0; scenarios = 0 }
