-- The rules and their words.
use Rattle.std.specs.Prelude.{ℕ, List, [], ◌∷◌, codes}
use Rattle.cdm_runway.specs.declared.load.Blocked.{Blocked}
use Rattle.cdm_runway.specs.declared.load.Blocked.TheVariants as blocked
use Rattle.cdm_sequence.specs.declared.rule.Rule.{Rule}
use Rattle.cdm_sequence.specs.declared.rule.Rule.TheVariants.{Tobt, Runway, Exot, Horizon, Ctot, Closure, Spacing, Rate}

-- the rules in the order in which they are tested
abbrev pub all_rules : List Rule
all_rules = Tobt ∷ Runway ∷ Exot ∷ Horizon ∷ Ctot ∷ Closure ∷ Spacing ∷ Rate ∷ []

-- the text of a rule
abbrev pub rule_text : Rule → List ℕ
rule_text Tobt = codes "TOBT"
rule_text Runway = codes "RUNWAY"
rule_text Exot = codes "EXOT"
rule_text Horizon = codes "HORIZON"
rule_text Ctot = codes "CTOT"
rule_text Closure = codes "CLOSURE"
rule_text Spacing = codes "SPACING"
rule_text Rate = codes "RATE"

-- the rule of a runway that has no minute
abbrev pub rule_for : Blocked → Rule
rule_for blocked.Closure = Closure
rule_for blocked.Spacing = Spacing
rule_for blocked.Rate = Rate
