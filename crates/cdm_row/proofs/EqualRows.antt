-- Rows that `==` finds equal are equal, and only those.
use Rattle.std.{proofs.Common.◌≡◌, proofs.Common.rules, proofs.lemmas.Bool.Decides.Decides-eqb, specs.Bool.Decides, specs.Prelude.nat_eq}
use Rattle.cdm_plan.proofs.PlanWords.{same_name}
use Rattle.cdm_sequence.{specs.declared.rule.Rule.Rule, proofs.EqualLemmas.also, proofs.EqualLemmas.any_decide, proofs.EqualLemmas.decide_by}
use Rattle.cdm_sequence.{proofs.EqualLemmas.groups_decide, proofs.EqualLemmas.times_decide, proofs.OrderLemmas.names_decide}
use Rattle.cdm_row.specs.{declared.row.Row.Row, declared.row.RowStatus.RowStatus, Changed.same_row}
use Rattle.cdm_sequence.specs.contracts.rule.RulePartialEq.TheImpl as rule_eq
use Rattle.cdm_row.specs.contracts.row.RowStatusPartialEq.TheImpl as status_eq

statuses_decide : (a b : RowStatus) → Decides ((status_eq.ghosts).eq a b) (a ≡ b)
statuses_decide a b = search rules

rule_decide : (a b : Rule) → Decides ((rule_eq.ghosts).eq a b) (a ≡ b)
rule_decide a b = search rules

pub rows_decide : (a b : Row) → Decides (same_row a b) (a ≡ b)
rows_decide a b =
    decide_by (also (names_decide a.flight b.flight) (also (statuses_decide a.status b.status)
    (also (any_decide same_name names_decide a.runway b.runway) (also (any_decide same_name names_decide a.stand b.stand)
    (also (Decides-eqb a.priority b.priority) (also (groups_decide a.group b.group) (also (times_decide a.tobt b.tobt)
    (also (any_decide nat_eq Decides-eqb a.exot b.exot) (also (times_decide a.ctot b.ctot)
    (also (times_decide a.tsat b.tsat) (also (times_decide a.ttot b.ttot)
    (also (any_decide nat_eq Decides-eqb a.delay b.delay) (any_decide (rule_eq.ghosts).eq rule_decide a.rule b.rule)))))))))))))
    (λ e i. record { flight = e.0 i; status = e.1.0 i; runway = e.1.1.0 i; stand = e.1.1.1.0 i; priority = e.1.1.1.1.0 i; group = e.1.1.1.1.1.0 i; tobt = e.1.1.1.1.1.1.0 i; exot = e.1.1.1.1.1.1.1.0 i; ctot = e.1.1.1.1.1.1.1.1.0 i; tsat = e.1.1.1.1.1.1.1.1.1.0 i; ttot = e.1.1.1.1.1.1.1.1.1.1.0 i; delay = e.1.1.1.1.1.1.1.1.1.1.1.0 i; rule = e.1.1.1.1.1.1.1.1.1.1.1.1 i })
    (λ e. (λ i. (e i).flight, (λ i. (e i).status, (λ i. (e i).runway, (λ i. (e i).stand, (λ i. (e i).priority, (λ i. (e i).group, (λ i. (e i).tobt, (λ i. (e i).exot, (λ i. (e i).ctot, (λ i. (e i).tsat, (λ i. (e i).ttot, (λ i. (e i).delay, λ i. (e i).rule)))))))))))))
