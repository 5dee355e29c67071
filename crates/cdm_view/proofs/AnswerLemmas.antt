-- A question has one answer.
use Rattle.std.proofs.Common.{◌≡◌, ◌∙◌, ℕ, ◌+◌, List, [], MatchOption, Option, None, Some, ap, sym}
use Rattle.std.specs.Option.{IsSomeAnd, option_map_or}
use Rattle.cdm_flight.specs.{Journal.flight_of, declared.flight.Flight.Flight}
use Rattle.cdm_sequence.specs.declared.plan.Plan.{Plan}
use Rattle.cdm_plan.{specs.Airport.IsAirport, specs.Day.DayRecord, proofs.NameLemmas.in_order}
use Rattle.cdm_view.specs.{Load.IsLoad, Load.load_text, Questions.IsAnswer, Reasons.Waiting, Reasons.reason_at, Runs.AreRuns}
use Rattle.cdm_view.specs.declared.{question.Question.Question, question.Question.TheVariants.Why, question.Question.TheVariants.Load}
use Rattle.cdm_view.{specs.declared.runs.Run.Run, specs.Why.{IsWhy, own_slot, waits_for, why_bytes}, proofs.RunLemmas.runs_one}

load_same : (d : DayRecord) (plan : Plan) (asked : Option (List ℕ)) (x y : List ℕ) → IsAirport d.airport
    → IsLoad d plan asked x → IsLoad d plan asked y → x ≡ y
load_same d plan asked x y airport (xs, these, is) (ys, those, also) =
    is ∙ ap (load_text d.airport plan asked) (in_order d xs airport these ∙ sym (in_order d ys airport those)) ∙ sym also

-- the runs of what may be waited for are one list
pub waits_one : (w : Option Waiting) (to : ℕ) (xs ys : List Run) → MatchOption w (xs ≡ []) (λ w. AreRuns (reason_at w) (w.tobt + w.exot) to xs)
    → MatchOption w (ys ≡ []) (λ w. AreRuns (reason_at w) (w.tobt + w.exot) to ys) → xs ≡ ys
waits_one None to xs ys a b = a ∙ sym b
waits_one (Some w) to xs ys a b = runs_one (reason_at w) (w.tobt + w.exot) to xs ys a b

why_same : (known : Option Flight) (d : DayRecord) (plan : Plan) (x y : List ℕ)
    → IsSomeAnd known (λ f. IsWhy d plan f x) → IsSomeAnd known (λ f. IsWhy d plan f y) → x ≡ y
why_same None d plan x y a b = absurd a
why_same (Some f) d plan x y a b =
    let to = option_map_or (λ s. s.ttot) (own_slot plan f) 2880 in
    let runs : a.runs ≡ b.runs = waits_one (waits_for d plan f) to a.runs b.runs a.waits b.waits in
    a.bytes ∙ ap (why_bytes d plan f) runs ∙ sym b.bytes

pub answer_one : (question : Question) (d : DayRecord) (plan : Plan) (x y : List ℕ) → IsAirport d.airport
    → IsAnswer question d plan x → IsAnswer question d plan y → x ≡ y
answer_one (Why name) d plan x y airport a b = why_same (flight_of d.airport d.journal name) d plan x y a b
answer_one (Load runway) d plan x y airport a b = load_same d plan runway x y airport a.1 b.1
