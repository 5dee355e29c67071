-- A question has one answer in JSON.
use Rattle.cdm_json.proofs.Words.{◌≡◌, ◌∙◌, ℕ, List, Option, None, Some, ap, sym, filter, flat_map, IsDistinct, IsSomeAnd, option_map_or}
use Rattle.cdm_json.proofs.Words.{flight_of, Flight, Plan, DayRecord, flights_in, IsDayPlan, in_order, is_asked, row_named, codes}
use Rattle.cdm_json.specs.{Answers.IsJsonAnswer, Lines.answer_line, Loads.{AreLoadLines, load_line}, Whys.{IsWhyLine, why_members}}
use Rattle.cdm_flight.specs.Names.{same_name}
use Rattle.cdm_plan.specs.Airport.{IsAirport}
use Rattle.cdm_view.specs.{Why.{own_slot, waits_for}, declared.question.Question.Question}
use Rattle.cdm_view.{specs.declared.question.Question.TheVariants.{Why, Load}, proofs.AnswerLemmas.waits_one}
use Rattle.cdm_row.proofs.RowLemmas.{one_rows}

load_one : (d : DayRecord) (number : Option ℕ) (plan : Plan) (asked : Option (List ℕ)) (x y : List ℕ) → IsAirport d.airport
    → AreLoadLines d number plan asked x → AreLoadLines d number plan asked y → x ≡ y
load_one d number plan asked x y airport (xs, these, is) (ys, those, also) =
    is ∙ ap (λ runways. flat_map (load_line d.airport number plan) (filter (is_asked asked) runways)) (in_order d xs airport these ∙ sym (in_order d ys airport those)) ∙ sym also

module _ (d : DayRecord) (number : Option ℕ) (plan : Plan) (airport : IsAirport d.airport) (flights : IsDistinct same_name (flights_in d.journal)) (is : IsDayPlan d plan) where
  why_one : (known : Option Flight) (x y : List ℕ) → IsSomeAnd known (λ f. IsWhyLine d number plan f x) → IsSomeAnd known (λ f. IsWhyLine d number plan f y) → x ≡ y
  why_one None x y a b = absurd a
  why_one (Some f) x y a b =
      let to = option_map_or (λ s. s.ttot) (own_slot plan f) 2880 in
      let rows : a.rows ≡ b.rows = one_rows d plan airport.names flights is a.rows b.rows a.are_rows b.are_rows in
      let runs : a.runs ≡ b.runs = waits_one (waits_for d plan f) to a.runs b.runs a.waits b.waits in
      a.bytes ∙ (λ i. answer_line number (codes "WHY") (why_members d.airport.day plan f (row_named (rows i) f.name) (runs i))) ∙ sym b.bytes

pub answer_one : (question : Question) (d : DayRecord) (number : Option ℕ) (plan : Plan) (x y : List ℕ) → IsAirport d.airport
    → IsDistinct same_name (flights_in d.journal) → IsDayPlan d plan → IsJsonAnswer question d number plan x → IsJsonAnswer question d number plan y → x ≡ y
answer_one (Why name) d number plan x y airport flights is a b = why_one d number plan airport flights is (flight_of d.airport d.journal name) x y a b
answer_one (Load runway) d number plan x y airport flights is a b = load_one d number plan runway x y airport a.1 b.1
