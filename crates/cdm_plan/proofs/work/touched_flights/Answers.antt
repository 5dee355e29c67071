use Rattle.std.proofs.lemmas.Grind.{common_steps}
use Rattle.std.proofs.Common.{◌≡◌, ℕ, zero, suc, ◌+◌, ◌-◌, ◌<◌, Bool, true, List, ◌++◌, ◌∷◌, ◌≤◌, Option, Some, filter, map, not, slice_get}
use Rattle.std.{proofs.Common.{take, sym, ap, ◌∙◌, arith, []}, specs.Prelude.IfSome}
use Rattle.cdm_plan.proofs.ListWords.{append-nil, All-nil, cons_option, filter_map, filter-append, option_and_then, option_map}
use Rattle.cdm_plan.proofs.PlanWords.{Flight, asked_of, flight_of, flights_in, gone_of, is_planned, is_untouched, planned_of, taxi_of}
use Rattle.cdm_plan.{proofs.DayPlanLemmas.records-next, specs.Brief.brief_of, specs.declared.brief.Brief.Brief}
use Rattle.cdm_plan.specs.{declared.touched.Touched.Touched, inner.Work.{HasExot, is_standing}}
use Rattle.cdm_sequence.specs.Aims.{TaxiTimes}
use Rattle.cdm_plan.proofs.work.touched_flights.Goals as goal

-- what passes two tests in two lists
passing : {X : Type 0} (p q : X → Bool) (xs ys : List X) → filter p (filter q (xs ++ ys)) ≡ filter p (filter q xs) ++ filter p (filter q ys)
passing p q xs ys = ap (filter p) (filter-append q xs ys) ∙ filter-append p (filter q xs) (filter q ys)

-- a flight that stands is none of those that are asked
standing : (t : Touched) (times : TaxiTimes) (known : Option Flight) (kept : Option Brief) → IfSome kept (λ b. option_map (brief_of times) known ≡ Some b)
    → is_standing t kept ≡ true → asked_of t (cons_option known []) ≡ []
standing t times known kept same stands = grind (arith, common_steps)

-- so those up to a place are those up to a later one, where all between stand
asked-same : (t : Touched) (times : TaxiTimes) (flight : List ℕ → Option Flight) (names : List (List ℕ)) (briefs : List Brief)
    → ((k : ℕ) → IfSome (slice_get briefs k) (λ b. option_map (brief_of times) (option_and_then flight (slice_get names k)) ≡ Some b))
    → (place more end : ℕ) → end ≡ place + more → ((k : ℕ) → place ≤ k → k < end → is_standing t (slice_get briefs k) ≡ true)
    → asked_of t (filter_map flight (take end names)) ≡ asked_of t (filter_map flight (take place names))
asked-same t times flight names briefs each place zero end is stand = grind (arith, common_steps)
asked-same t times flight names briefs each place (suc more) end is stand =
    let last = place + more in
    let known = option_and_then flight (slice_get names last) in
    let so_far = filter_map flight (take last names) in
    let next : end ≡ last + 1 = omega (arith, is) in
    let none = standing t times known (slice_get briefs last) (each last) (stand last (omega arith) (omega (arith, next))) in
    ap (λ n. asked_of t (filter_map flight (take n names))) next
    ∙ ap (asked_of t) (records-next flight names last)
    ∙ (filter-append (λ f. not (is_untouched t f)) so_far (cons_option known []) ∙ (ap (λ l. asked_of t so_far ++ l) none ∙ append-nil (asked_of t so_far)))
    ∙ asked-same t times flight names briefs each place more last (omega arith) (λ k from to. stand k from (omega (arith, to, next)))

pub loop-place-init : goal.loop-place-init
loop-place-init g c =
    let d = g.R.Records.day c.args.records.now in
    let flight = flight_of d.airport d.journal in
    let same = asked-same c.args.touched.now (taxi_of d.airport d.journal) flight (flights_in d.journal) c.briefs-briefs.result.now c.briefs-briefs.ensures.each
    0 c.first_touched-place.result c.first_touched-place.result (omega arith) (λ k from to. c.first_touched-place.ensures.before k from to) in
    record {
      gone = ap (map (λ f. f.now)) c.in_ok-gone.ensures.items ∙ sym (ap gone_of same);
      asked = ap (map (λ a. a.flight.now)) c.in_ok-asked.ensures.items ∙ sym (ap planned_of same);
      exots = rw c.in_ok-asked.ensures.items (All-nil (HasExot (taxi_of d.airport d.journal)));
      few = (omega (arith, c.in_ok-gone.ensures.len), omega (arith, c.in_ok-asked.ensures.len));
      room = (omega (arith, c.in_ok-gone.ensures.capacity), omega (arith, c.in_ok-asked.ensures.capacity));
    }

pub loop-place-preserved : goal.loop-place-preserved
loop-place-preserved g c =
    let d = g.R.Records.day c.args.records.now in
    let t = c.args.touched.now in
    let flight = flight_of d.airport d.journal in
    let place = c.loop-place.place in
    let next = c.first_touched-place-in-loop-place in
    let so_far = filter_map flight (take place (flights_in d.journal)) in
    let one = c.in-Some.flight.now ∷ [] in
    let is = sym c.known_at.ensures.flight ∙ ap (option_map (λ k. k.0.now)) c.in-Some.is in
    let with_one : filter_map flight (take (place + 1) (flights_in d.journal)) ≡ so_far ++ one =
    records-next flight (flights_in d.journal) place ∙ ap (λ o. so_far ++ cons_option o []) is in
    let same = asked-same t (taxi_of d.airport d.journal) flight (flights_in d.journal) c.briefs-briefs.result.now c.briefs-briefs.ensures.each
    (place + 1) (next.result - (place + 1)) next.result (omega (arith, next.ensures.from)) next.ensures.before in
    let all : asked_of t (filter_map flight (take next.result (flights_in d.journal))) ≡ asked_of t (so_far ++ one) = same ∙ ap (asked_of t) with_one in
    record {
      gone = c.push_touched.ensures.gone ∙ ((λ i. c.loop-place.invariant.gone i ++ gone_of (asked_of t one))
          ∙ (sym (passing (λ f. not (is_planned f.status)) (λ f. not (is_untouched t f)) so_far one) ∙ sym (ap gone_of all)));
      asked = c.push_touched.ensures.asked ∙ ((λ i. c.loop-place.invariant.asked i ++ planned_of (asked_of t one))
          ∙ (sym (passing (λ f. is_planned f.status) (λ f. not (is_untouched t f)) so_far one) ∙ sym (ap planned_of all)));
      exots = c.push_touched.ensures.exots (taxi_of d.airport d.journal) (sym (ap (λ b. b.exot) c.in-Some.ensures.brief)) c.loop-place.invariant.exots;
      few = (
        omega (arith, c.push_touched.ensures.len.0, c.loop-place.invariant.few.0, next.ensures.from),
        omega (arith, c.push_touched.ensures.len.1, c.loop-place.invariant.few.1, next.ensures.from),
      );
      room = (omega (arith, c.push_touched.ensures.capacity.0, c.loop-place.invariant.room.0), omega (arith, c.push_touched.ensures.capacity.1, c.loop-place.invariant.room.1));
    }

pub loop-place-preserved-in_default : goal.loop-place-preserved-in_default
loop-place-preserved-in_default g c =
    let d = g.R.Records.day c.args.records.now in
    let t = c.args.touched.now in
    let flight = flight_of d.airport d.journal in
    let place = c.loop-place.place in
    let so_far = filter_map flight (take place (flights_in d.journal)) in
    let is = sym c.known_at.ensures.flight ∙ ap (option_map (λ k. k.0.now)) c.in_default.is in
    let next = records-next flight (flights_in d.journal) place ∙ (ap (λ o. so_far ++ cons_option o []) is ∙ append-nil so_far) in
    record {
      gone = c.loop-place.invariant.gone ∙ sym (ap (λ l. gone_of (asked_of t l)) next);
      asked = c.loop-place.invariant.asked ∙ sym (ap (λ l. planned_of (asked_of t l)) next);
      exots = c.loop-place.invariant.exots;
      few = (omega (arith, c.loop-place.invariant.few.0), omega (arith, c.loop-place.invariant.few.1));
      room = c.loop-place.invariant.room;
    }
