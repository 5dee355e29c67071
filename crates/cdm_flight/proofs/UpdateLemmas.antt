-- What `==` says of updates.
use Rattle.std.{proofs.Common.{rules, ◌≡◌, true, false}, specs.Bool.Decides}
use Rattle.cdm_flight.specs.contracts.update.UpdatePartialEq.TheImpl as update_eq
use Rattle.cdm_flight.specs.declared.update.Update.{Update}
use Rattle.cdm_flight.specs.declared.update.Update.TheVariants.{Flt, Tobt, Stand, Rwy, Ctot, Ice, Prio, Group, Off, Air, Cnl, Rate, Close}
use Rattle.cdm_flight.specs.declared.update.Update.TheVariants.{Reopen, Taxi, Clock, Tol}

apart : {P : Type 0} → (P → ⊥) → Decides false P
apart never = ((λ (untrue : false ≡ true). cc), λ p. absurd (never p))

pub update_eq-Decides : (a b : Update) → Decides ((update_eq.ghosts).eq a b) (a ≡ b)
update_eq-Decides (Flt f p) (Flt g q) = search rules
update_eq-Decides (Tobt f t) (Tobt g u) = search rules
update_eq-Decides (Stand f s) (Stand g t) = search rules
update_eq-Decides (Rwy f r) (Rwy g s) = search rules
update_eq-Decides (Ctot f c) (Ctot g d) = search rules
update_eq-Decides (Ice f i) (Ice g j) = search rules
update_eq-Decides (Prio f p) (Prio g q) = search rules
update_eq-Decides (Group f w) (Group g v) = search rules
update_eq-Decides (Off f m) (Off g n) = search rules
update_eq-Decides (Air f m) (Air g n) = search rules
update_eq-Decides (Cnl f) (Cnl g) = search rules
update_eq-Decides (Rate r from to cap) (Rate s start end most) = search rules
update_eq-Decides (Close r from to) (Close s start end) = search rules
update_eq-Decides (Reopen r from to) (Reopen s start end) = search rules
update_eq-Decides (Taxi p r m) (Taxi q s n) = search rules
update_eq-Decides (Clock m) (Clock n) = search rules
update_eq-Decides (Tol t) (Tol u) = search rules
update_eq-Decides a b = apart (λ (e : a ≡ b). cc)
