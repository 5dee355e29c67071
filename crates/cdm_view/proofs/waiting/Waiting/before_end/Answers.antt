use Rattle.std.proofs.Common.{◌≡◌, ◌+◌, ◌∙◌, ap, ltb, take, arith, rules, tests}
use Rattle.std.proofs.lemmas.Iterator.{YieldsList-from_slice, Consumers.count_from_yields_List, Search.YieldsList-from_take_while}
use Rattle.std.proofs.lemmas.List.Folds.{length-prefix_len}
use Rattle.cdm_flight.specs.Spacing.{occupancy_of}
use Rattle.cdm_sequence.specs.declared.slot.Slot.{Slot}
use Rattle.cdm_view.{specs.inner.Earlier.met_among, proofs.EarlierLemmas.met_before}
use Rattle.cdm_view.proofs.waiting.Waiting.before_end.Goals as goal

pub returns : goal.returns
returns c =
    let all = c.args.slots.now in
    let w = c.args.self.now in
    let m = c.args.minute in
    let end = c.get.result + c.get-2.result in
    let test = λ (s : Slot). ltb s.ttot end in
    let count = count_from_yields_List c.take_while.result _ c.count-count.ensures.ran
    (YieldsList-from_take_while _ test (YieldsList-from_slice all cc) c.take_while.ensures.closure c.take_while.ensures.done
    (λ x b q k. search (rules, tests))) ∙ length-prefix_len test all in
    let own : c.occupancy.result ≡ occupancy_of w.rules.spacing w.flight.group = grind (arith, c.self.view_is, c.flight.view_is, c.occupancy.ensures.value) in
    let same : end ≡ m + occupancy_of w.rules.spacing w.flight.group = omega (arith, c.get.ensures.value, c.get-2.ensures.value, own) in
    ap (λ k. met_among w m (take k all)) count ∙ met_before w m all end same c.requires
