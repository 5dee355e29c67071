use Rattle.std.proofs.Common.{◌≡◌, ◌+◌, ◌-◌, arith}
use Rattle.cdm_flight.specs.Spacing.{occupancy_of}
use Rattle.cdm_view.proofs.EarlierLemmas.{near_part}
use Rattle.cdm_view.proofs.waiting.Waiting.near.Goals as goal

pub returns : goal.returns
returns c =
    let w = c.args.self.now in
    let longest = c.longest.result in
    let own : c.occupancy.result ≡ occupancy_of w.rules.spacing w.flight.group = grind (arith, c.self.view_is, c.flight.view_is, c.occupancy.ensures.value) in
    let first : c.saturating_sub.result ≡ c.args.minute - longest = omega (arith, c.saturating_sub.ensures, c.get-own.ensures.value) in
    let last : c.get-own.result + c.get.result ≡ c.args.minute + occupancy_of w.rules.spacing w.flight.group = omega (arith, c.get.ensures.value, c.get-own.ensures.value, own) in
    rw c.earlier_in.ensures (near_part w c.args.minute _ _ longest c.longest.ensures first last)
