use Rattle.std.proofs.Common.{◌≡◌, ◌∙◌, [], ◌∷◌, ◌++◌, ap}
use Rattle.cdm_board.specs.History.{DeskRecord, Looks}
use Rattle.cdm_live.proofs.DeskLemmas.{looked}
use Rattle.cdm_live.proofs.desks.work.Goals as goal

pub returns : goal.returns
returns g c =
    let before = c.in_ok-desk.field-0.desk in
    let seen = c.in_ok-look.field-0 in
    let look = c.in_ok-look.ensures.desk in
    let number : c.look.new.desk.number ≡ before.number = ap (λ (d : DeskRecord). d.number) look in
    let receipts : c.look.new.desk.receipts ≡ before.receipts ++ Looks seen.airport seen.journal ∷ [] = ap (λ (d : DeskRecord). d.receipts) look in
    looked c.args.desk.number c.args.updates.now before.receipts c.look.new.desk seen.airport seen.journal c.in_ok-desk.field-0.replies.items
    (number ∙ c.in_ok-desk.ensures.number) c.in_ok-desk.ensures.posts receipts c.in_ok-desk.ensures.replied
