use Rattle.std.proofs.Common.{◌≡◌, ◌∙◌, ap}
use Rattle.cdm_runway.proofs.CellLemmas.{cell_length-divides}
use Rattle.cdm_view.{specs.Reasons.Waiting, proofs.EarlierLemmas.cell_part}
use Rattle.cdm_view.proofs.waiting.Waiting.held_at.Goals as goal

pub returns : goal.returns
returns c =
    let w = c.args.self.now in
    let cell : c.get-cell.result ≡ w.rules.cell = c.get-cell.ensures.value ∙ (c.cell.ensures ∙ ap (λ (v : Waiting). v.rules.cell) c.self.view_is) in
    c.earlier_in.ensures ∙ cell_part w c.args.minute c.get-cell.result c.get.result (cell_length-divides c.get-cell.result c.get-cell.ensures.length).0 cell c.get.ensures.value
