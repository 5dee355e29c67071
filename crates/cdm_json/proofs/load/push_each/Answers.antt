use Rattle.cdm_json.proofs.Words.{◌≡◌, ◌∙◌, ◌-◌, ◌++◌, ℕ, List, ap, arith, sym, flat_map, range_with_len, Token, json_tokens}
use Rattle.cdm_json.{proofs.TokenLemmas.{mapped, number_more}, specs.Loads.cell_json}
use Rattle.cdm_json.proofs.load.push_each.Goals as goal

pub loop-cell-preserved : goal.loop-cell-preserved
loop-cell-preserved c =
    let told : ℕ → List Token = λ k. json_tokens (cell_json c.args.day c.args.runway.now c.args.slots.now k) in
    record {
      tokens =
          number_more told c.args.writer.now.tokens c.loop-cell.writer.tokens c.push_cell.new.writer.tokens c.told_cells-from.result.0 c.loop-cell.cell
          c.loop-cell.auto.cell c.loop-cell.invariant.tokens c.in_ok-push_cell.ensures.tokens;
      before = c.in_ok-push_cell.ensures.before ∙ c.loop-cell.invariant.before;
    }

pub returns-clause-tokens : goal.returns-clause-tokens
returns-clause-tokens c =
    let json = cell_json c.args.day c.args.runway.now c.args.slots.now in
    let told : ℕ → List Token = λ k. json_tokens (json k) in
    let old = c.args.writer.now.tokens in
    let from = c.told_cells-from.result.0 in
    let to = c.told_cells-from.result.1 in
    let end : c.loop-cell.cell ≡ to = omega (arith, c.loop-cell.auto.cell-end c.told_cells-from.ensures.order, c.loop-cell-test.false) in
    c.loop-cell.invariant.tokens ∙ ap (λ k. old ++ flat_map told (range_with_len from (k - from))) end
    ∙ ap (λ ks. old ++ flat_map told ks) (sym c.told_cells-from.ensures.cells)
    ∙ ap (λ ts. old ++ ts) (sym (mapped json _))
