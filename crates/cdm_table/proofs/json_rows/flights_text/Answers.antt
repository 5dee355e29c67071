use Rattle.cdm_table.proofs.Words.{◌∙◌, ◌++◌, ◌∷◌, ◌==◌, ℕ, List, [], cond, length, map, refl, rules, sym, ap, flat_map, slice_get_read}
use Rattle.cdm_table.proofs.Words.{print, print_from, begin_array, json_tokens, all_taken, row_json, row_members, Row, flights_text}
use Rattle.cdm_table.specs.inner.OwnRows.{json_row}
use Rattle.cdm_json.proofs.AroundLemmas.{item_next, items_closed}
use Rattle.cdm_table.proofs.json_rows.flights_text.Goals as goal

pub loop-place-init : goal.loop-place-init
unfolding print_from
loop-place-init c = record {
  text = c.in_ok-push.ensures.items ∙ ap (λ (l : List ℕ). l ++ 91 ∷ []) c.in_ok-text.ensures.items;
  left = c.requires;
}

pub push_flight-requires : goal.push_flight-requires
push_flight-requires c =
    let form = json_row c.args.day in
    c.text_of_same.ensures form (c.from_flight-left.ensures form c.loop-place.invariant.left)

pub loop-place-preserved : goal.loop-place-preserved
loop-place-preserved c =
    let day = c.args.day in
    let xs = c.as_slice-rows.result.now in
    let k = c.loop-place.place in
    let row = c.index-rows-place.result in
    let comma : List ℕ = cond (k == 0) [] (44 ∷ []) in
    let at = slice_get_read xs (length xs) k row refl c.loop-place-test.true c.index-rows-place.is in
    let before = c.in_ok-push_comma.ensures ∙ ap (λ (l : List ℕ). l ++ comma) c.loop-place.invariant.text in
    record {
      text = c.in_ok-push_flight.ensures ∙ (ap (λ (l : List ℕ). l ++ json_row day row) before ∙ sym (item_next (row_members day) xs k row at));
      left = c.from_flight-left.ensures (json_row day) c.loop-place.invariant.left;
    }

pub returns : goal.returns
returns c =
    let day = c.args.day in
    let xs = c.as_slice-rows.result.now in
    let all = all_taken xs c.loop-place.place (search rules) in
    let items = c.loop-place.invariant.text ∙ ap (λ (rows : List Row). print (begin_array ∷ flat_map json_tokens (map (row_json day) rows))) all in
    c.in_ok-push-2.ensures.items
    ∙ (ap (λ (l : List ℕ). l ++ 93 ∷ []) items ∙ (items_closed (map (row_json day) xs) ∙ ap (flights_text day) c.as_slice-rows.ensures.items))
