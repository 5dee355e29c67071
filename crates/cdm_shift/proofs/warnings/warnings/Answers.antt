use Rattle.std.{proofs.Common.{◌≡◌, ◌∙◌, ◌++◌, Bool, List, ap}, specs.Prelude.flat_map, specs.List.filter_map}
use Rattle.cdm_flight.specs.{Journal.values_of, declared.values.DayValues.DayValues}
use Rattle.cdm_row.specs.declared.row.Row.{Row}
use Rattle.cdm_shift.specs.Warnings.{ahead, blocked, edge, full_cells, has_clock, missed, overdue, past, shut, warnings}
use Rattle.cdm_shift.{specs.declared.warning.Warning.Warning, proofs.ListLemmas.eight_parts}
use Rattle.cdm_shift.proofs.warnings.warnings.Goals as goal

pub returns : goal.returns
unfolding warnings
returns g c = λ runways by_name.
    let d = g.R.Records.day c.args.records.now in
    let plan = c.args.plan.now in
    let rows = c.args.rows.now in
    let values = values_of d.journal in
    let v : c.values-values.result ≡ values = c.values-values.ensures.value in
    let one = c.in_ok-found.found.items in
    let two = c.extend_from_slice.new.self.items in
    let three = c.extend_from_slice-2.new.self.items in
    let four = c.extend_from_slice-3.new.self.items in
    let five = c.push_past.new.found.items in
    let six = c.extend_from_slice-4.new.self.items in
    let seven = c.push_all_full.new.found.items in
    let overdues : DayValues → List Warning = λ v. filter_map (λ (row : Row). overdue v row row.status) rows in
    let misses : DayValues → List Warning = λ v. filter_map (λ (row : Row). missed v row row.status) rows in
    let edges : DayValues → List Warning = λ v. filter_map (λ (row : Row). edge v row row.status) rows in
    let aheads : Bool → DayValues → List Warning = λ b v. filter_map (λ (row : Row). ahead b v row row.status) rows in
    let clocked : c.args.clocked ≡ has_clock d.journal = c.requires in
    let pasts : List Warning = filter_map (λ (row : Row). past d plan row row.status) rows in
    let shuts : List Warning = filter_map (λ (row : Row). shut d row row.status) rows in
    let first : one ≡ overdues values = c.in_ok-found.ensures ∙ ap overdues v in
    let second : two ≡ one ++ misses values = c.in_ok-extend_from_slice.ensures.items
    ∙ ap (λ (x : List Warning). one ++ x) (c.deref.ensures.value ∙ c.in_ok-all_missed.ensures ∙ ap misses v) in
    let third : three ≡ two ++ filter_map blocked rows = c.in_ok-extend_from_slice-2.ensures.items
    ∙ ap (λ (x : List Warning). two ++ x) (c.deref-2.ensures.value ∙ c.in_ok-all_blocked.ensures) in
    let fourth : four ≡ three ++ edges values = c.in_ok-extend_from_slice-3.ensures.items
    ∙ ap (λ (x : List Warning). three ++ x) (c.deref-3.ensures.value ∙ c.in_ok-all_edge.ensures ∙ ap edges v) in
    let sixth : six ≡ five ++ aheads (has_clock d.journal) values = c.in_ok-extend_from_slice-4.ensures.items
    ∙ ap (λ (x : List Warning). five ++ x) (c.deref-4.ensures.value ∙ c.in_ok-all_ahead.ensures ∙ (λ i. aheads (clocked i) (v i))) in
    let last : c.extend_from_slice-5.new.self.items ≡ seven ++ shuts = c.in_ok-extend_from_slice-5.ensures.items
    ∙ ap (λ (x : List Warning). seven ++ x) (c.deref-5.ensures.value ∙ c.in_ok-all_shut.ensures) in
    eight_parts (overdues values) (misses values) (filter_map blocked rows) (edges values) pasts (aheads (has_clock d.journal) values) (flat_map (full_cells plan) runways) shuts
    one two three four five six seven c.extend_from_slice-5.new.self.items first second third fourth c.in_ok-push_past.ensures sixth
    (c.in_ok-push_all_full.ensures runways by_name) last
