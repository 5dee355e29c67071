use Rattle.std.{proofs.Common.{◌≡◌, ◌∙◌, arith, ap, subst}, specs.Int.{w64, from_be_bytes}}
use Rattle.cdm_flight.{specs.inner.Padded.{IsName, padded}, proofs.NumberLemmas.read_number}
use Rattle.cdm_flight.proofs.name.Name.number.Goals as goal

pub returns-clause-value : goal.returns-clause-value
returns-clause-value g c =
    let kept : c.self.inside.text ≡ padded c.args.self.now = c.self.invariant.3 ∙ ap padded c.self.view_is in
    let name = subst (IsName g.row.MOST) c.self.view_is c.self.invariant.4 in
    c.from_be_bytes.ensures ∙ (ap (from_be_bytes w64) kept ∙ read_number c.args.self.now (omega (arith, name.1, c.self.invariant.1)))
