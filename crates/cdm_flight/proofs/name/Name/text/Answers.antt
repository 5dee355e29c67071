use Rattle.std.proofs.Common.{◌≡◌, rules}
use Rattle.cdm_flight.proofs.NameLemmas.{IsOk-from_utf8, ascii-from_letters, letters_of}
use Rattle.cdm_flight.proofs.name.Name.text.Goals as goal

pub unwrap-requires : goal.unwrap-requires
unwrap-requires g c =
    let ascii = ascii-from_letters c.args.self.now (letters_of g.row.MOST c.args.self.now c.bytes.ensures.name) in
    IsOk-from_utf8 _ _ _ _ c.from_utf8.ensures.cases (rw c.bytes.ensures.value ascii)

pub returns-clause-ascii : goal.returns-clause-ascii
returns-clause-ascii g c =
    let value : c.unwrap.result.now ≡ c.args.self.now = search rules in
    rw value (ascii-from_letters c.args.self.now (letters_of g.row.MOST c.args.self.now c.bytes.ensures.name))
