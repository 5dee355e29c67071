use Rattle.std.proofs.Common.{◌≡◌, rules}
use Rattle.cdm_journal.proofs.WholeLemmas.{end_of, found-whole, found-within}
use Rattle.cdm_journal.proofs.whole.whole_length.Goals as goal

pub returns-clause-within : goal.returns-clause-within
returns-clause-within c =
    let end : c.map_or.result ≡ end_of c.memrchr.result = search rules in
    rw end (found-within c.args.bytes.now c.memrchr.result c.memrchr.ensures)

pub returns-clause-whole : goal.returns-clause-whole
returns-clause-whole c =
    let end : c.map_or.result ≡ end_of c.memrchr.result = search rules in
    rw end (found-whole c.args.bytes.now c.memrchr.result c.memrchr.ensures)
