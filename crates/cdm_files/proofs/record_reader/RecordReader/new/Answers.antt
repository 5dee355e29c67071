use Rattle.std.proofs.Common.{refl}
use Rattle.cdm_files.{specs.Records.records_of, specs.inner.RecordsLeft.records_at, proofs.RecordFacts.records_of-length}
use Rattle.cdm_files.proofs.record_reader.RecordReader.new.Goals as goal

pub returns-clause-left : goal.returns-clause-left
unfolding records_at records_of
returns-clause-left c = rw (c.from_reader.ensures.state, c.from_reader.ensures.source) refl

pub returns-clause-count : goal.returns-clause-count
returns-clause-count c = rw (returns-clause-left c) (records_of-length c.args.text.now)
