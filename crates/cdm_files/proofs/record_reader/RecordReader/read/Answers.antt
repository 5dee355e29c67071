use Rattle.csv.specs.Records.{fields_of}
use Rattle.cdm_files.proofs.RecordFacts.{records_left-read}
use Rattle.cdm_files.proofs.record_reader.RecordReader.read.Goals as goal

pub invariant_of-self : goal.invariant_of-self
invariant_of-self c =
    let h = c.self.invariant c.if-self.false in
    let e = c.in-Ok.ensures in
    (records_left-read c.self.inside.reader c.read_byte_record.new.self c.in-Ok.found (fields_of c.read_byte_record.new.row) h (e.ready h.trim) e.flexible (e.reads h.trim h.ready)).between

pub returns-in-Ok-clause-left : goal.returns-in-Ok-clause-left
returns-in-Ok-clause-left c =
    let h = c.self.invariant c.if-self.false in
    let e = c.in-Ok.ensures in
    let one = records_left-read c.self.inside.reader c.read_byte_record.new.self c.in-Ok.found (fields_of c.read_byte_record.new.row) h (e.ready h.trim) e.flexible (e.reads h.trim h.ready) in
    rw (← c.self.view_is, c.if-self.false) one.left
