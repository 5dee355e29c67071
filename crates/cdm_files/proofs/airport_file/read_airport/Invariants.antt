use Rattle.cdm_files.{proofs.Words.{◌≡◌, ◌+◌, ◌≤◌, length, ok_or, Order}, specs.AirportFile.{airport_in, airport_record_of, with_record}}
use Rattle.cdm_files.specs.{Fields.and_then, Files.after_records}
use Rattle.cdm_files.proofs.airport_file.read_airport.Given as goal

abbrev pub invariant-records : goal.invariant-records
invariant-records l = record {
  count : l.number + length l.reader ≤ length l.fn.text;
  all : airport_in l.fn.text
      ≡ and_then (after_records airport_record_of with_record l.airport (l.number + 1) l.reader) (λ rows. ok_or rows (1, Order));
}

abbrev pub decreases-records : goal.decreases-records
decreases-records l = length l.reader
