-- The faults of records, as the code tells them.
use Rattle.std.specs.Prelude.{◌≡◌, ⊤, ℕ, Option, None, Some, Result, Err}
use Rattle.cdm_day.specs.declared.airport.AirportFault.{AirportFault}
use Rattle.cdm_day.specs.Airport.{word_of}
use Rattle.cdm_flight.specs.declared.word.RefusalWord.{RefusalWord}
use Rattle.cdm_files.specs.declared.file_fault.FileFault.{FileFault}
use Rattle.cdm_files.specs.declared.file_fault.FileFault.TheVariants as file
use Rattle.cdm_files.specs.declared.file_fault.RecordFault.{RecordFault}
use Rattle.cdm_files.specs.declared.file_fault.RecordFault.TheVariants as row

-- the fault of a file whose first faulty record has this number
abbrev pub fault_at : RecordFault → ℕ → FileFault
fault_at (row.Refused word) number = file.Refused number word
fault_at row.Memory number = file.Memory

-- the fault of a record whose row can't be added to the airport
abbrev pub row_fault : AirportFault → RecordFault
row_fault fault = by (word_of fault)
  where
    by : Option RefusalWord → RecordFault
    by (Some word) = row.Refused word
    by None = row.Memory

-- the fault tells why a record is refused, or is want of memory
abbrev pub IsRecordFaultOf : {S : Type 0} → Result S RefusalWord → RecordFault → Type 0
IsRecordFaultOf r (row.Refused word) = r ≡ Err word
IsRecordFaultOf r row.Memory = ⊤
