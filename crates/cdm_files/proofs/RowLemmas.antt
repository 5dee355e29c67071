-- A row that the airport refuses is refused by the same word.
use Rattle.cdm_files.{proofs.Words.{◌≡◌, Some, Result, Ok, Err, result_err, AirportRows, RefusalWord, word_of}, specs.Fields.of_one}
use Rattle.cdm_files.specs.inner.RecordFaults.{IsRecordFaultOf, row_fault}
use Rattle.cdm_day.specs.declared.airport.AirportFault.{AirportFault, TheVariants.Memory}

pub row_refused : (r : Result AirportRows RefusalWord) (fault : AirportFault) → word_of fault ≡ result_err r → IsRecordFaultOf (of_one Some r) (row_fault fault)
row_refused (Ok g) Memory h = tt
row_refused (Err word) Memory h = tt
row_refused _ _ h = cc
