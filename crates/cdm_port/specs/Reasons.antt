-- Why the system has not done a call.
use Rattle.std.specs.declared.io.ErrorKind.{ErrorKind}
use Rattle.std.specs.declared.io.ErrorKind.TheVariants.{Other, Uncategorized, StorageFull}
use Rattle.cdm_port.specs.declared.reason.Reason.{Reason}
use Rattle.cdm_port.specs.declared.reason.Reason.TheVariants.{Untold, NoSpace, Told}

-- the reason that the kind of an error gives
abbrev pub reason_for : ErrorKind → Reason
reason_for Other = Untold
reason_for Uncategorized = Untold
reason_for StorageFull = NoSpace
reason_for kind = Told kind
