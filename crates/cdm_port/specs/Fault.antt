-- The fault of a port.
use Rattle.std.specs.Prelude.{Option, Some, Result, Ok, Err}
use Rattle.cdm_port.specs.declared.fault.PortFault.{PortFault}

-- the fault of the call that failed last, after a call that answers this
abbrev pub fault_after : {T : Type 0} → Option PortFault → Result T PortFault → Option PortFault
fault_after before (Ok value) = before
fault_after before (Err fault) = Some fault
