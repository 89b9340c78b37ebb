-- What a line that is not read makes of its text.
use Rattle.board_text.specs.declared.fault.LineError.{LineError}
use Rattle.board_text.specs.declared.fault.LineError.TheVariants as error
use Rattle.makejob.specs.declared.fault.Fault.{Fault}
use Rattle.makejob.specs.declared.fault.Fault.TheVariants.{Malformed, OutOfRange}

abbrev pub fault_of : LineError → Fault
fault_of error.Malformed = Malformed
fault_of error.OutOfRange = OutOfRange
