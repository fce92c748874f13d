-- The number that a program ends with, by how the top call ended.
use Rattle.std.specs.Prelude.{ℕ}
use Rattle.hib_call.specs.declared.status.Status.{Status}

abbrev pub exit_number : Status → ℕ
exit_number Status.Done = 0
exit_number (Status.Illegal n k) = 1
exit_number Status.Usage = 2
exit_number (Status.Refused r) = 3
exit_number Status.ReadFault = 4
exit_number Status.WriteFault = 5
exit_number Status.TooLong = 6
exit_number (Status.Torn torn) = 7
exit_number Status.NoMemory = 8
exit_number Status.StoreFault = 9
