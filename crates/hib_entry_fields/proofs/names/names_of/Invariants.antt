use Rattle.std.proofs.Common.{◌≡◌, ◌-◌, ◌++◌, length}
use Rattle.hib_entry_fields.specs.Fields.{names_from}
use Rattle.hib_entry_fields.proofs.names.names_of.Given as goal

abbrev pub invariant-loop : goal.invariant-loop
invariant-loop l = l.names.items ++ names_from l.script (length l.bytes - l.counter) l.rest ≡ names_from l.script (length l.bytes) l.bytes
