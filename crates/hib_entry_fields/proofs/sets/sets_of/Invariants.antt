use Rattle.std.proofs.Common.{◌≡◌, ◌-◌, ◌++◌, length}
use Rattle.hib_entry_fields.specs.Fields.{sets_from}
use Rattle.hib_entry_fields.proofs.sets.sets_of.Given as goal

abbrev pub invariant-loop : goal.invariant-loop
invariant-loop l = l.sets.items ++ sets_from l.script l.entity (length l.bytes - l.counter) l.rest ≡ sets_from l.script l.entity (length l.bytes) l.bytes
