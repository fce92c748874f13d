use Rattle.std.proofs.Common.{◌≡◌, drop, false}
use Rattle.hib_entry_fields.specs.Fields.{quoted}
use Rattle.hib_entry_fields.proofs.Loops.{with_front}
use Rattle.hib_entry_fields.proofs.cells.quoted.Given as goal

abbrev pub invariant-loop-i : goal.invariant-loop-i
invariant-loop-i l = with_front l.text.items (quoted l.escaped (drop l.i l.bytes)) ≡ quoted false l.bytes
