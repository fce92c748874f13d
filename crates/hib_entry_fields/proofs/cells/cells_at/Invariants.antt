use Rattle.std.proofs.Common.{◌≡◌, ◌-◌, length}
use Rattle.hib_entry_fields.specs.Fields.{cells_from}
use Rattle.hib_entry_fields.proofs.Loops.{with_front}
use Rattle.hib_entry_fields.proofs.cells.cells_at.Given as goal

abbrev pub invariant-loop : goal.invariant-loop
invariant-loop l = with_front l.cells.items (cells_from (length l.bytes - l.counter) l.rest) ≡ cells_from (length l.bytes) l.bytes
