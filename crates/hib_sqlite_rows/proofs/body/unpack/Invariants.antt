use Rattle.std.proofs.Common.{◌≡◌, ◌≤◌, ◌-◌, drop, length}
use Rattle.hib_sqlite_rows.specs.Body.{unpacked, unpacked_cells}
use Rattle.hib_sqlite_rows.proofs.Parts.{after_these}
use Rattle.hib_sqlite_rows.proofs.body.unpack.Given as goal

abbrev pub invariant-loop-done : goal.invariant-loop-done
invariant-loop-done l = record {
  within : l.at ≤ length l.body;
  cells : unpacked l.body ≡ after_these l.cells.items (unpacked_cells (l.count - l._done) (drop l.at l.body));
}
