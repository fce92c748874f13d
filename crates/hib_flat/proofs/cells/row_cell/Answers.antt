use Rattle.std.proofs.Common.{◌≡◌, ◌∙◌, sym, false, bytes_eq, rules}
use Rattle.std.specs.Prelude.{slice_get}
use Rattle.hib_texts.specs.Texts.{column_name}
use Rattle.hib_flat.proofs.Pieces.{cell_step}
use Rattle.hib_flat.proofs.cells.row_cell.Goals as goal

pub loop-i-preserved : goal.loop-i-preserved
loop-i-preserved c =
    let other : bytes_eq (column_name (slice_get c.args.columns.now c.loop-i.i)) c.args.name.now ≡ false = search rules in
    sym (cell_step c.args.name.now c.args.columns.now c.loop-i.i c.args.row.now c.loop-i-test.true other) ∙ c.loop-i.invariant
