use Rattle.std.proofs.Common.{rules, ◌≡◌, true, List, not, ap, sym, ◌∙◌}
use Rattle.std.specs.Cmp.Lexicographic.{pointwise}
use Rattle.hib_base.proofs.Equality.{cells_decide}
use Rattle.hib_base.specs.contracts.rows.CellPartialEq.TheImpl.{eq-value as cell_eq}
use Rattle.hib_dirty_check.proofs.Compared.{cells_compared}
use Rattle.hib_journal.specs.Types.{Cell}
use Rattle.hib_journal.specs.Held.{same_cells}
use Rattle.hib_session.proofs.memory.Memory.read.Goals as goal

-- cells are the same as themselves
itself : (xs : List Cell) → same_cells xs xs ≡ true
itself xs =
    let e : pointwise cell_eq.it xs xs ≡ true = Prim.search (rules, cells_decide xs xs) in
    sym (cells_compared xs xs) ∙ e

pub arrive-requires-clause-clean : goal.arrive-requires-clause-clean
arrive-requires-clause-clean c = rw c.in_ok-held.ensures (ap not (itself c.args.row.now.cells))
