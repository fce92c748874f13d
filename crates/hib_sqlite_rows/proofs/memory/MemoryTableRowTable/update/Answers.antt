use Rattle.sqlite.proofs.Callers.{memory_is_clean}
use Rattle.hib_sqlite_rows.proofs.Calls.{on_err, call_err, update_done}
use Rattle.hib_sqlite_rows.proofs.memory.MemoryTableRowTable.update.Goals as goal

pub invariant_of-self : goal.invariant_of-self
invariant_of-self c = (call_err c.self.inside.conn c.update.new.conn _ _ _ _ c.self.invariant c.update.ensures.survives (c.in_err-update.ensures.runs (memory_is_clean c.update.new.conn))).0

pub returns-in_err-update-clause-err : goal.returns-in_err-update-clause-err
returns-in_err-update-clause-err c =
    on_err c.from_residual-in_err-update.result (rw (← c.self.view_is) (call_err c.self.inside.conn c.update.new.conn _ _ _ _ c.self.invariant c.update.ensures.survives (c.in_err-update.ensures.runs (memory_is_clean c.update.new.conn))).1)

pub invariant_of-self-2 : goal.invariant_of-self-2
invariant_of-self-2 c = (update_done c.self.inside.conn c.update.new.conn c.args.key c.args.row.now c.in_ok-update.field-0 c.self.invariant c.requires.range (rw (← c.self.view_is) at c.requires.inside) (rw (← c.self.view_is) at c.requires.there) (rw (c.as_slice.ensures, c.in_ok-body.ensures.body) at (c.in_ok-update.ensures.runs (memory_is_clean c.update.new.conn)))).0

pub returns-clause-ok : goal.returns-clause-ok
returns-clause-ok c = rw (← c.self.view_is) (update_done c.self.inside.conn c.update.new.conn c.args.key c.args.row.now c.in_ok-update.field-0 c.self.invariant c.requires.range (rw (← c.self.view_is) at c.requires.inside) (rw (← c.self.view_is) at c.requires.there) (rw (c.as_slice.ensures, c.in_ok-body.ensures.body) at (c.in_ok-update.ensures.runs (memory_is_clean c.update.new.conn)))).1
