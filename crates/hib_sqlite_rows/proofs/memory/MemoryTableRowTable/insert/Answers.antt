use Rattle.sqlite.proofs.Callers.{memory_is_clean}
use Rattle.hib_sqlite_rows.proofs.Calls.{on_err, call_err, insert_done}
use Rattle.hib_sqlite_rows.proofs.memory.MemoryTableRowTable.insert.Goals as goal

pub invariant_of-self : goal.invariant_of-self
invariant_of-self c = (call_err c.self.inside.conn c.insert.new.conn _ _ _ _ c.self.invariant c.insert.ensures.survives (c.in_err-insert.ensures.runs (memory_is_clean c.insert.new.conn))).0

pub returns-in_err-insert-clause-err : goal.returns-in_err-insert-clause-err
returns-in_err-insert-clause-err c =
    on_err c.from_residual-in_err-insert.result (rw (← c.self.view_is) (call_err c.self.inside.conn c.insert.new.conn _ _ _ _ c.self.invariant c.insert.ensures.survives (c.in_err-insert.ensures.runs (memory_is_clean c.insert.new.conn))).1)

pub invariant_of-self-2 : goal.invariant_of-self-2
invariant_of-self-2 c = (insert_done c.self.inside.conn c.insert.new.conn c.args.key c.args.row.now c.in_ok-insert.field-0 c.self.invariant c.requires.range (rw (← c.self.view_is) at c.requires.inside) (rw (← c.self.view_is) at c.requires.absent) (rw (c.as_slice.ensures, c.in_ok-body.ensures.body) at (c.in_ok-insert.ensures.runs (memory_is_clean c.insert.new.conn)))).0

pub returns-clause-ok : goal.returns-clause-ok
returns-clause-ok c = rw (← c.self.view_is) (insert_done c.self.inside.conn c.insert.new.conn c.args.key c.args.row.now c.in_ok-insert.field-0 c.self.invariant c.requires.range (rw (← c.self.view_is) at c.requires.inside) (rw (← c.self.view_is) at c.requires.absent) (rw (c.as_slice.ensures, c.in_ok-body.ensures.body) at (c.in_ok-insert.ensures.runs (memory_is_clean c.insert.new.conn)))).1
