use Rattle.sqlite.proofs.Callers.{memory_is_clean}
use Rattle.hib_sqlite_rows.proofs.Calls.{on_err, call_err, delete_done}
use Rattle.hib_sqlite_rows.proofs.memory.MemoryTableRowTable.delete.Goals as goal

pub invariant_of-self : goal.invariant_of-self
invariant_of-self c = (call_err c.self.inside.conn c.delete.new.conn _ _ _ _ c.self.invariant c.delete.ensures.survives (c.in_err-delete.ensures.runs (memory_is_clean c.delete.new.conn))).0

pub returns-in_err-delete-clause-err : goal.returns-in_err-delete-clause-err
returns-in_err-delete-clause-err c =
    on_err c.from_residual.result (rw (← c.self.view_is) (call_err c.self.inside.conn c.delete.new.conn _ _ _ _ c.self.invariant c.delete.ensures.survives (c.in_err-delete.ensures.runs (memory_is_clean c.delete.new.conn))).1)

pub invariant_of-self-2 : goal.invariant_of-self-2
invariant_of-self-2 c = (delete_done c.self.inside.conn c.delete.new.conn c.args.key c.in_ok-delete.field-0 c.self.invariant (rw (← c.self.view_is) at c.requires.inside) (c.in_ok-delete.ensures.runs (memory_is_clean c.delete.new.conn))).0

pub returns-clause-ok : goal.returns-clause-ok
returns-clause-ok c = rw (← c.self.view_is) (delete_done c.self.inside.conn c.delete.new.conn c.args.key c.in_ok-delete.field-0 c.self.invariant (rw (← c.self.view_is) at c.requires.inside) (c.in_ok-delete.ensures.runs (memory_is_clean c.delete.new.conn))).1
