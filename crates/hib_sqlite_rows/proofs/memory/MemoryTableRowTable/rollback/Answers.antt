use Rattle.sqlite.proofs.Callers.{memory_is_clean}
use Rattle.hib_sqlite_rows.proofs.Calls.{rollback_done, nothing_to_undo}
use Rattle.hib_sqlite_rows.proofs.memory.MemoryTableRowTable.rollback.Goals as goal

pub invariant_of-self : goal.invariant_of-self
invariant_of-self c =
    (rollback_done c.self.inside.conn c.rollback.new.conn c.is_autocommit.result c.rollback.result _ c.self.invariant c.is_autocommit.ensures.value c.if-not-is_autocommit.true c.rollback.ensures.survives
    (c.rollback.ensures.runs (memory_is_clean c.rollback.new.conn))).0

pub returns-then-not-is_autocommit : goal.returns-then-not-is_autocommit
returns-then-not-is_autocommit c =
    rw (← c.self.view_is)
    (rollback_done c.self.inside.conn c.rollback.new.conn c.is_autocommit.result c.rollback.result _ c.self.invariant c.is_autocommit.ensures.value c.if-not-is_autocommit.true c.rollback.ensures.survives
    (c.rollback.ensures.runs (memory_is_clean c.rollback.new.conn))).1

pub returns-else-not-is_autocommit : goal.returns-else-not-is_autocommit
returns-else-not-is_autocommit c = rw (← c.self.view_is) (nothing_to_undo c.self.inside.conn c.is_autocommit.result c.self.invariant c.is_autocommit.ensures.value c.if-not-is_autocommit.false)
