use Rattle.sqlite.proofs.Callers.{memory_is_clean}
use Rattle.hib_sqlite_rows.proofs.Calls.{on_err, call_err, commit_done}
use Rattle.hib_sqlite_rows.proofs.memory.MemoryTableRowTable.commit.Goals as goal

pub invariant_of-self : goal.invariant_of-self
invariant_of-self c = (call_err c.self.inside.conn c.commit.new.conn _ _ _ _ c.self.invariant c.commit.ensures.survives (c.in_err-commit.ensures.runs (memory_is_clean c.commit.new.conn))).0

pub returns-in_err-commit-clause-err : goal.returns-in_err-commit-clause-err
returns-in_err-commit-clause-err c =
    on_err c.from_residual.result (rw (← c.self.view_is) (call_err c.self.inside.conn c.commit.new.conn _ _ _ _ c.self.invariant c.commit.ensures.survives (c.in_err-commit.ensures.runs (memory_is_clean c.commit.new.conn))).1)

pub invariant_of-self-2 : goal.invariant_of-self-2
invariant_of-self-2 c = (commit_done c.self.inside.conn c.commit.new.conn c.in_ok-commit.field-0 c.self.invariant (c.in_ok-commit.ensures.runs (memory_is_clean c.commit.new.conn))).0

pub returns-clause-ok : goal.returns-clause-ok
returns-clause-ok c = rw (← c.self.view_is) (commit_done c.self.inside.conn c.commit.new.conn c.in_ok-commit.field-0 c.self.invariant (c.in_ok-commit.ensures.runs (memory_is_clean c.commit.new.conn))).1
