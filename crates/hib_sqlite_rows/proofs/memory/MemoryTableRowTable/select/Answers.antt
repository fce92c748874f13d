use Rattle.sqlite.proofs.Callers.{memory_is_clean}
use Rattle.hib_sqlite_rows.proofs.Calls.{key_done}
use Rattle.hib_sqlite_rows.proofs.memory.MemoryTableRowTable.select.Goals as goal

pub invariant_of-self : goal.invariant_of-self
invariant_of-self c = (key_done (λ rows. rows.items) c.self.inside.conn c.select.new.conn c.args.key _ c.select.result c.self.invariant (c.select.ensures.ok (memory_is_clean c.select.new.conn)) (c.select.ensures.err (memory_is_clean c.select.new.conn)) c.select.ensures.survives).0

pub returns-clause-rows : goal.returns-clause-rows
returns-clause-rows c = rw (← c.self.view_is) (key_done (λ rows. rows.items) c.self.inside.conn c.select.new.conn c.args.key _ c.select.result c.self.invariant (c.select.ensures.ok (memory_is_clean c.select.new.conn)) (c.select.ensures.err (memory_is_clean c.select.new.conn)) c.select.ensures.survives).1

pub returns-clause-same : goal.returns-clause-same
returns-clause-same c = rw (← c.self.view_is) (key_done (λ rows. rows.items) c.self.inside.conn c.select.new.conn c.args.key _ c.select.result c.self.invariant (c.select.ensures.ok (memory_is_clean c.select.new.conn)) (c.select.ensures.err (memory_is_clean c.select.new.conn)) c.select.ensures.survives).2

pub returns-clause-err : goal.returns-clause-err
returns-clause-err c = rw (← c.self.view_is) (key_done (λ rows. rows.items) c.self.inside.conn c.select.new.conn c.args.key _ c.select.result c.self.invariant (c.select.ensures.ok (memory_is_clean c.select.new.conn)) (c.select.ensures.err (memory_is_clean c.select.new.conn)) c.select.ensures.survives).3
