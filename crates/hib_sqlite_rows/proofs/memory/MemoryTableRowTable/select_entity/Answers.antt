use Rattle.sqlite.proofs.Callers.{memory_is_clean}
use Rattle.hib_sqlite_rows.proofs.Calls.{entity_done}
use Rattle.hib_sqlite_rows.proofs.memory.MemoryTableRowTable.select_entity.Goals as goal

pub invariant_of-self : goal.invariant_of-self
invariant_of-self c = (entity_done (λ rows. rows.items) c.self.inside.conn c.select_entity.new.conn c.args.entity _ c.select_entity.result c.self.invariant (c.select_entity.ensures.ok (memory_is_clean c.select_entity.new.conn)) (c.select_entity.ensures.err (memory_is_clean c.select_entity.new.conn)) c.select_entity.ensures.survives).0

pub returns-clause-rows : goal.returns-clause-rows
returns-clause-rows c = rw (← c.self.view_is) (entity_done (λ rows. rows.items) c.self.inside.conn c.select_entity.new.conn c.args.entity _ c.select_entity.result c.self.invariant (c.select_entity.ensures.ok (memory_is_clean c.select_entity.new.conn)) (c.select_entity.ensures.err (memory_is_clean c.select_entity.new.conn)) c.select_entity.ensures.survives).1

pub returns-clause-same : goal.returns-clause-same
returns-clause-same c = rw (← c.self.view_is) (entity_done (λ rows. rows.items) c.self.inside.conn c.select_entity.new.conn c.args.entity _ c.select_entity.result c.self.invariant (c.select_entity.ensures.ok (memory_is_clean c.select_entity.new.conn)) (c.select_entity.ensures.err (memory_is_clean c.select_entity.new.conn)) c.select_entity.ensures.survives).2

pub returns-clause-err : goal.returns-clause-err
returns-clause-err c = rw (← c.self.view_is) (entity_done (λ rows. rows.items) c.self.inside.conn c.select_entity.new.conn c.args.entity _ c.select_entity.result c.self.invariant (c.select_entity.ensures.ok (memory_is_clean c.select_entity.new.conn)) (c.select_entity.ensures.err (memory_is_clean c.select_entity.new.conn)) c.select_entity.ensures.survives).3
