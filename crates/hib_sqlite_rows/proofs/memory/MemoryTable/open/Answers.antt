use Rattle.std.proofs.Common.{refl}
use Rattle.sqlite.proofs.Callers.{memory_is_clean}
use Rattle.hib_sqlite_rows.proofs.Calls.{st}
use Rattle.hib_sqlite_rows.proofs.Created.{create_err}
use Rattle.hib_sqlite_rows.proofs.States.{creates}
use Rattle.hib_sqlite_rows.proofs.memory.MemoryTable.open.Goals as goal

pub invariant_of-result : goal.invariant_of-result
invariant_of-result c =
    (creates (st c.in_ok-conn.conn) (st c.create.new.conn) c.in-Ok.field-0 c.in_ok-conn.ensures.empty.2 c.in_ok-conn.ensures.empty.0.autocommit (c.in-Ok.ensures.runs (memory_is_clean c.create.new.conn))).1

pub returns-in-Ok-clause-empty : goal.returns-in-Ok-clause-empty
returns-in-Ok-clause-empty c =
    (creates (st c.in_ok-conn.conn) (st c.create.new.conn) c.in-Ok.field-0 c.in_ok-conn.ensures.empty.2 c.in_ok-conn.ensures.empty.0.autocommit (c.in-Ok.ensures.runs (memory_is_clean c.create.new.conn))).0

pub returns-in-Err-clause-err : goal.returns-in-Err-clause-err
returns-in-Err-clause-err c =
    create_err (st c.in_ok-conn.conn) (st c.create.new.conn) c.in-Err.error c.in_ok-conn.ensures.empty.2 c.in_ok-conn.ensures.empty.0.is_open refl refl (c.in-Err.ensures.runs (memory_is_clean c.create.new.conn))
