use Rattle.std.proofs.Common.{◌==◌, ◌<◌, length, arith}
use Rattle.std.specs.List.{list_any}
use Rattle.hib_base.specs.Tables.{key_of}
use Rattle.hib_completion.specs.Completed.{tables_by}
use Rattle.hib_completion.proofs.Names.{next_some, next_none}
use Rattle.hib_completion.proofs.lists.tables.Goals as goal
use Rattle.hib_completion.proofs.lists.tables.Goals.{in-Some+in_ok-push, in_default}

pub loop-number-preserved : goal.loop-number-preserved
loop-number-preserved c =
    let less : c.loop-number.number < length c.args.mapping.now = omega (arith, c.loop-number-test.true, c.len-number-end.ensures) in
    elim c.match-touched.branch [
      | in-Some+in_ok-push w ↦ rw (w.names-is, w.in_ok-push.ensures.ok)
          (next_some (λ n. list_any (λ x. (key_of x).entity == n) c.args.changes.now) c.loop-number.names (tables_by c.args.mapping.now c.args.changes.now)
          c.loop-number.number (length c.args.mapping.now) w.in-Some.entity less w.in-Some.ensures.0 w.in-Some.ensures.1 c.loop-number.invariant)
      | in_default w ↦ rw w.names-is
          (next_none (λ n. list_any (λ x. (key_of x).entity == n) c.args.changes.now) c.loop-number.names (tables_by c.args.mapping.now c.args.changes.now)
          c.loop-number.number (length c.args.mapping.now) less w.in_default.ensures c.loop-number.invariant)
    ]
