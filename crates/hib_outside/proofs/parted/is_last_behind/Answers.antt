use Rattle.std.proofs.Common.{◌<◌, length, arith}
use Rattle.hib_outside.proofs.Gaps.{ended_by}
use Rattle.hib_outside.proofs.parted.is_last_behind.Goals as goal

pub returns-then-count-gt0-clause-none : goal.returns-then-count-gt0-clause-none
returns-then-count-gt0-clause-none c = λ n.
    let some : 0 < length c.args.rows.now = omega (arith, c.if-count-gt0.true) in
    ended_by c.is_last_before.result c.args.rows.now c.args.key.now c.requires some c.is_last_before.ensures.value n
