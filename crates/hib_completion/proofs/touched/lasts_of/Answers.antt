use Rattle.std.proofs.Common.{◌<◌, ◌+◌, length, drop, arith}
use Rattle.std.specs.Map.{lookup}
use Rattle.hib_base.specs.Keys.{same_key}
use Rattle.hib_base.specs.Tables.{key_of, last_on}
use Rattle.hib_completion.proofs.Noted.{got_at, next_one, last_more}
use Rattle.hib_completion.proofs.touched.lasts_of.Goals as goal

pub loop-place-preserved : goal.loop-place-preserved
loop-place-preserved c =
    let cs = c.args.changes.now in
    let i = c.loop-place.place in
    let x = c.index-changes-place.result in
    let rest = drop (i + 1) cs in
    let less : i < length cs = omega (arith, c.loop-place-test.true, c.loop-place.auto.place-end) in
    let at = got_at cs i x less c.index-changes-place.is in
    let each = rw (next_one cs i x at) at c.loop-place.invariant in
    let noted = rw c.key.ensures at c.in_ok-note_last.ensures in
    λ k. rw (noted k) (last_more cs (lookup (same_key k) c.loop-place.lasts.entries) (last_on k rest) (same_key (key_of x) k) i x (last_on k cs) at (each k))
