use Rattle.std.proofs.Common.{◌<◌, ◌+◌, length, drop, arith}
use Rattle.std.specs.Map.{keys_of as keys_in}
use Rattle.hib_base.specs.Tables.{key_of}
use Rattle.hib_journal.specs.Next.{keys_of}
use Rattle.hib_completion.proofs.Keys.{less_none}
use Rattle.hib_completion.proofs.Noted.{got_at, next_one, keys_more}
use Rattle.hib_nodes.proofs.keys.changed_keys.Goals as goal

pub loop-place-init : goal.loop-place-init
loop-place-init c = rw c.new-keys.ensures.empty (less_none (keys_of c.args.changes.now))

pub loop-place-preserved : goal.loop-place-preserved
loop-place-preserved c =
    let cs = c.args.changes.now in
    let i = c.loop-place.place in
    let x = c.index-changes-place.result in
    let ps = c.loop-place.keys.entries in
    let rest = drop (i + 1) cs in
    let less : i < length cs = omega (arith, c.loop-place-test.true, c.loop-place.auto.place-end) in
    let step = next_one cs i x (got_at cs i x less c.index-changes-place.is) in
    let keys = rw step at c.loop-place.invariant in
    let noted = rw c.key.ensures at c.in_ok-note.ensures in
    rw noted (keys_more (keys_in ps) (key_of x) (keys_of rest) (keys_of cs) keys)
