use Rattle.std.proofs.Common.{refl, ◌<◌, ◌+◌, length, drop, arith}
use Rattle.std.specs.Map.{keys_of as keys_in, lookup}
use Rattle.hib_base.specs.Keys.{same_key}
use Rattle.hib_base.specs.Tables.{key_of, first_on}
use Rattle.hib_journal.specs.Next.{keys_of}
use Rattle.hib_completion.proofs.Keys.{less_none}
use Rattle.hib_completion.proofs.Noted.{got_at, next_one, keys_more, there_more, first_more}
use Rattle.hib_completion.proofs.touched.firsts_of.Goals as goal

pub loop-place-init : goal.loop-place-init
loop-place-init c = rw c.new-firsts.ensures.empty (record { keys = less_none (keys_of c.args.changes.now); there = λ k. refl; each = λ k. refl })

pub loop-place-preserved : goal.loop-place-preserved
loop-place-preserved c =
    let cs = c.args.changes.now in
    let i = c.loop-place.place in
    let x = c.index-changes-place.result in
    let ps = c.loop-place.firsts.entries in
    let rest = drop (i + 1) cs in
    let less : i < length cs = omega (arith, c.loop-place-test.true, c.loop-place.auto.place-end) in
    let at = got_at cs i x less c.index-changes-place.is in
    let step = next_one cs i x at in
    let keys = rw step at c.loop-place.invariant.keys in
    let each = rw step at c.loop-place.invariant.each in
    let noted = rw c.key.ensures at c.in_ok-note_first.ensures in
    record {
      keys = rw noted.keys (keys_more (keys_in ps) (key_of x) (keys_of rest) (keys_of cs) keys);
      there = λ k. rw (noted.each k) (there_more cs (lookup (same_key k) ps) (same_key (key_of x) k) i x at (c.loop-place.invariant.there k));
      each = λ k. rw (noted.each k) (first_more cs (lookup (same_key k) ps) (same_key (key_of x) k) i x (first_on k rest) (first_on k cs) at (c.loop-place.invariant.there k) (each k));
    }
