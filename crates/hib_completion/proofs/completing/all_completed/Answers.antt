use Rattle.std.proofs.Common.{List, append-nil}
use Rattle.std.specs.Map.{keys_of as keys_in}
use Rattle.hib_journal.specs.Types.{Key, Act}
use Rattle.hib_completion.specs.Completed.{key_acts, keys_acts}
use Rattle.hib_completion.proofs.Noted.{acts_more}
use Rattle.hib_completion.proofs.completing.all_completed.Goals as goal
use Rattle.hib_completion.proofs.completing.all_completed.Goals.{in-Some+in_ok-push, in_default}

pub loop-place-preserved : goal.loop-place-preserved
loop-place-preserved c = λ stands.
    let f : Key → List Act = λ k. key_acts c.args.mapping.now c.args.changes.now c.args.locks.now.entries c.args.done c.args.floor k in
    let keys : List Key = keys_in c.args.touched.now.firsts.entries in
    let whole : List Act = keys_acts c.args.mapping.now c.args.changes.now c.args.locks.now.entries c.args.done c.args.floor keys in
    let more = acts_more f keys c.loop-place.place c.key_at-key.result c.loop-place.acts _ whole c.key_at-key.ensures (c.in_ok-act.ensures stands) (c.loop-place.invariant stands) in
    elim c.match-branch-2.branch [
      | in-Some+in_ok-push w ↦ rw (w.acts-is, w.in_ok-push.ensures.ok) (rw w.in-Some.is at more)
      | in_default w ↦ rw w.acts-is (rw append-nil at (rw w.in_default.is at more))
    ]
