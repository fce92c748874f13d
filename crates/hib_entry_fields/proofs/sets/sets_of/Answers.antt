use Rattle.std.proofs.Common.{◌≡◌, ◌∙◌, length, sym, Some}
use Rattle.hib_entry_fields.specs.Fields.{set_at}
use Rattle.hib_entry_fields.proofs.Loops.{sets_go_on, sets_stop, sets_end}
use Rattle.hib_entry_fields.proofs.sets.sets_of.Goals as goal

pub returns-in-None : goal.returns-in-None
returns-in-None c =
    c.from_vec.ensures ∙ sets_stop c.args.script.now c.args.entity c.loop.sets.items (length c.args.bytes.now) c.loop.counter c.loop.rest.now _ c.loop-test.true (sym (rw c.in-None.is at c.in_ok-set_at.ensures)) c.loop.invariant

pub loop-preserved : goal.loop-preserved
loop-preserved c =
    let h : set_at c.args.script.now c.args.entity c.loop.rest.now ≡ Some (c.in-Some.set, c.in-Some.after.now) = sym (rw c.in-Some.is at c.in_ok-set_at.ensures) in
    rw c.in_ok-push-in-Some.ensures.items (sets_go_on c.args.script.now c.args.entity c.loop.sets.items (length c.args.bytes.now) c.loop.counter c.loop.rest.now c.in-Some.set c.in-Some.after.now _ c.loop-test.true h c.loop.invariant)

pub returns : goal.returns
returns c = c.from_vec-2.ensures ∙ sets_end c.args.script.now c.args.entity c.loop.sets.items (length c.args.bytes.now) c.loop.counter c.loop.rest.now _ c.loop-test.false c.loop.invariant
