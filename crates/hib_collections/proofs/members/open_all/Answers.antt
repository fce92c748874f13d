use Rattle.std.proofs.Common.{◌+◌, sym, subst}
use Rattle.hib_collections.proofs.Opened.{AreOpened, opened_more, all_opened}
use Rattle.hib_collections.proofs.members.open_all.Goals as goal

pub loop-number-preserved : goal.loop-number-preserved
loop-number-preserved c = subst (λ xs. AreOpened (c.loop-number.number + 1) c.args.script.now xs) (sym c.in_ok-push.ensures.items)
    (opened_more c.loop-number.number c.args.script.now c.loop-number.gatherers.items (record { session = c.open.result; notes = c.new.result }) c.loop-number.invariant c.open.ensures.number
    (c.open.ensures.follows c.args.script.now) c.new.ensures)

pub returns : goal.returns
returns c = all_opened c.loop-number.number c.len-number-end.result c.args.script.now c.loop-number.gatherers.items c.loop-number.auto.number-end c.loop-number-test.false
    c.len-number-end.ensures c.loop-number.invariant
