use Rattle.std.proofs.Common.{◌+◌, sym, subst}
use Rattle.hib_audit.proofs.Kept.{AreNew, new_more, all_new}
use Rattle.hib_audit.proofs.sessions.open_written.Goals as goal

pub loop-at-preserved : goal.loop-at-preserved
loop-at-preserved c = subst (λ xs. AreNew (c.loop-at._at + 1) xs) (sym c.in_ok-push.ensures.items) (new_more c.loop-at._at c.loop-at.written.items c.new.result c.loop-at.invariant c.new.ensures)

pub returns : goal.returns
returns c = all_new c.loop-at._at c.len-at-end.result c.args.script.now c.loop-at.written.items c.loop-at.auto._at-end c.loop-at-test.false c.len-at-end.ensures c.loop-at.invariant
