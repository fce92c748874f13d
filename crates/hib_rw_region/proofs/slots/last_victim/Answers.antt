use Rattle.std.proofs.Common.{sym, ◌∙◌, arith}
use Rattle.hib_rw_region.proofs.Queues.{victim_found, victim_passed}
use Rattle.hib_rw_region.proofs.slots.last_victim.Goals as goal

pub returns-then-may_leave : goal.returns-then-may_leave
returns-then-may_leave c =
    sym (c.loop-at.invariant.none
    ∙ victim_found c.args.floor c.loop-at.at c.args.slots.now.entries (c.pair_at-id.result.0, c.pair_at-id.result.1.now) c.loop-at-test.true c.pair_at-id.ensures (sym c.may_leave.ensures ∙ c.if-may_leave.true))

pub loop-at-preserved : goal.loop-at-preserved
loop-at-preserved c = record {
  within = omega (arith, c.loop-at.invariant.within);
  none = c.loop-at.invariant.none
      ∙ victim_passed c.args.floor c.loop-at.at c.args.slots.now.entries (c.pair_at-id.result.0, c.pair_at-id.result.1.now) c.loop-at-test.true c.pair_at-id.ensures (sym c.may_leave.ensures ∙ c.if-may_leave.false);
}
