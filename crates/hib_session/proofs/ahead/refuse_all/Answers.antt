use Rattle.std.proofs.Common.{◌≡◌, ◌<◌, length, ap, arith, ◌∙◌}
use Rattle.hib_session.proofs.Refused.{turned, all_turned, turned_at}
use Rattle.hib_session.proofs.ahead.refuse_all.Goals as goal

pub loop-act-preserved : goal.loop-act-preserved
loop-act-preserved c =
    let less : c.loop-act.act-index < length c.args.acts.now = omega arith in
    turned_at c.args.acts.now c.loop-act.acts c.loop-act.act-index c.act-item.result c.refuse.new.act less c.loop-act.invariant c.refuse.ensures

pub returns : goal.returns
returns c =
    let end : c.loop-act.act-index ≡ length c.args.acts.now = omega arith in
    c.loop-act.invariant ∙ (ap (λ i. turned i c.args.acts.now) end ∙ all_turned c.args.acts.now)
