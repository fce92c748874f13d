use Rattle.std.proofs.Common.{◌≡◌}
use Rattle.hib_session.proofs.Refused.{turned}
use Rattle.hib_session.proofs.ahead.refuse_all.Given as goal

-- those so far are turned
abbrev pub invariant-loop-act : goal.invariant-loop-act
invariant-loop-act l = l.acts ≡ turned l.act-index l.fn.acts
