use Rattle.hib_make.specs.Sessions.{session}
use Rattle.hib_make.proofs.Many.{many_none, many_more}
use Rattle.hib_make.proofs.sessions.push_sessions.Goals as goal

pub loop-i-init : goal.loop-i-init
loop-i-init c = many_none session c.args.draws.now c.args.sessions.now.items

pub loop-i-preserved : goal.loop-i-preserved
loop-i-preserved c =
    many_more session c.loop-i.i c.args.draws.now c.args.sessions.now.items c.loop-i.sessions.items c.push_session.new.sessions.items c.loop-i.draws
    c.push_session.new.draws c.loop-i.invariant c.in_ok-push_session.ensures.made c.in_ok-push_session.ensures.state
