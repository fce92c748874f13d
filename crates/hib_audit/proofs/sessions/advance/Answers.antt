use Rattle.hib_engines.proofs.Outcomes.{map_on}
use Rattle.hib_audit.proofs.Members.{session_taken}
use Rattle.hib_audit.proofs.sessions.advance.Goals as goal

pub returns : goal.returns
returns c = map_on c.advance.result _ _ c.advance.ensures.follows (λ f h r live taken.
    session_taken c.args.script.now h c.number.inside.0 c.args.number c.args.entry.now c.args.sessions.now.items c.index_mut.result.now c.advance.new.self c.number.view_is
    c.index_mut.ensures.value c.requires.by r c.requires.there live c.requires.inside taken c.advance.ensures.number c.advance.ensures.killed f)
