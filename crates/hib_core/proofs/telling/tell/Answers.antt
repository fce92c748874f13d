use Rattle.std.proofs.Common.{sym, subst}
use Rattle.hib_journal.specs.Kept.{past}
use Rattle.hib_listeners.specs.Told.{tells}
use Rattle.hib_listeners.specs.Heard.{HaveHeard}
use Rattle.hib_core.proofs.Hearing.{told_on}
use Rattle.hib_core.proofs.telling.tell.Goals as goal

pub returns-clause-heard : goal.returns-clause-heard
returns-clause-heard g c = λ start e h es p q heard.
    let now = tells g.L.Listener.heard g.L.Listener.left c.args.listeners.now in
    let next = tells g.L.Listener.heard g.L.Listener.left c.tell-told.new.self in
    subst (λ b. HaveHeard b c.args.journal.now.list start next) (sym c.is_err.ensures.value)
    (told_on c.telling_goes_on.ensures c.tell-told.result start now next e c.in-Some.entry.now h c.in-Some.ensures.0 es c.args.journal.now.list (past c.args.journal.now) p q c.in-Some.ensures.1 heard c.tell-told.ensures)
