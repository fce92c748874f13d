use Rattle.std.proofs.Common.{◌≡◌, true, subst}
use Rattle.hib_base.specs.Fits.{is_identifier}
use Rattle.hib_journal.specs.Kept.{past}
use Rattle.hib_journal.specs.Next.{is_cached}
use Rattle.hib_journal.specs.Played.{play_steps}
use Rattle.hib_journal.specs.Types.{Order}
use Rattle.hib_engines.specs.Built.{IsSound}
use Rattle.hib_core.proofs.Evictions.{steps_named, outside_named}
use Rattle.hib_core.proofs.factory.Factory.obey.Goals as goal

pub returns-in-Run-clause-named : goal.returns-in-Run-clause-named
returns-in-Run-clause-named g c =
    steps_named (play_steps g.N.Name.script c.in-Run.session c.in-Run.steps) (past c.args.self.now.journal) (past c.run_steps.new.self.journal) c.run_steps.result
    c.run_steps.ensures.played c.run_steps.ensures.ran.stands c.run_steps.ensures.inside

pub returns-in-Kill-clause-named : goal.returns-in-Kill-clause-named
returns-in-Kill-clause-named g c =
    outside_named g.N.Name.script (Order.Kill c.in-Kill.session) c.args.self.now c.kill.new.self c.kill.result tt c.kill.ensures.obeyed.leads c.kill.ensures.obeyed.same c.kill.ensures.obeyed.unheard c.kill.ensures.obeyed.deaf

pub returns-in-Evict-clause-named : goal.returns-in-Evict-clause-named
returns-in-Evict-clause-named g c =
    let sound : (is_cached g.N.Name.script c.in-Evict.key.entity ≡ true) × (is_identifier c.in-Evict.key.id ≡ true) =
    subst (λ (o : Order). IsSound g.N.Name.script o) c.in-Evict.is c.requires.sound in
    outside_named g.N.Name.script (Order.Evict c.in-Evict.key) c.args.self.now c.evict.new.self c.evict.result sound.1 c.evict.ensures.leads c.evict.ensures.same c.evict.ensures.unheard c.evict.ensures.deaf

pub returns-in-Restart-clause-named : goal.returns-in-Restart-clause-named
returns-in-Restart-clause-named g c =
    outside_named g.N.Name.script Order.Restart c.args.self.now c.restart.new.self c.restart.result tt c.restart.ensures.leads c.restart.ensures.same c.restart.ensures.unheard c.restart.ensures.deaf
