use Rattle.std.proofs.Common.{◌≡◌, ◌==◌, ◌∷◌, sym, ap, subst, ◌∙◌, refl, length, ◌+◌}
use Rattle.std.specs.List.{list_any}
use Rattle.hib_journal.specs.Types.{Act, Order, Reply}
use Rattle.hib_journal.specs.Kept.{past}
use Rattle.hib_journal.specs.Sessions.{Journal, is_open}
use Rattle.hib_journal.specs.Played.{play_order}
use Rattle.hib_engines.specs.Registry.{Opened, holds}
use Rattle.hib_core.specs.Standing.{outside_entry}
use Rattle.hib_session.specs.Sessions.{AreSessions}
use Rattle.hib_core.specs.Factory.{IsRun, IsAsked}
use Rattle.hib_core.specs.Playing.{played, Leads}
use Rattle.hib_core.proofs.Short.{outside_same, outside_one, grown_from}
use Rattle.hib_session.proofs.Together.{sessions_outside}
use Rattle.hib_core.proofs.FromOutside.{restart_run, restart_leads, asked_outside}
use Rattle.hib_session.proofs.Killed.{killed_as}
use Rattle.hib_engines.proofs.Opened.{holds_open}
use Rattle.hib_core.proofs.outside.restart.Goals as goal

pub returns-clause-run : goal.returns-clause-run
returns-clause-run g c =
    let h = past c.args.journal.now in
    let same : past c.reserve_tick.new.journal ≡ h = c.in_ok-now.ensures.same in
    let grown : past c.tell.new.journal ≡ outside_entry h Act.Restart Reply.Done ∷ h =
    grown_from (past c.reserve_tick.new.journal) h (past c.tell.new.journal) Act.Restart Reply.Done c.tell.ensures same in
    subst (λ (j : Journal). IsRun g.N.Name.script g.N.Name.from j c.restart.new.self) (sym grown)
    (restart_run c.law.ensures.obeyed g.N.Name.script g.N.Name.from h c.args.engines.now c.restart.new.self c.requires.run c.in_ok-now.ensures.few c.restart.ensures.faults c.restart.ensures.entities c.restart.ensures.answered)

pub returns-clause-sessions : goal.returns-clause-sessions
returns-clause-sessions g c =
    let h = past c.args.journal.now in
    let x = c.args.engines.now in
    let xs = c.args.sessions.now.items in
    let ys = c.kill_all.new.sessions.items in
    let same : past c.reserve_tick.new.journal ≡ h = c.in_ok-now.ensures.same in
    let grown : past c.tell.new.journal ≡ outside_entry h Act.Restart Reply.Done ∷ h =
    grown_from (past c.reserve_tick.new.journal) h (past c.tell.new.journal) Act.Restart Reply.Done c.tell.ensures same in
    subst (λ (j : Journal). AreSessions g.N.Name.script j ys) (sym grown)
    (sessions_outside g.N.Name.script h (length h + 1) Act.Restart Reply.Done xs ys c.requires.sessions
    (killed_as (λ s. list_any (λ n. n == s) c.open_sessions.result.now) (λ s. is_open s h) xs ys
    (λ s l. c.open_sessions.ensures.which s ∙ (ap (λ (ps : Opened). holds s ps) c.registry.ensures ∙ holds_open x.registry h s c.requires.run.engines.registry)) c.kill_all.ensures))

pub returns-clause-asked : goal.returns-clause-asked
returns-clause-asked g c = λ w.
    let h = past c.args.journal.now in
    let same : past c.reserve_tick.new.journal ≡ h = c.in_ok-now.ensures.same in
    let grown : past c.tell.new.journal ≡ outside_entry h Act.Restart Reply.Done ∷ h =
    grown_from (past c.reserve_tick.new.journal) h (past c.tell.new.journal) Act.Restart Reply.Done c.tell.ensures same in
    subst (λ (j : Journal). IsAsked g.N.Name.from j c.restart.new.self) (sym grown)
    (asked_outside g.N.Name.from h Act.Restart Reply.Done c.args.engines.now c.restart.new.self refl c.restart.ensures.asked w)

pub returns-clause-played : goal.returns-clause-played
returns-clause-played g c =
    let h = past c.args.journal.now in
    let same : past c.reserve_tick.new.journal ≡ h = c.in_ok-now.ensures.same in
    let grown : past c.tell.new.journal ≡ outside_entry h Act.Restart Reply.Done ∷ h =
    grown_from (past c.reserve_tick.new.journal) h (past c.tell.new.journal) Act.Restart Reply.Done c.tell.ensures same in
    subst (λ (j : Journal). Leads (play_order g.N.Name.script Order.Restart) played h j) (sym grown) (restart_leads g.N.Name.script h)

pub returns-in_err-now-clause-outside : goal.returns-in_err-now-clause-outside
returns-in_err-now-clause-outside g c = outside_same (past c.args.journal.now) (past c.reserve_tick.new.journal) c.in_err-now.ensures.same

pub returns-clause-outside : goal.returns-clause-outside
returns-clause-outside g c =
    let h = past c.args.journal.now in
    let same : past c.reserve_tick.new.journal ≡ h = c.in_ok-now.ensures.same in
    outside_one h (past c.tell.new.journal) Act.Restart Reply.Done (grown_from (past c.reserve_tick.new.journal) h (past c.tell.new.journal) Act.Restart Reply.Done c.tell.ensures same)
