use Rattle.std.proofs.Common.{◌≡◌, ◌∷◌, sym, ap, subst, refl, length, ◌+◌}
use Rattle.hib_journal.specs.Types.{Act, Order}
use Rattle.hib_journal.specs.Kept.{past}
use Rattle.hib_journal.specs.Sessions.{Journal}
use Rattle.hib_journal.specs.Played.{play_order}
use Rattle.hib_engines.specs.Engines.{EnginesState}
use Rattle.hib_core.specs.Standing.{outside_entry}
use Rattle.hib_session.specs.Sessions.{AreSessions}
use Rattle.hib_core.specs.Factory.{IsRun, IsAsked}
use Rattle.hib_core.specs.Playing.{played, Leads}
use Rattle.hib_core.proofs.Short.{outside_same, outside_one, grown_from}
use Rattle.hib_session.proofs.Together.{sessions_outside}
use Rattle.hib_core.proofs.FromOutside.{evict_run, evict_leads, asked_outside}
use Rattle.hib_session.proofs.Killed.{none_killed}
use Rattle.hib_core.proofs.outside.evict.Goals as goal

pub returns-clause-run : goal.returns-clause-run
returns-clause-run g c =
    let h = past c.args.journal.now in
    let same : past c.reserve_tick.new.journal ≡ h = c.in_ok-now.ensures.same in
    let grown : past c.tell.new.journal ≡ outside_entry h (Act.Evict c.args.key) c.in_ok-reply.reply ∷ h =
    grown_from (past c.reserve_tick.new.journal) h (past c.tell.new.journal) (Act.Evict c.args.key) c.in_ok-reply.reply c.tell.ensures same in
    subst (λ (j : Journal). IsRun g.N.Name.script g.N.Name.from j c.evict.new.self) (sym grown)
    (evict_run c.law.ensures.obeyed g.N.Name.script g.N.Name.from h c.args.key c.in_ok-now.now c.in_ok-reply.reply c.args.engines.now c.evict.new.self c.requires.run c.requires.cached
    c.in_ok-now.ensures.few c.in_ok-now.ensures.tick c.in_ok-reply.ensures.calm c.evict.ensures.same c.in_ok-reply.ensures.answered)

pub returns-clause-sessions : goal.returns-clause-sessions
returns-clause-sessions g c = λ xs w.
    let h = past c.args.journal.now in
    let same : past c.reserve_tick.new.journal ≡ h = c.in_ok-now.ensures.same in
    let grown : past c.tell.new.journal ≡ outside_entry h (Act.Evict c.args.key) c.in_ok-reply.reply ∷ h =
    grown_from (past c.reserve_tick.new.journal) h (past c.tell.new.journal) (Act.Evict c.args.key) c.in_ok-reply.reply c.tell.ensures same in
    subst (λ (j : Journal). AreSessions g.N.Name.script j xs) (sym grown)
    (sessions_outside g.N.Name.script h (length h + 1) (Act.Evict c.args.key) c.in_ok-reply.reply xs xs w (none_killed xs))

pub returns-clause-asked : goal.returns-clause-asked
returns-clause-asked g c = λ w.
    let h = past c.args.journal.now in
    let same : past c.reserve_tick.new.journal ≡ h = c.in_ok-now.ensures.same in
    let grown : past c.tell.new.journal ≡ outside_entry h (Act.Evict c.args.key) c.in_ok-reply.reply ∷ h =
    grown_from (past c.reserve_tick.new.journal) h (past c.tell.new.journal) (Act.Evict c.args.key) c.in_ok-reply.reply c.tell.ensures same in
    subst (λ (j : Journal). IsAsked g.N.Name.from j c.evict.new.self) (sym grown)
    (asked_outside g.N.Name.from h (Act.Evict c.args.key) c.in_ok-reply.reply c.args.engines.now c.evict.new.self refl (ap (λ (v : EnginesState). v.store.asked) c.evict.ensures.same) w)

pub returns-clause-played : goal.returns-clause-played
returns-clause-played g c =
    let h = past c.args.journal.now in
    let same : past c.reserve_tick.new.journal ≡ h = c.in_ok-now.ensures.same in
    let grown : past c.tell.new.journal ≡ outside_entry h (Act.Evict c.args.key) c.in_ok-reply.reply ∷ h =
    grown_from (past c.reserve_tick.new.journal) h (past c.tell.new.journal) (Act.Evict c.args.key) c.in_ok-reply.reply c.tell.ensures same in
    subst (λ (j : Journal). Leads (play_order g.N.Name.script (Order.Evict c.args.key)) played h j) (sym grown) (evict_leads g.N.Name.script h c.args.key c.in_ok-reply.reply)

pub returns-in_err-now-clause-outside : goal.returns-in_err-now-clause-outside
returns-in_err-now-clause-outside g c = outside_same (past c.args.journal.now) (past c.reserve_tick.new.journal) c.in_err-now.ensures.same

pub returns-clause-outside : goal.returns-clause-outside
returns-clause-outside g c =
    let h = past c.args.journal.now in
    let same : past c.reserve_tick.new.journal ≡ h = c.in_ok-now.ensures.same in
    outside_one h (past c.tell.new.journal) (Act.Evict c.args.key) c.in_ok-reply.reply (grown_from (past c.reserve_tick.new.journal) h (past c.tell.new.journal) (Act.Evict c.args.key) c.in_ok-reply.reply c.tell.ensures same)

pub returns-in_err-reply-clause-outside : goal.returns-in_err-reply-clause-outside
returns-in_err-reply-clause-outside g c = outside_same (past c.args.journal.now) (past c.reserve_tick.new.journal) c.in_ok-now.ensures.same
