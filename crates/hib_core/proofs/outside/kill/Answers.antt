use Rattle.std.proofs.Common.{◌≡◌, ◌∷◌, ◌==◌, ℕ, true, sym, ap, subst, ◌∙◌, refl, length, ◌+◌}
use Rattle.std.proofs.lemmas.Bool.{false≢true}
use Rattle.hib_journal.specs.Types.{Act, Reply}
use Rattle.hib_journal.specs.Kept.{past}
use Rattle.hib_journal.specs.Sessions.{Journal, is_open}
use Rattle.hib_journal.specs.Played.{play_order}
use Rattle.hib_journal.specs.Types.{Order}
use Rattle.hib_engines.specs.Registry.{Opened, holds}
use Rattle.hib_core.specs.Standing.{outside_entry}
use Rattle.hib_session.specs.Sessions.{AreSessions}
use Rattle.hib_core.specs.Factory.{IsRun, IsAsked}
use Rattle.hib_session.specs.Killed.{AreKilled}
use Rattle.hib_core.specs.Playing.{played, Leads}
use Rattle.hib_core.proofs.Short.{outside_same, outside_one, grown_from}
use Rattle.hib_session.proofs.Together.{sessions_outside}
use Rattle.hib_core.proofs.FromOutside.{kill_run, kill_leads, no_kill_leads, asked_outside}
use Rattle.hib_engines.proofs.Opened.{holds_open}
use Rattle.hib_core.proofs.outside.kill.Goals as goal

pub returns-then-not-is_open-clause-played : goal.returns-then-not-is_open-clause-played
returns-then-not-is_open-clause-played g c =
    let h = past c.args.journal.now in
    let n = c.args.number in
    let x = c.args.engines.now in
    no_kill_leads g.N.Name.script h n (sym (ap (λ (ps : Opened). holds n ps) c.registry.ensures ∙ holds_open x.registry h n c.requires.run.engines.registry) ∙ (sym c.is_open.ensures ∙ c.if-not-is_open.true))

pub returns-clause-run : goal.returns-clause-run
returns-clause-run g c =
    let h = past c.args.journal.now in
    let n = c.args.number in
    let x = c.args.engines.now in
    let begun : is_open n h ≡ true = sym (ap (λ (ps : Opened). holds n ps) c.registry.ensures ∙ holds_open x.registry h n c.requires.run.engines.registry) ∙ (sym c.is_open.ensures ∙ c.if-not-is_open.false) in
    let same : past c.reserve_tick.new.journal ≡ h = c.in_ok-now.ensures.same in
    let grown : past c.tell.new.journal ≡ outside_entry h (Act.Kill n) Reply.Done ∷ h =
    grown_from (past c.reserve_tick.new.journal) h (past c.tell.new.journal) (Act.Kill n) Reply.Done c.tell.ensures same in
    subst (λ (j : Journal). IsRun g.N.Name.script g.N.Name.from j c.kill.new.self) (sym grown)
    (kill_run c.law.ensures.obeyed g.N.Name.script g.N.Name.from h n x c.kill.new.self c.requires.run begun c.in_ok-now.ensures.few c.kill.ensures.faults c.kill.ensures.entities c.kill.ensures.answered)

pub returns-clause-sessions : goal.returns-clause-sessions
returns-clause-sessions g c =
    let h = past c.args.journal.now in
    let n = c.args.number in
    let x = c.args.engines.now in
    let xs = c.args.sessions.now.items in
    let ys = c.kill_at.new.sessions.items in
    let same : past c.reserve_tick.new.journal ≡ h = c.in_ok-now.ensures.same in
    let grown : past c.tell.new.journal ≡ outside_entry h (Act.Kill n) Reply.Done ∷ h =
    grown_from (past c.reserve_tick.new.journal) h (past c.tell.new.journal) (Act.Kill n) Reply.Done c.tell.ensures same in
    subst (λ (j : Journal). AreSessions g.N.Name.script j ys) (sym grown)
    (sessions_outside g.N.Name.script h (length h + 1) (Act.Kill n) Reply.Done xs ys c.requires.sessions
    (subst (λ (m : ℕ). AreKilled (λ s. m == s) xs ys) c.number.view_is c.kill_at.ensures))

pub returns-clause-asked : goal.returns-clause-asked
returns-clause-asked g c = λ w.
    let h = past c.args.journal.now in
    let n = c.args.number in
    let x = c.args.engines.now in
    let same : past c.reserve_tick.new.journal ≡ h = c.in_ok-now.ensures.same in
    let grown : past c.tell.new.journal ≡ outside_entry h (Act.Kill n) Reply.Done ∷ h =
    grown_from (past c.reserve_tick.new.journal) h (past c.tell.new.journal) (Act.Kill n) Reply.Done c.tell.ensures same in
    subst (λ (j : Journal). IsAsked g.N.Name.from j c.kill.new.self) (sym grown)
    (asked_outside g.N.Name.from h (Act.Kill n) Reply.Done x c.kill.new.self refl c.kill.ensures.asked w)

pub returns-clause-played : goal.returns-clause-played
returns-clause-played g c =
    let h = past c.args.journal.now in
    let n = c.args.number in
    let x = c.args.engines.now in
    let begun : is_open n h ≡ true = sym (ap (λ (ps : Opened). holds n ps) c.registry.ensures ∙ holds_open x.registry h n c.requires.run.engines.registry) ∙ (sym c.is_open.ensures ∙ c.if-not-is_open.false) in
    let same : past c.reserve_tick.new.journal ≡ h = c.in_ok-now.ensures.same in
    let grown : past c.tell.new.journal ≡ outside_entry h (Act.Kill n) Reply.Done ∷ h =
    grown_from (past c.reserve_tick.new.journal) h (past c.tell.new.journal) (Act.Kill n) Reply.Done c.tell.ensures same in
    subst (λ (j : Journal). Leads (play_order g.N.Name.script (Order.Kill n)) played h j) (sym grown) (kill_leads g.N.Name.script h n begun)

pub returns-in_err-now-clause-outside : goal.returns-in_err-now-clause-outside
returns-in_err-now-clause-outside g c = outside_same (past c.args.journal.now) (past c.reserve_tick.new.journal) c.in_err-now.ensures.same

pub returns-clause-outside : goal.returns-clause-outside
returns-clause-outside g c =
    let h = past c.args.journal.now in
    let n = c.args.number in
    let same : past c.reserve_tick.new.journal ≡ h = c.in_ok-now.ensures.same in
    outside_one h (past c.tell.new.journal) (Act.Kill n) Reply.Done (grown_from (past c.reserve_tick.new.journal) h (past c.tell.new.journal) (Act.Kill n) Reply.Done c.tell.ensures same)

pub returns-in_err-now-clause-closed : goal.returns-in_err-now-clause-closed
returns-in_err-now-clause-closed g c = λ k.
    let h = past c.args.journal.now in
    let n = c.args.number in
    let x = c.args.engines.now in
    let begun : is_open n h ≡ true = sym (ap (λ (ps : Opened). holds n ps) c.registry.ensures ∙ holds_open x.registry h n c.requires.run.engines.registry) ∙ (sym c.is_open.ensures ∙ c.if-not-is_open.false) in
    absurd (false≢true (sym k ∙ begun))

pub returns-then-not-is_open-clause-grown : goal.returns-then-not-is_open-clause-grown
returns-then-not-is_open-clause-grown g c = λ p.
    let n = c.args.number in
    let x = c.args.engines.now in
    absurd (false≢true (sym (sym (ap (λ (ps : Opened). holds n ps) c.registry.ensures ∙ holds_open x.registry (past c.args.journal.now) n c.requires.run.engines.registry) ∙ (sym c.is_open.ensures ∙ c.if-not-is_open.true)) ∙ p))

pub returns-clause-closed : goal.returns-clause-closed
returns-clause-closed g c = λ p.
    let n = c.args.number in
    let x = c.args.engines.now in
    absurd (false≢true (sym p ∙ (sym (ap (λ (ps : Opened). holds n ps) c.registry.ensures ∙ holds_open x.registry (past c.args.journal.now) n c.requires.run.engines.registry) ∙ (sym c.is_open.ensures ∙ c.if-not-is_open.false))))
