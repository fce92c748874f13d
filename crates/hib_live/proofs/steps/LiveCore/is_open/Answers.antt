use Rattle.std.proofs.Common.{◌≡◌, ap, subst, ◌∙◌}
use Rattle.hib_journal.specs.Kept.{past}
use Rattle.hib_journal.specs.Sessions.{is_open}
use Rattle.hib_engines.specs.Registry.{Opened, holds}
use Rattle.hib_engines.proofs.Opened.{holds_open}
use Rattle.hib_live.specs.Live.{LiveState}
use Rattle.hib_live.proofs.steps.LiveCore.is_open.Goals as goal

pub returns : goal.returns
returns g c =
    let n = c.args.number in
    let x = c.self.inside.engines in
    let h = past c.self.inside.journal in
    subst (λ (v : LiveState). c.is_open.result ≡ is_open n (past v.journal)) c.self.view_is
    (c.is_open.ensures ∙ (ap (λ (ps : Opened). holds n ps) c.registry.ensures ∙ holds_open x.registry h n c.self.invariant.run.engines.registry))
