use Rattle.std.proofs.Common.{◌≡◌, ◌∷◌, subst}
use Rattle.hib_base.specs.declared.entries.Entry.{Entry}
use Rattle.hib_journal.specs.Kept.{past}
use Rattle.hib_engines.specs.Engines.{IsAskedFor}
use Rattle.hib_live.specs.Live.{LiveState}
use Rattle.hib_live.proofs.steps.LiveCore.step.Goals as goal

pub returns-clause-asks_once : goal.returns-clause-asks_once
returns-clause-asks_once g c =
    subst (λ (v : LiveState). (e : Entry) → past c.take_turn.new.journal ≡ e ∷ past v.journal → IsAskedFor (past v.journal) c.args.number e.act v.engines c.take_turn.new.engines) c.self.view_is c.take_turn.ensures.asks_once
