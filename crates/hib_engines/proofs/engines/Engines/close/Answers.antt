use Rattle.std.proofs.Common.{ap, ◌∙◌}
use Rattle.hib_engines.specs.Engines.{EnginesState}
use Rattle.hib_engines.proofs.Still.{rows_committed}
use Rattle.hib_engines.proofs.engines.Engines.close.Goals as goal

pub returns-clause-rows : goal.returns-clause-rows
returns-clause-rows g c = λ script told h k.
    c.close.ensures.tables ∙ (ap (λ (v : EnginesState). v.store.tables) c.self.view_is ∙ rows_committed script told h c.args.self k)
