use Rattle.std.proofs.Common.{◌∙◌, ap, map}
use Rattle.std.proofs.lemmas.List.{take_all}
use Rattle.hib_journal.specs.Types.{Strategy}
use Rattle.hib_engines.specs.Region.{empty}
use Rattle.hib_collections.proofs.Begun.{collected_begin}
use Rattle.hib_collections.proofs.shared.open_regions.Goals as goal

pub returns : goal.returns
returns c = collected_begin c.laws.ensures c.args.script.now c.args.defs.now c.loop-def.regions.items
    (c.loop-def.invariant ∙ (ap (map (λ d. empty Strategy.ReadWrite d.capacity c.args.script.now.timeout)) (take_all c.loop-def.def-index c.as_slice-def-items.result.now c.loop-def-test.false)
    ∙ ap (map (λ d. empty Strategy.ReadWrite d.capacity c.args.script.now.timeout)) c.as_slice-def-items.ensures))
