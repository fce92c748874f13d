use Rattle.std.proofs.Common.{sym, ap, ◌∙◌}
use Rattle.indexmap.specs.IndexMap.{set_value_at}
use Rattle.hib_soft_lock.specs.Steps.{locked}
use Rattle.hib_rw_region.proofs.Writes.{changed_at}
use Rattle.hib_rw_region.proofs.slots.lock.Goals as goal

pub returns-clause-slots : goal.returns-clause-slots
returns-clause-slots c =
    ap (set_value_at c.args.slots.now.entries c.in_ok-index.index) c.lock.ensures.slot
    ∙ changed_at c.args.id c.in_ok-index.index (locked c.args.timeout c.args.now) c.args.slots.now.entries c.index_mut-slot.result.now (sym c.in_ok-index.ensures.index) c.index_mut-slot.ensures.value
