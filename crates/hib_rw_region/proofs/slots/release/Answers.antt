use Rattle.std.proofs.Common.{sym, ap, ◌∙◌}
use Rattle.indexmap.specs.IndexMap.{set_value_at}
use Rattle.hib_soft_lock.specs.Steps.{released}
use Rattle.hib_rw_region.proofs.Writes.{changed_at}
use Rattle.hib_rw_region.proofs.slots.release.Goals as goal

pub returns : goal.returns
returns c =
    ap (set_value_at c.args.slots.now.entries c.in-Some.index) c.release.ensures.slot
    ∙ changed_at c.args.id c.in-Some.index (released c.args.now) c.args.slots.now.entries c.index_mut-slot.result.now (sym c.in-Some.ensures.index) c.index_mut-slot.ensures.value
