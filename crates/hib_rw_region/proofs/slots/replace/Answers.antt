use Rattle.std.proofs.Common.{sym}
use Rattle.hib_rw_region.proofs.Writes.{written}
use Rattle.hib_rw_region.proofs.slots.replace.Goals as goal

pub returns : goal.returns
returns c = written c.args.id c.in-Some.index c.args.slots.now.entries c.args.slot (sym c.in-Some.ensures.index)
