use Rattle.std.proofs.Common.{◌^◌, arith}
use Rattle.hib_listeners.proofs.Counted.{carried, below_so_far}
use Rattle.hib_listeners.proofs.statistics.Statistics.of_journal.Goals as goal

pub note-requires : goal.note-requires
note-requires c =
    below_so_far c.args.script.now c.args.journal.now.list c.loop-i.i (2 ^ 62) c.loop-i.counts (omega arith) (omega arith) c.loop-i.invariant

pub loop-i-preserved : goal.loop-i-preserved
loop-i-preserved c =
    carried c.args.script.now c.args.journal.now.list c.loop-i.i c.at.result.now c.loop-i.counts c.note.new.self (omega arith) c.at.ensures c.loop-i.invariant c.note.ensures
