use Rattle.hib_trace_filed.proofs.Filing.{own_step}
use Rattle.hib_trace_filed.proofs.own.owns_of.Goals as goal

pub loop-write-preserved : goal.loop-write-preserved
loop-write-preserved c =
    own_step c.args.writes.now c.loop-write.write-index _ c.loop-write.owns c.note_own.new.owns c.loop-write-test.true c.loop-write.invariant
    c.in_ok-note_own.ensures
