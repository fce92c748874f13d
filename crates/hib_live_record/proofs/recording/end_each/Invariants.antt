use Rattle.std.proofs.Common.{◌≡◌}
use Rattle.hib_live_record.proofs.Ends.{part}
use Rattle.hib_live_record.proofs.recording.end_each.Given as goal

abbrev pub invariant-loop-place : goal.invariant-loop-place
invariant-loop-place l = l.sessions ≡ part l.fn.sessions l.place
