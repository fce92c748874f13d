use Rattle.std.proofs.Common.{◌≡◌, ℕ, take}
use Rattle.std.specs.Prelude.{Option}
use Rattle.hib_trace_filed.specs.Own.{has_own, own_written}
use Rattle.hib_trace_filed.proofs.own.owns_of.Given as goal

abbrev pub invariant-loop-write : goal.invariant-loop-write
invariant-loop-write l = (t : Option ℕ) (k r : ℕ) → has_own l.owns t k r ≡ own_written (take l.write-index l.writes) t k r
