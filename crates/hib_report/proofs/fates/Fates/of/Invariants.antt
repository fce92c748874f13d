use Rattle.std.proofs.Common.{◌≡◌, ℕ, length, slice_get, Some, reverse, take}
use Rattle.hib_report.specs.declared.fates.Fate.{Fate}
use Rattle.hib_report.specs.Fates.{IsFateOf}
use Rattle.hib_report.proofs.fates.Fates.of.Given as goal

abbrev pub invariant-loop-place : goal.invariant-loop-place
invariant-loop-place l = record {
  all : length l.fates.items ≡ l.sessions;
  each : (s : ℕ) (f : Fate) → slice_get l.fates.items s ≡ Some f → IsFateOf l.restart l.place s f (reverse (take l.place l.entries));
}
