use Rattle.std.proofs.Common.{◌≡◌, drop}
use Rattle.hib_base.specs.Fits.{are_of_types}
use Rattle.hib_live.proofs.fitting.are_typed.Given as goal

-- those behind the place say it
abbrev pub invariant-loop-place : goal.invariant-loop-place
invariant-loop-place l = are_of_types (drop l.place l.columns) (drop l.place l.cells) ≡ are_of_types l.columns l.cells
