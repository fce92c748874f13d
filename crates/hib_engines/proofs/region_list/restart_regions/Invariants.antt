use Rattle.std.proofs.Common.{◌≡◌, ℕ, cond, nat_lt, length}
use Rattle.hib_engines.specs.Region.{emptied}
use Rattle.hib_engines.specs.Regions.{region_of}
use Rattle.hib_engines.proofs.region_list.restart_regions.Given as goal

-- the regions so far are emptied, and the others as they were
abbrev pub invariant-loop-at : goal.invariant-loop-at
invariant-loop-at l = record {
  all : length l.regions.items ≡ length l.fn.regions.items;
  each : (n : ℕ) → region_of l.regions.items n ≡ cond (nat_lt n l.at) (emptied (region_of l.fn.regions.items n)) (region_of l.fn.regions.items n);
}
