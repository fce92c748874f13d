-- The greatest version, and what is above it.
use Rattle.std.proofs.Common.{◌≡◌, ℕ, ◌<◌, ◌≤◌, arith}
use Rattle.std.proofs.lemmas.Bool.Decides.{nat_tests}
use Rattle.hib_statements.specs.Rows.{capped}

pub capped_within : (n : ℕ) → n ≤ 1000000 → capped n ≡ n
capped_within n h = grind (arith, nat_tests)

pub capped_above : (n : ℕ) → 1000000 < n → capped n ≡ 1000001
capped_above n h = grind (arith, nat_tests)
