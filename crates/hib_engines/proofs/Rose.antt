-- How counts rise.
use Rattle.std.proofs.Common.{◌≡◌, ℕ, ◌+◌, ◌≤◌, true, false, cond, arith, inl, inr}
use Rattle.hib_base.proofs.Tables.{Tested, tested}
use Rattle.hib_journal.specs.Types.{Reply}
use Rattle.hib_journal.specs.Runs.{is_fault}
use Rattle.hib_engines.specs.Counts.{RoseBy}

pub rose_more : (b n o m w : ℕ) → RoseBy b n o → RoseBy o m w → RoseBy b (n + m) w
rose_more b n o m w p q = omega (arith, p, q)

pub rose_on : (b n o w : ℕ) → RoseBy b n o → o ≤ w → RoseBy b n w
rose_on b n o w p q = omega (arith, p, q)

-- an answer that is a fault only if the count rose
pub rose_if : (r : Reply) (o w : ℕ) → o ≤ w → (is_fault r ≡ true → RoseBy o 1 w) → RoseBy o (cond (is_fault r) 1 0) w
rose_if r o w l f = by_test (tested (is_fault r))
  where
    by_test : Tested (is_fault r) → RoseBy o (cond (is_fault r) 1 0) w
    by_test (inl p) = rw p (f p)
    by_test (inr p) = rw p (omega (arith, l))
