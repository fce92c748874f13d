-- If no call is to fail, none fails.
use Rattle.std.proofs.Common.{◌≡◌, ℕ, zero, suc, [], refl, arith}
use Rattle.hib_outside.specs.Causes.{failed_calls}

pub failed_calls-nil : (n : ℕ) → failed_calls [] n ≡ 0
failed_calls-nil zero = refl
failed_calls-nil (suc n) = let e : failed_calls [] n ≡ 0 = failed_calls-nil n in omega arith
