-- A keeper of which no call is to fail.
use Rattle.std.specs.Prelude.{Result, Ok, Err, ◌↔◌}
use Rattle.std.proofs.Common.{◌≡◌, ℕ, true, List, [], sym, ap, ◌∙◌, arith}
use Rattle.std.proofs.lemmas.Bool.{false≢true}
use Rattle.hib_outside.specs.Causes.{FailsByCause, is_due}
use Rattle.hib_outside.specs.declared.keeper.KeepFault.{KeepFault}

pub never : {T : Type 0} (r : Result T KeepFault) (fail : List ℕ) (n : ℕ) → fail ≡ [] → ((r ≡ Err KeepFault.Failed) ↔ (is_due fail n ≡ true)) → FailsByCause 0 0 r
never (Ok x) fail n p f = record { later = omega arith; failed = tt }
never (Err e) fail n p f = record {
  later = omega arith;
  failed = λ q. absurd (false≢true (ap (λ l. is_due l n) (sym p) ∙ f.0 (ap Err q)));
}
