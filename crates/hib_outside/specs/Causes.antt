-- Counts of faults, answers that come only if one rose, and the calls that are to fail.
use Rattle.std.specs.Prelude.{◌≡◌, ◌↔◌, ℕ, zero, suc, ◌+◌, ◌-◌, ◌^◌, ◌≤◌, min, Bool, true, if◌then◌else◌, ◌&&◌, List, nat_eq, nat_lt, Result, Err, OnOk, OnErr, IfErr}
use Rattle.std.specs.List.{list_any}
use Rattle.hib_outside.specs.declared.failing.Failing.{Failing}
use Rattle.hib_outside.specs.declared.keeper.KeepFault.{KeepFault}
use Rattle.hib_outside.specs.declared.keeper.KeepFault.TheVariants.{Failed}

-- the count has risen, or stands at the last value of a u64
abbrev pub Rose : ℕ → ℕ → Type 0
Rose before now = min (before + 1) (2 ^ 64 - 1) ≤ now

-- the count has not fallen, an error comes only if it rose, and if all went well it is as before
pub record HasCause {T E : Type 0} (before now : ℕ) (result : Result T E) : Type 0 where
  pub later : before ≤ now
  pub failed : OnErr result (Rose before now)
  pub kept : OnOk result (now ≡ before)

-- the count has not fallen, and Failed comes only if it rose
pub record FailsByCause {T : Type 0} (before now : ℕ) (result : Result T KeepFault) : Type 0 where
  pub later : before ≤ now
  pub failed : IfErr result (λ e. e ≡ Failed → Rose before now)

abbrev pub is_among : ℕ → List ℕ → Bool
is_among n fail = list_any (λ m. nat_eq m n) fail

-- the call after n calls is to fail; no number names a call after the 4294967295th
abbrev pub is_due : List ℕ → ℕ → Bool
is_due fail n = is_among (n + 1) fail && nat_lt n 4294967295

-- the number of calls after one more; it stays at 4294967295
abbrev pub next_call : ℕ → ℕ
next_call n = if nat_lt n 4294967295 then n + 1 else n

-- how many of the first n calls were to fail
abbrev pub failed_calls : List ℕ → ℕ → ℕ
failed_calls fail zero = 0
failed_calls fail (suc n) = failed_calls fail n + (if is_among (suc n) fail then 1 else 0)

-- one more, up to the last value of a u64
abbrev pub one_more : ℕ → ℕ
one_more n = min (n + 1) (2 ^ 64 - 1)

-- a call is counted, and fails exactly if it is to
pub record IsCall {T : Type 0} (old new : Failing) (result : Result T KeepFault) : Type 0 where
  pub cause : FailsByCause (failed_calls old.fail old.calls) (failed_calls new.fail new.calls) result
  pub fails : (result ≡ Err Failed) ↔ (is_due old.fail old.calls ≡ true)
  pub calls : new.calls ≡ next_call old.calls
  pub fail : new.fail ≡ old.fail

-- a call that asks for rows counts as asked, unless it is to fail
pub record IsAsked (failing : Failing) (old new : ℕ) : Type 0 where
  pub few : (old ≤ new) × (new ≤ old + 1)
  pub counted : new ≡ (if is_due failing.fail failing.calls then old else one_more old)
