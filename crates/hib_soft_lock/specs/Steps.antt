-- How a slot is locked and released.
use Rattle.std.specs.Prelude.{ℕ, zero, suc, ◌+◌, ◌-◌, Bool, true, false, Option}
use Rattle.hib_journal.specs.Slot.{Slot, is_positive}
use Rattle.hib_soft_lock.specs.declared.slot.Slot.{Slot as Kept}

-- a lock that one has just taken, for a row of this version
abbrev pub new_lock : ℕ → Option ℕ → ℕ → Kept
new_lock timeout v now = Kept.Lock now v (now + timeout) 1 false 0

-- the slot with one holder more
abbrev pub locked : ℕ → ℕ → Kept → Kept
locked timeout now (Kept.Item r stamp) = new_lock timeout r.version now
locked timeout now (Kept.Lock i v t n x u) = Kept.Lock i v (now + timeout) (suc n) true u

-- when a lock that so many hold was let go
abbrev pub freed : ℕ → ℕ → ℕ → ℕ
freed zero now unlock = now
freed (suc n) now unlock = unlock

-- the slot with one holder less
abbrev pub released : ℕ → Kept → Kept
released now (Kept.Item r stamp) = Kept.Item r stamp
released now (Kept.Lock i v t n x u) = Kept.Lock i v t (n - 1) x (freed (n - 1) now u)

abbrev pub holders_in : Slot → ℕ
holders_in (Slot.Lock l) = l.holders
holders_in s = 0

-- a lock that somebody holds
abbrev pub is_held : Slot → Bool
is_held s = is_positive (holders_in s)
