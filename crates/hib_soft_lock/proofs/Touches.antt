-- Locking and releasing are the touches of the definitions.
use Rattle.std.proofs.Common.{◌≡◌, ℕ, ◌-◌, Option, refl, arith}
use Rattle.hib_journal.specs.Slot.{Touch, Slot}
use Rattle.hib_journal.proofs.Slots.{touched, IsFor}
use Rattle.hib_soft_lock.specs.declared.slot.Slot.{Slot as Kept}
use Rattle.hib_soft_lock.specs.Shown.{shown}
use Rattle.hib_soft_lock.specs.Steps.{locked, released, new_lock}

pub shown_new_lock : (timeout : ℕ) (v : Option ℕ) (now : ℕ) → shown (new_lock timeout v now) ≡ touched timeout (Touch.Locks v) now Slot.Vacant
shown_new_lock timeout v now = refl

pub shown_locked : (timeout : ℕ) (v : Option ℕ) (now : ℕ) (s : Kept) → shown (locked timeout now s) ≡ touched timeout (Touch.Locks v) now (shown s)
shown_locked timeout v now (Kept.Item r stamp) = refl
shown_locked timeout v now (Kept.Lock i w t n x u) = refl

pub shown_released : (timeout n now : ℕ) (s : Kept) → IsFor (Touch.Releases n) (shown s) → shown (released now s) ≡ touched timeout (Touch.Releases n) now (shown s)
shown_released timeout n now (Kept.Item r stamp) h = absurd h
shown_released timeout n now (Kept.Lock i v t m x u) h =
    let e : m - 1 ≡ n = omega arith in rw (← e)
