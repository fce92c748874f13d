-- Which entries a region does not feel.
use Rattle.std.specs.Prelude.{◌≡◌, ℕ, Bool, ◌==◌, false, Some, None, Option}
use Rattle.hib_journal.specs.Types.{Key, Part, Entry}
use Rattle.hib_journal.specs.Sessions.{Journal, last_tick, same_part, is_restart}
use Rattle.hib_journal.specs.Slot.{key_in}

-- the tick of the last entry of the region of entity n
abbrev pub last_of : ℕ → Journal → ℕ
last_of n h = last_tick (λ d. same_part (Part.Region n) d.part) h

abbrev pub is_of : ℕ → Option Key → Bool
is_of n None = false
is_of n (Some k) = k.entity == n

-- an entry that the region of entity n does not feel: of another part, naming no key of it, and no restart
pub record IsElsewhere (n : ℕ) (e : Entry) : Type 0 where
  pub part : same_part (Part.Region n) e.part ≡ false
  pub key : is_of n (key_in e.act) ≡ false
  pub stays : is_restart e.act ≡ false
