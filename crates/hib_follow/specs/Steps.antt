-- How one entry changes what a key has.
use Rattle.std.specs.Prelude.{ℕ, zero, suc, ◌+◌, true, false, Some, None, Option}
use Rattle.hib_journal.specs.Types.{Strategy}
use Rattle.hib_journal.specs.Slot.{Touch, Slot}

-- a lock that one has just taken, for a row of this version
abbrev pub new_lock : ℕ → ℕ → Option ℕ → Slot
new_lock timeout now v = Slot.Lock (record { id = now; version = v; timeout = now + timeout; holders = 1; shared = false; unlock = 0 })

-- a lock that nobody holds
abbrev pub barred : ℕ → ℕ → Slot
barred now until = Slot.Lock (record { id = now; version = None; timeout = until; holders = 0; shared = false; unlock = until })

abbrev pub locked : ℕ → ℕ → Option ℕ → Slot → Slot
locked timeout now v Slot.Vacant = new_lock timeout now v
locked timeout now v (Slot.Item r t) = new_lock timeout now r.version
locked timeout now v (Slot.Lock l) = Slot.Lock (record {
  id = l.id;
  version = l.version;
  timeout = now + timeout;
  holders = suc l.holders;
  shared = true;
  unlock = l.unlock;
})

abbrev pub freed : ℕ → ℕ → ℕ → ℕ
freed zero now unlock = now
freed (suc n) now unlock = unlock

abbrev pub released : ℕ → ℕ → Slot → Slot
released n now (Slot.Lock l) = Slot.Lock (record {
  id = l.id;
  version = l.version;
  timeout = l.timeout;
  holders = n;
  shared = l.shared;
  unlock = freed n now l.unlock;
})
released n now s = s

-- of a read-write key
abbrev pub slot_after : ℕ → ℕ → Touch → Slot → Slot
slot_after timeout now (Touch.Stores r late) s = Slot.Item r now
slot_after timeout now (Touch.Locks v) s = locked timeout now v s
slot_after timeout now (Touch.Releases n) s = released n now s
slot_after timeout now Touch.Evicts s = barred now now
slot_after timeout now Touch.Expires s = barred now (now + timeout)
slot_after timeout now Touch.Leaves s = Slot.Vacant

-- of a key of a weaker region
abbrev pub item_after : ℕ → Touch → Slot → Slot
item_after now (Touch.Stores r late) s = Slot.Item r now
item_after now Touch.Leaves s = Slot.Vacant
item_after now Touch.Evicts s = Slot.Vacant
item_after now _ s = s

-- after what an entry does to it, if it does anything

abbrev pub slot_if : ℕ → ℕ → Option Touch → Slot → Slot
slot_if timeout now None s = s
slot_if timeout now (Some t) s = slot_after timeout now t s

abbrev pub item_if : ℕ → Option Touch → Slot → Slot
item_if now None s = s
item_if now (Some t) s = item_after now t s

abbrev pub after : Strategy → ℕ → ℕ → Option Touch → Slot → Slot
after Strategy.ReadWrite timeout now t s = slot_if timeout now t s
after _ timeout now t s = item_if now t s
