-- How one touch changes a slot: the record of a key, changed in place, stands for the slot by counting.
use Rattle.std.proofs.Common.{◌≡◌, ℕ, zero, suc, ◌+◌, ◌-◌, ◌≤◌, Bool, true, false, [], ◌∷◌, None, Option, refl, ap, arith}
use Rattle.hib_journal.specs.Slot.{Touch, Base, Slot, History, base, stretch, locks, releases, last_free, slot_of, slot_from, bar_end}

-- the unlock time after a release that left n holders
abbrev pub freed : ℕ → ℕ → ℕ → ℕ
freed zero now unlock = now
freed (suc n) now unlock = unlock

-- the slot after one touch
abbrev pub touched : ℕ → Touch → ℕ → Slot → Slot
touched timeout (Touch.Stores r late) now s = Slot.Item r now
touched timeout Touch.Evicts now s = Slot.Lock (record {
  id = now;
  version = None;
  timeout = now;
  holders = 0;
  shared = false;
  unlock = now;
})
touched timeout Touch.Expires now s = Slot.Lock (record {
  id = now;
  version = None;
  timeout = now + timeout;
  holders = 0;
  shared = false;
  unlock = now + timeout;
})
touched timeout Touch.Leaves now s = Slot.Vacant
touched timeout (Touch.Locks v) now Slot.Vacant = Slot.Lock (record {
  id = now;
  version = v;
  timeout = now + timeout;
  holders = 1;
  shared = false;
  unlock = 0;
})
touched timeout (Touch.Locks v) now (Slot.Item r t) = Slot.Lock (record {
  id = now;
  version = r.version;
  timeout = now + timeout;
  holders = 1;
  shared = false;
  unlock = 0;
})
touched timeout (Touch.Locks v) now (Slot.Lock l) = Slot.Lock (record {
  id = l.id;
  version = l.version;
  timeout = now + timeout;
  holders = suc l.holders;
  shared = true;
  unlock = l.unlock;
})
touched timeout (Touch.Releases n) now (Slot.Lock l) = Slot.Lock (record {
  id = l.id;
  version = l.version;
  timeout = l.timeout;
  holders = n;
  shared = l.shared;
  unlock = freed n now l.unlock;
})
touched timeout (Touch.Releases n) now s = s

-- a release is of a lock with one holder more than it leaves
abbrev pub IsFor : Touch → Slot → Type 0
IsFor (Touch.Releases n) (Slot.Lock l) = l.holders ≡ suc n
IsFor (Touch.Releases n) s = ⊥
IsFor _ s = Unit {0}

-- each release in a history is of a held lock, with the holders that it says
abbrev pub IsKept : ℕ → History → Type 0
IsKept timeout [] = Unit {0}
IsKept timeout ((t, now) ∷ s) = IsFor t (slot_from timeout s) × IsKept timeout s

-- a lock that is given back was counted
held-counted : (timeout n : ℕ) (b : Base) (l : ℕ) (s : History) → IsFor (Touch.Releases n) (slot_of timeout b l s) → suc (releases s) ≤ l
held-counted timeout n Base.Nothing zero s h = absurd h
held-counted timeout n Base.Nothing (suc l) s h = omega arith
held-counted timeout n (Base.Stored r t) zero s h = absurd h
held-counted timeout n (Base.Stored r t) (suc l) s h = omega arith
held-counted timeout n (Base.Barred t x) zero s h = omega arith
held-counted timeout n (Base.Barred t x) (suc l) s h = omega arith

pub releases_le_locks : (timeout : ℕ) (s : History) → IsKept timeout s → releases (stretch s) ≤ locks (stretch s)
unfolding slot_from
releases_le_locks timeout [] h = omega arith
releases_le_locks timeout ((Touch.Stores r late, now) ∷ s) h = omega arith
releases_le_locks timeout ((Touch.Evicts, now) ∷ s) h = omega arith
releases_le_locks timeout ((Touch.Expires, now) ∷ s) h = omega arith
releases_le_locks timeout ((Touch.Leaves, now) ∷ s) h = omega arith
releases_le_locks timeout ((Touch.Locks v, now) ∷ s) h = omega (arith, releases_le_locks timeout s h.1)
releases_le_locks timeout ((Touch.Releases n, now) ∷ s) h = held-counted timeout n (base s) (locks (stretch s)) (stretch s) h.0

one_more : (l r : ℕ) → r ≤ suc l → suc (suc l) - r ≡ suc (suc l - r)
one_more l r h = omega arith

one_less : (l r n : ℕ) → suc l - r ≡ suc n → suc l - suc r ≡ n
one_less l r n h = omega arith

-- the lock states that differ in the number of holders alone
same_lock : (i : ℕ) (v : Option ℕ) (t : ℕ) (x : Bool) (u : ℕ) (n m : ℕ) → n ≡ m →
    Slot.Lock (record { id = i; version = v; timeout = t; holders = n; shared = x; unlock = u }) ≡ Slot.Lock (record { id = i; version = v; timeout = t; holders = m; shared = x; unlock = u })
same_lock i v t x u n m e = ap (λ k. Slot.Lock (record { id = i; version = v; timeout = t; holders = k; shared = x; unlock = u })) e

last_free_none : (s : History) (d : ℕ) → releases s ≡ 0 → last_free s d ≡ d
last_free_none [] d e = refl
last_free_none ((Touch.Releases n, now) ∷ s) d e = absurd (omega arith)
last_free_none ((Touch.Stores r x, now) ∷ s) d e = last_free_none s d e
last_free_none ((Touch.Evicts, now) ∷ s) d e = last_free_none s d e
last_free_none ((Touch.Expires, now) ∷ s) d e = last_free_none s d e
last_free_none ((Touch.Leaves, now) ∷ s) d e = last_free_none s d e
last_free_none ((Touch.Locks v, now) ∷ s) d e = last_free_none s d e

lock_more : (timeout : ℕ) (b : Base) (l : ℕ) (s : History) (v : Option ℕ) (now : ℕ) → l ≡ locks s → releases s ≤ l →
    slot_of timeout b (suc l) ((Touch.Locks v, now) ∷ s) ≡ touched timeout (Touch.Locks v) now (slot_of timeout b l s)
lock_more timeout Base.Nothing zero s v now e h =
    let r : releases s ≡ 0 = omega arith in rw (← e, r, last_free_none s 0 r)
lock_more timeout Base.Nothing (suc l) s v now e h = rw (← e, one_more l (releases s) h)
lock_more timeout (Base.Stored r t) zero s v now e h =
    let r : releases s ≡ 0 = omega arith in rw (← e, r, last_free_none s 0 r)
lock_more timeout (Base.Stored r t) (suc l) s v now e h = rw (← e, one_more l (releases s) h)
lock_more timeout (Base.Barred t x) zero s v now e h =
    let r : releases s ≡ 0 = omega arith in rw (r, last_free_none s (bar_end x timeout t) r)
lock_more timeout (Base.Barred t x) (suc l) s v now e h = rw (one_more l (releases s) h)

last_free_more : (n now : ℕ) (s : History) (d : ℕ) → last_free ((Touch.Releases n, now) ∷ s) d ≡ freed n now (last_free s d)
last_free_more zero now s d = refl
last_free_more (suc n) now s d = refl

release_one : (timeout : ℕ) (b : Base) (l : ℕ) (s : History) (n now : ℕ) → IsFor (Touch.Releases n) (slot_of timeout b l s) →
    slot_of timeout b l ((Touch.Releases n, now) ∷ s) ≡ touched timeout (Touch.Releases n) now (slot_of timeout b l s)
release_one timeout Base.Nothing zero s n now h = absurd h
release_one timeout Base.Nothing (suc l) s n now h = rw (last_free_more n now s 0, one_less l (releases s) n h)
release_one timeout (Base.Stored r t) zero s n now h = absurd h
release_one timeout (Base.Stored r t) (suc l) s n now h = rw (last_free_more n now s 0, one_less l (releases s) n h)
release_one timeout (Base.Barred t x) zero s n now h = absurd (omega arith)
release_one timeout (Base.Barred t x) (suc l) s n now h = rw (last_free_more n now s (bar_end x timeout t), one_less l (releases s) n h)

-- the slot by counting is the record that each touch changes in place
pub slot_step : (timeout : ℕ) (t : Touch) (now : ℕ) (s : History) → IsKept timeout ((t, now) ∷ s) →
    slot_from timeout ((t, now) ∷ s) ≡ touched timeout t now (slot_from timeout s)
unfolding slot_from
slot_step timeout (Touch.Stores r late) now s h = refl
slot_step timeout Touch.Evicts now s h = refl
slot_step timeout Touch.Expires now s h = refl
slot_step timeout Touch.Leaves now s h = refl
slot_step timeout (Touch.Locks v) now s h =
    lock_more timeout (base s) (locks (stretch s)) (stretch s) v now refl (releases_le_locks timeout s h.1)
slot_step timeout (Touch.Releases n) now s h = release_one timeout (base s) (locks (stretch s)) (stretch s) n now h.0
