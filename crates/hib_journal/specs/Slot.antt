-- A key of a read-write region, by counting entries.
use Rattle.std.specs.Prelude.{ℕ, zero, suc, ◌+◌, ◌-◌, Bool, true, false, if◌then◌else◌, ◌&&◌, ◌==◌, List, [], ◌∷◌, Some, None, Option, option_and_then}
use Rattle.std.specs.Option.{option_map_or}
use Rattle.hib_journal.specs.Types.{Key, Row, Act, Reply, Entry, Put, Unlocked, Inserted, Updated, Evicted}
use Rattle.hib_base.specs.Keys.{same_key}
use Rattle.hib_journal.specs.Sessions.{Journal, is_restart}

-- what an entry does to one key of a read-write region
pub data Touch : Type 0 where
  -- a row is stored in it; whether over a lock that was late
  Stores : Row → Bool → Touch
  -- a lock is taken, by a session that names the version of its base
  Locks : Option ℕ → Touch
  -- a lock is given back, and so many holders are left
  Releases : ℕ → Touch
  -- it is evicted
  Evicts : Touch
  -- a lock was to be given back that had expired
  Expires : Touch
  -- it leaves the region: another key takes its place, or it is removed
  Leaves : Touch

-- what an answer does to the key that its act names
abbrev pub touch_here : Act → Reply → Option Touch
touch_here (Act.Put k r t f) (Reply.Put (Put.Stored v late)) = Some (Stores r late)
touch_here (Act.AfterInsert k r f) (Reply.Inserted (Inserted.Stored v)) = Some (Stores r false)
touch_here (Act.AfterUpdate k i r) (Reply.Updated Updated.Stored) = Some (Stores r false)
touch_here (Act.AfterUpdate k i r) (Reply.Updated (Updated.Shared n)) = Some (Releases n)
touch_here (Act.AfterUpdate k i r) (Reply.Updated Updated.Expired) = Some Expires
touch_here (Act.Lock k v f) (Reply.Locked l) = Some (Locks v)
touch_here (Act.Unlock k i) (Reply.Unlocked (Unlocked.Released n)) = Some (Releases n)
touch_here (Act.Unlock k i) (Reply.Unlocked Unlocked.Expired) = Some Expires
touch_here (Act.Evict k) (Reply.Evicted Evicted.Gone) = Some Evicts
touch_here (Act.RegionRemove k) Reply.Dropped = Some Leaves
touch_here _ _ = None

-- the key that an act of a region names
abbrev pub key_in : Act → Option Key
key_in (Act.Get k t) = Some k
key_in (Act.Put k r t f) = Some k
key_in (Act.AfterInsert k r f) = Some k
key_in (Act.AfterUpdate k i r) = Some k
key_in (Act.Lock k v f) = Some k
key_in (Act.Unlock k i) = Some k
key_in (Act.RegionRemove k) = Some k
key_in (Act.Evict k) = Some k
key_in _ = None

-- the identifier that an answer names as evicted
abbrev pub evicted_in : Reply → Option ℕ
evicted_in (Reply.Put (Put.Stored v l)) = v
evicted_in (Reply.Inserted (Inserted.Stored v)) = v
evicted_in (Reply.Locked l) = l.evicted
evicted_in _ = None

abbrev pub touch_at : Key → Key → Act → Reply → Option Touch
touch_at k here a r =
    if same_key here k then touch_here a r
    else (if (here.entity == k.entity) && option_map_or (λ i. i == k.id) (evicted_in r) false then Some Leaves else None)

-- what an entry does to k, or none if it leaves k as it is
abbrev pub touch : Key → Entry → Option Touch
touch k e = option_and_then (λ here. touch_at k here e.act e.reply) (key_in e.act)

abbrev pub History : Type 0
History = List (Touch × ℕ)

-- what was done to k since the restart, each with its tick, the newest first
abbrev pub history : Key → Journal → History
history k [] = []
history k (e ∷ h) = if is_restart e.act then [] else option_map_or (λ t. (t, e.tick) ∷ history k h) (touch k e) (history k h)

-- where a key stands before the locks of its stretch: nothing, a stored row, or a lock without holder
pub data Base : Type 0 where
  Nothing : Base
  Stored : Row → ℕ → Base
  -- since which tick, and whether by a lock that had expired
  Barred : ℕ → Bool → Base

-- what the last touch left that stored, evicted or lost the key, or found its lock expired
abbrev pub base : History → Base
base [] = Nothing
base ((Stores r late, now) ∷ s) = Stored r now
base ((Evicts, now) ∷ s) = Barred now false
base ((Expires, now) ∷ s) = Barred now true
base ((Leaves, now) ∷ s) = Nothing
base ((Locks v, now) ∷ s) = base s
base ((Releases n, now) ∷ s) = base s

-- the touches after that one: locks and releases
abbrev pub stretch : History → History
stretch [] = []
stretch ((Locks v, now) ∷ s) = (Locks v, now) ∷ stretch s
stretch ((Releases n, now) ∷ s) = (Releases n, now) ∷ stretch s
stretch ((_, now) ∷ s) = []

abbrev pub locks : History → ℕ
locks [] = 0
locks ((Locks v, now) ∷ s) = suc (locks s)
locks ((_, now) ∷ s) = locks s

abbrev pub releases : History → ℕ
releases [] = 0
releases ((Releases n, now) ∷ s) = suc (releases s)
releases ((_, now) ∷ s) = releases s

abbrev pub is_positive : ℕ → Bool
is_positive zero = false
is_positive (suc n) = true

-- of the first lock its tick and the version that it names
abbrev pub first_lock : History → ℕ × Option ℕ
first_lock [] = (0, None)
first_lock ((Locks v, now) ∷ s) = if is_positive (locks s) then first_lock s else (now, v)
first_lock ((_, now) ∷ s) = first_lock s

-- the tick of the last lock
abbrev pub last_lock : History → ℕ
last_lock [] = 0
last_lock ((Locks v, now) ∷ s) = now
last_lock ((_, now) ∷ s) = last_lock s

-- the tick of the last release that left no holder, or else
abbrev pub last_free : History → ℕ → ℕ
last_free [] other = other
last_free ((Releases zero, now) ∷ s) other = now
last_free ((_, now) ∷ s) other = last_free s other

pub record LockState : Type 0 where
  pub id : ℕ
  pub version : Option ℕ
  pub timeout : ℕ
  pub holders : ℕ
  pub shared : Bool
  pub unlock : ℕ

pub data Slot : Type 0 where
  Vacant : Slot
  Item : Row → ℕ → Slot
  Lock : LockState → Slot

-- when a lock without holder ends
abbrev pub bar_end : Bool → ℕ → ℕ → ℕ
bar_end expired timeout since = if expired then since + timeout else since

-- a lock that was taken n times and once more, by its id and version, whether it is shared, and the unlock time that its base gives it
abbrev pub lock_of : ℕ → ℕ → History → ℕ → Option ℕ → Bool → ℕ → Slot
lock_of timeout n s id version shared other = Lock (record {
  id = id;
  version = version;
  timeout = last_lock s + timeout;
  holders = suc n - releases s;
  shared = shared;
  unlock = last_free s other;
})

-- the slot, by the base, the number of locks since then, and the touches since then
abbrev pub slot_of : ℕ → Base → ℕ → History → Slot
slot_of timeout Nothing zero s = Vacant
slot_of timeout (Stored r t) zero s = Item r t
slot_of timeout (Barred t x) zero s = Lock (record {
  id = t;
  version = None;
  timeout = bar_end x timeout t;
  holders = 0;
  shared = false;
  unlock = bar_end x timeout t;
})
slot_of timeout Nothing (suc n) s = lock_of timeout n s (first_lock s).0 (first_lock s).1 (is_positive n) 0
slot_of timeout (Stored r t) (suc n) s = lock_of timeout n s (first_lock s).0 r.version (is_positive n) 0
slot_of timeout (Barred t x) (suc n) s = lock_of timeout n s t None true (bar_end x timeout t)

unfoldable pub slot_from : ℕ → History → Slot
slot_from timeout s = slot_of timeout (base s) (locks (stretch s)) (stretch s)

-- the slot of k at the end of a journal
abbrev pub slot : ℕ → Key → Journal → Slot
slot timeout k h = slot_from timeout (history k h)
