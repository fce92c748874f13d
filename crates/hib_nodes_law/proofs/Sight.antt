-- What is known of one key at one node, what each kind of entry does to its slot and to what sessions know of it, and what always
-- holds. It speaks of no journal. Rows go by the number of commits on the key after which they were the committed one.
use Rattle.std.proofs.Common.{◌≡◌, ℕ, suc, ◌+◌, ◌<◌, ◌≤◌, ◌⊎◌, Bool, true, false, List, ◌∷◌, length, Some, None, Option}
use Rattle.hib_journal.specs.Types.{Row, Put}
use Rattle.hib_journal.specs.Slot.{Touch, LockState, Slot}
use Rattle.hib_journal.specs.Room.{may_leave}
use Rattle.hib_journal.specs.Regions.{is_below, put}
use Rattle.hib_journal.specs.Coherence.{remove}
use Rattle.hib_law.specs.Locks.{holder_count}
use Rattle.hib_law.specs.Seen.{IsGuarded}
use Rattle.hib_journal.proofs.Slots.{touched}
use Rattle.hib_law.proofs.Guarded.{In, IsSingle}

-- what is known of one key at one node, and of the node's sessions
pub record View : Type 1 where
  pub slot : Slot
  -- how many commits on the key the node knows: those of its own sessions, and those that it has fenced
  pub known : ℕ
  -- the committed row after so many commits on the key
  pub was : ℕ → Row → Type 0
  -- after how many commits the row that was stored last was the committed one
  pub since : ℕ
  -- the sessions that locked the key and have not given the lock back, and the locks of fences
  pub holders : List ℕ
  pub fences : ℕ
  pub active : ℕ → Bool
  pub time : ℕ → ℕ
  -- since its last Begin a session has seen this row, which was the committed one after so many commits, no fewer than the
  -- node knew then
  pub seen : ℕ → Row → ℕ → Type 0
  -- a session has committed, since its last Begin; the row that its last change leaves; how many commits there were with it
  pub done : ℕ → Bool
  pub last : ℕ → Option Row
  pub own : ℕ → ℕ

-- a row was committed after so many commits, and no fewer than are known
abbrev pub IsRecent : (ℕ → Row → Type 0) → ℕ → ℕ → Row → Type 0
IsRecent was known m r = was m r × (known ≤ m)

abbrev pub IsItemOf : Slot → (ℕ → Row → Type 0) → ℕ → ℕ → Type 0
IsItemOf (Slot.Item r t) was known since = IsRecent was known since r
IsItemOf _ was known since = Unit {0}

-- a version is that of a recent row, if one is named
abbrev pub IsVersion : (ℕ → Row → Type 0) → ℕ → Option ℕ → Type 0
IsVersion was known version = (v : ℕ) → version ≡ Some v → (b : Row) × (m : ℕ) × (b.version ≡ Some v) × was m b × (known ≤ m)

-- a lock that is not shared names the version of a row that is at most one commit behind what is known
abbrev pub IsNamed : Slot → (ℕ → Row → Type 0) → ℕ → Type 0
IsNamed (Slot.Lock l) was known = l.shared ≡ false → (v : ℕ) → l.version ≡ Some v → (b : Row) × (m : ℕ) × (b.version ≡ Some v) × was m b × (known ≤ suc m)
IsNamed _ was known = Unit {0}

-- what the one holder of a lock knows: before its commit the version that the lock names is recent, afterwards the row that its
-- last change left
pub record IsAlone (was : ℕ → Row → Type 0) (known : ℕ) (version : Option ℕ) (done : Bool) (last : Option Row) (own : ℕ) : Type 0 where
  pub before : done ≡ false → IsVersion was known version
  pub after : done ≡ true → (r : Row) → last ≡ Some r → IsRecent was known own r

abbrev pub IsLone : View → Slot → Type 0
IsLone x (Slot.Lock l) = l.shared ≡ false → (s : ℕ) → In s x.holders → IsAlone x.was x.known l.version (x.done s) (x.last s) (x.own s)
IsLone x _ = Unit {0}

-- what always holds of a slot
pub record IsHolding (x : View) (slot : Slot) : Type 0 where
  pub item : IsItemOf slot x.was x.known x.since
  pub count : length x.holders + x.fences ≡ holder_count slot
  pub single : IsSingle slot
  pub named : IsNamed slot x.was x.known
  pub lone : IsLone x slot

-- versions do not fall
abbrev pub IsGrowing : (ℕ → Row → Type 0) → Type 0
IsGrowing was = (m n : ℕ) (b d : Row) → was m b → was n d → m ≤ n → is_below d.version b.version ≡ false

-- what always holds of a sound key
pub record IsCoherent (x : View) : Type 0 where
  pub holding : IsHolding x x.slot
  pub growing : IsGrowing x.was
  pub past : (s : ℕ) (b : Row) (m : ℕ) → x.active s ≡ true → x.seen s b m → x.was m b
  -- what an open session has seen is recent, or the slot is guarded against it
  pub safe : (s : ℕ) (b : Row) (m : ℕ) → x.active s ≡ true → x.seen s b m → (x.known ≤ m) ⊎ IsGuarded (x.time s) x.slot

-- how the sessions go on from x to y by an entry at now
pub record Follows (now : ℕ) (x y : View) : Type 0 where
  pub seen : (s : ℕ) (b : Row) (m : ℕ) → y.active s ≡ true → y.seen s b m →
      IsRecent y.was y.known m b ⊎ ((x.active s ≡ true) × x.seen s b m × (y.time s ≡ x.time s))
  pub later : (s : ℕ) (b : Row) (m : ℕ) → x.active s ≡ true → x.seen s b m → x.time s < now
  pub was : (m : ℕ) (b : Row) → x.was m b → y.was m b
  pub growing : IsGrowing y.was

-- no holder commits or begins
pub record IsQuiet (x y : View) : Type 0 where
  pub done : (s : ℕ) → In s x.holders → y.done s ≡ x.done s
  pub last : (s : ℕ) → In s x.holders → x.done s ≡ true → y.last s ≡ x.last s
  pub own : (s : ℕ) → In s x.holders → x.done s ≡ true → y.own s ≡ x.own s

-- what an entry that tells the node of no commit does to the key. A commit at the other node is one that rests
pub data Move (timeout now : ℕ) (x y : View) : Type 0 where
  -- nothing
  Rests : y.slot ≡ x.slot → y.holders ≡ x.holders → y.fences ≡ x.fences → y.since ≡ x.since → Move timeout now x y
  -- an open session puts a row that it has seen
  Puts : (s : ℕ) (r : Row) (m : ℕ) (room : Option (Option ℕ)) (v : Option ℕ) → y.slot ≡ Slot.Item r now → y.since ≡ m →
      y.holders ≡ x.holders → y.fences ≡ x.fences → x.active s ≡ true → x.seen s r m →
      put x.slot room (x.time s) r.version ≡ Put.Stored v false → Move timeout now x y
  -- an open session stores a row that it has seen, on a vacant key
  Inserts : (s : ℕ) (r : Row) (m : ℕ) → y.slot ≡ Slot.Item r now → y.since ≡ m → y.holders ≡ x.holders → y.fences ≡ x.fences →
      x.active s ≡ true → x.seen s r m → x.slot ≡ Slot.Vacant → Move timeout now x y
  -- the only holder stores the row that it has committed
  Updates : (s : ℕ) (r : Row) (l : LockState) → y.slot ≡ Slot.Item r now → y.since ≡ x.own s → y.holders ≡ remove s x.holders →
      y.fences ≡ x.fences → x.slot ≡ Slot.Lock l → l.shared ≡ false → In s x.holders → x.done s ≡ true → x.last s ≡ Some r → Move timeout now x y
  -- a session that has not committed locks, and names the version of a row that it has seen, or none
  Locks : (s : ℕ) (v : Option ℕ) → y.slot ≡ touched timeout (Touch.Locks v) now x.slot → y.holders ≡ s ∷ x.holders → y.fences ≡ x.fences →
      x.active s ≡ true → y.done s ≡ false → (v ≡ None) ⊎ ((b : Row) × (m : ℕ) × x.seen s b m × (b.version ≡ v)) → Move timeout now x y
  -- a holder gives its lock back
  Releases : (s n : ℕ) → y.slot ≡ touched timeout (Touch.Releases n) now x.slot → y.holders ≡ remove s x.holders → y.fences ≡ x.fences →
      holder_count x.slot ≡ suc n → In s x.holders → Move timeout now x y
  -- a fence gives its lock back
  Unfences : (n : ℕ) → y.slot ≡ touched timeout (Touch.Releases n) now x.slot → y.holders ≡ x.holders → suc y.fences ≡ x.fences →
      holder_count x.slot ≡ suc n → Move timeout now x y
  -- the key leaves under a floor that is no later than the time of each open session
  Leaves : (floor : ℕ) → y.slot ≡ Slot.Vacant → y.holders ≡ x.holders → y.fences ≡ x.fences → may_leave floor x.slot ≡ true →
      ((s : ℕ) → x.active s ≡ true → floor ≤ x.time s) → Move timeout now x y

-- the lock of a fence, by which the node knows one commit more
pub record IsFence (timeout now : ℕ) (x y : View) : Type 0 where
  pub slot : y.slot ≡ touched timeout (Touch.Locks None) now x.slot
  pub holders : y.holders ≡ x.holders
  pub fences : y.fences ≡ suc x.fences
  pub known : y.known ≡ suc x.known

-- what a commit at the node does to the key
pub data Commits (s : ℕ) (x y : View) : Type 0 where
  -- nothing, for it has no change on the key
  Passes : y.known ≡ x.known → y.last s ≡ None → Commits s x y
  -- its first change inserts the key, which never had a row
  Adds : ((m : ℕ) (b : Row) → x.was m b → ⊥) → Commits s x y
  -- its first change is of a row that is there, and it is a holder
  Changes : In s x.holders → y.known ≡ suc x.known → Commits s x y

pub record IsCommit (s : ℕ) (x y : View) : Type 0 where
  pub slot : y.slot ≡ x.slot
  pub holders : y.holders ≡ x.holders
  pub fences : y.fences ≡ x.fences
  pub since : y.since ≡ x.since
  pub not_yet : x.done s ≡ false
  pub now : y.done s ≡ true
  pub left : (r : Row) → y.last s ≡ Some r → IsRecent y.was y.known (y.own s) r
  pub done : (t : ℕ) → (t ≡ s → ⊥) → y.done t ≡ x.done t
  pub last : (t : ℕ) → In t x.holders → (t ≡ s → ⊥) → x.done t ≡ true → y.last t ≡ x.last t
  pub own : (t : ℕ) → In t x.holders → (t ≡ s → ⊥) → x.done t ≡ true → y.own t ≡ x.own t
  pub row : Commits s x y
