-- What always holds of one key of a read-write region and of the sessions, and how each kind of entry keeps a seen row safe. It speaks of no journal.
use Rattle.std.proofs.Common.{◌≡◌, ℕ, zero, suc, ◌<◌, ◌≤◌, ◌⊎◌, inl, inr, Bool, true, false, cond, not, ◌||◌, ◌==◌, ltb, leb, List, [], ◌∷◌, length, Some, None, Option, refl, ap, sym, ◌∙◌, arith}
use Rattle.std.specs.List.{list_any}
use Rattle.std.proofs.lemmas.Bool.{eqb-false, eqb-true, or_parts, and_parts, ltb-true, leb-false, true≢false, false≢true}
use Rattle.hib_base.proofs.Tables.{Tested, tested}
use Rattle.hib_journal.specs.Types.{Row, Put}
use Rattle.hib_journal.specs.Slot.{Touch, LockState, Slot, is_positive}
use Rattle.hib_journal.specs.Room.{may_leave}
use Rattle.hib_journal.specs.Regions.{is_below, free_answer, put}
use Rattle.hib_journal.specs.Coherence.{remove}
use Rattle.hib_law.specs.Locks.{holder_count}
use Rattle.hib_law.specs.Seen.{IsGuarded, IsNotBelow}
use Rattle.hib_law.specs.Lone.{IsAlone}
use Rattle.hib_journal.proofs.Slots.{touched, freed}

-- a row that a session of this time has seen: it is committed still, or a put of it will be refused
abbrev pub IsSafe : ℕ → Row → Slot → Option Row → Type 0
IsSafe t b slot row = (row ≡ Some b) ⊎ (IsGuarded t slot × IsNotBelow b.version slot)

-- lists of sessions

abbrev pub In : ℕ → List ℕ → Type 0
In s [] = ⊥
In s (x ∷ xs) = (x ≡ s) ⊎ In s xs

-- the other way to say that a session is listed
pub listed_in : (s : ℕ) (xs : List ℕ) → list_any (λ t. t == s) xs ≡ true → In s xs
listed_in s [] p = absurd (false≢true p)
listed_in s (x ∷ xs) p = by_test (tested (x == s)) p (listed_in s xs)
  where
    by_test : Tested (x == s) → list_any (λ t. t == s) (x ∷ xs) ≡ true → (list_any (λ t. t == s) xs ≡ true → In s xs) → In s (x ∷ xs)
    by_test (inl q) p f = inl (eqb-true x s q)
    by_test (inr q) p f = inr (f (rw q at p))

-- a row that was committed once: the committed one is not below it, or the key was deleted
pub record IsGrown (b : Row) (row : Option Row) (deleted : Bool) : Type 0 where
  pub newer : (r : Row) → row ≡ Some r → is_below r.version b.version ≡ false
  pub gone : row ≡ None → deleted ≡ true

-- an item is the committed row
abbrev pub IsRowOf : Slot → Option Row → Type 0
IsRowOf Slot.Vacant row = Unit {0}
IsRowOf (Slot.Item r t) row = row ≡ Some r
IsRowOf (Slot.Lock l) row = Unit {0}

-- a lock that is not shared has one holder at most
abbrev pub IsSingle : Slot → Type 0
IsSingle Slot.Vacant = Unit {0}
IsSingle (Slot.Item r t) = Unit {0}
IsSingle (Slot.Lock l) = l.shared ≡ false → l.holders ≤ 1

abbrev pub IsLone : Slot → Option Row → List ℕ → (ℕ → Bool) → (ℕ → Option Row) → Type 0
IsLone Slot.Vacant row holders done last = Unit {0}
IsLone (Slot.Item r t) row holders done last = Unit {0}
IsLone (Slot.Lock l) row holders done last =
    l.shared ≡ false → (s : ℕ) → In s holders → IsAlone l.version row (done s) (last s)

-- what always holds of a slot, the committed row and the holders: sessions, which of them have committed, and the rows
-- that their last changes leave
pub record IsHolding (slot : Slot) (row : Option Row) (holders : List ℕ) (done : ℕ → Bool) (last : ℕ → Option Row) : Type 0 where
  pub item : IsRowOf slot row
  pub count : length holders ≡ holder_count slot
  pub single : IsSingle slot
  pub lone : IsLone slot row holders done last

-- what is known of one key and of the sessions at an entry
pub record View : Type 1 where
  pub slot : Slot
  -- the committed row
  pub row : Option Row
  -- the sessions that locked the key and have not given the lock back
  pub holders : List ℕ
  -- a commit since the restart deleted the key
  pub deleted : Bool
  pub active : ℕ → Bool
  pub time : ℕ → ℕ
  -- a session has seen this row as committed, since its last Begin
  pub seen : ℕ → Row → Type 0
  -- a session has committed, since its last Begin
  pub done : ℕ → Bool
  -- the row that a session's last change on the key leaves
  pub last : ℕ → Option Row

-- what always holds of a sound key
pub record IsCoherent (x : View) : Type 0 where
  pub holding : IsHolding x.slot x.row x.holders x.done x.last
  -- what an open session has seen is safe
  pub grown : (s : ℕ) (b : Row) → x.active s ≡ true → x.seen s b → IsGrown b x.row x.deleted
  pub safe : (s : ℕ) (b : Row) → x.active s ≡ true → x.seen s b → IsSafe (x.time s) b x.slot x.row

-- how the sessions go on from x to y by an entry at now
pub record Follows (now : ℕ) (x y : View) : Type 0 where
  pub known : (s : ℕ) (b : Row) → y.active s ≡ true → y.seen s b →
      (y.row ≡ Some b) ⊎ ((x.active s ≡ true) × x.seen s b × (y.time s ≡ x.time s))
  pub later : (s : ℕ) (b : Row) → x.active s ≡ true → x.seen s b → x.time s < now
  pub deleted : x.deleted ≡ true → y.deleted ≡ true

-- an entry that commits nothing
pub record IsQuiet (x y : View) : Type 0 where
  pub row : y.row ≡ x.row
  pub done : (s : ℕ) → In s x.holders → y.done s ≡ x.done s
  pub last : (s : ℕ) → In s x.holders → x.done s ≡ true → y.last s ≡ x.last s

-- what such an entry does to the key
pub data Move (timeout now : ℕ) (x y : View) : Type 0 where
  -- nothing
  Rests : y.slot ≡ x.slot → y.holders ≡ x.holders → Move timeout now x y
  -- an open session puts a row that it has seen
  Puts : (s : ℕ) (r : Row) (room : Option (Option ℕ)) (v : Option ℕ) → y.slot ≡ Slot.Item r now → y.holders ≡ x.holders →
      x.active s ≡ true → x.seen s r → put x.slot room (x.time s) r.version ≡ Put.Stored v false → Move timeout now x y
  -- an open session stores a row that it has seen, on a vacant key
  Inserts : (s : ℕ) (r : Row) → y.slot ≡ Slot.Item r now → y.holders ≡ x.holders → x.active s ≡ true → x.seen s r →
      x.slot ≡ Slot.Vacant → Move timeout now x y
  -- the only holder stores the row that it has committed
  Updates : (s : ℕ) (r : Row) (l : LockState) → y.slot ≡ Slot.Item r now → y.holders ≡ remove s x.holders →
      x.slot ≡ Slot.Lock l → l.shared ≡ false → In s x.holders → x.done s ≡ true → x.last s ≡ Some r → Move timeout now x y
  -- a session that has not committed locks, and names the version of a row that it has seen, or none
  Locks : (s : ℕ) (v : Option ℕ) → y.slot ≡ touched timeout (Touch.Locks v) now x.slot → y.holders ≡ s ∷ x.holders →
      x.active s ≡ true → y.done s ≡ false → (v ≡ None) ⊎ ((b : Row) × x.seen s b × (b.version ≡ v)) → Move timeout now x y
  -- a holder gives its lock back
  Releases : (s n : ℕ) → y.slot ≡ touched timeout (Touch.Releases n) now x.slot → y.holders ≡ remove s x.holders →
      holder_count x.slot ≡ suc n → In s x.holders → Move timeout now x y
  -- the key is evicted, which is no held lock
  Evicts : y.slot ≡ touched timeout Touch.Evicts now x.slot → y.holders ≡ x.holders → holder_count x.slot ≡ 0 → Move timeout now x y
  -- the key leaves under a floor that is no later than the time of each open session
  Leaves : (floor : ℕ) → y.slot ≡ Slot.Vacant → y.holders ≡ x.holders → may_leave floor x.slot ≡ true →
      ((s : ℕ) → x.active s ≡ true → floor ≤ x.time s) → Move timeout now x y

-- what a commit by s does to the row
pub data Commits (s : ℕ) (x y : View) : Type 0 where
  -- nothing, for it has no change on the key
  Passes : y.row ≡ x.row → y.last s ≡ None → Commits s x y
  -- its first change inserts the key, which has no row and was not deleted since the restart
  Adds : x.row ≡ None → x.deleted ≡ false → y.row ≡ y.last s → Commits s x y
  -- its first change is of the row that is there, and it is a holder. Versions do not fall
  Changes : (r : Row) → x.row ≡ Some r → In s x.holders → y.row ≡ y.last s →
      ((d : Row) → y.row ≡ Some d → (w : Option ℕ) → is_below r.version w ≡ false → is_below d.version w ≡ false) →
      (y.row ≡ None → y.deleted ≡ true) → Commits s x y

pub record IsCommit (s : ℕ) (x y : View) : Type 0 where
  pub slot : y.slot ≡ x.slot
  pub holders : y.holders ≡ x.holders
  pub not_yet : x.done s ≡ false
  pub now : y.done s ≡ true
  pub done : (t : ℕ) → (t ≡ s → ⊥) → y.done t ≡ x.done t
  pub last : (t : ℕ) → In t x.holders → (t ≡ s → ⊥) → x.done t ≡ true → y.last t ≡ x.last t
  pub row : Commits s x y

-- lemmas on plain values

in_cond : (b : Bool) (t x : ℕ) (xs ys : List ℕ) → (In t ys → In t xs) → In t (cond b xs (x ∷ ys)) → In t (x ∷ xs)
in_cond true t x xs ys f h = inr h
in_cond false t x xs ys f (inl e) = inl e
in_cond false t x xs ys f (inr h) = inr (f h)

pub in_remove : (s t : ℕ) (xs : List ℕ) → In t (remove s xs) → In t xs
in_remove s t [] h = h
in_remove s t (x ∷ xs) h = in_cond (x == s) t x xs (remove s xs) (in_remove s t xs) h

length_cond : (b : Bool) (x : ℕ) (xs ys : List ℕ) → (b ≡ false → suc (length ys) ≡ length xs) → suc (length (cond b xs (x ∷ ys))) ≡ suc (length xs)
length_cond true x xs ys f = refl
length_cond false x xs ys f = ap suc (f refl)

elsewhere : (s x : ℕ) (xs : List ℕ) → (x == s) ≡ false → In s (x ∷ xs) → In s xs
elsewhere s x xs e (inl p) = absurd (eqb-false x s e p)
elsewhere s x xs e (inr h) = h

pub length_remove : (s : ℕ) (xs : List ℕ) → In s xs → suc (length (remove s xs)) ≡ length xs
length_remove s [] h = absurd h
length_remove s (x ∷ xs) h = length_cond (x == s) x xs (remove s xs) (λ e. length_remove s xs (elsewhere s x xs e h))

pub in_none : (s : ℕ) (xs : List ℕ) → length xs ≡ 0 → In s xs → ⊥
in_none s [] e h = h
in_none s (x ∷ xs) e h = absurd (omega arith)

pub in_one : (s t : ℕ) (xs : List ℕ) → length xs ≤ 1 → In s xs → In t xs → s ≡ t
in_one s t [] e h k = absurd h
in_one s t (x ∷ []) e (inl p) (inl q) = sym p ∙ q
in_one s t (x ∷ []) e (inl p) (inr q) = absurd q
in_one s t (x ∷ []) e (inr p) k = absurd p
in_one s t (x ∷ (y ∷ xs)) e h k = absurd (omega arith)

-- how each kind of entry keeps a seen row safe

-- a row is stored: it is the committed one
pub safe_store : (t now : ℕ) (b r : Row) (row : Option Row) (deleted : Bool) → row ≡ Some r → IsGrown b row deleted → t < now →
    IsSafe t b (Slot.Item r now) row
safe_store t now b r row deleted e g l = inr (l, g.newer r e)

-- a lock is taken
pub safe_lock : (timeout t now : ℕ) (b : Row) (v : Option ℕ) (slot : Slot) (row : Option Row) (deleted : Bool) →
    ((r : Row) (u : ℕ) → slot ≡ Slot.Item r u → row ≡ Some r) → (slot ≡ Slot.Vacant → is_below v b.version ≡ false) →
    IsGrown b row deleted → IsSafe t b (touched timeout (Touch.Locks v) now slot) row
safe_lock timeout t now b v Slot.Vacant row deleted item named g = inr (inl (omega arith), λ x. named refl)
safe_lock timeout t now b v (Slot.Item r u) row deleted item named g = inr (inl (omega arith), λ x. g.newer r (item r u refl))
safe_lock timeout t now b v (Slot.Lock l) row deleted item named g = inr (inl (omega arith), λ x. absurd (true≢false x))

-- a lock is given back
pub guarded_release : (t now n unlock : ℕ) → t < now → (0 < n) ⊎ (t < freed n now unlock)
guarded_release t now zero unlock l = inr l
guarded_release t now (suc n) unlock l = inl (omega arith)

pub safe_release : (timeout t now n : ℕ) (b : Row) (slot : Slot) (row : Option Row) → t < now →
    IsSafe t b slot row → IsSafe t b (touched timeout (Touch.Releases n) now slot) row
safe_release timeout t now n b slot row l (inl e) = inl e
safe_release timeout t now n b Slot.Vacant row l (inr h) = inr h
safe_release timeout t now n b (Slot.Item r u) row l (inr h) = inr h
safe_release timeout t now n b (Slot.Lock k) row l (inr h) = inr (guarded_release t now n k.unlock l, h.1)

-- a key is evicted
pub below_none : (w : Option ℕ) → is_below None w ≡ false
below_none None = refl
below_none (Some n) = refl

pub safe_evict : (timeout t now : ℕ) (b : Row) (slot : Slot) (row : Option Row) → t < now →
    IsSafe t b slot row → IsSafe t b (touched timeout Touch.Evicts now slot) row
safe_evict timeout t now b slot row l (inl e) = inl e
safe_evict timeout t now b slot row l (inr h) = inr (inr l, λ x. below_none b.version)

-- a key leaves for another one, under a floor that is no later than the session's time
not_positive : (n : ℕ) → not (is_positive n) ≡ true → n ≡ 0
not_positive zero e = refl
not_positive (suc n) e = absurd (false≢true e)

pub positive_false : (n : ℕ) → is_positive n ≡ false → n ≡ 0
positive_false zero e = refl
positive_false (suc n) e = absurd (true≢false e)

pub guarded_leaves : (t floor : ℕ) (slot : Slot) → floor ≤ t → may_leave floor slot ≡ true → IsGuarded t slot → ⊥
guarded_leaves t floor Slot.Vacant l m h = h
guarded_leaves t floor (Slot.Item r u) l m h = omega (arith, ltb-true u floor m)
guarded_leaves t floor (Slot.Lock k) l m h =
    let p : (not (is_positive k.holders) ≡ true) × (ltb k.unlock floor ≡ true) = and_parts (not (is_positive k.holders)) (ltb k.unlock floor) m in
    let z : k.holders ≡ 0 = not_positive k.holders p.0 in
    elim h [ inl a ↦ omega arith | inr a ↦ omega (arith, ltb-true k.unlock floor p.1) ]

pub safe_leave : (t floor : ℕ) (b : Row) (slot : Slot) (row : Option Row) → floor ≤ t → may_leave floor slot ≡ true →
    IsSafe t b slot row → IsSafe t b Slot.Vacant row
safe_leave t floor b slot row l m (inl e) = inl e
safe_leave t floor b slot row l m (inr h) = absurd (guarded_leaves t floor slot l m h.0)

-- a put that is stored and not late is of the committed row

pub put_over_item : (x : Bool) (v e : Option ℕ) → cond x (Put.Stored None false) (Put.Present v) ≡ Put.Stored e false → x ≡ true
put_over_item true v e h = refl
put_over_item false v e h = absurd (cc)

pub put_if : (x : Bool) (u : ℕ) (e : Option ℕ) → cond x (Put.Stored None false) (Put.Early u) ≡ Put.Stored e false → x ≡ true
put_if true u e h = refl
put_if false u e h = absurd (cc)

pub put_old : (x : Bool) (u : ℕ) (e : Option ℕ) → cond x (Put.Stored None false) (Put.Old u) ≡ Put.Stored e false → x ≡ true
put_old true u e h = refl
put_old false u e h = absurd (cc)

pub put_late : (p q : Bool) (e : Option ℕ) → Put.Stored None (p || q) ≡ Put.Stored e false → (p || q) ≡ false
put_late p q e h = cc

pub put_over_lock : (a p q : Bool) (n : ℕ) (f : Put) (e : Option ℕ) →
    cond a (Put.Stored None (p || q)) (cond p (Put.Held n) f) ≡ Put.Stored e false → (p ≡ false) × ((q ≡ false) ⊎ (f ≡ Put.Stored e false))
put_over_lock true p q n f e h = let g : (p ≡ false) × (q ≡ false) = or_parts p q (put_late p q e h) in (g.0, inl g.1)
put_over_lock false true q n f e h = absurd (cc)
put_over_lock false false q n f e h = (refl, inr h)

put_free : (l : LockState) (v : Option ℕ) (x : Bool) (t : ℕ) (w e : Option ℕ) → t < l.unlock → (x ≡ false → is_below v w ≡ false) →
    free_answer l v x t w ≡ Put.Stored e false → ⊥
put_free l (Some v) false t w e u nb h = true≢false (sym (put_old (is_below (Some v) w) v e h) ∙ nb refl)
put_free l (Some v) true t w e u nb h = omega (arith, ltb-true l.unlock t (put_if (ltb l.unlock t) l.unlock e h))
put_free l None x t w e u nb h = omega (arith, ltb-true l.unlock t (put_if (ltb l.unlock t) l.unlock e h))

put_guarded : (slot : Slot) (room : Option (Option ℕ)) (t : ℕ) (w v : Option ℕ) → IsGuarded t slot → IsNotBelow w slot →
    put slot room t w ≡ Put.Stored v false → ⊥
put_guarded Slot.Vacant room t w v g nb h = g
put_guarded (Slot.Item r u) room t w v g nb h = true≢false (sym (put_over_item (is_below r.version w) r.version v h) ∙ nb)
put_guarded (Slot.Lock l) room t w v g nb h =
    let k : (is_positive l.holders ≡ false) × ((leb t l.unlock ≡ false) ⊎ (free_answer l l.version l.shared t w ≡ Put.Stored v false)) =
    put_over_lock (ltb l.timeout t) (is_positive l.holders) (leb t l.unlock) l.holders (free_answer l l.version l.shared t w) v h in
    let z : l.holders ≡ 0 = positive_false l.holders k.0 in
    let u : t < l.unlock = elim g [ inl a ↦ absurd (omega arith) | inr a ↦ a ] in
    elim k.1 [ inl a ↦ omega (arith, leb-false t l.unlock a) | inr a ↦ put_free l l.version l.shared t w v u nb a ]

pub put_committed : (slot : Slot) (room : Option (Option ℕ)) (t : ℕ) (b : Row) (row : Option Row) (v : Option ℕ) → IsSafe t b slot row →
    put slot room t b.version ≡ Put.Stored v false → row ≡ Some b
put_committed slot room t b row v (inl e) h = e
put_committed slot room t b row v (inr g) h = absurd (put_guarded slot room t b.version v g.0 g.1 h)

-- a put that is stored and not late meets no holder
pub put_no_holder : (slot : Slot) (room : Option (Option ℕ)) (t : ℕ) (w v : Option ℕ) → put slot room t w ≡ Put.Stored v false → holder_count slot ≡ 0
put_no_holder Slot.Vacant room t w v h = refl
put_no_holder (Slot.Item r u) room t w v h = refl
put_no_holder (Slot.Lock l) room t w v h =
    positive_false l.holders (put_over_lock (ltb l.timeout t) (is_positive l.holders) (leb t l.unlock) l.holders (free_answer l l.version l.shared t w) v h).0

pub leave_no_holder : (floor : ℕ) (slot : Slot) → may_leave floor slot ≡ true → holder_count slot ≡ 0
leave_no_holder floor Slot.Vacant h = refl
leave_no_holder floor (Slot.Item r u) h = refl
leave_no_holder floor (Slot.Lock l) h = not_positive l.holders (and_parts (not (is_positive l.holders)) (ltb l.unlock floor) h).0
