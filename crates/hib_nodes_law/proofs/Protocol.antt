-- The protocol of one key at one node: each kind of entry keeps what always holds.
use Rattle.std.proofs.Common.{◌≡◌, ℕ, suc, ◌+◌, ◌<◌, ◌≤◌, ◌⊎◌, inl, inr, Bool, true, false, ltb, leb, List, ◌∷◌, length, Some, None, Option, refl, ap, sym, ◌∙◌, subst, arith}
use Rattle.std.proofs.lemmas.Bool.{true≢false, false≢true, leb-false, leb-true, ltb-true}
use Rattle.hib_journal.specs.Types.{Row, Put}
use Rattle.hib_journal.specs.Slot.{Touch, LockState, Slot, is_positive}
use Rattle.hib_journal.specs.Room.{may_leave}
use Rattle.hib_journal.specs.Regions.{is_below, free_answer, put}
use Rattle.hib_journal.specs.Coherence.{remove}
use Rattle.hib_law.specs.Locks.{holder_count}
use Rattle.hib_law.specs.Seen.{IsGuarded}
use Rattle.hib_journal.proofs.Slots.{touched}
use Rattle.hib_law.proofs.Basics.{none_some}
use Rattle.hib_law.proofs.Guarded.{In, in_remove, length_remove, in_none, in_one, positive_false, put_over_item, put_if, put_old, put_over_lock, put_no_holder, leave_no_holder, guarded_release, guarded_leaves}
use Rattle.hib_nodes_law.proofs.Sight.{View, IsRecent, IsItemOf, IsVersion, IsNamed, IsAlone, IsLone, IsHolding, IsGrowing, IsCoherent, Follows, IsQuiet, Move, IsFence, Commits, IsCommit}

-- what a put that is stored and not late has met

abbrev pub IsTaken : Slot → ℕ → Option ℕ → Type 0
IsTaken Slot.Vacant t w = Unit {0}
IsTaken (Slot.Item r u) t w = is_below r.version w ≡ true
IsTaken (Slot.Lock l) t w = (l.holders ≡ 0) × ((l.unlock < t) ⊎ ((l.shared ≡ false) × (is_below l.version w ≡ true)))

free_taken : (l : LockState) (v : Option ℕ) (x : Bool) (t : ℕ) (w e : Option ℕ) → free_answer l v x t w ≡ Put.Stored e false →
    (l.unlock < t) ⊎ ((x ≡ false) × (is_below v w ≡ true))
free_taken l (Some v) false t w e h = inr (refl, put_old (is_below (Some v) w) v e h)
free_taken l (Some v) true t w e h = inl (ltb-true l.unlock t (put_if (ltb l.unlock t) l.unlock e h))
free_taken l None x t w e h = inl (ltb-true l.unlock t (put_if (ltb l.unlock t) l.unlock e h))

put_taken : (slot : Slot) (room : Option (Option ℕ)) (t : ℕ) (w v : Option ℕ) → put slot room t w ≡ Put.Stored v false → IsTaken slot t w
put_taken Slot.Vacant room t w v h = tt
put_taken (Slot.Item r u) room t w v h = put_over_item (is_below r.version w) r.version v h
put_taken (Slot.Lock l) room t w v h =
    let k : (is_positive l.holders ≡ false) × ((leb t l.unlock ≡ false) ⊎ (free_answer l l.version l.shared t w ≡ Put.Stored v false)) =
    put_over_lock (ltb l.timeout t) (is_positive l.holders) (leb t l.unlock) l.holders (free_answer l l.version l.shared t w) v h in
    (positive_false l.holders k.0, elim k.1 [ inl a ↦ inl (omega (arith, leb-false t l.unlock a)) | inr a ↦ free_taken l l.version l.shared t w v a ])

below_some : (v w : Option ℕ) → is_below v w ≡ true → (n : ℕ) × (v ≡ Some n)
below_some None w e = absurd (false≢true e)
below_some (Some n) w e = (n, refl)

le_or_lt : (m n : ℕ) → (m ≤ n) ⊎ (n < m)
le_or_lt m n = by_test (leb m n) refl
  where
    by_test : (b : Bool) → leb m n ≡ b → (m ≤ n) ⊎ (n < m)
    by_test true e = inl (leb-true m n e)
    by_test false e = inr (leb-false m n e)

-- a newer row is of a later commit
newer_later : (was : ℕ → Row → Type 0) → IsGrowing was → (m n : ℕ) (b d : Row) (v : Option ℕ) → was m b → was n d → d.version ≡ v →
    is_below v b.version ≡ true → n < m
newer_later was g m n b d v p q e l = elim (le_or_lt m n) [
  | inl o ↦ absurd (true≢false (sym l ∙ subst (λ z. is_below z b.version ≡ false) e (g m n b d p q o)))
  | inr o ↦ o
]

-- so a row that is put is recent
put_recent : (x : View) (slot : Slot) (t m : ℕ) (r : Row) → IsHolding x slot → IsGrowing x.was → x.was m r → IsTaken slot t r.version →
    (x.known ≤ m) ⊎ IsGuarded t slot → x.known ≤ m
put_recent x slot t m r h g w k (inl o) = o
put_recent x Slot.Vacant t m r h g w k (inr o) = absurd o
put_recent x (Slot.Item b u) t m r h g w k (inr o) =
    let a : x.since < m = newer_later x.was g m x.since r b b.version w h.item.0 refl k in
    let c : x.known ≤ x.since = h.item.1 in
    omega arith
put_recent x (Slot.Lock l) t m r h g w k (inr o) = elim k.1 [
  | inl a ↦ absurd (elim o [ inl p ↦ omega (arith, k.0) | inr p ↦ omega arith ])
  | inr a ↦
      let v : (n : ℕ) × (l.version ≡ Some n) = below_some l.version r.version a.1 in
      let d : (b : Row) × (m : ℕ) × (b.version ≡ Some v.0) × x.was m b × (x.known ≤ suc m) = h.named a.0 v.0 v.1 in
      let c : d.1 < m = newer_later x.was g m d.1 r d.0 l.version w d.3 (d.2 ∙ sym v.1) a.1 in
      let e : x.known ≤ suc d.1 = d.4 in
      omega arith
]

held_lock : (s : ℕ) (x : View) (slot : Slot) → In s x.holders → length x.holders + x.fences ≡ holder_count slot → 0 < holder_count slot
held_lock s x slot i c =
    let m : suc (length (remove s x.holders)) ≡ length x.holders = length_remove s x.holders i in
    omega arith

-- how each kind of entry keeps what holds of the slot

alone_same : (was was' : ℕ → Row → Type 0) (known known' : ℕ) (v : Option ℕ) (d d' : Bool) (l l' : Option Row) (o o' : ℕ) →
    ((m : ℕ) (b : Row) → was m b → was' m b) → known' ≡ known → d' ≡ d → (d ≡ true → l' ≡ l) → (d ≡ true → o' ≡ o) →
    IsAlone was known v d l o → IsAlone was' known' v d' l' o'
alone_same was was' known known' v d d' l l' o o' w k e f g h = record {
  before = λ x n p.
      let z : (b : Row) × (m : ℕ) × (b.version ≡ Some n) × was m b × (known ≤ m) = h.before (sym e ∙ x) n p in
      (z.0, z.1, z.2, w z.1 z.0 z.3, rw k z.4);
  after = λ x r p.
      let z : was o r × (known ≤ o) = h.after (sym e ∙ x) r (sym (f (sym e ∙ x)) ∙ p) in
      let q : o' ≡ o = g (sym e ∙ x) in
      (rw q (w o r z.0), rw (q, k) z.1);
}

item_same : (slot : Slot) (was was' : ℕ → Row → Type 0) (known known' since since' : ℕ) → ((m : ℕ) (b : Row) → was m b → was' m b) →
    known' ≡ known → since' ≡ since → IsItemOf slot was known since → IsItemOf slot was' known' since'
item_same Slot.Vacant was was' known known' since since' w k e h = tt
item_same (Slot.Item r t) was was' known known' since since' w k e h = (rw e (w since r h.0), rw (e, k) h.1)
item_same (Slot.Lock l) was was' known known' since since' w k e h = tt

named_same : (slot : Slot) (was was' : ℕ → Row → Type 0) (known known' : ℕ) → ((m : ℕ) (b : Row) → was m b → was' m b) →
    known' ≡ known → IsNamed slot was known → IsNamed slot was' known'
named_same Slot.Vacant was was' known known' w k h = tt
named_same (Slot.Item r t) was was' known known' w k h = tt
named_same (Slot.Lock l) was was' known known' w k h = λ x v p.
    let z : (b : Row) × (m : ℕ) × (b.version ≡ Some v) × was m b × (known ≤ suc m) = h x v p in
    (z.0, z.1, z.2, w z.1 z.0 z.3, rw k z.4)

-- a row that is stored while nobody holds the key
hold_store : (y : View) (r : Row) (now : ℕ) → IsRecent y.was y.known y.since r → length y.holders + y.fences ≡ 0 → IsHolding y (Slot.Item r now)
hold_store y r now e z = record { item = e; count = z; single = tt; named = tt; lone = tt }

version_none : (was : ℕ → Row → Type 0) (known : ℕ) → IsVersion was known None
version_none was known v p = none_some p

-- the lock that is placed on a key without holder
hold_first : (y : View) (l : LockState) → l.holders ≡ 1 → length y.holders + y.fences ≡ 1 → IsVersion y.was y.known l.version →
    ((s : ℕ) → In s y.holders → y.done s ≡ false) → IsHolding y (Slot.Lock l)
hold_first y l a c v f = record {
  item = tt;
  count = c ∙ sym a;
  single = λ x. omega (arith, a);
  named = λ x n p.
      let z : (b : Row) × (m : ℕ) × (b.version ≡ Some n) × y.was m b × (y.known ≤ m) = v n p in
      (z.0, z.1, z.2, z.3, omega (arith, z.4));
  lone = λ x s i. record { before = λ d. v; after = λ d. absurd (true≢false (sym d ∙ f s i)) };
}

-- a lock that is taken once more is shared
hold_shared : (y : View) (l : LockState) → l.shared ≡ true → length y.holders + y.fences ≡ l.holders → IsHolding y (Slot.Lock l)
hold_shared y l a c = record {
  item = tt;
  count = c;
  single = λ x. absurd (true≢false (sym a ∙ x));
  named = λ x. absurd (true≢false (sym a ∙ x));
  lone = λ x. absurd (true≢false (sym a ∙ x));
}

hold_vacant : (y : View) → length y.holders + y.fences ≡ 0 → IsHolding y Slot.Vacant
hold_vacant y c = record { item = tt; count = c; single = tt; named = tt; lone = tt }

module _ (timeout now : ℕ) (x y : View) (f : Follows now x y) (c : IsCoherent x) where
  -- what sessions have seen stays safe, if the move keeps it so
  seen_kept : ((s : ℕ) (b : Row) (m : ℕ) → x.active s ≡ true → x.seen s b m → x.time s < now → (x.known ≤ m) ⊎ IsGuarded (x.time s) x.slot →
      (y.known ≤ m) ⊎ IsGuarded (x.time s) y.slot) → IsHolding y y.slot → IsCoherent y
  seen_kept k h = record {
    holding = h;
    growing = f.growing;
    past = λ s b m a z. elim (f.seen s b m a z) [
      | inl e ↦ e.0
      | inr p ↦ f.was m b (c.past s b m p.0 p.1)
    ];
    safe = λ s b m a z. elim (f.seen s b m a z) [
      | inl e ↦ inl e.1
      | inr p ↦ rw p.2 (k s b m p.0 p.1 (f.later s b m p.0 p.1) (c.safe s b m p.0 p.1))
    ];
  }

  module _ (q : IsQuiet x y) (known_same : y.known ≡ x.known) where
    lone_same : (slot : Slot) → y.holders ≡ x.holders → IsLone x slot → IsLone y slot
    lone_same Slot.Vacant e h = tt
    lone_same (Slot.Item r t) e h = tt
    lone_same (Slot.Lock l) e h = λ sh s i.
        let j : In s x.holders = subst (λ z. In s z) e i in
        alone_same x.was y.was x.known y.known l.version (x.done s) (y.done s) (x.last s) (y.last s) (x.own s) (y.own s) f.was known_same
        (q.done s j) (q.last s j) (q.own s j) (h sh s j)

    kept_rests : y.slot ≡ x.slot → y.holders ≡ x.holders → y.fences ≡ x.fences → y.since ≡ x.since → IsCoherent y
    kept_rests e g u w = seen_kept
        (λ s b m a z l p. rw (e, known_same) p)
        (subst (λ z. IsHolding y z) (sym e) (record {
          item = item_same x.slot x.was y.was x.known y.known x.since y.since f.was known_same w c.holding.item;
          count = rw (g, u) c.holding.count;
          single = c.holding.single;
          named = named_same x.slot x.was y.was x.known y.known f.was known_same c.holding.named;
          lone = lone_same x.slot g c.holding.lone;
        }))

    guarded_item : (r : Row) (t : ℕ) → y.slot ≡ Slot.Item r now → t < now → IsGuarded t y.slot
    guarded_item r t e l = rw e l

    -- a stored row is recent
    kept_store : (r : Row) (m : ℕ) → y.slot ≡ Slot.Item r now → y.since ≡ m → x.was m r → x.known ≤ m → length y.holders + y.fences ≡ 0 → IsCoherent y
    kept_store r m e w p k z = seen_kept
        (λ s b n a i l o. inr (guarded_item r (x.time s) e l))
        (subst (λ s. IsHolding y s) (sym e) (hold_store y r now (rw w (f.was m r p), rw (w, known_same) k) z))

    kept_puts : (s : ℕ) (r : Row) (m : ℕ) (room : Option (Option ℕ)) (v : Option ℕ) → y.slot ≡ Slot.Item r now → y.since ≡ m →
        y.holders ≡ x.holders → y.fences ≡ x.fences → x.active s ≡ true → x.seen s r m →
        put x.slot room (x.time s) r.version ≡ Put.Stored v false → IsCoherent y
    kept_puts s r m room v e w g u a k p =
        let t : x.was m r = c.past s r m a k in
        kept_store r m e w t
        (put_recent x x.slot (x.time s) m r c.holding c.growing t (put_taken x.slot room (x.time s) r.version v p) (c.safe s r m a k))
        (rw (g, u) (c.holding.count ∙ put_no_holder x.slot room (x.time s) r.version v p))

    vacant_recent : (t m : ℕ) (slot : Slot) → slot ≡ Slot.Vacant → (x.known ≤ m) ⊎ IsGuarded t slot → x.known ≤ m
    vacant_recent t m slot e (inl p) = p
    vacant_recent t m slot e (inr p) = let g : IsGuarded t Slot.Vacant = rw e at p in absurd g

    kept_inserts : (s : ℕ) (r : Row) (m : ℕ) → y.slot ≡ Slot.Item r now → y.since ≡ m → y.holders ≡ x.holders → y.fences ≡ x.fences →
        x.active s ≡ true → x.seen s r m → x.slot ≡ Slot.Vacant → IsCoherent y
    kept_inserts s r m e w g u a k p =
        kept_store r m e w (c.past s r m a k) (vacant_recent (x.time s) m x.slot p (c.safe s r m a k))
        (rw (g, u) (c.holding.count ∙ ap holder_count p))

    kept_updates : (s : ℕ) (r : Row) (l : LockState) → y.slot ≡ Slot.Item r now → y.since ≡ x.own s → y.holders ≡ remove s x.holders →
        y.fences ≡ x.fences → x.slot ≡ Slot.Lock l → l.shared ≡ false → In s x.holders → x.done s ≡ true → x.last s ≡ Some r → IsCoherent y
    kept_updates s r l e w g u p sh i d k =
        let h : IsHolding x (Slot.Lock l) = subst (λ z. IsHolding x z) p c.holding in
        let z : x.was (x.own s) r × (x.known ≤ x.own s) = (h.lone sh s i).after d r k in
        let n : length x.holders + x.fences ≡ l.holders = h.count in
        let o : l.holders ≤ 1 = h.single sh in
        let m : suc (length (remove s x.holders)) ≡ length x.holders = length_remove s x.holders i in
        kept_store r (x.own s) e w z.0 z.1 (rw (g, u) (omega arith))

    -- the version that a new lock names is that of a recent row
    named_recent : (s : ℕ) (v : Option ℕ) → x.active s ≡ true → (v ≡ None) ⊎ ((b : Row) × (m : ℕ) × x.seen s b m × (b.version ≡ v)) →
        x.slot ≡ Slot.Vacant → IsVersion y.was y.known v
    named_recent s v a (inl n) p w e = none_some (sym n ∙ e)
    named_recent s v a (inr n) p w e = (
      n.0,
      n.1,
      n.3 ∙ e,
      f.was n.1 n.0 (c.past s n.0 n.1 a n.2),
      rw known_same (vacant_recent (x.time s) n.1 x.slot p (c.safe s n.0 n.1 a n.2)),
    )

  no_holders : (xs : List ℕ) (n : ℕ) → length xs + n ≡ 0 → length xs ≡ 0
  no_holders xs n e = omega arith

  -- what a lock leaves
  hold_lock : (s : ℕ) (v : Option ℕ) (slot : Slot) → y.known ≡ x.known → y.holders ≡ s ∷ x.holders → y.fences ≡ x.fences → y.done s ≡ false →
      (slot ≡ Slot.Vacant → IsVersion y.was y.known v) → IsHolding x slot → IsHolding y (touched timeout (Touch.Locks v) now slot)
  hold_lock s v slot k g u d n h = by_slot slot refl h
    where
      more : (m : ℕ) → length x.holders + x.fences ≡ m → length y.holders + y.fences ≡ suc m
      more m e = rw (g, u) (omega arith)

      only : length x.holders ≡ 0 → (t : ℕ) → In t y.holders → y.done t ≡ false
      only z t i = at_one (subst (λ w. In t w) g i)
        where
          at_one : In t (s ∷ x.holders) → y.done t ≡ false
          at_one (inl p) = subst (λ w. y.done w ≡ false) p d
          at_one (inr j) = absurd (in_none t x.holders z j)

      by_slot : (z : Slot) → slot ≡ z → IsHolding x z → IsHolding y (touched timeout (Touch.Locks v) now z)
      by_slot Slot.Vacant e h =
          let z : length x.holders ≡ 0 = no_holders x.holders x.fences h.count in
          hold_first y (record { id = now; version = v; timeout = now + timeout; holders = 1; shared = false; unlock = 0 }) refl
          (more 0 h.count) (n e) (only z)
      by_slot (Slot.Item r t) e h =
          let z : length x.holders ≡ 0 = no_holders x.holders x.fences h.count in
          hold_first y (record { id = now; version = r.version; timeout = now + timeout; holders = 1; shared = false; unlock = 0 }) refl
          (more 0 h.count) (λ w p. (r, x.since, p, f.was x.since r h.item.0, rw k h.item.1)) (only z)
      by_slot (Slot.Lock l) e h =
          hold_shared y (record { id = l.id; version = l.version; timeout = now + timeout; holders = suc l.holders; shared = true; unlock = l.unlock }) refl
          (more l.holders h.count)

  guarded_lock : (t : ℕ) (v : Option ℕ) (slot : Slot) → IsGuarded t (touched timeout (Touch.Locks v) now slot)
  guarded_lock t v Slot.Vacant = inl (omega arith)
  guarded_lock t v (Slot.Item r u) = inl (omega arith)
  guarded_lock t v (Slot.Lock l) = inl (omega arith)

  guarded_back : (t n : ℕ) (slot : Slot) → t < now → holder_count slot ≡ suc n → IsGuarded t (touched timeout (Touch.Releases n) now slot)
  guarded_back t n Slot.Vacant l e = absurd (omega arith)
  guarded_back t n (Slot.Item r u) l e = absurd (omega arith)
  guarded_back t n (Slot.Lock k) l e = guarded_release t now n k.unlock l

  kept_locks : (s : ℕ) (v : Option ℕ) → IsQuiet x y → y.known ≡ x.known → y.slot ≡ touched timeout (Touch.Locks v) now x.slot → y.holders ≡ s ∷ x.holders →
      y.fences ≡ x.fences → x.active s ≡ true → y.done s ≡ false → (v ≡ None) ⊎ ((b : Row) × (m : ℕ) × x.seen s b m × (b.version ≡ v)) → IsCoherent y
  kept_locks s v q k e g u a d n = seen_kept
      (λ t b m i z l o. inr (rw e (guarded_lock (x.time t) v x.slot)))
      (subst (λ z. IsHolding y z) (sym e) (hold_lock s v x.slot k g u d (named_recent q k s v a n) c.holding))

  -- what is left of a lock that is given back
  hold_back : (n : ℕ) (slot : Slot) → IsQuiet x y → y.known ≡ x.known → ((t : ℕ) → In t y.holders → In t x.holders) →
      suc (length y.holders + y.fences) ≡ length x.holders + x.fences → holder_count slot ≡ suc n → IsHolding x slot →
      IsHolding y (touched timeout (Touch.Releases n) now slot)
  hold_back n Slot.Vacant q k sub m e h = absurd (omega arith)
  hold_back n (Slot.Item r u) q k sub m e h = absurd (omega arith)
  hold_back n (Slot.Lock l) q k sub m e h =
      let o : length x.holders + x.fences ≡ l.holders = h.count in
      record {
        item = tt;
        count = omega (arith, m, o, e);
        single = λ z. let p : l.holders ≤ 1 = h.single z in omega arith;
        named = named_same (Slot.Lock l) x.was y.was x.known y.known f.was k h.named;
        lone = λ z t i.
            alone_same x.was y.was x.known y.known l.version (x.done t) (y.done t) (x.last t) (y.last t) (x.own t) (y.own t) f.was k
            (q.done t (sub t i)) (q.last t (sub t i)) (q.own t (sub t i)) (h.lone z t (sub t i));
      }

  kept_releases : (s n : ℕ) → IsQuiet x y → y.known ≡ x.known → y.slot ≡ touched timeout (Touch.Releases n) now x.slot → y.holders ≡ remove s x.holders →
      y.fences ≡ x.fences → holder_count x.slot ≡ suc n → In s x.holders → IsCoherent y
  kept_releases s n q k e g u p i =
      let m : suc (length (remove s x.holders)) ≡ length x.holders = length_remove s x.holders i in
      seen_kept
      (λ t b m a z l o. inr (rw e (guarded_back (x.time t) n x.slot l p)))
      (subst (λ z. IsHolding y z) (sym e)
      (hold_back n x.slot q k (λ t j. in_remove s t x.holders (subst (λ z. In t z) g j)) (rw (g, u) (omega arith)) p c.holding))

  kept_unfences : (n : ℕ) → IsQuiet x y → y.known ≡ x.known → y.slot ≡ touched timeout (Touch.Releases n) now x.slot → y.holders ≡ x.holders →
      suc y.fences ≡ x.fences → holder_count x.slot ≡ suc n → IsCoherent y
  kept_unfences n q k e g u p = seen_kept
      (λ t b m a z l o. inr (rw e (guarded_back (x.time t) n x.slot l p)))
      (subst (λ z. IsHolding y z) (sym e)
      (hold_back n x.slot q k (λ t j. subst (λ z. In t z) g j) (rw g (omega (arith, u))) p c.holding))

  kept_leaves : (floor : ℕ) → y.known ≡ x.known → y.slot ≡ Slot.Vacant → y.holders ≡ x.holders → y.fences ≡ x.fences → may_leave floor x.slot ≡ true →
      ((s : ℕ) → x.active s ≡ true → floor ≤ x.time s) → IsCoherent y
  kept_leaves floor k e g u p w = seen_kept
      (λ t b m a z l o. inl (rw k (elim o [ inl i ↦ i | inr i ↦ absurd (guarded_leaves (x.time t) floor x.slot (w t a) p i) ])))
      (subst (λ z. IsHolding y z) (sym e) (hold_vacant y (rw (g, u) (c.holding.count ∙ leave_no_holder floor x.slot p))))

  pub kept : IsQuiet x y → y.known ≡ x.known → Move timeout now x y → IsCoherent y
  kept q k (Move.Rests e g u w) = kept_rests q k e g u w
  kept q k (Move.Puts s r m room v e w g u a z p) = kept_puts q k s r m room v e w g u a z p
  kept q k (Move.Inserts s r m e w g u a z p) = kept_inserts q k s r m e w g u a z p
  kept q k (Move.Updates s r l e w g u p sh i d z) = kept_updates q k s r l e w g u p sh i d z
  kept q k (Move.Locks s v e g u a d n) = kept_locks s v q k e g u a d n
  kept q k (Move.Releases s n e g u p i) = kept_releases s n q k e g u p i
  kept q k (Move.Unfences n e g u p) = kept_unfences n q k e g u p
  kept q k (Move.Leaves floor e g u p w) = kept_leaves floor k e g u p w

  -- the lock of a fence
  hold_fence : (slot : Slot) → IsFence timeout now x y → IsHolding x slot → IsHolding y (touched timeout (Touch.Locks None) now slot)
  hold_fence slot w h = by_slot slot h
    where
      more : (n : ℕ) → length x.holders + x.fences ≡ n → length y.holders + y.fences ≡ suc n
      more n e = rw (w.holders, w.fences) (omega arith)

      nobody : length x.holders ≡ 0 → (t : ℕ) → In t y.holders → ⊥
      nobody z t i = in_none t x.holders z (subst (λ u. In t u) w.holders i)

      by_slot : (z : Slot) → IsHolding x z → IsHolding y (touched timeout (Touch.Locks None) now z)
      by_slot Slot.Vacant h = record {
        item = tt;
        count = more 0 h.count;
        single = λ z. omega arith;
        named = λ z v p. none_some p;
        lone = λ z t i. absurd (nobody (no_holders x.holders x.fences h.count) t i);
      }
      by_slot (Slot.Item r t) h = record {
        item = tt;
        count = more 0 h.count;
        single = λ z. omega arith;
        named = λ z v p. (r, x.since, p, f.was x.since r h.item.0, rw w.known (omega (arith, h.item.1)));
        lone = λ z s i. absurd (nobody (no_holders x.holders x.fences h.count) s i);
      }
      by_slot (Slot.Lock l) h =
          hold_shared y (record { id = l.id; version = l.version; timeout = now + timeout; holders = suc l.holders; shared = true; unlock = l.unlock }) refl
          (more l.holders h.count)

  pub kept_fence : IsFence timeout now x y → IsCoherent y
  kept_fence w = seen_kept
      (λ t b m a z l o. inr (rw w.slot (guarded_lock (x.time t) None x.slot)))
      (subst (λ z. IsHolding y z) (sym w.slot) (hold_fence x.slot w c.holding))

-- a commit at the node

module _ (now s : ℕ) (x y : View) (f : Follows now x y) (k : IsCommit s x y) (c : IsCoherent x) where
  nothing_was : ((m : ℕ) (b : Row) → x.was m b → ⊥) → (slot : Slot) → IsItemOf slot x.was x.known x.since → IsItemOf slot y.was y.known y.since
  nothing_was n Slot.Vacant h = tt
  nothing_was n (Slot.Item r t) h = absurd (n x.since r h.0)
  nothing_was n (Slot.Lock l) h = tt

  item_after : (slot : Slot) → Commits s x y → IsHolding x slot → IsItemOf slot y.was y.known y.since
  item_after Slot.Vacant w h = tt
  item_after (Slot.Lock l) w h = tt
  item_after (Slot.Item r t) (Commits.Passes e n) h = item_same (Slot.Item r t) x.was y.was x.known y.known x.since y.since f.was e k.since h.item
  item_after (Slot.Item r t) (Commits.Adds n) h = absurd (n x.since r h.item.0)
  item_after (Slot.Item r t) (Commits.Changes i e) h = absurd (omega (arith, held_lock s x (Slot.Item r t) i h.count))

  named_after : (slot : Slot) → Commits s x y → IsHolding x slot → IsNamed slot y.was y.known
  named_after Slot.Vacant w h = tt
  named_after (Slot.Item r t) w h = tt
  named_after (Slot.Lock l) (Commits.Passes e n) h = named_same (Slot.Lock l) x.was y.was x.known y.known f.was e h.named
  named_after (Slot.Lock l) (Commits.Adds n) h = λ sh v p.
      let z : (b : Row) × (m : ℕ) × (b.version ≡ Some v) × x.was m b × (x.known ≤ suc m) = h.named sh v p in absurd (n z.1 z.0 z.3)
  named_after (Slot.Lock l) (Commits.Changes i e) h = λ sh v p.
      let z : (b : Row) × (m : ℕ) × (b.version ≡ Some v) × x.was m b × (x.known ≤ m) = (h.lone sh s i).before k.not_yet v p in
      (z.0, z.1, z.2, f.was z.1 z.0 z.3, rw e (omega (arith, z.4)))

  alone_done : (v : Option ℕ) (t : ℕ) → t ≡ s → IsAlone y.was y.known v (y.done t) (y.last t) (y.own t)
  alone_done v t p = record {
    before = λ d. absurd (true≢false (sym (ap y.done p ∙ k.now) ∙ d));
    after = λ d r e. subst (λ z. IsRecent y.was y.known (y.own z) r) (sym p) (k.left r (ap y.last (sym p) ∙ e));
  }

  lone_after : (slot : Slot) → Commits s x y → IsHolding x slot → IsLone y slot
  lone_after Slot.Vacant w h = tt
  lone_after (Slot.Item r t) w h = tt
  lone_after (Slot.Lock l) w h = λ sh t i. by_session sh t (subst (λ z. In t z) k.holders i) (same_or t s) w
    where
      same_or : (t s : ℕ) → (t ≡ s) ⊎ (t ≡ s → ⊥)
      same_or t s = elim (le_or_lt t s) [
        | inr l ↦ inr (λ e. omega arith)
        | inl a ↦ elim (le_or_lt s t) [ inl b ↦ inl (omega arith) | inr b ↦ inr (λ e. omega arith) ]
      ]

      by_session : (sh : l.shared ≡ false) (t : ℕ) → In t x.holders → (t ≡ s) ⊎ (t ≡ s → ⊥) → Commits s x y → IsAlone y.was y.known l.version (y.done t) (y.last t) (y.own t)
      by_session sh t i (inl p) w = alone_done l.version t p
      by_session sh t i (inr p) (Commits.Passes e n) =
          alone_same x.was y.was x.known y.known l.version (x.done t) (y.done t) (x.last t) (y.last t) (x.own t) (y.own t) f.was e
          (k.done t p) (k.last t i p) (k.own t i p) (h.lone sh t i)
      by_session sh t i (inr p) (Commits.Adds n) = record {
        before = λ d v e.
            let z : (b : Row) × (m : ℕ) × (b.version ≡ Some v) × x.was m b × (x.known ≤ m) =
            (h.lone sh t i).before (sym (k.done t p) ∙ d) v e in absurd (n z.1 z.0 z.3);
        after = λ d r e.
            let d2 : x.done t ≡ true = sym (k.done t p) ∙ d in
            let z : x.was (x.own t) r × (x.known ≤ x.own t) = (h.lone sh t i).after d2 r (sym (k.last t i p d2) ∙ e) in
            absurd (n (x.own t) r z.0);
      }
      by_session sh t i (inr p) (Commits.Changes j e) =
          let o : l.holders ≤ 1 = h.single sh in
          let m : length x.holders + x.fences ≡ l.holders = h.count in
          absurd (p (in_one t s x.holders (omega arith) i j))

  safe_after : (t m : ℕ) (b : Row) → Commits s x y → x.was m b → (x.known ≤ m) ⊎ IsGuarded t x.slot → (y.known ≤ m) ⊎ IsGuarded t x.slot
  safe_after t m b (Commits.Passes e n) w o = rw e o
  safe_after t m b (Commits.Adds n) w o = absurd (n m b w)
  safe_after t m b (Commits.Changes i e) w o = inr (by_slot x.slot (held_lock s x x.slot i c.holding.count))
    where
      by_slot : (slot : Slot) → 0 < holder_count slot → IsGuarded t slot
      by_slot Slot.Vacant h = absurd (omega arith)
      by_slot (Slot.Item r u) h = absurd (omega arith)
      by_slot (Slot.Lock l) h = inl h

  pub kept_commit : IsCoherent y
  kept_commit = record {
    holding = subst (λ z. IsHolding y z) (sym k.slot) (record {
      item = item_after x.slot k.row c.holding;
      count = rw (k.holders, k.fences) c.holding.count;
      single = c.holding.single;
      named = named_after x.slot k.row c.holding;
      lone = lone_after x.slot k.row c.holding;
    });
    growing = f.growing;
    past = λ t b m a z. elim (f.seen t b m a z) [
      | inl e ↦ e.0
      | inr p ↦ f.was m b (c.past t b m p.0 p.1)
    ];
    safe = λ t b m a z. elim (f.seen t b m a z) [
      | inl e ↦ inl e.1
      | inr p ↦ rw (p.2, k.slot) (safe_after (x.time t) m b k.row (c.past t b m p.0 p.1) (c.safe t b m p.0 p.1))
    ];
  }
