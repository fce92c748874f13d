-- The protocol of one key of a read-write region: what each kind of entry does to its slot, to its committed row and to
-- what sessions know of it, and what always holds. It speaks of no journal.
use Rattle.std.proofs.Common.{◌≡◌, ℕ, suc, ◌<◌, ◌≤◌, ◌⊎◌, inl, inr, Bool, true, false, List, ◌∷◌, length, Some, None, Option, refl, ap, sym, ◌∙◌, subst, arith}
use Rattle.std.proofs.lemmas.Bool.{true≢false, le-ltb, cases_eq}
use Rattle.hib_journal.specs.Types.{Row, Put}
use Rattle.hib_journal.specs.Slot.{Touch, LockState, Slot}
use Rattle.hib_journal.specs.Room.{may_leave}
use Rattle.hib_journal.specs.Regions.{is_below, put}
use Rattle.hib_journal.specs.Coherence.{remove}
use Rattle.hib_law.specs.Locks.{holder_count}
use Rattle.hib_law.specs.Seen.{IsGuarded, IsNotBelow}
use Rattle.hib_journal.proofs.Slots.{touched}
use Rattle.hib_law.specs.Lone.{IsAlone}
use Rattle.hib_law.proofs.Guarded.{IsSafe, In, IsGrown, IsRowOf, IsLone, IsHolding, View, IsCoherent, Follows, IsQuiet, Move, Commits, IsCommit, in_remove, length_remove, in_none, in_one, safe_store, safe_lock, safe_release, below_none, safe_evict, safe_leave, put_committed, put_no_holder, leave_no_holder}

-- how each kind of entry keeps what holds of the slot

hold_store : (r : Row) (now : ℕ) (row : Option Row) (holders : List ℕ) (done : ℕ → Bool) (last : ℕ → Option Row) →
    row ≡ Some r → length holders ≡ 0 → IsHolding (Slot.Item r now) row holders done last
hold_store r now row holders done last e z = record { item = e; count = z; single = tt; lone = tt }

alone_settled : (v : Option ℕ) (row : Option Row) (d d' : Bool) (l l' : Option Row) → d' ≡ d → (d ≡ true → l' ≡ l) → IsAlone v row d l → IsAlone v row d' l'
alone_settled v row d d' l l' e f h = record {
  before = λ x. h.before (sym e ∙ x);
  after = λ x r y. h.after (sym e ∙ x) r (sym (f (sym e ∙ x)) ∙ y);
}

hold_settled : (slot : Slot) (row : Option Row) (holders : List ℕ) (d d' : ℕ → Bool) (l l' : ℕ → Option Row) →
    ((s : ℕ) → In s holders → d' s ≡ d s) → ((s : ℕ) → In s holders → d s ≡ true → l' s ≡ l s) →
    IsHolding slot row holders d l → IsHolding slot row holders d' l'
hold_settled Slot.Vacant row holders d d' l l' e f h = record { item = h.item; count = h.count; single = h.single; lone = tt }
hold_settled (Slot.Item r t) row holders d d' l l' e f h = record { item = h.item; count = h.count; single = h.single; lone = tt }
hold_settled (Slot.Lock k) row holders d d' l l' e f h = record {
  item = tt;
  count = h.count;
  single = h.single;
  lone = λ x s i. alone_settled k.version row (d s) (d' s) (l s) (l' s) (e s i) (f s i) (h.lone x s i);
}

alone_new : (v : Option ℕ) (row : Option Row) (d : Bool) (l : Option Row) → d ≡ false →
    ((w : ℕ) → v ≡ Some w → (r : Row) × (row ≡ Some r) × (r.version ≡ Some w)) → IsAlone v row d l
alone_new v row d l e f = record { before = λ x. f; after = λ x. absurd (true≢false (sym x ∙ e)) }

only_new : (s t : ℕ) (holders : List ℕ) (d : ℕ → Bool) → length holders ≡ 0 → d s ≡ false → In t (s ∷ holders) → d t ≡ false
only_new s t holders d z e (inl p) = ap d (sym p) ∙ e
only_new s t holders d z e (inr i) = absurd (in_none t holders z i)

hold_lock : (timeout now s : ℕ) (v : Option ℕ) (slot : Slot) (row : Option Row) (holders : List ℕ) (d : ℕ → Bool) (l : ℕ → Option Row) →
    d s ≡ false → (slot ≡ Slot.Vacant → (w : ℕ) → v ≡ Some w → (r : Row) × (row ≡ Some r) × (r.version ≡ Some w)) →
    IsHolding slot row holders d l → IsHolding (touched timeout (Touch.Locks v) now slot) row (s ∷ holders) d l
hold_lock timeout now s v Slot.Vacant row holders d l e named h = record {
  item = tt;
  count = ap suc h.count;
  single = λ x. omega arith;
  lone = λ x t i. alone_new v row (d t) (l t) (only_new s t holders d h.count e i) (named refl);
}
hold_lock timeout now s v (Slot.Item r u) row holders d l e named h = record {
  item = tt;
  count = ap suc h.count;
  single = λ x. omega arith;
  lone = λ x t i. alone_new r.version row (d t) (l t) (only_new s t holders d h.count e i) (λ w p. (r, h.item, p));
}
hold_lock timeout now s v (Slot.Lock k) row holders d l e named h = record {
  item = tt;
  count = ap suc h.count;
  single = λ x. absurd (true≢false x);
  lone = λ x. absurd (true≢false x);
}

hold_release : (timeout now s n : ℕ) (slot : Slot) (row : Option Row) (holders : List ℕ) (d : ℕ → Bool) (l : ℕ → Option Row) →
    holder_count slot ≡ suc n → In s holders →
    IsHolding slot row holders d l → IsHolding (touched timeout (Touch.Releases n) now slot) row (remove s holders) d l
hold_release timeout now s n Slot.Vacant row holders d l e i h = absurd (omega arith)
hold_release timeout now s n (Slot.Item r u) row holders d l e i h = absurd (omega arith)
hold_release timeout now s n (Slot.Lock k) row holders d l e i h =
    let c : length holders ≡ k.holders = h.count in
    let m : suc (length (remove s holders)) ≡ length holders = length_remove s holders i in
    record {
      item = tt;
      count = omega arith;
      single = λ x. let o : k.holders ≤ 1 = h.single x in omega arith;
      lone = λ x t j. h.lone x t (in_remove s t holders j);
    }

hold_free : (timeout now : ℕ) (slot : Slot) (row : Option Row) (holders : List ℕ) (d : ℕ → Bool) (l : ℕ → Option Row) →
    holder_count slot ≡ 0 → IsHolding slot row holders d l → IsHolding (touched timeout Touch.Evicts now slot) row holders d l
hold_free timeout now slot row holders d l e h =
    let z : length holders ≡ 0 = h.count ∙ e in
    record { item = tt; count = z; single = λ x. omega arith; lone = λ x t i. absurd (in_none t holders z i) }

hold_leave : (slot : Slot) (row : Option Row) (holders : List ℕ) (d : ℕ → Bool) (l : ℕ → Option Row) →
    holder_count slot ≡ 0 → IsHolding slot row holders d l → IsHolding Slot.Vacant row holders d l
hold_leave slot row holders d l e h = record { item = tt; count = h.count ∙ e; single = tt; lone = tt }

-- the only holder has committed this row
hold_update : (k : LockState) (s : ℕ) (row : Option Row) (holders : List ℕ) (d : ℕ → Bool) (l : ℕ → Option Row) → k.shared ≡ false →
    In s holders → IsHolding (Slot.Lock k) row holders d l → length (remove s holders) ≡ 0
hold_update k s row holders d l x i h =
    let c : length holders ≡ k.holders = h.count in
    let o : k.holders ≤ 1 = h.single x in
    let m : suc (length (remove s holders)) ≡ length holders = length_remove s holders i in
    omega arith

-- the whole

irreflexive : (v : Option ℕ) → is_below v v ≡ false
irreflexive None = refl
irreflexive (Some n) = le-ltb n n (omega arith)

grown_now : (b : Row) (row : Option Row) (deleted : Bool) → row ≡ Some b → IsGrown b row deleted
grown_now b row deleted e = record {
  newer = λ r x. let p : b ≡ r = same_row (sym e ∙ x) in subst (λ z. is_below z.version b.version ≡ false) p (irreflexive b.version);
  gone = λ x. absurd (none_some (sym x ∙ e));
}
  where
    same_row : {r : Row} → Some b ≡ Some r → b ≡ r
    same_row h = cc

    none_some : ◌≡◌ {A = Option Row} None (Some b) → ⊥
    none_some h = cc

grown_same : (b : Row) (row row' : Option Row) (d d' : Bool) → row' ≡ row → (d ≡ true → d' ≡ true) → IsGrown b row d → IsGrown b row' d'
grown_same b row row' d d' e f g = record { newer = λ r x. g.newer r (sym e ∙ x); gone = λ x. f (g.gone (sym e ∙ x)) }

item_row : (slot : Slot) (row : Option Row) (r : Row) (u : ℕ) → slot ≡ Slot.Item r u → IsRowOf slot row → row ≡ Some r
item_row slot row r u e h = let g : IsRowOf (Slot.Item r u) row = rw e at h in g

module _ (timeout now : ℕ) (x y : View) (f : Follows now x y) (q : IsQuiet x y) (c : IsCoherent x) where
  -- what sessions have seen stays safe if the move keeps it so
  seen_kept : ((s : ℕ) (b : Row) → x.active s ≡ true → x.seen s b → x.time s < now → IsGrown b x.row x.deleted →
      IsSafe (x.time s) b x.slot x.row → IsSafe (x.time s) b y.slot x.row) →
      IsHolding y.slot y.row y.holders y.done y.last → IsCoherent y
  seen_kept m h = record {
    holding = h;
    grown = λ s b a k. elim (f.known s b a k) [
      | inl e ↦ grown_now b y.row y.deleted e
      | inr p ↦ grown_same b x.row y.row x.deleted y.deleted q.row f.deleted (c.grown s b p.0 p.1)
    ];
    safe = λ s b a k. elim (f.known s b a k) [
      | inl e ↦ inl e
      | inr p ↦ rw (p.2, q.row) (m s b p.0 p.1 (f.later s b p.0 p.1) (c.grown s b p.0 p.1) (c.safe s b p.0 p.1))
    ];
  }

  settled : IsHolding x.slot x.row x.holders y.done y.last
  settled = hold_settled x.slot x.row x.holders x.done y.done x.last y.last q.done q.last c.holding

  kept_rests : y.slot ≡ x.slot → y.holders ≡ x.holders → IsCoherent y
  kept_rests e g = seen_kept (λ s b a k l w p. rw e p) (rw (e, q.row, g) settled)

  -- a stored row is the committed one
  kept_store : (r : Row) → y.slot ≡ Slot.Item r now → x.row ≡ Some r → length y.holders ≡ 0 → IsCoherent y
  kept_store r e p z = seen_kept
      (λ s b a k l w i. rw e (safe_store (x.time s) now b r x.row x.deleted p w l))
      (rw (e, q.row) (hold_store r now x.row y.holders y.done y.last p z))

  kept_puts : (s : ℕ) (r : Row) (room : Option (Option ℕ)) (v : Option ℕ) → y.slot ≡ Slot.Item r now → y.holders ≡ x.holders →
      x.active s ≡ true → x.seen s r → put x.slot room (x.time s) r.version ≡ Put.Stored v false → IsCoherent y
  kept_puts s r room v e g a k p = kept_store r e
      (put_committed x.slot room (x.time s) r x.row v (c.safe s r a k) p)
      (ap length g ∙ (c.holding.count ∙ put_no_holder x.slot room (x.time s) r.version v p))

  vacant_committed : (t : ℕ) (b : Row) (slot : Slot) (row : Option Row) → slot ≡ Slot.Vacant → IsSafe t b slot row → row ≡ Some b
  vacant_committed t b slot row e (inl p) = p
  vacant_committed t b slot row e (inr p) = let g : IsGuarded t Slot.Vacant = rw e at p.0 in absurd g

  kept_inserts : (s : ℕ) (r : Row) → y.slot ≡ Slot.Item r now → y.holders ≡ x.holders → x.active s ≡ true → x.seen s r →
      x.slot ≡ Slot.Vacant → IsCoherent y
  kept_inserts s r e g a k p = kept_store r e (vacant_committed (x.time s) r x.slot x.row p (c.safe s r a k))
      (ap length g ∙ (c.holding.count ∙ ap holder_count p))

  kept_updates : (s : ℕ) (r : Row) (l : LockState) → y.slot ≡ Slot.Item r now → y.holders ≡ remove s x.holders →
      x.slot ≡ Slot.Lock l → l.shared ≡ false → In s x.holders → x.done s ≡ true → x.last s ≡ Some r → IsCoherent y
  kept_updates s r l e g p sh i d k =
      let h : IsHolding (Slot.Lock l) x.row x.holders x.done x.last = rw p at c.holding in
      kept_store r e ((h.lone sh s i).after d r k)
      (ap length g ∙ hold_update l s x.row x.holders x.done x.last sh i h)

  -- the version that a new lock names is that of the committed row
  named_version : (s : ℕ) (v : Option ℕ) → x.active s ≡ true → (v ≡ None) ⊎ ((b : Row) × x.seen s b × (b.version ≡ v)) →
      x.slot ≡ Slot.Vacant → (w : ℕ) → v ≡ Some w → (r : Row) × (x.row ≡ Some r) × (r.version ≡ Some w)
  named_version s v a (inl n) p w e = absurd (none_some (sym n ∙ e))
    where
      none_some : {A : Type 0} {z : A} → ◌≡◌ {A = Option A} None (Some z) → ⊥
      none_some h = cc
  named_version s v a (inr n) p w e =
      (n.0, vacant_committed (x.time s) n.0 x.slot x.row p (c.safe s n.0 a n.1), n.2 ∙ e)

  -- and so it is not below a version that was seen
  named_newer : (s : ℕ) (v : Option ℕ) (b : Row) → x.active s ≡ true → (v ≡ None) ⊎ ((d : Row) × x.seen s d × (d.version ≡ v)) →
      IsGrown b x.row x.deleted → x.slot ≡ Slot.Vacant → is_below v b.version ≡ false
  named_newer s v b a (inl n) w p = rw n (below_none b.version)
  named_newer s v b a (inr n) w p =
      rw (← n.2) (w.newer n.0 (vacant_committed (x.time s) n.0 x.slot x.row p (c.safe s n.0 a n.1)))

  kept_locks : (s : ℕ) (v : Option ℕ) → y.slot ≡ touched timeout (Touch.Locks v) now x.slot → y.holders ≡ s ∷ x.holders →
      x.active s ≡ true → y.done s ≡ false → (v ≡ None) ⊎ ((b : Row) × x.seen s b × (b.version ≡ v)) → IsCoherent y
  kept_locks s v e g a d n = seen_kept
      (λ t b a' k l w i. rw e (safe_lock timeout (x.time t) now b v x.slot x.row x.deleted (λ r u p. item_row x.slot x.row r u p c.holding.item) (named_newer s v b a n w) w))
      (rw (e, q.row, g) (hold_lock timeout now s v x.slot x.row x.holders y.done y.last d (named_version s v a n) settled))

  kept_releases : (s n : ℕ) → y.slot ≡ touched timeout (Touch.Releases n) now x.slot → y.holders ≡ remove s x.holders →
      holder_count x.slot ≡ suc n → In s x.holders → IsCoherent y
  kept_releases s n e g p i = seen_kept
      (λ t b a k l w j. rw e (safe_release timeout (x.time t) now n b x.slot x.row l j))
      (rw (e, q.row, g) (hold_release timeout now s n x.slot x.row x.holders y.done y.last p i settled))

  kept_evicts : y.slot ≡ touched timeout Touch.Evicts now x.slot → y.holders ≡ x.holders → holder_count x.slot ≡ 0 → IsCoherent y
  kept_evicts e g p = seen_kept
      (λ t b a k l w j. rw e (safe_evict timeout (x.time t) now b x.slot x.row l j))
      (rw (e, q.row, g) (hold_free timeout now x.slot x.row x.holders y.done y.last p settled))

  kept_leaves : (floor : ℕ) → y.slot ≡ Slot.Vacant → y.holders ≡ x.holders → may_leave floor x.slot ≡ true →
      ((s : ℕ) → x.active s ≡ true → floor ≤ x.time s) → IsCoherent y
  kept_leaves floor e g p u = seen_kept
      (λ t b a k l w j. rw e (safe_leave (x.time t) floor b x.slot x.row (u t a) p j))
      (rw (e, q.row, g) (hold_leave x.slot x.row x.holders y.done y.last (leave_no_holder floor x.slot p) settled))

  pub kept : Move timeout now x y → IsCoherent y
  kept (Move.Rests e g) = kept_rests e g
  kept (Move.Puts s r room v e g a k p) = kept_puts s r room v e g a k p
  kept (Move.Inserts s r e g a k p) = kept_inserts s r e g a k p
  kept (Move.Updates s r l e g p sh i d k) = kept_updates s r l e g p sh i d k
  kept (Move.Locks s v e g a d n) = kept_locks s v e g a d n
  kept (Move.Releases s n e g p i) = kept_releases s n e g p i
  kept (Move.Evicts e g p) = kept_evicts e g p
  kept (Move.Leaves floor e g p u) = kept_leaves floor e g p u

-- a commit

some_none : {A : Type 0} {z : A} {o : Option A} → o ≡ Some z → o ≡ None → ⊥
some_none e f = none_is_some (sym f ∙ e)
  where
    none_is_some : {A : Type 0} {z : A} → ◌≡◌ {A = Option A} None (Some z) → ⊥
    none_is_some h = cc

held_lock : (s : ℕ) (slot : Slot) (row : Option Row) (holders : List ℕ) (d : ℕ → Bool) (l : ℕ → Option Row) → In s holders →
    IsHolding slot row holders d l → 0 < holder_count slot
held_lock s slot row holders d l i h =
    let c : length holders ≡ holder_count slot = h.count in
    let m : suc (length (remove s holders)) ≡ length holders = length_remove s holders i in
    omega arith

item_after : (s : ℕ) (x y : View) (slot : Slot) (d : ℕ → Bool) (l : ℕ → Option Row) → Commits s x y → IsHolding slot x.row x.holders d l → IsRowOf slot y.row
item_after s x y Slot.Vacant d l k h = tt
item_after s x y (Slot.Lock z) d l k h = tt
item_after s x y (Slot.Item r t) d l (Commits.Passes e n) h = e ∙ h.item
item_after s x y (Slot.Item r t) d l (Commits.Adds e n p) h = absurd (some_none h.item e)
item_after s x y (Slot.Item r t) d l (Commits.Changes b e i p g z) h =
    absurd (omega (arith, held_lock s (Slot.Item r t) x.row x.holders d l i h))

alone_other : (v : Option ℕ) (row row' : Option Row) (d d' : Bool) (l l' : Option Row) → d' ≡ d → (d ≡ true → l' ≡ l) →
    ((r : Row) → row ≡ Some r → row' ≡ Some r) → IsAlone v row d l → IsAlone v row' d' l'
alone_other v row row' d d' l l' e f g h = record {
  before = λ x w p. let k : (r : Row) × (row ≡ Some r) × (r.version ≡ Some w) = h.before (sym e ∙ x) w p in (k.0, g k.0 k.1, k.2);
  after = λ x r y. g r (h.after (sym e ∙ x) r (sym (f (sym e ∙ x)) ∙ y));
}

alone_done : (v : Option ℕ) (row : Option Row) (d : Bool) (l : Option Row) → d ≡ true → ((r : Row) → l ≡ Some r → row ≡ Some r) → IsAlone v row d l
alone_done v row d l e f = record { before = λ x. absurd (true≢false (sym e ∙ x)); after = λ x. f }

module _ (now s : ℕ) (x y : View) (f : Follows now x y) (k : IsCommit s x y) (c : IsCoherent x) where
  alone_after : (v : Option ℕ) (t : ℕ) → In t x.holders → (In s x.holders → t ≡ s) → Commits s x y → IsAlone v x.row (x.done t) (x.last t) →
      (t ≡ s) ⊎ (t ≡ s → ⊥) → IsAlone v y.row (y.done t) (y.last t)
  alone_after v t i one (Commits.Passes e n) h (inl p) =
      alone_done v y.row (y.done t) (y.last t) (ap y.done p ∙ k.now) (λ r z. absurd (some_none z (ap y.last p ∙ n)))
  alone_after v t i one (Commits.Passes e n) h (inr p) =
      alone_other v x.row y.row (x.done t) (y.done t) (x.last t) (y.last t) (k.done t p) (k.last t i p) (λ r z. e ∙ z) h
  alone_after v t i one (Commits.Adds e n g) h (inl p) =
      alone_done v y.row (y.done t) (y.last t) (ap y.done p ∙ k.now) (λ r z. g ∙ (ap y.last (sym p) ∙ z))
  alone_after v t i one (Commits.Adds e n g) h (inr p) =
      alone_other v x.row y.row (x.done t) (y.done t) (x.last t) (y.last t) (k.done t p) (k.last t i p) (λ r z. absurd (some_none z e)) h
  alone_after v t i one (Commits.Changes b e j g u z) h (inl p) =
      alone_done v y.row (y.done t) (y.last t) (ap y.done p ∙ k.now) (λ r w. g ∙ (ap y.last (sym p) ∙ w))
  alone_after v t i one (Commits.Changes b e j g u z) h (inr p) = absurd (p (one j))

  lone_after : (slot : Slot) → IsHolding slot x.row x.holders x.done x.last → IsLone slot y.row x.holders y.done y.last
  lone_after Slot.Vacant h = tt
  lone_after (Slot.Item r t) h = tt
  lone_after (Slot.Lock l) h = λ sh t i.
      alone_after l.version t i
      (λ j. let o : l.holders ≤ 1 = h.single sh in let m : length x.holders ≡ l.holders = h.count in
      in_one t s x.holders (omega arith) i j)
      k.row (h.lone sh t i) (cases_eq t s)

  holding_after : IsHolding y.slot y.row y.holders y.done y.last
  holding_after = rw (k.slot, k.holders) (record {
    item = item_after s x y x.slot x.done x.last k.row c.holding;
    count = c.holding.count;
    single = c.holding.single;
    lone = lone_after x.slot c.holding;
  })

  grown_after : (b : Row) → Commits s x y → IsGrown b x.row x.deleted → IsGrown b y.row y.deleted
  grown_after b (Commits.Passes e n) g = grown_same b x.row y.row x.deleted y.deleted e f.deleted g
  grown_after b (Commits.Adds e n p) g = absurd (true≢false (sym (g.gone e) ∙ n))
  grown_after b (Commits.Changes r e i p u z) g = record { newer = λ d q. u d q b.version (g.newer r e); gone = z }

  not_below_held : (b : Row) (v : Option ℕ) → ((w : ℕ) → v ≡ Some w → (r : Row) × (x.row ≡ Some r) × (r.version ≡ Some w)) → x.row ≡ Some b →
      is_below v b.version ≡ false
  not_below_held b None h e = below_none b.version
  not_below_held b (Some w) h e =
      let p : (r : Row) × (x.row ≡ Some r) × (r.version ≡ Some w) = h w refl in
      let same : b ≡ p.0 = same_row (sym e ∙ p.1) in
      rw (same, p.2) (irreflexive (Some w))
    where
      same_row : {a r : Row} → Some a ≡ Some r → a ≡ r
      same_row h = cc

  -- a row that was committed until now: the slot is a held lock that refuses it
  safe_held : (t : ℕ) (b : Row) (slot : Slot) → In s x.holders → IsHolding slot x.row x.holders x.done x.last → x.row ≡ Some b →
      IsGuarded t slot × IsNotBelow b.version slot
  safe_held t b Slot.Vacant i h e = absurd (omega (arith, held_lock s Slot.Vacant x.row x.holders x.done x.last i h))
  safe_held t b (Slot.Item r u) i h e = absurd (omega (arith, held_lock s (Slot.Item r u) x.row x.holders x.done x.last i h))
  safe_held t b (Slot.Lock l) i h e = (
    inl (held_lock s (Slot.Lock l) x.row x.holders x.done x.last i h),
    λ sh. not_below_held b l.version ((h.lone sh s i).before k.not_yet) e,
  )

  safe_after : (t : ℕ) (b : Row) → Commits s x y → IsGrown b x.row x.deleted → IsSafe t b x.slot x.row → IsSafe t b x.slot y.row
  safe_after t b (Commits.Passes e n) g (inl p) = inl (e ∙ p)
  safe_after t b (Commits.Passes e n) g (inr p) = inr p
  safe_after t b (Commits.Adds e n p) g h = absurd (true≢false (sym (g.gone e) ∙ n))
  safe_after t b (Commits.Changes r e i p u z) g (inl q) = inr (safe_held t b x.slot i c.holding q)
  safe_after t b (Commits.Changes r e i p u z) g (inr q) = inr q

  pub kept_commit : IsCoherent y
  kept_commit = record {
    holding = holding_after;
    grown = λ t b a j. elim (f.known t b a j) [
      | inl e ↦ grown_now b y.row y.deleted e
      | inr p ↦ grown_after b k.row (c.grown t b p.0 p.1)
    ];
    safe = λ t b a j. elim (f.known t b a j) [
      | inl e ↦ inl e
      | inr p ↦ rw (p.2, k.slot) (safe_after (x.time t) b k.row (c.grown t b p.0 p.1) (c.safe t b p.0 p.1))
    ];
  }
