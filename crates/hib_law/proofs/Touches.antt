-- What an answer of a region says of the slot that it touches.
use Rattle.std.specs.Prelude.{option_map}
use Rattle.std.specs.Option.{option_flatten, option_map_or}
use Rattle.std.proofs.Common.{◌≡◌, ℕ, zero, suc, ◌⊎◌, inl, inr, Bool, true, false, cond, ◌&&◌, ◌||◌, ◌==◌, nat_lt, nat_le, List, [], ◌∷◌, Some, None, Option, refl, ap, sym, ◌∙◌}
use Rattle.std.proofs.lemmas.Bool.{eqb-true, and_parts, false≢true}
use Rattle.std.specs.List.{filter}
use Rattle.hib_journal.specs.Types.{Key, Act, Reply, Put, Unlocked, Inserted, Updated, Evicted}
use Rattle.hib_base.specs.Keys.{same_key}
use Rattle.hib_journal.specs.Sessions.{Journal}
use Rattle.hib_journal.specs.Slot.{Touch, LockState, Slot, slot, history, touch_here, touch_at, evicted_in, is_positive}
use Rattle.hib_journal.specs.Room.{key, named, place, may_leave, victim, room, first_placed, earlier_of, is_earlier}
use Rattle.hib_journal.specs.Regions
use Rattle.hib_base.proofs.Tables.{Tested, tested, same_key_eq}
use Rattle.hib_law.specs.Locks.{holder_count}
use Rattle.hib_law.proofs.Guarded.{positive_false}
use Rattle.hib_law.proofs.Basics.{none_some, some_same}

-- the victim may leave

first_step : (at : ℕ → Option ℕ) (p : ℕ → Bool) (i j : ℕ) (q : Option ℕ) → ((m : ℕ) → q ≡ Some m → p m ≡ true) → p j ≡ true →
    earlier_of at j q ≡ Some i → p i ≡ true
first_step at p i j None f t e = rw (← (some_same e)) t
first_step at p i j (Some m) f t e = by_order (tested (is_earlier (at j) (at m))) e
  where
    by_order : Tested (is_earlier (at j) (at m)) → cond (is_earlier (at j) (at m)) (Some j) (Some m) ≡ Some i → p i ≡ true
    by_order (inl o) e = let g : Some j ≡ Some i = rw o at e in rw (← (some_same g)) t
    by_order (inr o) e = let g : Some m ≡ Some i = rw o at e in f i g

first_is : (at : ℕ → Option ℕ) (p : ℕ → Bool) (ids : List ℕ) (i : ℕ) → first_placed at (filter p ids) ≡ Some i → p i ≡ true
first_is at p [] i e = none_some e
first_is at p (j ∷ ids) i e = at_one (tested (p j)) (λ m. first_is at p ids m) e
  where
    at_one : Tested (p j) → ((m : ℕ) → first_placed at (filter p ids) ≡ Some m → p m ≡ true) → first_placed at (filter p (j ∷ ids)) ≡ Some i → p i ≡ true
    at_one (inl t) f e =
        let g : earlier_of at j (first_placed at (filter p ids)) ≡ Some i = rw t at e in
        first_step at p i j (first_placed at (filter p ids)) f t g
    at_one (inr t) f e = let g : first_placed at (filter p ids) ≡ Some i = rw t at e in f i g

pub victim_leaves : (timeout n floor : ℕ) (h : Journal) (i : ℕ) → victim timeout n floor h ≡ Some i → may_leave floor (slot timeout (key n i) h) ≡ true
unfolding victim
victim_leaves timeout n floor h i e =
    first_is (λ j. place (history (key n j) h)) (λ j. may_leave floor (slot timeout (key n j) h)) (named n h) i e

room_by_victim : (b : Bool) (v : Option ℕ) (i : ℕ) → cond b (Some None) (option_map (λ i. Some i) v) ≡ Some (Some i) → v ≡ Some i
room_by_victim true v i e = none_some (some_same e)
room_by_victim false None i e = none_some e
room_by_victim false (Some j) i e = some_same e

pub room_leaves : (timeout capacity n floor : ℕ) (h : Journal) (i : ℕ) → room timeout capacity n floor h ≡ Some (Some i) →
    may_leave floor (slot timeout (key n i) h) ≡ true
unfolding room
room_leaves timeout capacity n floor h i e = victim_leaves timeout n floor h i (room_by_victim _ (victim timeout n floor h) i e)

-- an entry touches the key that its act names, or one that its answer names as evicted
pub here_or_victim : (k j : Key) (a : Act) (r : Reply) (t : Touch) → touch_at k j a r ≡ Some t →
    ((j ≡ k) × (touch_here a r ≡ Some t)) ⊎ ((j.entity ≡ k.entity) × (evicted_in r ≡ Some k.id) × (t ≡ Touch.Leaves) × (same_key j k ≡ false))
here_or_victim k j a r t e = by_key (tested (same_key j k)) e
  where
    by_victim : (v : Option ℕ) → (j.entity ≡ k.entity) → option_map_or (λ x. x == k.id) v false ≡ true → v ≡ Some k.id
    by_victim None x y = absurd (false≢true y)
    by_victim (Some i) x y = ap Some (eqb-true i k.id y)

    by_other : Tested ((j.entity == k.entity) && option_map_or (λ v. v == k.id) (evicted_in r) false) →
        cond ((j.entity == k.entity) && option_map_or (λ v. v == k.id) (evicted_in r) false) (Some Touch.Leaves) None ≡ Some t →
        (j.entity ≡ k.entity) × (evicted_in r ≡ Some k.id) × (t ≡ Touch.Leaves)
    by_other (inl x) e =
        let p : ((j.entity == k.entity) ≡ true) × (option_map_or (λ v. v == k.id) (evicted_in r) false ≡ true) = and_parts (j.entity == k.entity) (option_map_or (λ v. v == k.id) (evicted_in r) false) x in
        let q : j.entity ≡ k.entity = eqb-true j.entity k.entity p.0 in
        let g : Some Touch.Leaves ≡ Some t = rw x at e in
        (q, by_victim (evicted_in r) q p.1, sym (some_same g))
    by_other (inr x) e = let g : ◌≡◌ {A = Option Touch} None (Some t) = rw x at e in none_some g

    by_key : Tested (same_key j k) → touch_at k j a r ≡ Some t →
        ((j ≡ k) × (touch_here a r ≡ Some t)) ⊎ ((j.entity ≡ k.entity) × (evicted_in r ≡ Some k.id) × (t ≡ Touch.Leaves) × (same_key j k ≡ false))
    by_key (inl x) e = let g : touch_here a r ≡ Some t = rw x at e in inl (same_key_eq j k x, g)
    by_key (inr x) e =
        let g : cond ((j.entity == k.entity) && option_map_or (λ v. v == k.id) (evicted_in r) false) (Some Touch.Leaves) None ≡ Some t = rw x at e in
        let o : (j.entity ≡ k.entity) × (evicted_in r ≡ Some k.id) × (t ≡ Touch.Leaves) =
        by_other (tested ((j.entity == k.entity) && option_map_or (λ v. v == k.id) (evicted_in r) false)) g in
        inr (o.0, o.1, o.2, x)

-- which answers name a victim

none_by : (b : Bool) (p q : Put) → evicted_in (Reply.Put p) ≡ None → evicted_in (Reply.Put q) ≡ None → evicted_in (Reply.Put (cond b p q)) ≡ None
none_by true p q x y = x
none_by false p q x y = y

over_none : (l : LockState) (t : ℕ) (w : Option ℕ) → evicted_in (Reply.Put (Regions.lock_answer l t w)) ≡ None
over_none l t w =
    none_by (nat_lt l.timeout t) (Put.Stored None (is_positive l.holders || nat_le t l.unlock))
    (cond (is_positive l.holders) (Put.Held l.holders) (Regions.free_answer l l.version l.shared t w)) refl
    (none_by (is_positive l.holders) (Put.Held l.holders) (Regions.free_answer l l.version l.shared t w) refl (free_none l.version l.shared))
  where
    free_none : (v : Option ℕ) (x : Bool) → evicted_in (Reply.Put (Regions.free_answer l v x t w)) ≡ None
    free_none (Some v) false = none_by (Regions.is_below (Some v) w) (Put.Stored None false) (Put.Old v) refl refl
    free_none (Some v) true = none_by (nat_lt l.unlock t) (Put.Stored None false) (Put.Early l.unlock) refl refl
    free_none None x = none_by (nat_lt l.unlock t) (Put.Stored None false) (Put.Early l.unlock) refl refl

pub put_victim : (s : Slot) (r : Option (Option ℕ)) (t : ℕ) (w : Option ℕ) (i : ℕ) → evicted_in (Reply.Put (Regions.put s r t w)) ≡ Some i → r ≡ Some (Some i)
put_victim Slot.Vacant None t w i e = none_some e
put_victim Slot.Vacant (Some v) t w i e = ap Some e
put_victim (Slot.Item x u) r t w i e =
    none_some (sym (none_by (Regions.is_below x.version w) (Put.Stored None false) (Put.Present x.version) refl refl) ∙ e)
put_victim (Slot.Lock l) r t w i e = none_some (sym (over_none l t w) ∙ e)

pub insert_victim : (s : Slot) (r : Option (Option ℕ)) (i : ℕ) → evicted_in (Reply.Inserted (Regions.after_insert s r)) ≡ Some i → r ≡ Some (Some i)
insert_victim Slot.Vacant None i e = none_some e
insert_victim Slot.Vacant (Some v) i e = ap Some e
insert_victim (Slot.Item x u) r i e = none_some e
insert_victim (Slot.Lock l) r i e = none_some e

lock_by : (r : Option (Option ℕ)) (i : ℕ) → option_flatten r ≡ Some i → r ≡ Some (Some i)
lock_by None i e = none_some e
lock_by (Some v) i e = ap Some e

pub lock_victim : (timeout now : ℕ) (s : Slot) (r : Option (Option ℕ)) (i : ℕ) → evicted_in (Reply.Locked (Regions.lock timeout s r now)) ≡ Some i → r ≡ Some (Some i)
lock_victim timeout now Slot.Vacant r i e = lock_by r i e
lock_victim timeout now (Slot.Item x u) r i e = none_some e
lock_victim timeout now (Slot.Lock l) r i e = none_some e

-- which slots an answer is given on

pub insert_vacant : (s : Slot) (r : Option (Option ℕ)) (v : Option ℕ) → Regions.after_insert s r ≡ Inserted.Stored v → s ≡ Slot.Vacant
insert_vacant Slot.Vacant r v e = refl
insert_vacant (Slot.Item x u) r v e = absurd (cc)
insert_vacant (Slot.Lock l) r v e = absurd (cc)

released_count : (m n : ℕ) → Regions.released m ≡ Unlocked.Released n → m ≡ suc n
released_count zero n e = absurd (cc)
released_count (suc m) n e = let g : m ≡ n = cc in ap suc g

pub unlock_count : (s : Slot) (i n : ℕ) → Regions.unlock s i ≡ Unlocked.Released n → holder_count s ≡ suc n
unlock_count Slot.Vacant i n e = absurd (cc)
unlock_count (Slot.Item x u) i n e = absurd (cc)
unlock_count (Slot.Lock l) i n e = by_id (tested (l.id == i)) e
  where
    by_id : Tested (l.id == i) → cond (l.id == i) (Regions.released l.holders) Unlocked.Expired ≡ Unlocked.Released n → l.holders ≡ suc n
    by_id (inl x) e = let g : Regions.released l.holders ≡ Unlocked.Released n = rw x at e in released_count l.holders n g
    by_id (inr x) e = let g : Unlocked.Expired ≡ Unlocked.Released n = rw x at e in absurd (cc)

updated_count : (x : Bool) (m n : ℕ) → Regions.updated_by x m ≡ Updated.Shared n → m ≡ suc n
updated_count x zero n e = absurd (cc)
updated_count true (suc m) n e = let g : m ≡ n = cc in ap suc g
updated_count false (suc m) n e = absurd (cc)

updated_alone : (x : Bool) (m : ℕ) → Regions.updated_by x m ≡ Updated.Stored → x ≡ false
updated_alone x zero e = absurd (cc)
updated_alone true (suc m) e = absurd (cc)
updated_alone false (suc m) e = refl

pub update_count : (s : Slot) (i n : ℕ) → Regions.after_update s i ≡ Updated.Shared n → holder_count s ≡ suc n
update_count Slot.Vacant i n e = absurd (cc)
update_count (Slot.Item x u) i n e = absurd (cc)
update_count (Slot.Lock l) i n e = by_id (tested (l.id == i)) e
  where
    by_id : Tested (l.id == i) → cond (l.id == i) (Regions.updated_by l.shared l.holders) Updated.Expired ≡ Updated.Shared n → l.holders ≡ suc n
    by_id (inl x) e = let g : Regions.updated_by l.shared l.holders ≡ Updated.Shared n = rw x at e in updated_count l.shared l.holders n g
    by_id (inr x) e = let g : Updated.Expired ≡ Updated.Shared n = rw x at e in absurd (cc)

pub update_alone : (s : Slot) (i : ℕ) → Regions.after_update s i ≡ Updated.Stored → (l : LockState) × (s ≡ Slot.Lock l) × (l.shared ≡ false)
update_alone Slot.Vacant i e = absurd (cc)
update_alone (Slot.Item x u) i e = absurd (cc)
update_alone (Slot.Lock l) i e = by_id (tested (l.id == i)) e
  where
    by_id : Tested (l.id == i) → cond (l.id == i) (Regions.updated_by l.shared l.holders) Updated.Expired ≡ Updated.Stored →
        (k : LockState) × (Slot.Lock l ≡ Slot.Lock k) × (k.shared ≡ false)
    by_id (inl x) e = let g : Regions.updated_by l.shared l.holders ≡ Updated.Stored = rw x at e in (l, refl, updated_alone l.shared l.holders g)
    by_id (inr x) e = let g : Updated.Expired ≡ Updated.Stored = rw x at e in absurd (cc)

pub evict_free : (s : Slot) → Regions.evict s ≡ Evicted.Gone → holder_count s ≡ 0
evict_free Slot.Vacant e = refl
evict_free (Slot.Item x u) e = refl
evict_free (Slot.Lock l) e = by_holders (tested (is_positive l.holders)) e
  where
    by_holders : Tested (is_positive l.holders) → cond (is_positive l.holders) Evicted.Held Evicted.Gone ≡ Evicted.Gone → l.holders ≡ 0
    by_holders (inl x) e = let g : Evicted.Held ≡ Evicted.Gone = rw x at e in absurd (cc)
    by_holders (inr x) e = positive_false l.holders x
