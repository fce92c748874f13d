-- The identifiers that a region's acts name: each once, and all that have an entry.
use Rattle.std.specs.Prelude.{option_and_then}
use Rattle.std.specs.Option.{option_map_or}
use Rattle.std.proofs.Common.{◌≡◌, ℕ, inl, inr, Bool, true, false, cond, ◌&&◌, ◌==◌, nat_eq, List, [], ◌∷◌, Option, Some, None, refl, sym, ap, ◌∙◌, subst, true≢false, eq-eqb}
use Rattle.std.specs.List.{IsDistinct, AllByRecursion, filter}
use Rattle.std.specs.Cmp.{nat_eq_equiv}
use Rattle.std.proofs.lemmas.Bool.{eqb-true, or_parts, and_parts}
use Rattle.std.proofs.lemmas.Map.Keys.{IsDistinct-cons}
use Rattle.std.proofs.lemmas.Map.Views.{any-filter_same}
use Rattle.hib_base.specs.Keys.{same_key}
use Rattle.hib_base.proofs.Tables.{Tested, tested}
use Rattle.hib_journal.specs.Types.{Key, Act, Reply}
use Rattle.hib_journal.specs.Sessions.{Journal, is_restart}
use Rattle.hib_journal.specs.Slot.{Touch, History, history, touch, touch_at, key_in, evicted_in, Slot, slot_from}
use Rattle.hib_journal.specs.Room.{key, add_once, add_key, named, item}
use Rattle.hib_room_laws.proofs.First.{is_among}

-- no identifier is named twice

apart_none : (i : ℕ) (ids : List ℕ) → is_among i ids ≡ false → AllByRecursion (λ y. nat_eq i y ≡ false) ids
apart_none i [] h = tt
apart_none i (j ∷ ids) h =
    let p : ((j == i) ≡ false) × (is_among i ids ≡ false) = or_parts (j == i) (is_among i ids) h in
    (nat_eq_equiv.symm i j ∙ p.0, apart_none i ids p.1)

add_once_distinct : (i : ℕ) (ids : List ℕ) → IsDistinct nat_eq ids → IsDistinct nat_eq (add_once i ids)
add_once_distinct i ids d = by (tested (is_among i ids))
  where
    by : Tested (is_among i ids) → IsDistinct nat_eq (add_once i ids)
    by (inl t) = rw t d
    by (inr t) = rw t (IsDistinct-cons nat_eq i ids (apart_none i ids t) d)

add_key_distinct : (n : ℕ) (k : Option Key) (ids : List ℕ) → IsDistinct nat_eq ids → IsDistinct nat_eq (add_key n k ids)
add_key_distinct n None ids d = d
add_key_distinct n (Some k) ids d = by (tested (k.entity == n))
  where
    by : Tested (k.entity == n) → IsDistinct nat_eq (add_key n (Some k) ids)
    by (inl t) = rw t (add_once_distinct k.id ids d)
    by (inr t) = rw t d

pub named_distinct : (n : ℕ) (h : Journal) → IsDistinct nat_eq (named n h)
unfolding IsDistinct
named_distinct n [] = tt
named_distinct n (e ∷ h) = add_key_distinct n (key_in e.act) (named n h) (named_distinct n h)

-- a filter keeps them apart

apart_filter : (i : ℕ) (test : ℕ → Bool) (ids : List ℕ) → AllByRecursion (λ y. nat_eq i y ≡ false) ids → AllByRecursion (λ y. nat_eq i y ≡ false) (filter test ids)
apart_filter i test [] h = tt
apart_filter i test (j ∷ ids) h = by (tested (test j)) (apart_filter i test ids h.1)
  where
    by : Tested (test j) → AllByRecursion (λ y. nat_eq i y ≡ false) (filter test ids) → AllByRecursion (λ y. nat_eq i y ≡ false) (filter test (j ∷ ids))
    by (inl t) r = rw t (h.0, r)
    by (inr t) r = rw t r

pub filter_distinct : (test : ℕ → Bool) (ids : List ℕ) → IsDistinct nat_eq ids → IsDistinct nat_eq (filter test ids)
unfolding IsDistinct
filter_distinct test [] d = tt
filter_distinct test (j ∷ ids) d = by (tested (test j)) (filter_distinct test ids d.1)
  where
    by : Tested (test j) → IsDistinct nat_eq (filter test ids) → IsDistinct nat_eq (filter test (j ∷ ids))
    by (inl t) r = rw t (apart_filter j test ids d.0, r)
    by (inr t) r = rw t r

-- a key that no act names was touched by leaving alone

abbrev pub HasOnlyLeft : History → Type 0
HasOnlyLeft [] = Unit {0}
HasOnlyLeft ((Touch.Leaves, now) ∷ s) = HasOnlyLeft s
HasOnlyLeft ((_, now) ∷ s) = ⊥

among_once : (i j : ℕ) (ids : List ℕ) → is_among i (add_once j ids) ≡ false → is_among i ids ≡ false
among_once i j ids h = by (tested (is_among j ids))
  where
    by : Tested (is_among j ids) → is_among i ids ≡ false
    by (inl t) = rw t at h
    by (inr t) = let g : is_among i (j ∷ ids) ≡ false = rw t at h in (or_parts (j == i) (is_among i ids) g).1

among_self : (i : ℕ) (ids : List ℕ) → is_among i (add_once i ids) ≡ true
among_self i ids = by (tested (is_among i ids))
  where
    by : Tested (is_among i ids) → is_among i (add_once i ids) ≡ true
    by (inl t) = rw t t
    by (inr t) = rw (t, eq-eqb i i refl)

among_before : (n i : ℕ) (k : Option Key) (ids : List ℕ) → is_among i (add_key n k ids) ≡ false → is_among i ids ≡ false
among_before n i None ids h = h
among_before n i (Some k) ids h = by (tested (k.entity == n))
  where
    by : Tested (k.entity == n) → is_among i ids ≡ false
    by (inl t) = let g : is_among i (add_once k.id ids) ≡ false = rw t at h in among_once i k.id ids g
    by (inr t) = rw t at h

abbrev LeavesAtMost : Option Touch → Type 0
LeavesAtMost None = Unit {0}
LeavesAtMost (Some Touch.Leaves) = Unit {0}
LeavesAtMost (Some _) = ⊥

unnamed_touch : (n i : ℕ) (o : Option Key) (ids : List ℕ) (a : Act) (r : Reply) → is_among i (add_key n o ids) ≡ false → LeavesAtMost (option_and_then (λ j. touch_at (key n i) j a r) o)
unnamed_touch n i None ids a r h = tt
unnamed_touch n i (Some k) ids a r h = by (tested (same_key k (key n i))) (tested ((k.entity == n) && option_map_or (λ v. v == i) (evicted_in r) false))
  where
    by : Tested (same_key k (key n i)) → Tested ((k.entity == n) && option_map_or (λ v. v == i) (evicted_in r) false) → LeavesAtMost (touch_at (key n i) k a r)
    by (inl t) v =
        let p : ((k.entity == n) ≡ true) × ((k.id == i) ≡ true) = and_parts (k.entity == n) (k.id == i) t in
        let g : is_among i (add_once k.id ids) ≡ false = rw p.0 at h in
        let e : k.id ≡ i = eqb-true k.id i p.1 in
        absurd (true≢false (sym (among_self i ids) ∙ subst (λ j. is_among i (add_once j ids) ≡ false) e g))
    by (inr t) (inl v) = rw (t, v) tt
    by (inr t) (inr v) = rw (t, v) tt

left_more : (o : Option Touch) (now : ℕ) (s : History) → LeavesAtMost o → HasOnlyLeft s → HasOnlyLeft (option_map_or (λ t. (t, now) ∷ s) o s)
left_more None now s l h = h
left_more (Some Touch.Leaves) now s l h = h
left_more (Some (Touch.Stores r x)) now s l h = absurd l
left_more (Some (Touch.Locks v)) now s l h = absurd l
left_more (Some (Touch.Releases m)) now s l h = absurd l
left_more (Some Touch.Evicts) now s l h = absurd l
left_more (Some Touch.Expires) now s l h = absurd l

pub unnamed_left : (n i : ℕ) (h : Journal) → is_among i (named n h) ≡ false → HasOnlyLeft (history (key n i) h)
unnamed_left n i [] m = tt
unnamed_left n i (e ∷ h) m =
    unless_restart (is_restart e.act)
    (left_more (touch (key n i) e) e.tick (history (key n i) h)
    (unnamed_touch n i (key_in e.act) (named n h) e.act e.reply m)
    (unnamed_left n i h (among_before n i (key_in e.act) (named n h) m)))
  where
    unless_restart : (b : Bool) → HasOnlyLeft (option_map_or (λ t. (t, e.tick) ∷ (history (key n i) h)) (touch (key n i) e) (history (key n i) h)) → HasOnlyLeft (cond b [] (option_map_or (λ t. (t, e.tick) ∷ (history (key n i) h)) (touch (key n i) e) (history (key n i) h)))
    unless_restart true l = tt
    unless_restart false l = l

-- such a key has no item and no slot
pub left_item : (s : History) → HasOnlyLeft s → item s ≡ None
left_item [] h = refl
left_item ((Touch.Leaves, now) ∷ s) h = refl
left_item ((Touch.Stores r x, now) ∷ s) h = absurd h
left_item ((Touch.Locks v, now) ∷ s) h = absurd h
left_item ((Touch.Releases m, now) ∷ s) h = absurd h
left_item ((Touch.Evicts, now) ∷ s) h = absurd h
left_item ((Touch.Expires, now) ∷ s) h = absurd h

pub left_slot : (timeout : ℕ) (s : History) → HasOnlyLeft s → slot_from timeout s ≡ Slot.Vacant
unfolding slot_from
left_slot timeout [] h = refl
left_slot timeout ((Touch.Leaves, now) ∷ s) h = refl
left_slot timeout ((Touch.Stores r x, now) ∷ s) h = absurd h
left_slot timeout ((Touch.Locks v, now) ∷ s) h = absurd h
left_slot timeout ((Touch.Releases m, now) ∷ s) h = absurd h
left_slot timeout ((Touch.Evicts, now) ∷ s) h = absurd h
left_slot timeout ((Touch.Expires, now) ∷ s) h = absurd h

-- an identifier is among those named that pass a test exactly if it passes, if no other passes
pub among_filter : (n i : ℕ) (test : ℕ → Bool) (h : Journal) → (HasOnlyLeft (history (key n i) h) → test i ≡ false) → is_among i (filter test (named n h)) ≡ test i
among_filter n i test h u = any-filter_same (λ j. j == i) test (test i) (λ k t. ap test (eqb-true k i t)) (named n h) ∙ by (tested (is_among i (named n h)))
  where
    and_true : (b : Bool) → (b && true) ≡ b
    and_true true = refl
    and_true false = refl

    by : Tested (is_among i (named n h)) → (test i && is_among i (named n h)) ≡ test i
    by (inl t) = ap (λ b. test i && b) t ∙ and_true (test i)
    by (inr t) = let f : test i ≡ false = u (unnamed_left n i h t) in rw (f)
