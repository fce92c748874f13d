-- Slots that stand for the histories of their keys, and what a touch of one key leaves of that.
use Rattle.std.specs.Option.{option_or}
use Rattle.std.proofs.Common.{◌≡◌, ◌≤◌, ◌<◌, ℕ, suc, inl, inr, Bool, true, false, cond, nat_eq, [], ◌∷◌, Some, None, Option, is_some, refl, sym, ap, ◌∙◌, subst, arith, eq-eqb, true≢false}
use Rattle.std.specs.Map.{lookup, remove_entry}
use Rattle.std.specs.Cmp.{nat_eq_equiv}
use Rattle.std.proofs.lemmas.Bool.{eqb-true}
use Rattle.indexmap.specs.IndexMap.{insert_entry}
use Rattle.indexmap.proofs.MapLemmas.{absent_from_lookup, insert_entry-absent}
use Rattle.hib_base.proofs.Tables.{Tested, tested}
use Rattle.hib_journal.specs.Slot.{Touch, History, Slot, slot_from}
use Rattle.hib_journal.specs.Room.{place, is_earlier}
use Rattle.hib_journal.proofs.Slots.{touched, IsFor, IsKept, slot_step}
use Rattle.hib_soft_lock.specs.declared.slot.Slot.{Slot as Kept}
use Rattle.hib_soft_lock.specs.Shown.{shown}
use Rattle.hib_soft_lock.specs.Steps.{holders_in}
use Rattle.hib_room_laws.specs.Order.{AreLater, IsInOrder, IsUpTo}
use Rattle.hib_room_laws.proofs.Order.{order_moved, order_same, order_without, order_push, lookup_without}
use Rattle.hib_rw_region.specs.Region.{Slots, shown_in}

abbrev pub Histories : Type 0
Histories = ℕ → History

pub record IsStanding (timeout : ℕ) (slots : Slots) (hist : Histories) (last : ℕ) : Type 0 where
  pub same : (i : ℕ) → shown_in (lookup (nat_eq i) slots) ≡ slot_from timeout (hist i)
  pub kept : (i : ℕ) → IsKept timeout (hist i)
  pub order : IsInOrder (λ i. place (hist i)) slots
  pub placed : (i : ℕ) → lookup (nat_eq i) slots ≡ None → place (hist i) ≡ None
  pub before : (i : ℕ) → IsUpTo last (place (hist i))
  pub few : (i : ℕ) → holders_in (shown_in (lookup (nat_eq i) slots)) ≤ last

pub standing_for : (timeout last : ℕ) (slots : Slots) (hist other : Histories) → ((i : ℕ) → other i ≡ hist i) → IsStanding timeout slots hist last → IsStanding timeout slots other last
standing_for timeout last slots hist other same s = subst (λ (f : Histories). IsStanding timeout slots f last) (λ j i. sym (same i) j) s

up_to_later : (last now : ℕ) (p : Option ℕ) → last ≤ now → IsUpTo last p → IsUpTo now p
up_to_later last now None l b = tt
up_to_later last now (Some t) l b = omega arith

pub standing_later : (timeout last now : ℕ) (slots : Slots) (hist : Histories) → last ≤ now → IsStanding timeout slots hist last → IsStanding timeout slots hist now
standing_later timeout last now slots hist l s = record {
  same = s.same;
  kept = s.kept;
  order = s.order;
  placed = s.placed;
  before = λ i. up_to_later last now (place (hist i)) l (s.before i);
  few = λ i. omega (arith, s.few i);
}

-- a slot that is set at a key

pub lookup_set : (x i : ℕ) (slot : Kept) (slots : Slots) → lookup (nat_eq i) (insert_entry nat_eq slots x slot) ≡ cond (nat_eq x i) (Some slot) (lookup (nat_eq i) slots)
lookup_set x i slot [] = ap (λ b. cond b (Some slot) None) (nat_eq_equiv.symm i x)
lookup_set x i slot (e ∷ es) = by (tested (nat_eq x e.0)) (tested (nat_eq i e.0)) (lookup_set x i slot es)
  where
    by : Tested (nat_eq x e.0) → Tested (nat_eq i e.0) → lookup (nat_eq i) (insert_entry nat_eq es x slot) ≡ cond (nat_eq x i) (Some slot) (lookup (nat_eq i) es)
        → lookup (nat_eq i) (insert_entry nat_eq (e ∷ es) x slot) ≡ cond (nat_eq x i) (Some slot) (lookup (nat_eq i) (e ∷ es))
    by (inl p) (inl q) r =
        let n : nat_eq x i ≡ true = eq-eqb x i (eqb-true x e.0 p ∙ sym (eqb-true i e.0 q)) in rw (p, q, n)
    by (inl p) (inr q) r =
        let n : nat_eq x i ≡ false = ap (λ k. nat_eq k i) (eqb-true x e.0 p) ∙ nat_eq_equiv.symm e.0 i ∙ q in rw (p, q, n)
    by (inr p) (inl q) r =
        let n : nat_eq x i ≡ false = ap (nat_eq x) (eqb-true i e.0 q) ∙ p in rw (p, q, n)
    by (inr p) (inr q) r = rw (p, q) r

later_set : (at : ℕ → Option ℕ) (p : Option ℕ) (x : ℕ) (slot : Kept) (slots : Slots) → is_some (lookup (nat_eq x) slots) ≡ true → AreLater at p slots → AreLater at p (insert_entry nat_eq slots x slot)
later_set at p x slot [] there h = absurd (true≢false (sym there))
later_set at p x slot (e ∷ es) there h = by (tested (nat_eq x e.0)) (λ t. later_set at p x slot es t h.1)
  where
    by : Tested (nat_eq x e.0) → (is_some (lookup (nat_eq x) es) ≡ true → AreLater at p (insert_entry nat_eq es x slot)) → AreLater at p (insert_entry nat_eq (e ∷ es) x slot)
    by (inl n) r = rw n h
    by (inr n) r = let t : is_some (lookup (nat_eq x) es) ≡ true = rw n at there in rw n (h.0, r t)

order_set : (at : ℕ → Option ℕ) (x : ℕ) (slot : Kept) (slots : Slots) → is_some (lookup (nat_eq x) slots) ≡ true → IsInOrder at slots → IsInOrder at (insert_entry nat_eq slots x slot)
order_set at x slot [] there h = absurd (true≢false (sym there))
order_set at x slot (e ∷ es) there h = by (tested (nat_eq x e.0)) (λ t. order_set at x slot es t h.2)
  where
    by : Tested (nat_eq x e.0) → (is_some (lookup (nat_eq x) es) ≡ true → IsInOrder at (insert_entry nat_eq es x slot)) → IsInOrder at (insert_entry nat_eq (e ∷ es) x slot)
    by (inl n) r = rw n h
    by (inr n) r = let t : is_some (lookup (nat_eq x) es) ≡ true = rw n at there in rw n (h.0, later_set at (at e.0) x slot es t h.1, r t)

-- a key that is there has a place
pub place_there : (at : ℕ → Option ℕ) (x : ℕ) (slots : Slots) → IsInOrder at slots → is_some (lookup (nat_eq x) slots) ≡ true → is_earlier (at x) None ≡ true
place_there at x [] h there = absurd (true≢false (sym there))
place_there at x (e ∷ es) h there = by (tested (nat_eq x e.0)) (place_there at x es h.2)
  where
    by : Tested (nat_eq x e.0) → (is_some (lookup (nat_eq x) es) ≡ true → is_earlier (at x) None ≡ true) → is_earlier (at x) None ≡ true
    by (inl n) r = ap (λ i. is_earlier (at i) None) (eqb-true x e.0 n) ∙ h.0
    by (inr n) r = r (rw n at there)

-- a key leaves

module _ (timeout last : ℕ) (slots : Slots) (hist : Histories) (s : IsStanding timeout slots hist last) (v now : ℕ) where
  abbrev left_hist : Histories
  left_hist i = cond (nat_eq v i) ((Touch.Leaves, now) ∷ hist i) (hist i)

  look : (i : ℕ) → lookup (nat_eq i) (remove_entry (nat_eq v) slots) ≡ cond (nat_eq v i) None (lookup (nat_eq i) slots)
  look i = lookup_without (λ j. place (hist j)) v i slots s.order

  pub standing_left : IsStanding timeout (remove_entry (nat_eq v) slots) left_hist last
  unfolding slot_from
  standing_left = record {
    same = λ i. ap shown_in (look i) ∙ same_by i (nat_eq v i);
    kept = λ i. kept_by i (nat_eq v i);
    order = order_moved v (λ i. place (hist i)) (λ i. place (left_hist i)) (λ i d. ap (λ b. place (cond b ((Touch.Leaves, now) ∷ hist i) (hist i))) d)
        (remove_entry (nat_eq v) slots) (look v ∙ ap (λ b. cond b None (lookup (nat_eq v) slots)) (eq-eqb v v refl)) (order_without (λ i. place (hist i)) v slots s.order);
    placed = λ i none. placed_by i (nat_eq v i) (sym (look i) ∙ none);
    before = λ i. before_by i (nat_eq v i);
    few = λ i. subst (λ o. holders_in (shown_in o) ≤ last) (sym (look i)) (few_by i (nat_eq v i));
  }
    where
      same_by : (i : ℕ) (b : Bool) → shown_in (cond b None (lookup (nat_eq i) slots)) ≡ slot_from timeout (cond b ((Touch.Leaves, now) ∷ hist i) (hist i))
      same_by i true = refl
      same_by i false = s.same i

      kept_by : (i : ℕ) (b : Bool) → IsKept timeout (cond b ((Touch.Leaves, now) ∷ hist i) (hist i))
      kept_by i true = (tt, s.kept i)
      kept_by i false = s.kept i

      placed_by : (i : ℕ) (b : Bool) → cond b None (lookup (nat_eq i) slots) ≡ None → place (cond b ((Touch.Leaves, now) ∷ hist i) (hist i)) ≡ None
      placed_by i true none = refl
      placed_by i false none = s.placed i none

      before_by : (i : ℕ) (b : Bool) → IsUpTo last (place (cond b ((Touch.Leaves, now) ∷ hist i) (hist i)))
      before_by i true = tt
      before_by i false = s.before i

      few_by : (i : ℕ) (b : Bool) → holders_in (shown_in (cond b None (lookup (nat_eq i) slots))) ≤ last
      few_by i true = omega arith
      few_by i false = s.few i

-- a key is touched otherwise, later than all before

few_more : (timeout now : ℕ) (t : Touch) (slot : Slot) → IsFor t slot → holders_in (touched timeout t now slot) ≤ suc (holders_in slot)
few_more timeout now (Touch.Stores r x) slot f = omega arith
few_more timeout now Touch.Evicts slot f = omega arith
few_more timeout now Touch.Expires slot f = omega arith
few_more timeout now Touch.Leaves slot f = omega arith
few_more timeout now (Touch.Locks v) Slot.Vacant f = omega arith
few_more timeout now (Touch.Locks v) (Slot.Item r t) f = omega arith
few_more timeout now (Touch.Locks v) (Slot.Lock l) f = omega arith
few_more timeout now (Touch.Releases n) Slot.Vacant f = absurd f
few_more timeout now (Touch.Releases n) (Slot.Item r t) f = absurd f
few_more timeout now (Touch.Releases n) (Slot.Lock l) f = omega arith

up_to_now : (last now : ℕ) (p : Option ℕ) → last < now → IsUpTo last p → IsUpTo now (option_or p (Some now))
up_to_now last now None l b = omega arith
up_to_now last now (Some t) l b = omega arith

earlier_place : (p : Option ℕ) (now : ℕ) → is_earlier p None ≡ true → option_or p (Some now) ≡ p
earlier_place None now h = absurd (true≢false (sym h))
earlier_place (Some t) now h = refl

module _ (timeout last : ℕ) (slots : Slots) (hist : Histories) (s : IsStanding timeout slots hist last) (x now : ℕ) (t : Touch) (slot : Kept)
    (later : last < now) (for : IsFor t (slot_from timeout (hist x))) (is : shown slot ≡ touched timeout t now (slot_from timeout (hist x)))
    (at_place : place ((t, now) ∷ hist x) ≡ option_or (place (hist x)) (Some now)) where
  abbrev touched_hist : Histories
  touched_hist i = cond (nat_eq x i) ((t, now) ∷ hist i) (hist i)

  abbrev set_slots : Slots
  set_slots = insert_entry nat_eq slots x slot

  place_other : (i : ℕ) → nat_eq x i ≡ false → place (touched_hist i) ≡ place (hist i)
  place_other i d = ap (λ b. place (cond b ((t, now) ∷ hist i) (hist i))) d

  place_self : place (touched_hist x) ≡ option_or (place (hist x)) (Some now)
  place_self = ap (λ b. place (cond b ((t, now) ∷ hist x) (hist x))) (eq-eqb x x refl) ∙ at_place

  order_there : is_some (lookup (nat_eq x) slots) ≡ true → IsInOrder (λ i. place (touched_hist i)) set_slots
  order_there there = order_set (λ i. place (touched_hist i)) x slot slots there
      (order_same (λ i. place (hist i)) (λ i. place (touched_hist i)) (λ i. by i (tested (nat_eq x i))) slots s.order)
    where
      by : (i : ℕ) → Tested (nat_eq x i) → place (touched_hist i) ≡ place (hist i)
      by i (inl n) =
          let e : x ≡ i = eqb-true x i n in
          subst (λ k. place (touched_hist k) ≡ place (hist k)) e (place_self ∙ earlier_place (place (hist x)) now (place_there (λ j. place (hist j)) x slots s.order there))
      by i (inr n) = place_other i n

  order_new : lookup (nat_eq x) slots ≡ None → IsInOrder (λ i. place (touched_hist i)) set_slots
  order_new none =
      let p : place (touched_hist x) ≡ Some now = place_self ∙ ap (λ q. option_or q (Some now)) (s.placed x none) in
      subst (λ (l : Slots). IsInOrder (λ i. place (touched_hist i)) l) (sym (insert_entry-absent nat_eq x slot slots (absent_from_lookup (nat_eq x) slots none)))
      (order_push (λ i. place (touched_hist i)) slots (x, slot) last now
      (order_moved x (λ i. place (hist i)) (λ i. place (touched_hist i)) place_other slots none s.order) p later none
      (λ i d. subst (IsUpTo last) (sym (place_other i d)) (s.before i)))

  order_now : IsInOrder (λ i. place (touched_hist i)) set_slots
  order_now = by (lookup (nat_eq x) slots) refl
    where
      by : (o : Option Kept) → lookup (nat_eq x) slots ≡ o → IsInOrder (λ i. place (touched_hist i)) set_slots
      by None e = order_new e
      by (Some v) e = order_there (ap is_some e)

  step : slot_from timeout ((t, now) ∷ hist x) ≡ shown slot
  step = slot_step timeout t now (hist x) (for, s.kept x) ∙ sym is

  few_self : holders_in (shown slot) ≤ now
  few_self =
      let a : holders_in (touched timeout t now (slot_from timeout (hist x))) ≤ suc (holders_in (slot_from timeout (hist x))) = few_more timeout now t (slot_from timeout (hist x)) for in
      let b : holders_in (slot_from timeout (hist x)) ≤ last = subst (λ k. holders_in k ≤ last) (s.same x) (s.few x) in
      let c : holders_in (shown slot) ≡ holders_in (touched timeout t now (slot_from timeout (hist x))) = ap holders_in is in
      omega arith

  pub standing_touched : IsStanding timeout set_slots touched_hist now
  standing_touched = record {
    same = λ i. ap shown_in (lookup_set x i slot slots) ∙ same_by i (tested (nat_eq x i));
    kept = λ i. kept_by i (tested (nat_eq x i));
    order = order_now;
    placed = λ i none. placed_by i (tested (nat_eq x i)) (sym (lookup_set x i slot slots) ∙ none);
    before = λ i. before_by i (tested (nat_eq x i));
    few = λ i. subst (λ o. holders_in (shown_in o) ≤ now) (sym (lookup_set x i slot slots)) (few_by i (nat_eq x i));
  }
    where
      same_by : (i : ℕ) → Tested (nat_eq x i) → shown_in (cond (nat_eq x i) (Some slot) (lookup (nat_eq i) slots)) ≡ slot_from timeout (cond (nat_eq x i) ((t, now) ∷ hist i) (hist i))
      same_by i (inl n) = rw n (let e : x ≡ i = eqb-true x i n in subst (λ k. shown slot ≡ slot_from timeout ((t, now) ∷ hist k)) e (sym step))
      same_by i (inr n) = rw n (s.same i)

      kept_by : (i : ℕ) → Tested (nat_eq x i) → IsKept timeout (cond (nat_eq x i) ((t, now) ∷ hist i) (hist i))
      kept_by i (inl n) = rw n (let e : x ≡ i = eqb-true x i n in subst (λ k. IsKept timeout ((t, now) ∷ hist k)) e (for, s.kept x))
      kept_by i (inr n) = rw n (s.kept i)

      placed_by : (i : ℕ) → Tested (nat_eq x i) → cond (nat_eq x i) (Some slot) (lookup (nat_eq i) slots) ≡ None → place (cond (nat_eq x i) ((t, now) ∷ hist i) (hist i)) ≡ None
      placed_by i (inl n) none = let f : ◌≡◌ {A = Option Kept} (Some slot) None = rw n at none in absurd (some_none f)
        where
          some_none : ◌≡◌ {A = Option Kept} (Some slot) None → ⊥
          some_none q = cc
      placed_by i (inr n) none = rw n (s.placed i (rw n at none))

      before_by : (i : ℕ) → Tested (nat_eq x i) → IsUpTo now (place (cond (nat_eq x i) ((t, now) ∷ hist i) (hist i)))
      before_by i (inl n) =
          let e : x ≡ i = eqb-true x i n in
          rw n (subst (λ k. IsUpTo now (place ((t, now) ∷ hist k))) e (subst (IsUpTo now) (sym at_place) (up_to_now last now (place (hist x)) later (s.before x))))
      before_by i (inr n) = rw n (up_to_later last now (place (hist i)) (omega arith) (s.before i))

      few_by : (i : ℕ) (b : Bool) → holders_in (shown_in (cond b (Some slot) (lookup (nat_eq i) slots))) ≤ now
      few_by i true = few_self
      few_by i false = omega (arith, s.few i)
