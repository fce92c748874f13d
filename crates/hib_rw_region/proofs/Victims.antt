-- The victim, as the region finds it: a key that has a slot, and the one that the journal gives.
use Rattle.std.specs.Prelude.{◌==◌, option_map, cond}
use Rattle.std.specs.Option.{option_flatten, option_map_or}
use Rattle.std.proofs.Common.{◌≡◌, ℕ, inl, inr, Bool, true, false, nat_eq, nat_lt, [], ◌∷◌, length, Some, None, Option, is_some, refl, sym, ap, ◌∙◌, subst, true≢false, eq-eqb}
use Rattle.std.specs.Map.{lookup}
use Rattle.std.specs.List.{filter}
use Rattle.std.proofs.lemmas.Bool.{eqb-true}
use Rattle.std.proofs.lemmas.Option.{same_Some}
use Rattle.hib_base.proofs.Tables.{Tested, tested}
use Rattle.hib_journal.specs.Sessions.{Journal}
use Rattle.hib_journal.specs.Slot.{history, slot}
use Rattle.hib_journal.specs.Room.{key, named, place, kept, has_entry, may_leave, victim, room, is_earlier}
use Rattle.hib_soft_lock.specs.declared.slot.Slot.{Slot as Kept}
use Rattle.hib_soft_lock.specs.Shown.{shown}
use Rattle.hib_room_laws.specs.Order.{AreLater, IsInOrder}
use Rattle.hib_room_laws.proofs.Order.{order_filter, absent_head, earlier_self}
use Rattle.hib_room_laws.proofs.First.{HaveSame, same_length, first_in_order}
use Rattle.hib_room_laws.proofs.Named.{named_distinct, filter_distinct, among_filter, left_slot}
use Rattle.hib_rw_region.specs.Region.{Slots, RegionState, victim_in, room_in, kept_in, shown_in}
use Rattle.hib_rw_region.specs.Stands.{IsRegion, place_of}

-- the victim has a slot
victim_kept : (v floor : ℕ) (slots : Slots) → victim_in floor slots ≡ Some v → is_some (lookup (nat_eq v) slots) ≡ true
victim_kept v floor [] first = cc
victim_kept v floor (e ∷ es) first = by (tested (may_leave floor (shown e.1))) (tested (nat_eq v e.0)) (victim_kept v floor es)
  where
    by : Tested (may_leave floor (shown e.1)) → Tested (nat_eq v e.0) → (victim_in floor es ≡ Some v → is_some (lookup (nat_eq v) es) ≡ true) → is_some (lookup (nat_eq v) (e ∷ es)) ≡ true
    by t (inl n) r = rw n refl
    by (inl t) (inr n) r =
        let f : Some e.0 ≡ Some v = rw t at first in
        absurd (true≢false (sym (eq-eqb v e.0 (sym (same_Some e.0 v f))) ∙ n))
    by (inr t) (inr n) r = let f : victim_in floor es ≡ Some v = rw t at first in rw n (r f)

-- so it is not a key that has none
pub victim_apart : (v floor : ℕ) (slots : Slots) → victim_in floor slots ≡ Some v → (id : ℕ) → lookup (nat_eq id) slots ≡ None → option_map_or (λ x. x == id) (Some v) false ≡ false
victim_apart v floor slots first id absent = by (tested (nat_eq v id))
  where
    by : Tested (nat_eq v id) → nat_eq v id ≡ false
    by (inl t) =
        let same : v ≡ id = eqb-true v id t in
        let there : is_some (lookup (nat_eq id) slots) ≡ true = subst (λ i. is_some (lookup (nat_eq i) slots) ≡ true) same (victim_kept v floor slots first) in
        absurd (true≢false (sym there ∙ ap is_some absent))
    by (inr t) = t

pub room_apart : (state : RegionState) (floor id : ℕ) → kept_in state id ≡ None → option_map_or (λ v. v == id) (option_flatten (room_in state floor)) false ≡ false
room_apart state floor id absent = by (nat_lt (length state.slots) state.capacity) (victim_in floor state.slots) refl
  where
    by : (b : Bool) (v : Option ℕ) → victim_in floor state.slots ≡ v → option_map_or (λ x. x == id) (option_flatten (cond b (Some None) (option_map (λ i. Some i) v))) false ≡ false
    by true v e = refl
    by false None e = refl
    by false (Some v) e = victim_apart v floor state.slots e id absent

-- a look-up among the slots that pass a test

passes : (Kept → Bool) → Option Kept → Bool
passes test None = false
passes test (Some slot) = test slot

none_of : (test : Kept → Bool) (id : ℕ) (slots : Slots) → lookup (nat_eq id) slots ≡ None → is_some (lookup (nat_eq id) (filter (λ p. test p.1) slots)) ≡ false
none_of test id [] h = refl
none_of test id (e ∷ es) h = by (tested (test e.1)) (absent_head id e es h) (none_of test id es)
  where
    by : Tested (test e.1) → (nat_eq id e.0 ≡ false) × (lookup (nat_eq id) es ≡ None) → (lookup (nat_eq id) es ≡ None → is_some (lookup (nat_eq id) (filter (λ p. test p.1) es)) ≡ false)
        → is_some (lookup (nat_eq id) (filter (λ p. test p.1) (e ∷ es))) ≡ false
    by (inl t) a r = rw (t, a.0) (r a.1)
    by (inr t) a r = rw t (r a.1)

-- the head of a list in order does not come again
head_once : (place : ℕ → Option ℕ) (x : ℕ) (es : Slots) → AreLater place (place x) es → lookup (nat_eq x) es ≡ None
head_once place x [] h = refl
head_once place x (e ∷ es) h = by (tested (nat_eq x e.0)) (head_once place x es h.1)
  where
    by : Tested (nat_eq x e.0) → lookup (nat_eq x) es ≡ None → lookup (nat_eq x) (e ∷ es) ≡ None
    by (inl t) r =
        let s : x ≡ e.0 = eqb-true x e.0 t in
        absurd (true≢false (sym h.0 ∙ ap (λ i. is_earlier (place i) (place e.0)) s ∙ earlier_self (place e.0)))
    by (inr t) r = rw t r

lookup_filter : (place : ℕ → Option ℕ) (test : Kept → Bool) (id : ℕ) (slots : Slots) → IsInOrder place slots
    → is_some (lookup (nat_eq id) (filter (λ p. test p.1) slots)) ≡ passes test (lookup (nat_eq id) slots)
unfolding passes
lookup_filter place test id [] h = refl
lookup_filter place test id (e ∷ es) h = by (tested (nat_eq id e.0)) (tested (test e.1)) (lookup_filter place test id es h.2)
  where
    by : Tested (nat_eq id e.0) → Tested (test e.1) → is_some (lookup (nat_eq id) (filter (λ p. test p.1) es)) ≡ passes test (lookup (nat_eq id) es)
        → is_some (lookup (nat_eq id) (filter (λ p. test p.1) (e ∷ es))) ≡ passes test (lookup (nat_eq id) (e ∷ es))
    by (inl n) (inl t) r = rw (t, n, t)
    by (inl n) (inr t) r =
        let s : e.0 ≡ id = sym (eqb-true id e.0 n) in
        let a : lookup (nat_eq id) es ≡ None = subst (λ i. lookup (nat_eq i) es ≡ None) s (head_once place e.0 es h.1) in
        rw (t, n, t) (none_of test id es a)
    by (inr n) (inl t) r = rw (t, n) r
    by (inr n) (inr t) r = rw (t, n) r

-- the room by the region's list is that by the journal
module _ (state : RegionState) (n : ℕ) (h : Journal) (stands : IsRegion state n h) where
  vacant_entry : (o : Option Kept) → has_entry (shown_in o) ≡ is_some o
  vacant_entry None = refl
  vacant_entry (Some (Kept.Item r t)) = refl
  vacant_entry (Some (Kept.Lock i v t m x u)) = refl

  vacant_leaves : (floor : ℕ) (o : Option Kept) → may_leave floor (shown_in o) ≡ passes (λ slot. may_leave floor (shown slot)) o
  unfolding passes
  vacant_leaves floor None = refl
  vacant_leaves floor (Some slot) = refl

  same_keys : HaveSame (kept state.timeout n h) state.slots
  same_keys i =
      among_filter n i (λ j. has_entry (slot state.timeout (key n j) h)) h (λ l. ap has_entry (left_slot state.timeout (history (key n i) h) l))
      ∙ ap has_entry (sym (stands.same i)) ∙ vacant_entry (kept_in state i)

  as_many : length (kept state.timeout n h) ≡ length state.slots
  as_many = same_length (place_of n h) (kept state.timeout n h) state.slots
      (filter_distinct (λ j. has_entry (slot state.timeout (key n j) h)) (named n h) (named_distinct n h)) stands.order same_keys

  same_leaving : (floor : ℕ) → HaveSame (filter (λ j. may_leave floor (slot state.timeout (key n j) h)) (named n h)) (filter (λ p. may_leave floor (shown p.1)) state.slots)
  same_leaving floor i =
      among_filter n i (λ j. may_leave floor (slot state.timeout (key n j) h)) h (λ l. ap (may_leave floor) (left_slot state.timeout (history (key n i) h) l))
      ∙ ap (may_leave floor) (sym (stands.same i)) ∙ vacant_leaves floor (kept_in state i)
      ∙ sym (lookup_filter (place_of n h) (λ slot. may_leave floor (shown slot)) i state.slots stands.order)

  victim_is : (floor : ℕ) → victim_in floor state.slots ≡ victim state.timeout n floor h
  unfolding victim
  victim_is floor = sym (first_in_order (place_of n h) (filter (λ j. may_leave floor (slot state.timeout (key n j) h)) (named n h)) (filter (λ p. may_leave floor (shown p.1)) state.slots)
      (order_filter (place_of n h) (λ p. may_leave floor (shown p.1)) state.slots stands.order) (same_leaving floor))

  pub room_is : (floor : ℕ) → room_in state floor ≡ room state.timeout state.capacity n floor h
  unfolding room
  room_is floor = rw (as_many, ← victim_is floor)
