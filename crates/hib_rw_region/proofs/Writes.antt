-- Slots that are written by index, and a victim that leaves after the new key has come.
use Rattle.std.specs.Prelude.{◌==◌}
use Rattle.std.specs.Option.{option_map_or}
use Rattle.std.proofs.Common.{◌≡◌, ℕ, inl, inr, false, nat_eq, [], ◌∷◌, Some, position, slice_get, sym, ap, ◌∙◌, subst}
use Rattle.std.specs.Map.{keys_of, values_of, remove_entry}
use Rattle.std.proofs.lemmas.Bool.{eqb-true}
use Rattle.indexmap.specs.IndexMap.{insert_entry, set_value_at}
use Rattle.indexmap.proofs.MapLemmas.{Found-position, insert_entry-first}
use Rattle.hib_base.proofs.Tables.{Tested, tested}
use Rattle.hib_soft_lock.specs.declared.slot.Slot.{Slot as Kept}
use Rattle.hib_rw_region.specs.Region.{Slots, RegionState}
use Rattle.hib_rw_region.specs.Steps.{changed, changed_by, with_slot, without}

-- a write by index is a write by key
pub written : (id i : ℕ) (slots : Slots) (slot : Kept) → position (nat_eq id) (keys_of slots) ≡ Some i → set_value_at slots i slot ≡ insert_entry nat_eq slots id slot
written id i slots slot at = sym (insert_entry-first nat_eq id slot slots i (Found-position (nat_eq id) slots i at).first)

-- a change by index is a change by key
pub changed_at : (id i : ℕ) (change : Kept → Kept) (slots : Slots) (slot : Kept) → position (nat_eq id) (keys_of slots) ≡ Some i → slice_get (values_of slots) i ≡ Some slot → set_value_at slots i (change slot) ≡ changed id change slots
changed_at id i change slots slot at is =
    written id i slots (change slot) at ∙ ap (changed_by id change slots) (sym ((Found-position (nat_eq id) slots i at).value ∙ is))

-- another key leaves, before or after
pub left_after : (v id : ℕ) (slots : Slots) (slot : Kept) → nat_eq v id ≡ false → remove_entry (nat_eq v) (insert_entry nat_eq slots id slot) ≡ insert_entry nat_eq (remove_entry (nat_eq v) slots) id slot
left_after v id [] slot d = rw d
left_after v id (e ∷ es) slot d = by (tested (nat_eq id e.0)) (tested (nat_eq v e.0)) (left_after v id es slot d)
  where
    by : Tested (nat_eq id e.0) → Tested (nat_eq v e.0) → remove_entry (nat_eq v) (insert_entry nat_eq es id slot) ≡ insert_entry nat_eq (remove_entry (nat_eq v) es) id slot
        → remove_entry (nat_eq v) (insert_entry nat_eq (e ∷ es) id slot) ≡ insert_entry nat_eq (remove_entry (nat_eq v) (e ∷ es)) id slot
    by (inl p) q r =
        let same : id ≡ e.0 = eqb-true id e.0 p in
        let n : nat_eq v e.0 ≡ false = subst (λ i. nat_eq v i ≡ false) same d in rw (p, n, p)
    by (inr p) (inl q) r = rw (p, q)
    by (inr p) (inr q) r = rw (p, q, p, r)

pub placed : (v id : ℕ) (slot : Kept) (state : RegionState) (slots : Slots) → option_map_or (λ x. x == id) (Some v) false ≡ false → slots ≡ remove_entry (nat_eq v) (insert_entry nat_eq state.slots id slot)
    → record state { slots = slots } ≡ with_slot id slot (without (Some v) state)
placed v id slot state slots d is = ap (λ (s : Slots). record state { slots = s }) (is ∙ left_after v id state.slots slot d)
