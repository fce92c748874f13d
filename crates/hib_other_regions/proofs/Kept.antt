-- A list of items in order of stamps stays so if one goes or comes.
use Rattle.std.specs.Prelude.{option_map}
use Rattle.std.proofs.Common.{◌≡◌, ◌≤◌, ◌<◌, ℕ, Bool, true, false, cond, nat_eq, List, [], ◌∷◌, ◌++◌, Some, None, Option, refl, sym, ap, ◌∙◌, subst, arith, eq-eqb}
use Rattle.std.specs.Map.{lookup, remove_entry}
use Rattle.hib_journal.specs.Types.{Row}
use Rattle.hib_room_laws.specs.Order.{IsInOrder, IsUpTo}
use Rattle.hib_room_laws.proofs.Order.{order_moved, order_without, order_push, lookup_without, lookup_push}

abbrev pub ItemList : Type 0
ItemList = List (ℕ × (Row × ℕ))

abbrev pub stamp_at : ItemList → ℕ → Option ℕ
stamp_at items id = option_map (λ p. p.1) (lookup (nat_eq id) items)

-- stamps rise along the list, and none is above a tick
pub record IsRising (items : ItemList) (last : ℕ) : Type 0 where
  pub order : IsInOrder (stamp_at items) items
  pub before : (id : ℕ) → IsUpTo last (stamp_at items id)

up_to_later : (last now : ℕ) (p : Option ℕ) → last ≤ now → IsUpTo last p → IsUpTo now p
up_to_later last now None l b = tt
up_to_later last now (Some t) l b = omega arith

pub rising_later : (items : ItemList) (last now : ℕ) → last ≤ now → IsRising items last → IsRising items now
rising_later items last now l r = record { order = r.order; before = λ id. up_to_later last now (stamp_at items id) l (r.before id) }

module _ (items : ItemList) (last : ℕ) (r : IsRising items last) where
  pub lookup_gone : (x i : ℕ) → lookup (nat_eq i) (remove_entry (nat_eq x) items) ≡ cond (nat_eq x i) None (lookup (nat_eq i) items)
  lookup_gone x i = lookup_without (stamp_at items) x i items r.order

  gone : (x : ℕ) → lookup (nat_eq x) (remove_entry (nat_eq x) items) ≡ None
  gone x = lookup_gone x x ∙ ap (λ b. cond b None (lookup (nat_eq x) items)) (eq-eqb x x refl)

  up_to_without : (b : Bool) (p : Option (Row × ℕ)) → IsUpTo last (option_map (λ x. x.1) p) → IsUpTo last (option_map (λ x. x.1) (cond b None p))
  up_to_without true p h = tt
  up_to_without false p h = h

  pub rising_without : (x : ℕ) → IsRising (remove_entry (nat_eq x) items) last
  rising_without x = record {
    order = order_moved x (stamp_at items) (stamp_at (remove_entry (nat_eq x) items))
        (λ i d. ap (option_map (λ p. p.1)) (lookup_gone x i) ∙ ap (λ b. option_map (λ p. p.1) (cond b None (lookup (nat_eq i) items))) d)
        (remove_entry (nat_eq x) items) (gone x) (order_without (stamp_at items) x items r.order);
    before = λ i. subst (λ p. IsUpTo last (option_map (λ x. x.1) p)) (sym (lookup_gone x i)) (up_to_without (nat_eq x i) (lookup (nat_eq i) items) (r.before i));
  }

  module _ (x now : ℕ) (row : Row) (absent : lookup (nat_eq x) items ≡ None) (later : last < now) where
    pub lookup_come : (i : ℕ) → lookup (nat_eq i) (items ++ (x, (row, now)) ∷ []) ≡ cond (nat_eq x i) (Some (row, now)) (lookup (nat_eq i) items)
    lookup_come i = lookup_push (x, (row, now)) i items absent

    other : (i : ℕ) → nat_eq x i ≡ false → stamp_at (items ++ (x, (row, now)) ∷ []) i ≡ stamp_at items i
    other i d = ap (option_map (λ p. p.1)) (lookup_come i) ∙ ap (λ b. option_map (λ p. p.1) (cond b (Some (row, now)) (lookup (nat_eq i) items))) d

    up_to_with : (b : Bool) (p : Option (Row × ℕ)) → IsUpTo last (option_map (λ x. x.1) p) → IsUpTo now (option_map (λ x. x.1) (cond b (Some (row, now)) p))
    up_to_with true p h = omega arith
    up_to_with false p h = up_to_later last now (option_map (λ x. x.1) p) (omega arith) h

    pub rising_push : IsRising (items ++ (x, (row, now)) ∷ []) now
    rising_push =
        let e : stamp_at (items ++ (x, (row, now)) ∷ []) x ≡ Some now =
        ap (option_map (λ p. p.1)) (lookup_come x) ∙ ap (λ b. option_map (λ p. p.1) (cond b (Some (row, now)) (lookup (nat_eq x) items))) (eq-eqb x x refl) in
        record {
          order = order_push (stamp_at (items ++ (x, (row, now)) ∷ [])) items (x, (row, now)) last now
              (order_moved x (stamp_at items) (stamp_at (items ++ (x, (row, now)) ∷ [])) other items absent r.order)
              e later absent (λ i d. subst (IsUpTo last) (sym (other i d)) (r.before i));
          before = λ i. subst (λ p. IsUpTo now (option_map (λ x. x.1) p)) (sym (lookup_come i)) (up_to_with (nat_eq x i) (lookup (nat_eq i) items) (r.before i));
        }
