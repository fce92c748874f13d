-- Slots in two parts, of which the first one is turned round.
use Rattle.std.proofs.Common.{◌≡◌, inl, inr, ℕ, zero, suc, ◌-◌, ◌<◌, Bool, true, false, cond, nat_eq, List, [], ◌∷◌, ◌++◌, reverse, take, slice_get, Some, None, Option, is_some, refl, sym, ap, ◌∙◌, arith}
use Rattle.std.specs.Map.{keys_of, lookup}
use Rattle.std.specs.List.{IsDistinct}
use Rattle.std.proofs.lemmas.Bool.{eqb-true}
use Rattle.std.proofs.lemmas.List.{reverse-append}
use Rattle.indexmap.specs.IndexMap.{insert_entry}
use Rattle.hib_base.proofs.Tables.{Tested, tested}
use Rattle.hib_journal.specs.Room.{may_leave}
use Rattle.hib_turned.proofs.Turned.{reverse_more, or_else, IsOnce, lookup_turned, distinct_once}
use Rattle.hib_soft_lock.specs.declared.slot.Slot.{Slot as Kept}
use Rattle.hib_soft_lock.specs.Shown.{shown}
use Rattle.hib_room_laws.specs.Queued.{queued}
use Rattle.hib_room_laws.proofs.Queued.{lookup_queued}
use Rattle.hib_rw_region.specs.Region.{Slots, victim_in}
use Rattle.hib_rw_region.specs.Steps.{changed, changed_by}

module _ (id : ℕ) (slot : Kept) where
  put_before : (a b : Slots) → is_some (lookup (nat_eq id) a) ≡ true → insert_entry nat_eq (a ++ b) id slot ≡ insert_entry nat_eq a id slot ++ b
  put_before [] b s = absurd (cc)
  put_before (e ∷ a) b s = by (nat_eq id e.0) s (put_before a b)
    where
      by : (t : Bool) → is_some (cond t (Some e.1) (lookup (nat_eq id) a)) ≡ true → (is_some (lookup (nat_eq id) a) ≡ true → insert_entry nat_eq (a ++ b) id slot ≡ insert_entry nat_eq a id slot ++ b)
          → cond t ((e.0, slot) ∷ (a ++ b)) (e ∷ insert_entry nat_eq (a ++ b) id slot) ≡ cond t ((e.0, slot) ∷ a) (e ∷ insert_entry nat_eq a id slot) ++ b
      by true s h = refl
      by false s h = ap (λ x. e ∷ x) (h s)

  put_behind : (a b : Slots) → is_some (lookup (nat_eq id) a) ≡ false → insert_entry nat_eq (a ++ b) id slot ≡ a ++ insert_entry nat_eq b id slot
  put_behind [] b s = refl
  put_behind (e ∷ a) b s = by (nat_eq id e.0) s (put_behind a b)
    where
      by : (t : Bool) → is_some (cond t (Some e.1) (lookup (nat_eq id) a)) ≡ false → (is_some (lookup (nat_eq id) a) ≡ false → insert_entry nat_eq (a ++ b) id slot ≡ a ++ insert_entry nat_eq b id slot)
          → cond t ((e.0, slot) ∷ (a ++ b)) (e ∷ insert_entry nat_eq (a ++ b) id slot) ≡ e ∷ (a ++ insert_entry nat_eq b id slot)
      by true s h = absurd (cc)
      by false s h = ap (λ x. e ∷ x) (h s)

  put_turned : (es : Slots) → IsOnce (nat_eq id) es → is_some (lookup (nat_eq id) es) ≡ true → insert_entry nat_eq (reverse es) id slot ≡ reverse (insert_entry nat_eq es id slot)
  put_turned [] o s = absurd (cc)
  put_turned (e ∷ es) o s =
      ap (λ x. insert_entry nat_eq x id slot) (reverse_more e es) ∙ by (tested (nat_eq id e.0)) s (put_turned es o.1)
    where
      same : is_some (lookup (nat_eq id) (reverse es)) ≡ is_some (lookup (nat_eq id) es)
      same = ap is_some (lookup_turned (nat_eq id) es o.1)

      by : Tested (nat_eq id e.0) → is_some (cond (nat_eq id e.0) (Some e.1) (lookup (nat_eq id) es)) ≡ true
          → (is_some (lookup (nat_eq id) es) ≡ true → insert_entry nat_eq (reverse es) id slot ≡ reverse (insert_entry nat_eq es id slot))
          → insert_entry nat_eq (reverse es ++ e ∷ []) id slot ≡ reverse (cond (nat_eq id e.0) ((e.0, slot) ∷ es) (e ∷ insert_entry nat_eq es id slot))
      by (inl t) s h = put_behind (reverse es) (e ∷ []) (same ∙ ap is_some (o.0 t)) ∙ rw t (sym (reverse_more (e.0, slot) es))
      by (inr t) s h =
          let there : is_some (lookup (nat_eq id) es) ≡ true = rw t at s in
          put_before (reverse es) (e ∷ []) (same ∙ there) ∙ ap (λ x. x ++ e ∷ []) (h there) ∙ rw t (sym (reverse_more e (insert_entry nat_eq es id slot)))

module _ (id : ℕ) (f b : Slots) (d : IsDistinct nat_eq (keys_of f)) where
  once : IsOnce (nat_eq id) f
  once = distinct_once nat_eq eqb-true id f d

  turned_some : is_some (lookup (nat_eq id) (reverse f)) ≡ is_some (lookup (nat_eq id) f)
  turned_some = ap is_some (lookup_turned (nat_eq id) f once)

  pub look_front : is_some (lookup (nat_eq id) f) ≡ true → lookup (nat_eq id) (queued f b) ≡ lookup (nat_eq id) f
  look_front s = lookup_queued id f b d ∙ by (lookup (nat_eq id) f) s
    where
      by : (o : Option Kept) → is_some o ≡ true → or_else o (lookup (nat_eq id) b) ≡ o
      by None t = absurd (cc)
      by (Some x) t = refl

  pub look_back : is_some (lookup (nat_eq id) f) ≡ false → lookup (nat_eq id) (queued f b) ≡ lookup (nat_eq id) b
  look_back s = lookup_queued id f b d ∙ by (lookup (nat_eq id) f) s
    where
      by : (o : Option Kept) → is_some o ≡ false → or_else o (lookup (nat_eq id) b) ≡ lookup (nat_eq id) b
      by None t = refl
      by (Some x) t = absurd (cc)

  pub put_front : (slot : Kept) → is_some (lookup (nat_eq id) f) ≡ true → queued (insert_entry nat_eq f id slot) b ≡ insert_entry nat_eq (queued f b) id slot
  put_front slot s = sym (put_before id slot (reverse f) b (turned_some ∙ s) ∙ ap (λ x. x ++ b) (put_turned id slot f once s))

  pub put_back : (slot : Kept) → is_some (lookup (nat_eq id) f) ≡ false → queued f (insert_entry nat_eq b id slot) ≡ insert_entry nat_eq (queued f b) id slot
  put_back slot s = sym (put_behind id slot (reverse f) b (turned_some ∙ s))

  pub changed_front : (g : Kept → Kept) → is_some (lookup (nat_eq id) f) ≡ true → queued (changed id g f) b ≡ changed id g (queued f b)
  changed_front g s = by (lookup (nat_eq id) f) s ∙ ap (changed_by id g (queued f b)) (sym (look_front s))
    where
      by : (o : Option Kept) → is_some o ≡ true → queued (changed_by id g f o) b ≡ changed_by id g (queued f b) o
      by None t = absurd (cc)
      by (Some x) t = put_front (g x) s

  pub changed_back : (g : Kept → Kept) → is_some (lookup (nat_eq id) f) ≡ false → queued f (changed id g b) ≡ changed id g (queued f b)
  changed_back g s = by (lookup (nat_eq id) b) ∙ ap (changed_by id g (queued f b)) (sym (look_back s))
    where
      by : (o : Option Kept) → queued f (changed_by id g b o) ≡ changed_by id g (queued f b) o
      by None = refl
      by (Some x) = put_back (g x) s

-- the first that may leave
pub victim_joined : (floor : ℕ) (a b : Slots) → victim_in floor (a ++ b) ≡ or_else (victim_in floor a) (victim_in floor b)
victim_joined floor [] b = refl
victim_joined floor (e ∷ a) b = by (tested (may_leave floor (shown e.1))) (victim_joined floor a b)
  where
    by : Tested (may_leave floor (shown e.1)) → victim_in floor (a ++ b) ≡ or_else (victim_in floor a) (victim_in floor b)
        → victim_in floor ((e ∷ a) ++ b) ≡ or_else (victim_in floor (e ∷ a)) (victim_in floor b)
    by (inl t) h = rw t refl
    by (inr t) h = rw t h

taken : {A : Type 0} (xs : List A) (n : ℕ) (x : A) → slice_get xs n ≡ Some x → take (suc n) xs ≡ take n xs ++ x ∷ []
taken [] n x e = absurd (cc)
taken (y ∷ ys) zero x e = let s : y ≡ x = cc in ap (λ z. z ∷ []) s
taken (y ∷ ys) (suc n) x e = ap (λ z. y ∷ z) (taken ys n x e)

last_taken : (es : Slots) (n : ℕ) (e : ℕ × Kept) → 0 < n → slice_get es (n - 1) ≡ Some e → reverse (take n es) ≡ e ∷ reverse (take (n - 1) es)
last_taken es zero e l h = absurd (omega arith)
last_taken es (suc n) e l h =
    let i : suc n - 1 ≡ n = omega arith in
    let g : slice_get es n ≡ Some e = rw i at h in
    rw i (ap reverse (taken es n e g) ∙ reverse-append (take n es) (e ∷ []))

pub victim_passed : (floor n : ℕ) (es : Slots) (e : ℕ × Kept) → 0 < n → slice_get es (n - 1) ≡ Some e → may_leave floor (shown e.1) ≡ false
    → victim_in floor (reverse (take n es)) ≡ victim_in floor (reverse (take (n - 1) es))
victim_passed floor n es e l h t = ap (victim_in floor) (last_taken es n e l h) ∙ rw t refl

pub victim_found : (floor n : ℕ) (es : Slots) (e : ℕ × Kept) → 0 < n → slice_get es (n - 1) ≡ Some e → may_leave floor (shown e.1) ≡ true
    → victim_in floor (reverse (take n es)) ≡ Some e.0
victim_found floor n es e l h t = ap (victim_in floor) (last_taken es n e l h) ∙ rw t refl
