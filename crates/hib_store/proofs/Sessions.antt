-- The changes of a session after a write at its place, and whether a key is among changes.
use Rattle.std.proofs.Common.{◌≡◌, ◌≢◌, ℕ, Bool, true, false, cond, ◌==◌, List, [], ◌∷◌, ◌++◌, nat_eq, Some, None, Option, is_some, position, slice_get, refl, sym, ap, ◌∙◌, inl, inr}
use Rattle.std.proofs.lemmas.Bool.{eq-eqb, ne_eqb, eqb-true, false≢true}
use Rattle.std.specs.Map.{keys_of, values_of, lookup}
use Rattle.indexmap.specs.IndexMap.{insert_entry, set_value_at}
use Rattle.indexmap.proofs.MapLemmas.{Found-position, insert_entry-first}
use Rattle.hib_base.specs.Keys.{same_key}
use Rattle.hib_base.specs.Tables.{key_of, last_on}
use Rattle.hib_base.proofs.Tables.{Tested, tested}
use Rattle.hib_store.specs.Types.{Key, Change}
use Rattle.hib_store.specs.Stores.{Written, changes_in, or_none, is_in}

own_added : (n : ℕ) (y : List Change) (ws : Written) → lookup (nat_eq n) (insert_entry nat_eq ws n y) ≡ Some y
own_added n y [] = rw (eq-eqb n n refl) refl
own_added n y (w ∷ ws) = at (tested (n == w.0)) (own_added n y ws)
  where
    at : Tested (n == w.0) → lookup (nat_eq n) (insert_entry nat_eq ws n y) ≡ Some y → lookup (nat_eq n) (insert_entry nat_eq (w ∷ ws) n y) ≡ Some y
    at (inl p) h = rw (p, p) refl
    at (inr p) h = rw (p, p) h

others_added : (n s : ℕ) (y : List Change) (ws : Written) → n ≢ s → lookup (nat_eq s) (insert_entry nat_eq ws n y) ≡ lookup (nat_eq s) ws
others_added n s y [] d = rw (ne_eqb s n (λ e. d (sym e))) refl
others_added n s y (w ∷ ws) d = at (tested (n == w.0)) (others_added n s y ws d)
  where
    at : Tested (n == w.0) → lookup (nat_eq s) (insert_entry nat_eq ws n y) ≡ lookup (nat_eq s) ws → lookup (nat_eq s) (insert_entry nat_eq (w ∷ ws) n y) ≡ lookup (nat_eq s) (w ∷ ws)
    at (inl p) h = let q : (s == w.0) ≡ false = ne_eqb s w.0 (λ e. d (eqb-true n w.0 p ∙ sym e)) in rw (p, q) refl
    at (inr p) h = rw p (ap (λ o. cond (s == w.0) (Some w.1) o) h)

same_added : (n : ℕ) (x : List Change) (ws : Written) → lookup (nat_eq n) ws ≡ Some x → insert_entry nat_eq ws n x ≡ ws
same_added n x [] e = absurd (cc)
same_added n x (w ∷ ws) e = by (n == w.0) e (λ z. same_added n x ws z)
  where
    by : (b : Bool) → cond b (Some w.1) (lookup (nat_eq n) ws) ≡ Some x → (lookup (nat_eq n) ws ≡ Some x → insert_entry nat_eq ws n x ≡ ws)
        → cond b ((w.0, x) ∷ ws) (w ∷ insert_entry nat_eq ws n x) ≡ w ∷ ws
    by true z i = let q : w.1 ≡ x = cc in ap (λ v. (w.0, v) ∷ ws) (sym q)
    by false z i = ap (λ xs. w ∷ xs) (i z)

-- a write at the place of a session
module _ (n i : ℕ) (ws : Written) (x : List Change) (at : position (nat_eq n) (keys_of ws) ≡ Some i) (is : slice_get (values_of ws) i ≡ Some x) where
  there : lookup (nat_eq n) ws ≡ Some x
  there = (Found-position (nat_eq n) ws i at).value ∙ is

  placed : (y : List Change) → set_value_at ws i y ≡ insert_entry nat_eq ws n y
  placed y = sym (insert_entry-first nat_eq n y ws i (Found-position (nat_eq n) ws i at).first)

  pub unchanged_there : (y : List Change) → y ≡ x → set_value_at ws i y ≡ ws
  unchanged_there y e = ap (λ v. set_value_at ws i v) e ∙ placed x ∙ same_added n x ws there

  pub changed_there : (y : List Change) (c : Change) → y ≡ x ++ c ∷ [] → (s : ℕ) → changes_in (set_value_at ws i y) s ≡ cond (n == s) (changes_in ws s ++ c ∷ []) (changes_in ws s)
  changed_there y c e s = ap (λ vs. changes_in vs s) (placed y) ∙ by (tested (n == s))
    where
      by : Tested (n == s) → changes_in (insert_entry nat_eq ws n y) s ≡ cond (n == s) (changes_in ws s ++ c ∷ []) (changes_in ws s)
      by (inl p) =
          let same : s ≡ n = sym (eqb-true n s p) in
          let left : changes_in (insert_entry nat_eq ws n y) s ≡ y = ap (λ m. changes_in (insert_entry nat_eq ws n y) m) same ∙ ap or_none (own_added n y ws) in
          let right : changes_in ws s ≡ x = ap (λ m. changes_in ws m) same ∙ ap or_none there in
          rw p (left ∙ e ∙ ap (λ v. v ++ c ∷ []) (sym right))
      by (inr p) = let d : n ≢ s = λ q. false≢true (sym p ∙ eq-eqb n s q) in rw p (ap or_none (others_added n s y ws d))

pub is_in_last : (k : Key) (cs : List Change) → is_in k cs ≡ is_some (last_on k cs)
is_in_last k [] = refl
is_in_last k (c ∷ cs) = at (tested (same_key (key_of c) k)) (last_on k cs) refl (is_in_last k cs)
  where
    at : Tested (same_key (key_of c) k) → (o : Option Change) → last_on k cs ≡ o → is_in k cs ≡ is_some (last_on k cs) → is_in k (c ∷ cs) ≡ is_some (last_on k (c ∷ cs))
    at (inl p) (Some d) e h = rw (p, e) refl
    at (inl p) None e h = rw (p, e) refl
    at (inr p) (Some d) e h = rw (p, e) (rw e at h)
    at (inr p) None e h = rw (p, e) (rw e at h)
