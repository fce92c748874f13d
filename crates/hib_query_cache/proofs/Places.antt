-- Places in a list of results, after one is taken out, and after the last ones are cut off.
use Rattle.std.proofs.Common.{◌≡◌, ◌≢◌, ℕ, zero, suc, ◌+◌, ◌<◌, ◌≤◌, inl, inr, ◌⊎◌, Bool, true, false, cond, ◌||◌, ◌==◌, List, [], ◌∷◌, length, take, slice_get, Some, None, refl, ap, sym, ◌∙◌, subst, arith, one-add}
use Rattle.std.specs.Prelude.{nat_eq}
use Rattle.std.specs.List.{list_any}
use Rattle.std.specs.Map.{lookup_entry, remove_entry}
use Rattle.std.proofs.lemmas.Bool.{eq-eqb, eqb-true, ne_eqb, true≢false}
use Rattle.hib_base.proofs.Tables.{Tested, tested}
use Rattle.hib_journal.specs.Room.{add_once}
use Rattle.hib_journal.specs.Stamps.{names}
use Rattle.hib_journal.specs.Results.{Result}
use Rattle.hib_query_cache.specs.Ranked.{Kept, result_of}
use Rattle.hib_query_cache.specs.Standing.{place, is_ahead, AreDistinct}

pub flip : (a b : ℕ) (t : Bool) → nat_eq a b ≡ t → nat_eq b a ≡ t
flip a b true h = eq-eqb b a (sym (eqb-true a b h))
flip a b false h = ne_eqb b a (λ e. true≢false (sym (eq-eqb a b (sym e)) ∙ h))

pub apart : (a b : ℕ) → nat_eq a b ≡ false → a ≢ b
apart a b h e = true≢false (sym (eq-eqb a b e) ∙ h)

abbrev pub taken : ℕ → List Kept → List Kept
taken q es = remove_entry (nat_eq q) es

-- cut off after some

pub take_found : (m : ℕ) (es : List Kept) (x : ℕ) (v : Result) → result_of x (take m es) ≡ Some v
    → (result_of x es ≡ Some v) × (place x (take m es) ≡ place x es) × (place x es < m) × ((p : ℕ) → is_ahead p x (take m es) ≡ is_ahead p x es)
take_found zero es x v h = absurd (cc)
take_found (suc m) [] x v h = absurd (cc)
take_found (suc m) (e ∷ es) x v h = at (tested (nat_eq x e.0)) (take_found m es x v)
  where
    at : Tested (nat_eq x e.0)
        → (result_of x (take m es) ≡ Some v → (result_of x es ≡ Some v) × (place x (take m es) ≡ place x es) × (place x es < m) × ((p : ℕ) → is_ahead p x (take m es) ≡ is_ahead p x es))
        → (result_of x (e ∷ es) ≡ Some v) × (place x (take (suc m) (e ∷ es)) ≡ place x (e ∷ es)) × (place x (e ∷ es) < suc m) × ((p : ℕ) → is_ahead p x (take (suc m) (e ∷ es)) ≡ is_ahead p x (e ∷ es))
    at (inl t) f = (rw t (rw t at h), rw t refl, rw t (omega arith), λ p. rw t refl)
    at (inr t) f =
        let r = f (rw t at h) in
        let l : place x es < m = r.2 in
        (rw t r.0, rw t (ap (λ n. 1 + n) r.1), rw t (omega arith), λ p. rw t (ap (λ b. nat_eq p e.0 || b) (r.3 p)))

pub take_absent : (m : ℕ) (es : List Kept) (x : ℕ) → result_of x es ≡ None → result_of x (take m es) ≡ None
take_absent zero es x h = refl
take_absent (suc m) [] x h = refl
take_absent (suc m) (e ∷ es) x h = at (tested (nat_eq x e.0)) (take_absent m es x)
  where
    at : Tested (nat_eq x e.0) → (result_of x es ≡ None → result_of x (take m es) ≡ None) → result_of x (take (suc m) (e ∷ es)) ≡ None
    at (inl t) f = let g = rw t at h in cc
    at (inr t) f = rw t (f (rw t at h))

pub take_lost : (m : ℕ) (es : List Kept) (x : ℕ) (v : Result) → result_of x (take m es) ≡ None → result_of x es ≡ Some v → m ≤ place x es
take_lost zero es x v h k = omega arith
take_lost (suc m) [] x v h k = absurd (cc)
take_lost (suc m) (e ∷ es) x v h k = at (tested (nat_eq x e.0)) (take_lost m es x v)
  where
    at : Tested (nat_eq x e.0) → (result_of x (take m es) ≡ None → result_of x es ≡ Some v → m ≤ place x es) → suc m ≤ place x (e ∷ es)
    at (inl t) f = let g = rw t at h in absurd (cc)
    at (inr t) f = let l : m ≤ place x es = f (rw t at h) (rw t at k) in rw t (omega arith)

-- taken out

pub taken_other : (q x : ℕ) (es : List Kept) → x ≢ q → result_of x (taken q es) ≡ result_of x es
taken_other q x [] n = refl
taken_other q x (e ∷ es) n = at (tested (nat_eq q e.0)) (taken_other q x es n)
  where
    at : Tested (nat_eq q e.0) → result_of x (taken q es) ≡ result_of x es → result_of x (taken q (e ∷ es)) ≡ result_of x (e ∷ es)
    at (inl t) h = let u : nat_eq x e.0 ≡ false = ne_eqb x e.0 (λ d. n (d ∙ sym (eqb-true q e.0 t))) in rw (t, u) refl
    at (inr t) h = rw t (ap (λ o. cond (nat_eq x e.0) (Some e.1) o) h)

pub taken_ahead : (q x p : ℕ) (es : List Kept) → x ≢ q → p ≢ q → is_ahead p x (taken q es) ≡ is_ahead p x es
taken_ahead q x p [] n m = refl
taken_ahead q x p (e ∷ es) n m = at (tested (nat_eq q e.0)) (taken_ahead q x p es n m)
  where
    at : Tested (nat_eq q e.0) → is_ahead p x (taken q es) ≡ is_ahead p x es → is_ahead p x (taken q (e ∷ es)) ≡ is_ahead p x (e ∷ es)
    at (inl t) h =
        let u : nat_eq x e.0 ≡ false = ne_eqb x e.0 (λ d. n (d ∙ sym (eqb-true q e.0 t))) in
        let w : nat_eq p e.0 ≡ false = ne_eqb p e.0 (λ d. m (d ∙ sym (eqb-true q e.0 t))) in
        rw (t, u, w) refl
    at (inr t) h = rw t (ap (λ b. cond (nat_eq x e.0) false (nat_eq p e.0 || b)) h)

pub taken_place : (q x : ℕ) (es : List Kept) → x ≢ q → place x (taken q es) + cond (is_ahead q x es) 1 0 ≡ place x es
taken_place q x [] n = refl
taken_place q x (e ∷ es) n = at (tested (nat_eq q e.0)) (tested (nat_eq x e.0)) (taken_place q x es n)
  where
    at : Tested (nat_eq q e.0) → Tested (nat_eq x e.0) → place x (taken q es) + cond (is_ahead q x es) 1 0 ≡ place x es
        → place x (taken q (e ∷ es)) + cond (is_ahead q x (e ∷ es)) 1 0 ≡ place x (e ∷ es)
    at (inl t) (inl u) h = absurd (n (eqb-true x e.0 u ∙ sym (eqb-true q e.0 t)))
    at (inl t) (inr u) h = rw (t, u) (omega arith)
    at (inr t) (inl u) h = rw (t, u) refl
    at (inr t) (inr u) h = rw (t, u) (omega arith)

pub taken_gone : (q : ℕ) (es : List Kept) → AreDistinct es → result_of q (taken q es) ≡ None
taken_gone q [] d = refl
taken_gone q (e ∷ es) d = at (tested (nat_eq q e.0)) (taken_gone q es d.1)
  where
    at : Tested (nat_eq q e.0) → result_of q (taken q es) ≡ None → result_of q (taken q (e ∷ es)) ≡ None
    at (inl t) h = rw t (subst (λ y. result_of y es ≡ None) (sym (eqb-true q e.0 t)) d.0)
    at (inr t) h = rw (t, t) h

pub taken_distinct : (q : ℕ) (es : List Kept) → AreDistinct es → AreDistinct (taken q es)
taken_distinct q [] d = tt
taken_distinct q (e ∷ es) d = at (tested (nat_eq q e.0)) (taken_distinct q es d.1)
  where
    at : Tested (nat_eq q e.0) → AreDistinct (taken q es) → AreDistinct (taken q (e ∷ es))
    at (inl t) h = rw t d.1
    at (inr t) h = rw t (taken_other q e.0 es (λ s. apart q e.0 t (sym s)) ∙ d.0, h)

pub take_distinct : (m : ℕ) (es : List Kept) → AreDistinct es → AreDistinct (take m es)
take_distinct zero es d = tt
take_distinct (suc m) [] d = tt
take_distinct (suc m) (e ∷ es) d = (take_absent m es e.0 d.0, take_distinct m es d.1)

-- whether a query is there, and what is left without it
abbrev pub Entry : ℕ → List Kept → Type 0
Entry q es =
    ((lookup_entry (nat_eq q) es ≡ None) × (result_of q es ≡ None) × (taken q es ≡ es))
    ⊎ ((v : Result) × (lookup_entry (nat_eq q) es ≡ Some (q, v)) × (result_of q es ≡ Some v) × (length (taken q es) + 1 ≡ length es))

pub entry : (q : ℕ) (es : List Kept) → Entry q es
entry q [] = inl (refl, refl, refl)
entry q (e ∷ es) = at (tested (nat_eq q e.0)) (entry q es)
  where
    at : Tested (nat_eq q e.0) → Entry q es → Entry q (e ∷ es)
    at (inl t) h = inr (e.1, rw t (ap (λ y. Some (y, e.1)) (sym (eqb-true q e.0 t))), rw t refl, rw t (omega arith))
    at (inr t) (inl h) = inl (rw t h.0, rw t h.1, rw t (ap (λ y. e ∷ y) h.2))
    at (inr t) (inr h) = let l : length (taken q es) + 1 ≡ length es = h.3 in inr (h.0, rw t h.1, rw t h.2, rw t (omega arith))

-- places

pub place_within : (q : ℕ) (es : List Kept) (v : Result) → result_of q es ≡ Some v → place q es < length es
place_within q [] v h = absurd (cc)
place_within q (e ∷ es) v h = at (tested (nat_eq q e.0)) (place_within q es v)
  where
    at : Tested (nat_eq q e.0) → (result_of q es ≡ Some v → place q es < length es) → place q (e ∷ es) < length (e ∷ es)
    at (inl t) f = rw t (omega arith)
    at (inr t) f = let l : place q es < length es = f (rw t at h) in rw t (omega arith)

pub at_place : (q : ℕ) (es : List Kept) (v : Result) → result_of q es ≡ Some v → slice_get es (place q es) ≡ Some (q, v)
at_place q [] v h = absurd (cc)
at_place q (e ∷ es) v h = at (tested (nat_eq q e.0)) (at_place q es v)
  where
    at : Tested (nat_eq q e.0) → (result_of q es ≡ Some v → slice_get es (place q es) ≡ Some (q, v)) → slice_get (e ∷ es) (place q (e ∷ es)) ≡ Some (q, v)
    at (inl t) f = let g : Some e.1 ≡ Some v = rw t at h in let k : q ≡ e.0 = eqb-true q e.0 t in rw t (let s : e.1 ≡ v = cc in λ i. Some (sym k i, s i))
    at (inr t) f = rw (t, one-add) (f (rw t at h))

pub place_of : (es : List Kept) (i : ℕ) (e : Kept) → AreDistinct es → slice_get es i ≡ Some e → (place e.0 es ≡ i) × (result_of e.0 es ≡ Some e.1)
place_of [] i e d h = absurd (cc)
place_of (f ∷ es) zero e d h = let s : f ≡ e = cc in subst (λ y. (place y.0 (f ∷ es) ≡ 0) × (result_of y.0 (f ∷ es) ≡ Some y.1)) s (let t : nat_eq f.0 f.0 ≡ true = eq-eqb f.0 f.0 refl in (rw t refl, rw t refl))
place_of (f ∷ es) (suc i) e d h = let r = place_of es i e d.1 h in at (tested (nat_eq e.0 f.0)) r
  where
    at : Tested (nat_eq e.0 f.0) → (place e.0 es ≡ i) × (result_of e.0 es ≡ Some e.1) → (place e.0 (f ∷ es) ≡ suc i) × (result_of e.0 (f ∷ es) ≡ Some e.1)
    at (inl t) r = let none : result_of e.0 es ≡ None = subst (λ y. result_of y es ≡ None) (sym (eqb-true e.0 f.0 t)) d.0 in absurd (cc)
    at (inr t) r = let p : place e.0 es ≡ i = r.0 in (rw t (omega arith), rw t r.1)

-- ahead or not

pub absent_not_ahead : (q p : ℕ) (es : List Kept) → result_of q es ≡ None → is_ahead q p es ≡ false
absent_not_ahead q p [] h = refl
absent_not_ahead q p (e ∷ es) h = at (tested (nat_eq q e.0)) (tested (nat_eq p e.0)) (absent_not_ahead q p es)
  where
    at : Tested (nat_eq q e.0) → Tested (nat_eq p e.0) → (result_of q es ≡ None → is_ahead q p es ≡ false) → is_ahead q p (e ∷ es) ≡ false
    at (inl t) u f = let g = rw t at h in absurd (cc)
    at (inr t) (inl u) f = rw u refl
    at (inr t) (inr u) f = rw (u, t) (f (rw t at h))

pub behind : (q p : ℕ) (es : List Kept) (w v : Result) → p ≢ q → result_of q es ≡ Some w → result_of p es ≡ Some v → is_ahead q p es ≡ false → place p es < place q es
behind q p [] w v n h k a = absurd (cc)
behind q p (e ∷ es) w v n h k a = at (tested (nat_eq q e.0)) (tested (nat_eq p e.0)) (behind q p es w v n)
  where
    at : Tested (nat_eq q e.0) → Tested (nat_eq p e.0) → (result_of q es ≡ Some w → result_of p es ≡ Some v → is_ahead q p es ≡ false → place p es < place q es)
        → place p (e ∷ es) < place q (e ∷ es)
    at (inl t) (inl u) f = absurd (n (eqb-true p e.0 u ∙ sym (eqb-true q e.0 t)))
    at (inl t) (inr u) f = absurd (true≢false (rw (u, t) at a))
    at (inr t) (inl u) f = rw (t, u) (omega arith)
    at (inr t) (inr u) f = let l : place p es < place q es = f (rw t at h) (rw u at k) (rw (u, t) at a) in rw (t, u) (omega arith)

-- a name more in a list of names

pub names-add_once : (p q : ℕ) (l : List ℕ) → names p (add_once q l) ≡ (q == p) || names p l
names-add_once p q l = at (tested (list_any (λ j. j == q) l)) (tested (q == p))
  where
    at : Tested (list_any (λ j. j == q) l) → Tested (q == p) → names p (add_once q l) ≡ (q == p) || names p l
    at (inl t) (inl u) = rw (t, u) (subst (λ y. names y l ≡ true) (eqb-true q p u) t)
    at (inl t) (inr u) = rw (t, u) refl
    at (inr t) u = rw t refl

pub length-add_once : (q : ℕ) (l : List ℕ) → length (add_once q l) ≡ length l + cond (names q l) 0 1
length-add_once q l = at (tested (names q l))
  where
    at : Tested (names q l) → length (add_once q l) ≡ length l + cond (names q l) 0 1
    at (inl t) = rw t (omega arith)
    at (inr t) = rw t (omega arith)
