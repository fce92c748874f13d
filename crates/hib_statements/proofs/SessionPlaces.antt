-- Sessions by their names, and one session more.
use Rattle.std.proofs.Common.{◌≡◌, ℕ, ◌+◌, inl, inr, Bool, true, false, cond, ◌||◌, List, [], ◌∷◌, ◌++◌, length, position, bytes_eq, Option, Some, None, is_some, refl, sym, ap, subst, ◌∙◌, arith}
use Rattle.std.specs.List.{list_any, position_from}
use Rattle.std.specs.declared.alloc.Global.{Global}
use Rattle.std.specs.declared.vec.Vec.{Vec}
use Rattle.std.proofs.lemmas.Iterator.Adapters.{position_from-zero}
use Rattle.indexmap.specs.IndexMap.{insert_entry}
use Rattle.hib_base.proofs.Tables.{Tested, tested}
use Rattle.hib_statements.specs.Places.{place_of, or_place}
use Rattle.hib_statements.proofs.Sets.{same_bytes}

abbrev Places : Type 0
Places = List (Vec ℕ Global × ℕ)

pub bytes_turned : (v w : List ℕ) → bytes_eq v w ≡ bytes_eq w v
bytes_turned v w = by_test (tested (bytes_eq v w)) (tested (bytes_eq w v))
  where
    by_test : Tested (bytes_eq v w) → Tested (bytes_eq w v) → bytes_eq v w ≡ bytes_eq w v
    by_test (inl p) q = let e : v ≡ w = same_bytes v w p in subst (λ x. bytes_eq v x ≡ bytes_eq x v) e refl
    by_test (inr p) (inr q) = p ∙ sym q
    by_test (inr p) (inl q) = let e : w ≡ v = same_bytes w v q in subst (λ x. bytes_eq x w ≡ bytes_eq w x) e refl

or_none : (o : Option ℕ) → or_place o None ≡ o
or_none None = refl
or_none (Some i) = refl

-- a new name comes last
pub place_last : (ps : Places) (name : Vec ℕ Global) (i : ℕ) (w : List ℕ) → is_some (place_of name.items ps) ≡ false →
    place_of w (insert_entry (λ a b. bytes_eq a.items b.items) ps name i) ≡ or_place (place_of w ps) (cond (bytes_eq w name.items) (Some i) None)
place_last [] name i w n = refl
place_last (p ∷ ps) name i w n = by (bytes_eq name.items p.0.items) (bytes_eq w p.0.items) n (λ e. place_last ps name i w e)
  where
    rest : Option ℕ
    rest = cond (bytes_eq w name.items) (Some i) None

    by : (a b : Bool) → is_some (cond a (Some p.1) (place_of name.items ps)) ≡ false →
        (is_some (place_of name.items ps) ≡ false → place_of w (insert_entry (λ a b. bytes_eq a.items b.items) ps name i) ≡ or_place (place_of w ps) rest) →
        place_of w (cond a ((p.0, i) ∷ ps) (p ∷ insert_entry (λ a b. bytes_eq a.items b.items) ps name i)) ≡ or_place (cond (bytes_eq w p.0.items) (Some p.1) (place_of w ps)) rest
    by true b n h = absurd (cc)
    by false b n h = by_name (bytes_eq w p.0.items)
      where
        by_name : (b : Bool) → cond b (Some p.1) (place_of w (insert_entry (λ a b. bytes_eq a.items b.items) ps name i)) ≡ or_place (cond b (Some p.1) (place_of w ps)) rest
        by_name true = refl
        by_name false = h n

-- a name that has a place keeps it
pub place_kept : (ps : Places) (name w : List ℕ) (i : ℕ) → is_some (place_of name ps) ≡ true → place_of w ps ≡ or_place (place_of w ps) (cond (bytes_eq w name) (Some i) None)
place_kept ps name w i t = by (tested (bytes_eq w name))
  where
    there : (o : Option ℕ) → is_some o ≡ true → o ≡ or_place o (Some i)
    there (Some j) e = refl
    there None e = absurd (cc)

    by : Tested (bytes_eq w name) → place_of w ps ≡ or_place (place_of w ps) (cond (bytes_eq w name) (Some i) None)
    by (inl e) = rw e (there (place_of w ps) (subst (λ v. is_some (place_of v ps) ≡ true) (sym (same_bytes w name e)) t))
    by (inr e) = rw e (sym (or_none (place_of w ps)))

found_last : {A : Type 0} (p : A → Bool) (xs : List A) (x : A) (i : ℕ) → position_from p i (xs ++ x ∷ []) ≡ or_place (position_from p i xs) (cond (p x) (Some (i + length xs)) None)
found_last p [] x i = by (p x)
  where
    zero : i ≡ i + 0
    zero = omega arith

    by : (b : Bool) → cond b (Some i) None ≡ cond b (Some (i + 0)) None
    by true = ap Some zero
    by false = refl
found_last p (y ∷ ys) x i = by (p y) (found_last p ys x (i + 1))
  where
    more : i + 1 + length ys ≡ i + length (y ∷ ys)
    more = omega arith

    by : (b : Bool) → position_from p (i + 1) (ys ++ x ∷ []) ≡ or_place (position_from p (i + 1) ys) (cond (p x) (Some (i + 1 + length ys)) None) →
        cond b (Some i) (position_from p (i + 1) (ys ++ x ∷ [])) ≡ or_place (cond b (Some i) (position_from p (i + 1) ys)) (cond (p x) (Some (i + length (y ∷ ys))) None)
    by true h = refl
    by false h = h ∙ ap (λ n. or_place (position_from p (i + 1) ys) (cond (p x) (Some n) None)) more

-- the place of the first that passes, after one more
pub position_last : {A : Type 0} (p : A → Bool) (xs : List A) (x : A) → position p (xs ++ x ∷ []) ≡ or_place (position p xs) (cond (p x) (Some (length xs)) None)
position_last p xs x =
    position_from-zero p (xs ++ x ∷ [])
    ∙ (found_last p xs x 0 ∙ (ap (λ o. or_place o (cond (p x) (Some (0 + length xs)) None)) (sym (position_from-zero p xs)) ∙ ap (λ n. or_place (position p xs) (cond (p x) (Some n) None)) none))
  where
    none : 0 + length xs ≡ length xs
    none = omega arith

found_any : {A : Type 0} (p : A → Bool) (xs : List A) (i : ℕ) → is_some (position_from p i xs) ≡ list_any p xs
found_any p [] i = refl
found_any p (x ∷ xs) i = by (p x) (found_any p xs (i + 1))
  where
    by : (b : Bool) → is_some (position_from p (i + 1) xs) ≡ list_any p xs → is_some (cond b (Some i) (position_from p (i + 1) xs)) ≡ (b || list_any p xs)
    by true h = refl
    by false h = h

pub position_any : {A : Type 0} (p : A → Bool) (xs : List A) → is_some (position p xs) ≡ list_any p xs
position_any p xs = ap is_some (position_from-zero p xs) ∙ found_any p xs 0
