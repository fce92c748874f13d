-- What is kept of keys and of written changes, after one more entry.
use Rattle.std.specs.Prelude.{◌||◌, option_map, option_and_then}
use Rattle.std.specs.Borrow.{Bor}
use Rattle.std.specs.List.{list_any}
use Rattle.std.specs.Map.{lookup}
use Rattle.std.specs.Option.{option_or}
use Rattle.std.proofs.Common.{◌≡◌, ◌+◌, ◌<◌, ◌++◌, ℕ, zero, suc, Bool, true, false, cond, List, [], ◌∷◌, length, take, get_or, Some, None, Option, refl, sym, ap, ◌∙◌, subst, arith, inl, inr}
use Rattle.std.proofs.Math.Bool.{or-true}
use Rattle.std.proofs.lemmas.List.{take_more}
use Rattle.hib_base.proofs.Tables.{Tested, tested, same_key_eq}
use Rattle.hib_base.specs.Keys.{same_key}
use Rattle.hib_base.specs.Tables.{Tables, after_change, after_changes, key_of}
use Rattle.hib_journal.specs.Held.{is_break}
use Rattle.hib_journal.specs.Types.{Key, Row, Change, Act, Reply, Entry}
use Rattle.hib_order_judge.specs.Dossiers.{changes_at}
use Rattle.hib_order_judge.specs.Footings.{Basis, touched, basis_here, basis_after, basis_of, basis_at, rest_after, rest_at, row_from}
use Rattle.hib_order_judge.specs.declared.footings.Footing.{Footing}
use Rattle.hib_outside.proofs.Commits.{after_changes_push}

-- the footing of the key that an entry names was set
pub footed : (es : List Entry) (k key : Key) (a : Act) (r : Reply) (fs gs : List (Key × Footing)) (f : Option Footing) → is_break a r ≡ false →
    touched a ≡ Some key → lookup (same_key k) gs ≡ cond (same_key key k) f (lookup (same_key k) fs) →
    option_map (basis_of es) f ≡ basis_here a r (option_map (basis_of es) (lookup (same_key key) fs)) → basis_at es gs k ≡ basis_after k a r (basis_at es fs k)
footed es k key a r fs gs f p t g h = rw (p, t, g) (by (tested (same_key key k)))
  where
    by : Tested (same_key key k) → option_map (basis_of es) (cond (same_key key k) f (lookup (same_key k) fs))
        ≡ cond (same_key key k) (basis_here a r (basis_at es fs k)) (basis_at es fs k)
    by (inl q) = rw q (subst (λ j. option_map (basis_of es) f ≡ basis_here a r (option_map (basis_of es) (lookup (same_key j) fs))) (same_key_eq key k q) h)
    by (inr q) = rw q refl

rested_by : (es : List Entry) (t : Bool) (l : Option (Option ℕ)) (row : Option ℕ) (b : Option Row) → (t ≡ true → option_and_then (row_from es) row ≡ b) →
    option_map (option_and_then (row_from es)) (option_or l (cond t (Some row) None)) ≡ option_or (option_map (option_and_then (row_from es)) l) (cond t (Some b) None)
rested_by es t (Some l) row b e = refl
rested_by es true None row b e = ap Some (e refl)
rested_by es false None row b e = refl

row_is : (es : List Entry) (o : Option Footing) →
    option_and_then (row_from es) (option_and_then (λ (f : Footing). f.row) o) ≡ option_and_then (λ (x : Basis). x.row) (option_map (basis_of es) o)
row_is es None = refl
row_is es (Some f) = refl

-- the first write of a key was kept
pub rested : (es : List Entry) (k key : Key) (c : Change) (a : Act) (fs : List (Key × Footing)) (rs qs : List (Key × Option ℕ)) (row : Option ℕ) →
    a ≡ Act.Write c → key ≡ key_of c → row ≡ option_and_then (λ (f : Footing). f.row) (lookup (same_key key) fs) →
    lookup (same_key k) qs ≡ option_or (lookup (same_key k) rs) (cond (same_key key k) (Some row) None) →
    rest_at es qs k ≡ rest_after k a (basis_at es fs k) (rest_at es rs k)
rested es k key c a fs rs qs row p q v g =
    ap (option_map (option_and_then (row_from es))) g
    ∙ (rested_by es (same_key key k) (lookup (same_key k) rs) row (option_and_then (λ (x : Basis). x.row) (basis_at es fs k)) same
    ∙ sym (rw (p, ← q) refl))
  where
    same : same_key key k ≡ true → option_and_then (row_from es) row ≡ option_and_then (λ (x : Basis). x.row) (basis_at es fs k)
    same t =
        ap (option_and_then (row_from es)) (v ∙ ap (λ j. option_and_then (λ (f : Footing). f.row) (lookup (same_key j) fs)) (same_key_eq key k t))
        ∙ row_is es (lookup (same_key k) fs)

-- one of the changes passes a test
pub any_at : (p : Change → Bool) (xs : List (Bor Change)) (i : ℕ) (x : Bor Change) → i < length xs → x ≡ get_or xs i x → p x.now ≡ true →
    list_any p (changes_at xs) ≡ true
any_at p [] i x l v t = absurd (no i l)
  where
    no : (k : ℕ) → k < 0 → ⊥
    no k m = omega arith
any_at p (y ∷ xs) zero x l v t = subst (λ (z : Bor Change). (p z.now || list_any p (changes_at xs)) ≡ true) v (rw t refl)
any_at p (y ∷ xs) (suc i) x l v t = ap (λ b. p y.now || b) (any_at p xs i x (omega arith) v t) ∙ or-true (p y.now)

changes_more : (xs : List (Bor Change)) (x : Bor Change) → changes_at (xs ++ x ∷ []) ≡ changes_at xs ++ x.now ∷ []
changes_more [] x = refl
changes_more (y ∷ xs) x = ap (λ l. y.now ∷ l) (changes_more xs x)

-- one more of the changes was done
pub laid_more : (xs : List (Bor Change)) (i : ℕ) (x : Bor Change) (start mid new : Tables) → i < length xs → x ≡ get_or xs i x →
    mid ≡ after_changes (changes_at (take i xs)) start → new ≡ after_change x.now mid → new ≡ after_changes (changes_at (take (i + 1) xs)) start
laid_more xs i x start mid new l v m n =
    n ∙ ap (after_change x.now) m ∙ sym (after_changes_push (changes_at (take i xs)) x.now start) ∙ ap (λ cs. after_changes cs start) (sym more)
  where
    more : changes_at (take (i + 1) xs) ≡ changes_at (take i xs) ++ x.now ∷ []
    more = ap changes_at (take_more xs i x l ∙ ap (λ (y : Bor Change). take i xs ++ y ∷ []) (sym v)) ∙ changes_more (take i xs) x
