-- The first owner that is to be locked, over the collections one by one.
use Rattle.std.proofs.Common.{◌≡◌, ℕ, suc, ◌+◌, ◌<◌, ◌==◌, Bool, true, false, cond, List, [], ◌∷◌, ◌++◌, get_or, drop, length, map, Some, None, Option, refl, sym, ap, ◌∙◌, arith, drop-cons}
use Rattle.std.specs.List.{find}
use Rattle.std.specs.Option.{option_or}
use Rattle.hib_base.specs.Tables.{key_of}
use Rattle.hib_journal.specs.Types.{Row, Change}
use Rattle.hib_collections_law.specs.declared.entries.Def.{Def}
use Rattle.hib_collections_law.specs.Gathered.{owners, owners_from}

pub find_append : {A : Type 0} (f : A → Bool) (xs ys : List A) → find f (xs ++ ys) ≡ option_or (find f xs) (find f ys)
find_append f [] ys = refl
find_append {A} f (x ∷ xs) ys = by_test (f x) (find_append f xs ys)
  where
    by_test : (b : Bool) → find f (xs ++ ys) ≡ option_or (find f xs) (find f ys) → cond b (Some x) (find f (xs ++ ys)) ≡ option_or (cond b (Some x) (find f xs)) (find f ys)
    by_test true i = refl
    by_test false i = i

module _ (f : ℕ × ℕ → Bool) (old : Option Row) (c : Change) where
  -- the owners in the collection at a place, whose definition is d
  abbrev pub here : ℕ → Def → List (ℕ × ℕ)
  here n d = cond ((key_of c).entity == d.entity) (map (λ o. (n, o)) (owners d old c)) []

  pub find_from : (n : ℕ) (defs : List Def) (d : Def) → n < length defs → d ≡ get_or defs n d →
      find f (owners_from n (drop n defs) old c) ≡ option_or (find f (here n d)) (find f (owners_from (n + 1) (drop (n + 1) defs) old c))
  find_from n defs d l q =
      ap (λ ds. find f (owners_from n ds old c)) (drop-cons defs n d l)
      ∙ (ap (λ e. find f (owners_from n (e ∷ drop (suc n) defs) old c)) (sym q)
      ∙ (find_append f (here n d) (owners_from (suc n) (drop (suc n) defs) old c)
      ∙ ap (λ m. option_or (find f (here n d)) (find f (owners_from m (drop m defs) old c))) (let e : suc n ≡ n + 1 = omega arith in e)))

  pub find_more : (n : ℕ) (defs all : List Def) (d : Def) → n < length defs → d ≡ get_or defs n d → find f (here n d) ≡ None →
      find f (owners_from 0 all old c) ≡ find f (owners_from n (drop n defs) old c) →
      find f (owners_from 0 all old c) ≡ find f (owners_from (n + 1) (drop (n + 1) defs) old c)
  find_more n defs all d l q e i = i ∙ (find_from n defs d l q ∙ ap (λ o. option_or o (find f (owners_from (n + 1) (drop (n + 1) defs) old c))) e)
