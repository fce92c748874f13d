-- Sessions of which some are killed.
use Rattle.std.proofs.Common.{◌≡◌, ℕ, zero, suc, ◌+◌, ◌≤◌, ◌<◌, ◌==◌, Bool, true, false, ◌||◌, List, [], ◌∷◌, ◌++◌, length, get_or, take, Some, refl, sym, ap, ◌∙◌, subst, arith, inl, inr}
use Rattle.std.proofs.lemmas.Bool.{true≢false, eqb-true, eq-eqb, or_parts}
use Rattle.std.proofs.lemmas.List.{get_or-set_same, get_or-set_other, length-set}
use Rattle.std.proofs.lemmas.Option.{slice_get_within, get_or_from_slice_get, slice_get-get_or}
use Rattle.std.specs.Prelude.{slice_get, slice_set}
use Rattle.std.specs.List.{list_any}
use Rattle.hib_base.proofs.Tables.{Tested, tested}
use Rattle.hib_session.specs.declared.session.Session.{Session}
use Rattle.hib_session.specs.Session.{number_of, is_killed}
use Rattle.hib_session.specs.Killed.{IsAsBefore, AreKilled}

self_by : (n : ℕ) → (n == n) ≡ true
self_by n = eq-eqb n n refl

pub none_killed : (xs : List Session) → AreKilled (λ s. false) xs xs
none_killed xs = record { all = refl; each = λ s y p. record { before = y; there = p; number = refl; killed = refl; same = λ q. refl } }

-- the session at a place
pub one_killed : (xs : List Session) (n : ℕ) (y z : Session) → n < length xs → y ≡ get_or xs n y → number_of z ≡ number_of y → is_killed z ≡ true → AreKilled (λ s. n == s) xs (slice_set xs n z)
one_killed xs n y z l v m k = record { all = length-set xs n z; each = λ s u p. by_place s u p (tested (n == s)) }
  where
    place : slice_get xs n ≡ Some y
    place = slice_get-get_or xs n y l ∙ ap Some (sym v)

    by_place : (s : ℕ) (u : Session) → slice_get (slice_set xs n z) s ≡ Some u → Tested (n == s) → IsAsBefore (n == s) xs s u
    by_place s u p (inl q) =
        let e : n ≡ s = eqb-true n s q in
        let f : u ≡ z = sym (get_or_from_slice_get (slice_set xs n z) n u z (subst (λ m. slice_get (slice_set xs n z) m ≡ Some u) (sym e) p)) ∙ get_or-set_same xs n z z l in
        rw q (record {
          before = y;
          there = subst (λ j. slice_get xs j ≡ Some y) e place;
          number = ap number_of f ∙ m;
          killed = ap is_killed f ∙ k;
          same = λ t. absurd (true≢false t);
        })
    by_place s u p (inr q) = rw q (record {
      before = u;
      there = slice_get-get_or xs s u (omega (arith, length-set xs n z, slice_get_within (slice_set xs n z) s u p))
          ∙ ap Some (sym (get_or-set_other xs n s z u (λ e. true≢false (sym (ap (λ m. n == m) e ∙ self_by n) ∙ q))) ∙ get_or_from_slice_get (slice_set xs n z) s u u p);
      number = refl;
      killed = refl;
      same = λ t. refl;
    })

pub no_place : (xs : List Session) (n : ℕ) → length xs ≤ n → AreKilled (λ s. n == s) xs xs
no_place xs n l = record { all = refl; each = λ s y p. by_place s y p (tested (n == s)) }
  where
    by_place : (s : ℕ) (y : Session) → slice_get xs s ≡ Some y → Tested (n == s) → IsAsBefore (n == s) xs s y
    by_place s y p (inl q) = let e : n ≡ s = eqb-true n s q in let m : s < length xs = slice_get_within xs s y p in absurd (omega (arith, e, m, l))
    by_place s y p (inr q) = rw q (record { before = y; there = p; number = refl; killed = refl; same = λ t. refl })

pub killed_as : (p q : ℕ → Bool) (xs ys : List Session) → ((s : ℕ) → s < length xs → p s ≡ q s) → AreKilled p xs ys → AreKilled q xs ys
killed_as p q xs ys f w = record {
  all = w.all;
  each = λ s y e. subst (λ b. IsAsBefore b xs s y) (f s (omega (arith, w.all, slice_get_within ys s y e))) (w.each s y e);
}

then_killed : (p q : ℕ → Bool) (xs ys zs : List Session) → AreKilled p xs ys → AreKilled q ys zs → AreKilled (λ s. q s || p s) xs zs
then_killed p q xs ys zs w v = record { all = v.all ∙ w.all; each = λ s z e. both s z (v.each s z e) }
  where
    both : (s : ℕ) (z : Session) → IsAsBefore (q s) ys s z → IsAsBefore (q s || p s) xs s z
    both s z b = on (w.each s b.before b.there)
      where
        or_assoc : (x y o : Bool) → (x || (y || o)) ≡ ((x || y) || o)
        or_assoc true y o = refl
        or_assoc false y o = refl

        on : IsAsBefore (p s) xs s b.before → IsAsBefore (q s || p s) xs s z
        on c = record {
          before = c.before;
          there = c.there;
          number = b.number ∙ c.number;
          killed = b.killed ∙ (ap (λ o. q s || o) c.killed ∙ or_assoc (q s) (p s) (is_killed c.before));
          same = λ t. let u : (q s ≡ false) × (p s ≡ false) = or_parts (q s) (p s) t in b.same u.0 ∙ c.same u.1;
        }

-- no number is among none
pub killed_none : (xs : List Session) → AreKilled (λ s. list_any (λ n. n == s) []) xs xs
killed_none xs = none_killed xs

any_more : (ns : List ℕ) (n s : ℕ) → list_any (λ m. m == s) (ns ++ n ∷ []) ≡ ((n == s) || list_any (λ m. m == s) ns)
any_more [] n s = refl
any_more (m ∷ ns) n s = ap (λ b. (m == s) || b) (any_more ns n s) ∙ swapped (m == s) (n == s) (list_any (λ k. k == s) ns)
  where
    swapped : (a b c : Bool) → (a || (b || c)) ≡ (b || (a || c))
    swapped true true c = refl
    swapped true false c = refl
    swapped false b c = refl

-- one number more
killed_more : (ns : List ℕ) (n : ℕ) (xs ys zs : List Session) → AreKilled (λ s. list_any (λ m. m == s) ns) xs ys → AreKilled (λ s. n == s) ys zs →
    AreKilled (λ s. list_any (λ m. m == s) (ns ++ n ∷ [])) xs zs
killed_more ns n xs ys zs w v = killed_as (λ s. (n == s) || list_any (λ m. m == s) ns) (λ s. list_any (λ m. m == s) (ns ++ n ∷ [])) xs zs (λ s l. sym (any_more ns n s))
    (then_killed (λ s. list_any (λ m. m == s) ns) (λ s. n == s) xs ys zs w v)

take_next : (ns : List ℕ) (i n : ℕ) → i < length ns → n ≡ get_or ns i n → take (suc i) ns ≡ take i ns ++ n ∷ []
take_next [] i n l e = absurd (omega arith)
take_next (m ∷ ns) zero n l e = ap (λ k. k ∷ []) (sym e)
take_next (m ∷ ns) (suc i) n l e = ap (λ xs. m ∷ xs) (take_next ns i n (omega (arith, l)) e)

-- the number at the next place
pub killed_next : (ns : List ℕ) (i n : ℕ) (xs ys zs : List Session) → i < length ns → n ≡ get_or ns i n → AreKilled (λ s. list_any (λ m. m == s) (take i ns)) xs ys → AreKilled (λ s. n == s) ys zs →
    AreKilled (λ s. list_any (λ m. m == s) (take (i + 1) ns)) xs zs
killed_next ns i n xs ys zs l e w v = subst (λ ms. AreKilled (λ s. list_any (λ m. m == s) ms) xs zs) (sym (ap (λ k. take k ns) one_more ∙ take_next ns i n l e)) (killed_more (take i ns) n xs ys zs w v)
  where
    one_more : i + 1 ≡ suc i
    one_more = omega arith
