-- Sorted keys with one more, as a set of keys gives them.
use Rattle.std.proofs.Common.{◌≡◌, ℕ, Bool, true, false, cond, ◌&&◌, ◌||◌, ◌==◌, List, [], ◌∷◌, refl, ap, ◌∙◌, arith}
use Rattle.std.proofs.lemmas.Bool.{true≢false, false≢true}
use Rattle.std.proofs.lemmas.Bool.Decides.{nat_tests}
use Rattle.std.specs.Prelude.{nat_lt}
use Rattle.std.specs.Ordering.{nat_cmp, ordering_then, match_ordering}
use Rattle.std.specs.declared.cmp.Ordering.{Ordering}
use Rattle.std.specs.BTreeSet.{insert_key}
use Rattle.hib_base.specs.Keys.{same_key, is_before}
use Rattle.hib_journal.specs.Types.{Key}
use Rattle.hib_report.specs.Unsound.{with_key}

-- the order of keys that a set goes by
abbrev pub key_cmp : Key → Key → Ordering
key_cmp a b = ordering_then (nat_cmp a.entity b.entity) (nat_cmp a.id b.id)

turned : (x y : ℕ) → (x == y) ≡ (y == x)
turned x y = grind (arith, nat_tests)

below_apart : (x y : ℕ) → nat_lt x y ≡ true → (y == x) ≡ false
below_apart x y l = grind (arith, nat_tests)

by_parts : {X : Type 0} (l1 e1 l2 e2 f1 f2 : Bool) (a b c : X) → e1 ≡ f1 → e2 ≡ f2 → (l1 ≡ true → f1 ≡ false) → (l2 ≡ true → f2 ≡ false) →
    match_ordering (ordering_then (cond l1 Ordering.Less (cond e1 Ordering.Equal Ordering.Greater)) (cond l2 Ordering.Less (cond e2 Ordering.Equal Ordering.Greater))) a b c
    ≡ cond (f1 && f2) b (cond (l1 || (e1 && l2)) a c)
by_parts true e1 l2 e2 f1 f2 a b c p q n m = rw (n refl) refl
by_parts false true true e2 true f2 a b c p q n m = rw (m refl) refl
by_parts false true false true true true a b c p q n m = refl
by_parts false true false true true false a b c p q n m = absurd (true≢false q)
by_parts false true false false true true a b c p q n m = absurd (false≢true q)
by_parts false true false false true false a b c p q n m = refl
by_parts false true l2 e2 false f2 a b c p q n m = absurd (true≢false p)
by_parts false false l2 e2 f1 f2 a b c p q n m = rw (← p) refl

by_key : {X : Type 0} (k j : Key) (a b c : X) → match_ordering (key_cmp k j) a b c ≡ cond (same_key j k) b (cond (is_before k j) a c)
by_key k j a b c = by_parts (nat_lt k.entity j.entity) (k.entity == j.entity) (nat_lt k.id j.id) (k.id == j.id) (j.entity == k.entity) (j.id == k.id) a b c
    (turned k.entity j.entity) (turned k.id j.id) (below_apart k.entity j.entity) (below_apart k.id j.id)

pub inserts : (k : Key) (ks : List Key) → insert_key key_cmp ks k ≡ with_key k ks
inserts k [] = refl
inserts k (j ∷ js) = by_key k j (k ∷ j ∷ js) (j ∷ js) (j ∷ insert_key key_cmp js k) ∙ ap (λ xs. cond (same_key j k) (j ∷ js) (cond (is_before k j) (k ∷ j ∷ js) (j ∷ xs))) (inserts k js)
