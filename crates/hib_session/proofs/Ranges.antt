-- The tables of a query, as a test.
use Rattle.std.specs.Option.{option_map_or}
use Rattle.std.proofs.Common.{◌≡◌, ℕ, zero, suc, ◌+◌, ◌≤◌, inl, inr, Bool, true, false, cond, ◌&&◌, ◌||◌, ◌==◌, nat_lt, List, [], ◌∷◌, Some, None, Option, length, refl, ap, ◌∙◌, arith}
use Rattle.std.proofs.lemmas.Bool.{eqb-true}
use Rattle.std.proofs.lemmas.Bool.Decides.{nat_tests}
use Rattle.std.specs.List.{filter, list_any, range_with_len}
use Rattle.hib_base.proofs.Tables.{Tested, tested}
use Rattle.hib_base.specs.Tables.{key_of}
use Rattle.hib_journal.specs.Types.{Change, Query, Script}
use Rattle.hib_journal.specs.Query.{reads, tables}
use Rattle.hib_journal.specs.Next.{is_in_tables}
use Rattle.hib_session.specs.Queries.{touches, touching_in}

within : (n s m : ℕ) → s ≤ n → list_any (λ t. n == t) (range_with_len s m) ≡ nat_lt n (s + m)
within n s zero h = grind (arith, nat_tests)
within n s (suc m) h = by (tested (n == s)) (λ l. within n (s + 1) m l)
  where
    by : Tested (n == s) → (s + 1 ≤ n → list_any (λ t. n == t) (range_with_len (s + 1) m) ≡ nat_lt n (s + 1 + m)) →
        ((n == s) || list_any (λ t. n == t) (range_with_len (s + 1) m)) ≡ nat_lt n (s + suc m)
    by (inl p) f = let e : n ≡ s = eqb-true n s p in rw p (grind (arith, nat_tests))
    by (inr p) f =
        let l : s + 1 ≤ n = grind (arith, nat_tests) in
        let e : s + 1 + m ≡ s + suc m = omega arith in
        rw p (f l ∙ ap (λ x. nat_lt n x) e)

filtered : (p : ℕ → Bool) (n : ℕ) (ts : List ℕ) → list_any (λ t. n == t) (filter p ts) ≡ (list_any (λ t. n == t) ts && p n)
filtered p n [] = refl
filtered p n (t ∷ ts) = by (tested (n == t)) (p t) refl (filtered p n ts)
  where
    by : Tested (n == t) → (b : Bool) → p t ≡ b → list_any (λ t. n == t) (filter p ts) ≡ (list_any (λ t. n == t) ts && p n) →
        list_any (λ t. n == t) (cond (p t) (t ∷ filter p ts) (filter p ts)) ≡ (((n == t) || list_any (λ t. n == t) ts) && p n)
    by (inl q) true e i = let f : p n ≡ true = ap p (eqb-true n t q) ∙ e in rw (e, q, f) refl
    by (inl q) false e i = let f : p n ≡ false = ap p (eqb-true n t q) ∙ e in rw (e, q, f) (i ∙ rw f (none (list_any (λ t. n == t) ts)))
      where
        none : (b : Bool) → (b && false) ≡ false
        none true = refl
        none false = refl
    by (inr q) true e i = rw (e, q) i
    by (inr q) false e i = rw (e, q) i

one_table : (entities : ℕ) (q : Query) (n : ℕ) → list_any (λ t. n == t) (tables entities q) ≡ (nat_lt n entities && reads q n)
one_table entities q n = filtered (λ t. reads q t) n (range_with_len 0 entities) ∙ ap (λ b. b && reads q n) (within n 0 entities (omega arith) ∙ ap (λ x. nat_lt n x) (omega arith))

touched : (entities : ℕ) (q : Query) (cs : List Change) → touches entities q cs ≡ is_in_tables (tables entities q) cs
touched entities q [] = refl
touched entities q (c ∷ cs) = rw (one_table entities q (key_of c).entity, touched entities q cs) refl

untouched : (cs : List Change) → false ≡ is_in_tables [] cs
untouched [] = refl
untouched (c ∷ cs) = untouched cs

pub touched_by : (script : Script) (o : Option Query) (cs : List Change) → touching_in (length script.mapping) o cs ≡ is_in_tables (option_map_or (tables (length script.mapping)) o []) cs
touched_by script None cs = untouched cs
touched_by script (Some q) cs = touched (length script.mapping) q cs
