-- The tables of a query, and a query that was looked up.
use Rattle.std.specs.Option.{option_map_or}
use Rattle.std.proofs.Common.{◌≡◌, ℕ, zero, suc, ◌+◌, ◌≤◌, ◌<◌, Bool, true, false, ◌-◌, cond, List, [], ◌∷◌, ◌++◌, length, append_assoc, append-nil, get_or, slice_get, Some, None, Option, refl, sym, ap, ◌∙◌, subst, arith, inl, inr}
use Rattle.std.proofs.lemmas.Option.{slice_get-get_or}
use Rattle.std.proofs.lemmas.List.Elements.{All-nil, All-cons}
use Rattle.std.specs.List.{All, filter, range_with_len}
use Rattle.hib_base.proofs.Tables.{Tested, tested}
use Rattle.hib_journal.specs.Types.{Query, Script}
use Rattle.hib_journal.specs.Query.{reads, tables}
use Rattle.hib_journal.specs.Next.{tables_of}

-- the tables of a query are of the mapping

all_in : (p : ℕ → Bool) (a n m : ℕ) → a + n ≤ m → All (λ t. t < m) (filter p (range_with_len a n))
all_in p a zero m l = All-nil (λ t. t < m)
all_in p a (suc n) m l = by_test (tested (p a)) (all_in p (a + 1) n m (omega (arith, l)))
  where
    by_test : Tested (p a) → All (λ t. t < m) (filter p (range_with_len (a + 1) n)) → All (λ t. t < m) (filter p (range_with_len a (suc n)))
    by_test (inl q) w = rw q (All-cons (λ t. t < m) a (filter p (range_with_len (a + 1) n)) (omega (arith, l)) w)
    by_test (inr q) w = rw q w

all_by : (script : Script) (o : Option Query) → All (λ t. t < length script.mapping) (option_map_or (tables (length script.mapping)) o [])
all_by script None = All-nil (λ t. t < length script.mapping)
all_by script (Some d) = all_in (λ n. reads d n) 0 (length script.mapping) (length script.mapping) (omega arith)

pub all_tables : (script : Script) (q : ℕ) → All (λ t. t < length script.mapping) (tables_of script q)
all_tables script q = all_by script (slice_get script.queries q)

-- a query that is not there
pub no_query : (script : Script) (q : ℕ) → slice_get script.queries q ≡ None → q < length script.queries → ⊥
no_query script q e l = in_list script.queries q e l
  where
    in_list : (ds : List Query) (i : ℕ) → slice_get ds i ≡ None → i < length ds → ⊥
    in_list [] i e l = omega (arith, l)
    in_list (d ∷ ds) zero e l = none_some d (sym e)
      where
        none_some : (d : Query) → ◌≡◌ {A = Option Query} None (Some d) → ⊥
        none_some d z = cc
    in_list (d ∷ ds) (suc i) e l = in_list ds i e (omega (arith, l))

-- the tables of a query, one after the other

filter_step : (p : ℕ → Bool) (i n : ℕ) (b : Bool) → i < n → p i ≡ b →
    filter p (range_with_len i (n - i)) ≡ cond b (i ∷ filter p (range_with_len (i + 1) (n - (i + 1)))) (filter p (range_with_len (i + 1) (n - (i + 1))))
filter_step p i n b l q =
    let e : n - i ≡ suc (n - (i + 1)) = omega (arith, l) in
    ap (λ m. filter p (range_with_len i m)) e ∙ ap (λ c. cond c (i ∷ filter p (range_with_len (i + 1) (n - (i + 1)))) (filter p (range_with_len (i + 1) (n - (i + 1))))) q

pub tables_more : (p : ℕ → Bool) (i n : ℕ) (done whole : List ℕ) → i < n → done ++ filter p (range_with_len i (n - i)) ≡ whole → p i ≡ true →
    (done ++ i ∷ []) ++ filter p (range_with_len (i + 1) (n - (i + 1))) ≡ whole
tables_more p i n done whole l h q =
    append_assoc done (i ∷ []) (filter p (range_with_len (i + 1) (n - (i + 1)))) ∙ (ap (λ xs. done ++ xs) (sym (filter_step p i n true l q)) ∙ h)

pub tables_skip : (p : ℕ → Bool) (i n : ℕ) (done whole : List ℕ) → i < n → done ++ filter p (range_with_len i (n - i)) ≡ whole → p i ≡ false →
    done ++ filter p (range_with_len (i + 1) (n - (i + 1))) ≡ whole
tables_skip p i n done whole l h q = ap (λ xs. done ++ xs) (sym (filter_step p i n false l q)) ∙ h

filter_as : (p q : ℕ → Bool) (xs : List ℕ) → ((n : ℕ) → p n ≡ q n) → filter p xs ≡ filter q xs
filter_as p q [] f = refl
filter_as p q (x ∷ xs) f = ap (λ b. cond b (x ∷ filter p xs) (filter p xs)) (f x) ∙ ap (λ ys. cond (q x) (x ∷ ys) ys) (filter_as p q xs f)

pub tables_done : (script : Script) (q : ℕ) (d : Query) (p : ℕ → Bool) (i : ℕ) (done : List ℕ) → length script.mapping ≤ i →
    done ++ filter p (range_with_len i (length script.mapping - i)) ≡ filter p (range_with_len 0 (length script.mapping)) → ((n : ℕ) → p n ≡ reads d n) →
    slice_get script.queries q ≡ Some d → done ≡ tables_of script q
tables_done script q d p i done l h f e =
    let z : length script.mapping - i ≡ 0 = omega (arith, l) in
    sym (append-nil done) ∙ (ap (λ m. done ++ filter p (range_with_len i m)) (sym z) ∙ (h ∙ (filter_as p (λ n. reads d n) (range_with_len 0 (length script.mapping)) f ∙ ap (λ x. option_map_or (tables (length script.mapping)) x []) (sym e))))

-- a query that was looked up
pub looked_up : (xs ys : List Query) (i j : ℕ) (d : Query) → i < length xs → d ≡ get_or xs i d → xs ≡ ys → i ≡ j → slice_get ys j ≡ Some d
looked_up xs ys i j d l e p q = subst (λ n. slice_get ys n ≡ Some d) q (subst (λ zs. slice_get zs i ≡ Some d) p (slice_get-get_or xs i d l ∙ ap Some (sym e)))
