-- The counts of some entries and one more, and that no count is above their number.
use Rattle.std.proofs.Common.{◌≡◌, ℕ, zero, suc, get_or, ◌+◌, ◌<◌, ◌≤◌, Bool, true, false, cond, List, [], ◌∷◌, ◌++◌, length, take, map, Some, refl, ap, sym, ◌∙◌, subst, zero-add, arith}
use Rattle.std.specs.Prelude.{count_by, slice_get}
use Rattle.std.specs.List.{All, sum_by}
use Rattle.std.proofs.lemmas.List.{length-take, take_more}
use Rattle.std.proofs.lemmas.Option.{get_or_from_slice_get}
use Rattle.std.proofs.lemmas.List.Sums.{count_by-le-length, sum_by-append}
use Rattle.hib_journal.specs.Types.{Entry, EntityDef, Script}
use Rattle.hib_journal.specs.Next.{is_cached_by}
use Rattle.hib_listeners.specs.Counts.{is_hit, is_miss, is_store, is_refusal, is_lock, is_eviction, is_expired, is_load, is_list, is_write, is_committed, is_fault, is_query_hit, is_query_miss, is_keep, is_drop}
use Rattle.hib_listeners.specs.Statistics.{region_counts, regions_counts, store_counts, query_counts, counted, one_if, noted_region, noted_store, noted_queries, noted, IsRegionBelow, AreBelow}
use Rattle.hib_listeners.specs.declared.counts.RegionCounts.{RegionCounts}
use Rattle.hib_listeners.specs.declared.statistics.Statistics.{Statistics}

count_push : {X : Type 0} (p : X → Bool) (xs : List X) (x : X) → count_by p (xs ++ x ∷ []) ≡ count_by p xs + one_if (p x)
count_push {X} p xs x =
    let f : X → ℕ = λ y. one_if (p y) in
    sum_by-append f xs (x ∷ []) ∙ ap (λ n. sum_by f xs + n) (zero-add (f x))

-- one more

region_more : (es : List Entry) (e : Entry) (n : ℕ) → noted_region e (region_counts n es) ≡ region_counts n (es ++ e ∷ [])
region_more es e n = simp count_push refl

regions_more : (es : List Entry) (e : Entry) (n : ℕ) (ds : List EntityDef) → map (noted_region e) (regions_counts es n ds) ≡ regions_counts (es ++ e ∷ []) n ds
regions_more es e n [] = refl
regions_more es e n (d ∷ ds) = at_test (is_cached_by d.strategy) (regions_more es e (n + 1) ds)
  where
    at_test : (b : Bool) → map (noted_region e) (regions_counts es (n + 1) ds) ≡ regions_counts (es ++ e ∷ []) (n + 1) ds
        → map (noted_region e) (cond b (region_counts n es ∷ []) [] ++ regions_counts es (n + 1) ds) ≡ cond b (region_counts n (es ++ e ∷ []) ∷ []) [] ++ regions_counts (es ++ e ∷ []) (n + 1) ds
    at_test true h = rw (region_more es e n) (ap (λ cs. region_counts n (es ++ e ∷ []) ∷ cs) h)
    at_test false h = h

store_more : (es : List Entry) (e : Entry) → noted_store e (store_counts es) ≡ store_counts (es ++ e ∷ [])
store_more es e = simp count_push refl

queries_more : (es : List Entry) (e : Entry) → noted_queries e (query_counts es) ≡ query_counts (es ++ e ∷ [])
queries_more es e = simp count_push refl

pub noted_counted : (script : Script) (es : List Entry) (e : Entry) → noted e (counted script es) ≡ counted script (es ++ e ∷ [])
noted_counted script es e = λ i. record {
  regions = regions_more es e 0 script.mapping i;
  store = store_more es e i;
  queries = queries_more es e i;
}

-- few

few : {X : Type 0} (p : X → Bool) (xs : List X) (m : ℕ) → length xs < m → count_by p xs < m
few p xs m h = let l = count_by-le-length p xs in omega arith

region_few : (es : List Entry) (m n : ℕ) → length es < m → IsRegionBelow m (region_counts n es)
region_few es m n h =
    (few (is_hit n) es m h, few (is_miss n) es m h, few (is_store n) es m h, few (is_refusal n) es m h, few (is_lock n) es m h, few (is_eviction n) es m h, few (is_expired n) es m h)

regions_few : (es : List Entry) (m n : ℕ) (ds : List EntityDef) → length es < m → All (IsRegionBelow m) (regions_counts es n ds)
regions_few es m n [] h = λ k d q. absurd (omega arith)
regions_few es m n (d ∷ ds) h = at_test (is_cached_by d.strategy) (regions_few es m (n + 1) ds h)
  where
    at_test : (b : Bool) → All (IsRegionBelow m) (regions_counts es (n + 1) ds) → All (IsRegionBelow m) (cond b (region_counts n es ∷ []) [] ++ regions_counts es (n + 1) ds)
    at_test true f = both
      where
        both : (k : ℕ) (d : RegionCounts) → k < suc (length (regions_counts es (n + 1) ds)) → IsRegionBelow m (get_or (region_counts n es ∷ regions_counts es (n + 1) ds) k d)
        both zero d q = region_few es m n h
        both (suc k) d q = f k d (omega arith)
    at_test false f = f

pub counted_below : (script : Script) (es : List Entry) (m : ℕ) → length es < m → AreBelow m (counted script es)
counted_below script es m h = record {
  regions = regions_few es m 0 script.mapping h;
  store = (few is_load es m h, few is_list es m h, few is_write es m h, few is_committed es m h, few is_fault es m h);
  queries = (few is_query_hit es m h, few is_query_miss es m h, few is_keep es m h, few is_drop es m h);
}

-- the entries before a place, and that at the place

pub carried : (script : Script) (es : List Entry) (i : ℕ) (e : Entry) (s t : Statistics) → i < length es → slice_get es i ≡ Some e
    → s ≡ counted script (take i es) → t ≡ noted e s → t ≡ counted script (take (i + 1) es)
carried script es i e s t l at old new =
    let front : take (i + 1) es ≡ take i es ++ e ∷ [] = take_more es i e l ∙ ap (λ x. take i es ++ x ∷ []) (get_or_from_slice_get es i e e at) in
    new ∙ ap (λ x. noted e x) old ∙ noted_counted script (take i es) e ∙ ap (λ xs. counted script xs) (sym front)

pub below_so_far : (script : Script) (es : List Entry) (i m : ℕ) (s : Statistics) → i < length es → length es ≤ m
    → s ≡ counted script (take i es) → AreBelow m s
below_so_far script es i m s l f old =
    let few : length (take i es) < m = omega (arith, length-take i es) in
    subst (λ (x : Statistics). AreBelow m x) (sym old) (counted_below script (take i es) m few)
