-- The regions of a script's entities, by their places.
use Rattle.std.proofs.Common.{◌≡◌, ◌≢◌, ℕ, zero, suc, ◌+◌, ◌≤◌, ◌<◌, ◌==◌, Bool, true, false, cond, nat_lt, List, [], ◌∷◌, length, get_or, map, Some, Result, Ok, Err, OnOk, refl, sym, ap, ◌∙◌, subst, arith, inl, inr}
use Rattle.std.proofs.lemmas.Bool.{true≢false, false≢true, eqb-true}
use Rattle.std.proofs.lemmas.Bool.Decides.{nat_tests}
use Rattle.std.proofs.lemmas.List.{get_or-set_same, get_or-set_other, length-set}
use Rattle.std.proofs.lemmas.Option.{unwrap_or-slice_get, slice_get_past, slice_get-get_or}
use Rattle.std.specs.Prelude.{slice_get, slice_set, unwrap_or}
use Rattle.std.specs.Option.{option_map_or}
use Rattle.hib_base.proofs.Tables.{Tested, tested}
use Rattle.hib_journal.specs.Types.{EntityDef, Strategy, Script, Part, Act}
use Rattle.hib_journal.specs.Sessions.{Journal, same_part}
use Rattle.hib_journal.specs.Next.{strategy, strategy_in}
use Rattle.hib_journal.specs.Slot.{key_in}
use Rattle.hib_journal.specs.Legal.{part_of}
use Rattle.hib_engines.specs.declared.region.Region.{Region}
use Rattle.hib_engines.specs.Laws.{Laws}
use Rattle.hib_engines.specs.Region.{is_regional, entity_in, acts_on, emptied, empty, IsPlaced, Suits}
use Rattle.hib_engines.proofs.Regions.{uncached_not, apart, is_read_write, is_read_only, is_nonstrict}
use Rattle.hib_engines.proofs.Grows.{begins, regional_part}
use Rattle.hib_engines.proofs.RegionServed.{named}
use Rattle.hib_engines.specs.Regions.{region_of, IsAtRegion, AreEmptied}
use Rattle.hib_engines.proofs.Bridge.{self_by}

region_is : (xs : List Region) (n : ℕ) → region_of xs n ≡ get_or xs n Region.Uncached
region_is xs n = unwrap_or-slice_get xs n Region.Uncached

region_same : (xs : List Region) (n : ℕ) (y : Region) → n < length xs → region_of (slice_set xs n y) n ≡ y
region_same xs n y l = region_is (slice_set xs n y) n ∙ get_or-set_same xs n y Region.Uncached l

region_other : (xs : List Region) (n m : ℕ) (y : Region) → m ≢ n → region_of (slice_set xs n y) m ≡ region_of xs m
region_other xs n m y d = region_is (slice_set xs n y) m ∙ (get_or-set_other xs n m y Region.Uncached d ∙ sym (region_is xs m))

pub none_past : (xs : List Region) (n : ℕ) → length xs ≤ n → region_of xs n ≡ Region.Uncached
none_past xs n l = ap (λ o. unwrap_or o Region.Uncached) (slice_get_past xs n l)

-- a region at its place
pub region_at : (xs : List Region) (n : ℕ) (y : Region) → n < length xs → y ≡ get_or xs n y → region_of xs n ≡ y
region_at xs n y l v = ap (λ o. unwrap_or o Region.Uncached) (slice_get-get_or xs n y l ∙ ap Some (sym v))

pub region_put : (xs : List Region) (i n : ℕ) (y : Region) → i ≡ n → i < length xs → region_of (slice_set xs i y) n ≡ y
region_put xs i n y e l = subst (λ j. region_of (slice_set xs i y) j ≡ y) e (region_same xs i y l)

pub at_region : (xs : List Region) (n : ℕ) (y : Region) → IsAtRegion n xs (slice_set xs n y)
at_region xs n y = record { all = length-set xs n y; others = λ m d. region_other xs n m y (λ e. true≢false (sym (self_by n) ∙ (ap (λ i. n == i) (sym e) ∙ d))) }

-- an act of a region is due on no entity that is uncached
unsuited : (g : Strategy) (a : Act) → is_regional a ≡ true → g ≡ Strategy.Uncached → Suits g a → ⊥
unsuited g (Act.Get k t) r p u = uncached_not g p u
unsuited g (Act.Put k row t f) r p u = uncached_not g p u
unsuited g (Act.Lock k v f) r p u = apart is_read_write g Strategy.Uncached Strategy.ReadWrite p u refl refl
unsuited g (Act.Unlock k i) r p u = apart is_read_write g Strategy.Uncached Strategy.ReadWrite p u refl refl
unsuited g (Act.AfterInsert k row f) r p (inl u) = apart is_read_only g Strategy.Uncached Strategy.ReadOnly p u refl refl
unsuited g (Act.AfterInsert k row f) r p (inr u) = apart is_read_write g Strategy.Uncached Strategy.ReadWrite p u refl refl
unsuited g (Act.AfterUpdate k i row) r p u = apart is_read_write g Strategy.Uncached Strategy.ReadWrite p u refl refl
unsuited g (Act.RegionRemove k) r p (inl u) = apart is_read_only g Strategy.Uncached Strategy.ReadOnly p u refl refl
unsuited g (Act.RegionRemove k) r p (inr u) = apart is_nonstrict g Strategy.Uncached Strategy.Nonstrict p u refl refl
unsuited g (Act.Evict k) r p u = uncached_not g p u
unsuited g _ r p u = false≢true r

pub none_due : (script : Script) (l : Journal) (n : ℕ) (a : Act) (x : Region) → x ≡ Region.Uncached → IsPlaced script n l x → entity_in a ≡ Some n → Suits (strategy script n) a → ⊥
none_due script l n a x e k i u = unsuited (strategy script n) a (named (key_in a) n i).0 (subst (λ z. IsPlaced script n l z) e k) u

-- an act of a region is on an entity that the script has
uncached_past : (ds : List EntityDef) (n : ℕ) → length ds ≤ n → strategy_in (slice_get ds n) ≡ Strategy.Uncached
uncached_past ds n l = ap strategy_in (slice_get_past ds n l)

pub entity_within : (script : Script) (a : Act) → is_regional a ≡ true → Suits (strategy script (acts_on a)) a → acts_on a < length script.mapping
entity_within script a r u = by_test (tested (nat_lt (acts_on a) (length script.mapping)))
  where
    by_test : Tested (nat_lt (acts_on a) (length script.mapping)) → acts_on a < length script.mapping
    by_test (inl p) = grind (arith, nat_tests, p)
    by_test (inr p) = let l : length script.mapping ≤ acts_on a = grind (arith, nat_tests, p) in
        absurd (unsuited (strategy script (acts_on a)) a r (uncached_past script.mapping (acts_on a) l) u)

pub on_ok : {T E : Type 0} (r : Result T E) (P : Type 0) → P → OnOk r P
on_ok (Ok t) P p = p
on_ok (Err e) P p = tt

-- an act that is of a region names a key of its entity
region_key : (n k : ℕ) → Part.Region k ≡ Part.Region n → k ≡ n
region_key n k e = cc

pub of_region : (a : Act) (s n : ℕ) → part_of a s ≡ Part.Region n → entity_in a ≡ Some n
of_region (Act.Get k t) s n p = ap Some (region_key n k.entity p)
of_region (Act.Put k row t f) s n p = ap Some (region_key n k.entity p)
of_region (Act.Lock k v f) s n p = ap Some (region_key n k.entity p)
of_region (Act.Unlock k i) s n p = ap Some (region_key n k.entity p)
of_region (Act.AfterInsert k row f) s n p = ap Some (region_key n k.entity p)
of_region (Act.AfterUpdate k i row) s n p = ap Some (region_key n k.entity p)
of_region (Act.RegionRemove k) s n p = ap Some (region_key n k.entity p)
of_region (Act.Evict k) s n p = ap Some (region_key n k.entity p)
of_region _ s n p = absurd (false≢true (ap (same_part (Part.Region n)) p ∙ self_by n))

-- an act that is of no region
pub no_region : (a : Act) (s : ℕ) (p : Part) → part_of a s ≡ p → ((n : ℕ) → same_part p (Part.Region n) ≡ false) → is_regional a ≡ true → ⊥
no_region a s p e f t = true≢false (sym (same (acts_on a)) ∙ f (acts_on a))
  where
    same : (n : ℕ) → same_part p (Part.Region (acts_on a)) ≡ true
    same n = sym (ap (λ q. same_part p q) (regional_part a s t)) ∙ (ap (λ q. same_part p q) e ∙ self p f)
      where
        self : (p : Part) → ((n : ℕ) → same_part p (Part.Region n) ≡ false) → same_part p p ≡ true
        self Part.Registry f = refl
        self Part.Store f = refl
        self Part.Stamps f = refl
        self Part.Results f = refl
        self (Part.Region n) f = absurd (true≢false (sym (self_by n) ∙ f n))
        self (Part.Own n) f = self_by n

-- the regions after an act of one of them
pub regions_at : (script : Script) (g : Journal) (n : ℕ) (xs ys : List Region) → IsAtRegion n xs ys → IsPlaced script n g (region_of ys n) → ((m : ℕ) → (n == m) ≡ false → IsPlaced script m g (region_of xs m)) →
    (m : ℕ) → IsPlaced script m g (region_of ys m)
regions_at script g n xs ys w here there m = by_test (tested (n == m))
  where
    by_test : Tested (n == m) → IsPlaced script m g (region_of ys m)
    by_test (inl p) = subst (λ i. IsPlaced script i g (region_of ys i)) (eqb-true n m p) here
    by_test (inr p) = subst (λ z. IsPlaced script m g z) (sym (w.others m p)) (there m p)

-- ---- at the start

region_in : (timeout : ℕ) (ds : List EntityDef) (n : ℕ) →
    region_of (map (λ d. empty d.strategy d.capacity timeout) ds) n ≡ empty (strategy_in (slice_get ds n)) (option_map_or (λ d. d.capacity) (slice_get ds n) 0) timeout
region_in timeout [] n = refl
region_in timeout (d ∷ ds) zero = refl
region_in timeout (d ∷ ds) (suc n) = region_in timeout ds n

pub regions_begin : Laws → (script : Script) (n : ℕ) → IsPlaced script n [] (region_of (map (λ d. empty d.strategy d.capacity script.timeout) script.mapping) n)
regions_begin l script n = subst (λ x. IsPlaced script n [] x) (sym (region_in script.timeout script.mapping n)) (begins l script n (strategy script n) refl)

-- ---- of a restart

below_next : (n s : ℕ) (b : Bool) → b ≡ false → (n == s) ≡ b → nat_lt s n ≡ nat_lt s (n + 1)
below_next n s b p q = let d : (n == s) ≡ false = q ∙ p in grind (arith, nat_tests, d)

below_self : (n : ℕ) → nat_lt n (n + 1) ≡ true
below_self n = grind (arith, nat_tests)

pub emptied_more : (n : ℕ) (xs ys : List Region) (z : Region) → n < length xs → length ys ≡ length xs →
    ((m : ℕ) → region_of ys m ≡ cond (nat_lt m n) (emptied (region_of xs m)) (region_of xs m)) → z ≡ emptied (region_of ys n) →
    (m : ℕ) → region_of (slice_set ys n z) m ≡ cond (nat_lt m (n + 1)) (emptied (region_of xs m)) (region_of xs m)
emptied_more n xs ys z l e f p m = by_test (tested (n == m))
  where
    here : region_of ys n ≡ region_of xs n
    here = let k : nat_lt n n ≡ false = grind (arith, nat_tests) in f n ∙ rw k refl

    by_test : Tested (n == m) → region_of (slice_set ys n z) m ≡ cond (nat_lt m (n + 1)) (emptied (region_of xs m)) (region_of xs m)
    by_test (inl q) = let d : n ≡ m = eqb-true n m q in
        subst (λ i. region_of (slice_set ys n z) i ≡ cond (nat_lt i (n + 1)) (emptied (region_of xs i)) (region_of xs i)) d
        (region_same ys n z (omega (arith, l, e)) ∙ (p ∙ (ap emptied here ∙ sym (rw (below_self n) refl))))
    by_test (inr q) = region_other ys n m z (λ d. true≢false (sym (ap (λ i. n == i) d ∙ self_by n) ∙ q))
        ∙ (f m ∙ ap (λ b. cond b (emptied (region_of xs m)) (region_of xs m)) (below_next n m false refl q))

pub emptied_all : (n : ℕ) (xs ys : List Region) → length xs ≤ n → length ys ≡ length xs → ((m : ℕ) → region_of ys m ≡ cond (nat_lt m n) (emptied (region_of xs m)) (region_of xs m)) →
    AreEmptied xs ys
emptied_all n xs ys l e f = record { all = e; each = λ m. by_test m (tested (nat_lt m n)) }
  where
    none : (m : ℕ) → length xs ≤ m → region_of xs m ≡ emptied (region_of xs m)
    none m k = let u : region_of xs m ≡ Region.Uncached = none_past xs m k in u ∙ sym (ap emptied u)

    by_test : (m : ℕ) → Tested (nat_lt m n) → region_of ys m ≡ emptied (region_of xs m)
    by_test m (inl q) = f m ∙ rw q refl
    by_test m (inr q) = let k : length xs ≤ m = grind (arith, nat_tests, l, q) in (f m ∙ rw q refl) ∙ none m k
