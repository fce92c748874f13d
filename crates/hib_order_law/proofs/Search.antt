-- A search that goes on misses no run, and tries none twice.
use Rattle.std.specs.Prelude.{length}
use Rattle.std.specs.List.{Contains}
use Rattle.std.proofs.Common.{◌≡◌, ◌++◌, ◌+◌, ◌<◌, ◌≤◌, ◌⊎◌, ℕ, zero, suc, inl, inr, Bool, true, false, cond, List, [], ◌∷◌, refl, sym, ap, ◌∙◌, subst, arith}
use Rattle.std.proofs.lemmas.Bool.{false≢true}
use Rattle.std.proofs.lemmas.List.Elements.{Contains-append_left, Contains-append_cases, Contains-push}
use Rattle.hib_base.proofs.Tables.{Tested, tested}
use Rattle.hib_base.specs.Tables.{Tables}
use Rattle.hib_journal.specs.Types.{Script, Entry}
use Rattle.hib_journal.specs.Sessions.{Journal}
use Rattle.hib_order_law.specs.Orders.{steps_in, step_of, begins, can_begin, is_unkilled, kills, IsOther, IsRun, IsUndisturbed, IsWithin, cost, onto, switches}
use Rattle.hib_order_law.specs.declared.step.Step.{Step}
use Rattle.hib_order_law.specs.Search.{AreOthers, AreTried, IsSearch, IsTest, IsWalk, begun_by, same_order, times, with_run}
use Rattle.hib_order_law.proofs.Begun.{Begins, begins_so, so_begins, is_same, is_step, same_is}
use Rattle.hib_order_law.proofs.Covers.{IsCovered, heads, runs_covered, same_head}
use Rattle.hib_order_law.proofs.Due.{others_due}
use Rattle.hib_order_law.proofs.Later.{base}
use Rattle.hib_order_law.proofs.Tally.{Contains-cases, Contains-behind, Contains-none, begun_by-append, begun_by-some, begun_by-none, times-has}

-- an order does not begin as another of it does
differ : (script : Script) (h : Journal) (n : ℕ) (es : List Entry) (other : List Step) → IsOther script h n es other → Begins other (steps_in es) → ⊥
differ script h n es [] o b = o
differ script h n [] (t ∷ ts) o b = b
differ script h zero (e ∷ es) (t ∷ ts) (inl o) b = differ script (e ∷ h) zero es ts o.1 b.1
differ script h zero (e ∷ es) (t ∷ ts) (inr o) b = false≢true (sym o.1 ∙ is_step (step_of e) t (sym b.0))
differ script h (suc n) (e ∷ es) (t ∷ ts) o b = differ script (e ∷ h) n es ts o.1 b.1

pub others_differ : (script : Script) (n : ℕ) (es : List Entry) (other : List Step) → IsOther script [] n es other → begins other (steps_in es) ≡ true → ⊥
others_differ script n es other o b = differ script [] n es other o (begins_so other (steps_in es) b)

-- two others that one order begins with are one
two : {x y : Step} {xs ys : List Step} → x ≡ y → xs ≡ ys → x ∷ xs ≡ y ∷ ys
two p q = cc

apart : (script : Script) (h : Journal) (n : ℕ) (es : List Entry) (one other both : List Step) → IsOther script h n es one → IsOther script h n es other → Begins one both →
    Begins other both → one ≡ other
apart script h n es [] other both o p b c = absurd o
apart script h n es (t ∷ ts) [] both o p b c = absurd p
apart script h n es (t ∷ ts) (u ∷ us) [] o p b c = absurd b
apart script h zero [] (t ∷ ts) (u ∷ us) (v ∷ vs) o p b c = two (b.0 ∙ sym c.0) (o.0 ∙ sym p.0)
apart script h (suc n) [] (t ∷ ts) (u ∷ us) (v ∷ vs) o p b c = absurd o
apart script h zero (e ∷ es) (t ∷ ts) (u ∷ us) (v ∷ vs) (inl o) (inl p) b c = two (b.0 ∙ sym c.0) (apart script (e ∷ h) zero es ts us vs o.1 p.1 b.1 c.1)
apart script h zero (e ∷ es) (t ∷ ts) (u ∷ us) (v ∷ vs) (inl o) (inr p) b c = absurd (false≢true (sym p.1 ∙ is_step (step_of e) u (o.0 ∙ b.0 ∙ sym c.0)))
apart script h zero (e ∷ es) (t ∷ ts) (u ∷ us) (v ∷ vs) (inr o) (inl p) b c = absurd (false≢true (sym o.1 ∙ is_step (step_of e) t (p.0 ∙ c.0 ∙ sym b.0)))
apart script h zero (e ∷ es) (t ∷ ts) (u ∷ us) (v ∷ vs) (inr o) (inr p) b c = two (b.0 ∙ sym c.0) (o.0 ∙ sym p.0)
apart script h (suc n) (e ∷ es) (t ∷ ts) (u ∷ us) (v ∷ vs) o p b c = two (b.0 ∙ sym c.0) (apart script (e ∷ h) n es ts us vs o.1 p.1 b.1 c.1)

pub others_apart : (script : Script) (n : ℕ) (es : List Entry) (one other both : List Step) → IsOther script [] n es one → IsOther script [] n es other → begins one both ≡ true →
    begins other both ≡ true → one ≡ other
others_apart script n es one other both o p b c = apart script [] n es one other both o p (begins_so one both b) (begins_so other both c)

-- what begins as another order does, begins as the order does as far as the two are to agree
pub longer : (script : Script) (h : Journal) (begun : List Step) (es : List Entry) (other : List Step) → Begins begun (steps_in es) → IsOther script h (length begun) es other →
    Begins begun other
longer script h [] es other b o = tt
longer script h (s ∷ begun) [] other b o = absurd b
longer script h (s ∷ begun) (e ∷ es) [] b o = absurd o
longer script h (s ∷ begun) (e ∷ es) (u ∷ other) b o = (b.0 ∙ o.0, longer script (e ∷ h) begun es other b.1 o.1)

pub others_longer : (script : Script) (begun : List Step) (es : List Entry) (other : List Step) → begins begun (steps_in es) ≡ true → IsOther script [] (length begun) es other →
    begins begun other ≡ true
others_longer script begun es other b o = so_begins begun other (longer script [] begun es other (begins_so begun (steps_in es) b) o)

-- what begins with more, begins with less
shorter : (begun other order : List Step) → Begins begun other → Begins other order → Begins begun order
shorter [] other order b c = tt
shorter (s ∷ begun) [] order b c = absurd b
shorter (s ∷ begun) (t ∷ other) [] b c = absurd c
shorter (s ∷ begun) (t ∷ other) (u ∷ order) b c = (b.0 ∙ c.0, shorter begun other order b.1 c.1)

-- an order that begins with another order's first steps begins with the steps that these share
begins_shorter : (script : Script) (begun : List Step) (es : List Entry) (other both : List Step) → begins begun (steps_in es) ≡ true → IsOther script [] (length begun) es other →
    begins other both ≡ true → begins begun both ≡ true
begins_shorter script begun es other both b o c =
    so_begins begun both (shorter begun other both (longer script [] begun es other (begins_so begun (steps_in es) b) o) (begins_so other both c))

tails : {A : Type 0} {x y : A} {xs ys : List A} → x ∷ xs ≡ y ∷ ys → xs ≡ ys
tails e = cc

-- below the next number is below this one, or it
below : (n m : ℕ) → n < suc m → (n < m) ⊎ (n ≡ m)
below zero zero l = inr refl
below zero (suc m) l = inl (omega arith)
below (suc n) zero l = absurd (no n l)
  where
    no : (n : ℕ) → suc n < 1 → ⊥
    no n l = omega arith
below (suc n) (suc m) l = by (below n m (omega arith))
  where
    by : (n < m) ⊎ (n ≡ m) → (suc n < suc m) ⊎ (suc n ≡ suc m)
    by (inl p) = inl (omega arith)
    by (inr p) = inr (ap (λ k. suc k) p)

no_more : (n : ℕ) → (1 ≤ n → ⊥) → n ≡ 0
no_more zero f = refl
no_more (suc n) f = absurd (f (omega arith))

above : (n m : ℕ) → (n ≤ m → ⊥) → m < n
above zero m f = absurd (f (omega arith))
above (suc n) zero f = omega arith
above (suc n) (suc m) f = let i : m < n = above n m (λ l. f (omega arith)) in omega arith

holds : {P : Type 0} (is : Bool) → IsTest P is → P → is ≡ true
holds true t p = refl
holds false t p = absurd (t.1 refl p)

module _ (script : Script) (start : Tables) (most_kills : ℕ) where
  wider : (level most : ℕ) (es : List Entry) → level ≤ most → IsWithin script start most_kills level es → IsWithin script start most_kills most es
  wider level most es l w = record { run = w.run; within = chain (switches (steps_in es)) w.within }
    where
      chain : (n : ℕ) → n ≤ level → n ≤ most
      chain n k = omega arith

  -- nothing was seen, and the empty beginning waits
  walk_begins : (level : ℕ) → IsWalk script start most_kills level [] ([] ∷ []) false
  walk_begins level = record {
    within = λ es c. absurd (Contains-none es c);
    once = λ order. omega arith;
    all = λ es r. inl (omega arith);
    due = λ begun c. due begun (Contains-cases [] [] begun c);
  }
    where
      due : (begun : List Step) → ([] ≡ begun) ⊎ Contains [] begun → (can_begin script start [] begun ≡ true) × (kills begun ≤ most_kills)
      due begun (inl p) = subst (λ x. (can_begin script start [] x ≡ true) × (kills x ≤ most_kills)) p (refl, omega arith)
      due begun (inr c) = absurd (Contains-none begun c)

  pub search_begins : (most : ℕ) → IsSearch script start most_kills most 0 [] [] ([] ∷ []) false
  search_begins most = record {
    low = omega arith;
    walk = walk_begins 0;
    within = λ es c. absurd (Contains-none es c);
    once = λ order. omega arith;
    fewer = λ es r l. absurd (no (switches (steps_in es)) l);
    here = λ order q. refl;
  }
    where
      no : (n : ℕ) → n < 0 → ⊥
      no n l = omega arith

  -- what was tried so far
  pub search_stops : (most level : ℕ) (runs seen : List (List Entry)) (waiting : List (List Step)) (beyond : Bool) → IsSearch script start most_kills most level runs seen waiting beyond →
      AreTried script start most_kills most level runs
  search_stops most level runs seen waiting beyond s = record {
    within = λ es c. wider level most es s.low (s.within es c);
    once = s.once;
    none_left = s.fewer;
  }

  pub search_due : (most level : ℕ) (runs seen : List (List Entry)) (rest : List (List Step)) (begun : List Step) (beyond : Bool) →
      IsSearch script start most_kills most level runs seen (rest ++ begun ∷ []) beyond → (can_begin script start [] begun ≡ true) × (kills begun ≤ most_kills)
  search_due most level runs seen rest begun beyond s = s.walk.due begun (Contains-push rest begun)

  -- two runs with one order are one
  one : (h : Journal) (es ds : List Entry) → IsUndisturbed script start (onto es h) → IsUndisturbed script start (onto ds h) → steps_in es ≡ steps_in ds → es ≡ ds
  one h [] [] u v p = refl
  one h [] (d ∷ ds) u v p = absurd (no p)
    where
      no : {A : Type 0} {x : A} {xs : List A} → [] ≡ x ∷ xs → ⊥
      no q = cc
  one h (e ∷ es) [] u v p = absurd (no p)
    where
      no : {A : Type 0} {x : A} {xs : List A} → x ∷ xs ≡ [] → ⊥
      no q = cc
  one h (e ∷ es) (d ∷ ds) u v p =
      let same : e ≡ d = same_head script start h e d (base script start es (e ∷ h) u) (base script start ds (d ∷ h) v) (heads p) in
      both same (one (e ∷ h) es ds u (subst (λ x. IsUndisturbed script start (onto ds (x ∷ h))) (sym same) v) (tails p))
    where
      both : {x y : Entry} {xs ys : List Entry} → x ≡ y → xs ≡ ys → x ∷ xs ≡ y ∷ ys
      both q r = cc

  pub runs_one : (es ds : List Entry) → IsRun script start most_kills es → IsRun script start most_kills ds → steps_in es ≡ steps_in ds → es ≡ ds
  runs_one es ds r q p = one [] es ds r.undisturbed q.undisturbed p

  -- a run with an order that was met is there
  has : (most : ℕ) (runs : List (List Entry)) → ((es : List Entry) → Contains runs es → IsWithin script start most_kills most es) → (es : List Entry) → IsRun script start most_kills es →
      1 ≤ times (steps_in es) runs → Contains runs es
  has most runs f es r l = by (times-has (steps_in es) runs l)
    where
      by : (ds : List Entry) × Contains runs ds × (steps_in ds ≡ steps_in es) → Contains runs es
      by x = let w : IsWithin script start most_kills most x.0 = f x.0 x.1 in subst (λ d. Contains runs d) (runs_one x.0 es w.run r x.2) x.1

  -- nothing waits any more at a level
  module _ (most level : ℕ) (runs seen : List (List Entry)) (beyond : Bool) (s : IsSearch script start most_kills most level runs seen [] beyond) where
    plain : (n : ℕ) → 1 ≤ n + 0 → 1 ≤ n
    plain n l = omega arith

    -- each run within it was tried
    done : (es : List Entry) → IsRun script start most_kills es → switches (steps_in es) < suc level → Contains runs es
    done es r l = by (below (switches (steps_in es)) level l)
      where
        no : (n : ℕ) → n ≡ level → level < n → ⊥
        no n p q = omega arith

        here : switches (steps_in es) ≡ level →
            (1 ≤ times (steps_in es) seen + 0) ⊎ ((level < switches (steps_in es)) × (beyond ≡ true)) → Contains runs es
        here p (inl k) =
            has level runs s.within es r (subst (λ n. 1 ≤ n) (sym (s.here (steps_in es) p)) (plain (times (steps_in es) seen) k))
        here p (inr x) = absurd (no (switches (steps_in es)) p x.0)

        by : (switches (steps_in es) < level) ⊎ (switches (steps_in es) ≡ level) → Contains runs es
        by (inl p) = s.fewer es r p
        by (inr p) = here p (s.walk.all es r)

    pub search_ends : (level ≡ most) ⊎ (beyond ≡ false) → AreTried script start most_kills most (most + 1) runs
    search_ends e = record {
      within = λ es c. wider level most es s.low (s.within es c);
      once = s.once;
      none_left = λ es r l. by e es r l;
    }
      where
        less : (n : ℕ) → n < most + 1 → level ≡ most → n < suc level
        less n l p = omega arith

        few : (n : ℕ) → n ≤ level → n < suc level
        few n l = omega arith

        seen_all : (es : List Entry) → IsRun script start most_kills es → beyond ≡ false →
            (1 ≤ times (steps_in es) seen + 0) ⊎ ((level < switches (steps_in es)) × (beyond ≡ true)) → Contains runs es
        seen_all es r q (inl k) =
            let c : Contains seen es = has level seen s.walk.within es r (plain (times (steps_in es) seen) k) in
            let w : IsWithin script start most_kills level es = s.walk.within es c in
            done es r (few (switches (steps_in es)) w.within)
        seen_all es r q (inr x) = absurd (false≢true (sym q ∙ x.1))

        by : (level ≡ most) ⊎ (beyond ≡ false) → (es : List Entry) → IsRun script start most_kills es → switches (steps_in es) < most + 1 → Contains runs es
        by (inl p) es r l = done es r (less (switches (steps_in es)) l p)
        by (inr q) es r l = seen_all es r q (s.walk.all es r)

    -- all within the level were tried, and the walk for the next begins
    pub search_rises : level < most → IsSearch script start most_kills most (level + 1) runs [] ([] ∷ []) false
    search_rises l = record {
      low = omega arith;
      walk = walk_begins (level + 1);
      within = λ es c. wider level (level + 1) es (omega arith) (s.within es c);
      once = s.once;
      fewer = λ es r k. done es r (same (switches (steps_in es)) k);
      here = λ order q. no_more (times order runs) (λ k. none order q (times-has order runs k));
    }
      where
        same : (n : ℕ) → n < level + 1 → n < suc level
        same n k = omega arith

        no : (n m : ℕ) → n ≤ level → n ≡ m → m ≡ level + 1 → ⊥
        no n m p q r = omega arith

        none : (order : List Step) → switches order ≡ level + 1 → (es : List Entry) × Contains runs es × (steps_in es ≡ order) → ⊥
        none order q x =
            let w : IsWithin script start most_kills level x.0 = s.within x.0 x.1 in
            no (switches (steps_in x.0)) (switches order) w.within (ap (λ o. switches o) x.2) q

  -- a run was played that begins as one that waited, and those of its other orders wait that cost as few
  module _ (most level : ℕ) (runs seen : List (List Entry)) (rest more : List (List Step)) (begun : List Step) (es : List Entry) (here few beyond cut on : Bool)
      (s : IsSearch script start most_kills most level runs seen (rest ++ begun ∷ []) beyond) (r : IsRun script start most_kills es) (b : begins begun (steps_in es) ≡ true)
      (u : is_unkilled (length begun) (steps_in es) ≡ true) (o : AreOthers script most_kills level (length begun) es more cut) (h : IsTest (switches (steps_in es) ≡ level) here)
      (f : IsTest (switches (steps_in es) ≤ level) few) (p1 : beyond ≡ true → on ≡ true) (p2 : cut ≡ true → on ≡ true) (p3 : few ≡ false → on ≡ true) where
    -- an order that doesn't begin so begins with none of the others, nor does that of the run itself
    none_more : (order : List Step) → begins begun order ≡ false → begun_by order more ≡ 0
    none_more order n = begun_by-none order more (λ other c x. false≢true (sym n ∙ begins_shorter script begun es other order b (o.each other c).0 x))

    none_here : begun_by (steps_in es) more ≡ 0
    none_here = begun_by-none (steps_in es) more (λ other c x. others_differ script (length begun) es other (o.each other c).0 x)

    at_most : (order : List Step) → cond (same_order (steps_in es) order) 1 0 + begun_by order more ≤ cond (begins begun order) 1 0
    at_most order = by (tested (begins begun order)) (tested (same_order (steps_in es) order))
      where
        zeros : (n : ℕ) → n ≡ 0 → 0 + n ≤ 0
        zeros n p = omega arith

        one : (n : ℕ) → n ≡ 0 → 1 + n ≤ 1
        one n p = omega arith

        others : (n : ℕ) → n ≤ 1 → 0 + n ≤ 1
        others n p = omega arith

        by : Tested (begins begun order) → Tested (same_order (steps_in es) order) →
            cond (same_order (steps_in es) order) 1 0 + begun_by order more ≤ cond (begins begun order) 1 0
        by (inl p) (inl q) =
            let e : steps_in es ≡ order = same_is (steps_in es) order q in
            rw (p, q) (one (begun_by order more) (subst (λ x. begun_by x more ≡ 0) e none_here))
        by (inl p) (inr q) = rw (p, q) (others (begun_by order more) (o.once order))
        by (inr p) (inl q) = absurd (false≢true (sym p ∙ subst (λ x. begins begun x ≡ true) (same_is (steps_in es) order q) b))
        by (inr p) (inr q) = rw (p, q) (zeros (begun_by order more) (none_more order p))

    split_rest : (order : List Step) → begun_by order (rest ++ begun ∷ []) ≡ begun_by order rest + (cond (begins begun order) 1 0 + 0)
    split_rest order = begun_by-append order rest (begun ∷ [])

    times_more : (k : Bool) (xs : List (List Entry)) (order : List Step) →
        (times order (with_run k es xs) ≤ cond (same_order (steps_in es) order) 1 0 + times order xs) × (times order xs ≤ times order (with_run k es xs))
    times_more true xs order = (omega arith, omega arith)
    times_more false xs order = (omega arith, omega arith)

    times_other : (k : Bool) (xs : List (List Entry)) (order : List Step) → same_order (steps_in es) order ≡ false → times order (with_run k es xs) ≡ times order xs
    times_other true xs order p = rw p (zero_more (times order xs))
      where
        zero_more : (n : ℕ) → 0 + n ≡ n
        zero_more n = omega arith
    times_other false xs order p = refl

    in_run : (k : Bool) (xs : List (List Entry)) → ((ds : List Entry) → Contains xs ds → IsWithin script start most_kills level ds) → (k ≡ true → switches (steps_in es) ≤ level) →
        (ds : List Entry) → Contains (with_run k es xs) ds → IsWithin script start most_kills level ds
    in_run false xs g l ds c = g ds c
    in_run true xs g l ds c = by (Contains-cases es xs ds c)
      where
        by : (es ≡ ds) ⊎ Contains xs ds → IsWithin script start most_kills level ds
        by (inl e) = subst (λ d. IsWithin script start most_kills level d) e (record { run = r; within = l refl })
        by (inr i) = g ds i

    in_more : (k : Bool) (ds : List Entry) → Contains runs ds → Contains (with_run k es runs) ds
    in_more false ds c = c
    in_more true ds c = Contains-behind es runs ds c

    -- a run that begins so is this one or begins as another order of it
    found : (ds : List Entry) → IsRun script start most_kills ds → begins begun (steps_in ds) ≡ true →
        IsCovered script start most_kills (length begun) es ds
    found ds q p = runs_covered script start most_kills begun es ds r q u b p

    abbrev IsMet : List Entry → Type 0
    IsMet ds =
        (1 ≤ times (steps_in ds) (with_run few es seen) + begun_by (steps_in ds) (rest ++ more)) ⊎ ((level < switches (steps_in ds)) × (on ≡ true))

    -- what waits behind the others that were there
    behind : (ds : List Entry) → 1 ≤ begun_by (steps_in ds) more → IsMet ds
    behind ds k =
        inl (sum (times (steps_in ds) (with_run few es seen)) (begun_by (steps_in ds) (rest ++ more)) (begun_by (steps_in ds) rest) (begun_by (steps_in ds) more)
        (begun_by-append (steps_in ds) rest more) k)
      where
        sum : (t n r m : ℕ) → n ≡ r + m → 1 ≤ m → 1 ≤ t + n
        sum t n r m p q = omega arith

    itself : IsMet es
    itself = by few f p3
      where
        one : (n m : ℕ) → 1 ≤ (1 + n) + m
        one n m = omega arith

        by : (k : Bool) → IsTest (switches (steps_in es) ≤ level) k → (k ≡ false → on ≡ true) →
            (1 ≤ times (steps_in es) (with_run k es seen) + begun_by (steps_in es) (rest ++ more)) ⊎ ((level < switches (steps_in es)) × (on ≡ true))
        by true t g = inl (rw (is_same (steps_in es)) (one (times (steps_in es) seen) (begun_by (steps_in es) (rest ++ more))))
        by false t g = inr (above (switches (steps_in es)) level (t.1 refl), g refl)

    covered : (ds : List Entry) → IsRun script start most_kills ds → IsMet ds
    covered ds q = by (s.walk.all ds q)
      where
        chain : (a c : ℕ) → level < a → a ≤ c → level < c
        chain a c p q = omega arith

        at : IsCovered script start most_kills (length begun) es ds → IsMet ds
        at (inl e) = subst (λ d. IsMet d) e itself
        at (inr x) = there (o.all x.0 x.1 x.3)
          where
            there : Contains more x.0 ⊎ ((level < cost (steps_in es) x.0) × (cut ≡ true)) → IsMet ds
            there (inl c) = behind ds (begun_by-some (steps_in ds) x.0 more c x.2)
            there (inr y) = inr (chain (cost (steps_in es) x.0) (switches (steps_in ds)) y.0 x.4, p2 y.1)

        kept : (t u n r m d x : ℕ) → u ≤ t → n ≡ r + m → x ≡ r + (d + 0) → d ≡ 0 → 1 ≤ u + x → 1 ≤ t + n
        kept t u n r m d x e1 e2 e3 e4 e5 = omega arith

        waited : 1 ≤ times (steps_in ds) seen + begun_by (steps_in ds) (rest ++ begun ∷ []) → Tested (begins begun (steps_in ds)) → IsMet ds
        waited k (inl p) = at (found ds q p)
        waited k (inr p) =
            inl (kept (times (steps_in ds) (with_run few es seen)) (times (steps_in ds) seen) (begun_by (steps_in ds) (rest ++ more)) (begun_by (steps_in ds) rest)
            (begun_by (steps_in ds) more) (cond (begins begun (steps_in ds)) 1 0) (begun_by (steps_in ds) (rest ++ begun ∷ [])) (times_more few seen (steps_in ds)).1
            (begun_by-append (steps_in ds) rest more) (split_rest (steps_in ds)) (ap (λ k. cond k 1 0) p) k)

        by : (1 ≤ times (steps_in ds) seen + begun_by (steps_in ds) (rest ++ begun ∷ [])) ⊎ ((level < switches (steps_in ds)) × (beyond ≡ true)) → IsMet ds
        by (inl k) = waited k (tested (begins begun (steps_in ds)))
        by (inr x) = inr (x.0, p1 x.1)

    walk_goes_on : IsWalk script start most_kills level (with_run few es seen) (rest ++ more) on
    walk_goes_on = record {
      within = in_run few seen s.walk.within f.0;
      once = λ order. once (times order (with_run few es seen)) (times order seen) (begun_by order (rest ++ more)) (begun_by order rest) (begun_by order more)
          (cond (same_order (steps_in es) order) 1 0) (cond (begins begun order) 1 0) (begun_by order (rest ++ begun ∷ [])) (times_more few seen order).0
          (begun_by-append order rest more) (split_rest order) (s.walk.once order) (at_most order);
      all = covered;
      due = λ other c. due other (Contains-append_cases rest more other c);
    }
      where
        once : (t u n r m c d x : ℕ) → t ≤ c + u → n ≡ r + m → x ≡ r + (d + 0) → u + x ≤ 1 → c + m ≤ d → t + n ≤ 1
        once t u n r m c d x e1 e2 e3 e4 e5 = omega arith

        due : (other : List Step) → Contains rest other ⊎ Contains more other → (can_begin script start [] other ≡ true) × (kills other ≤ most_kills)
        due other (inl c) = s.walk.due other (Contains-append_left rest (begun ∷ []) other c)
        due other (inr c) = (others_due script start most_kills (length begun) es other r (o.each other c).0, (o.each other c).1)

    -- the run itself wasn't seen before
    not_seen : times (steps_in es) seen ≡ 0
    not_seen =
        none (times (steps_in es) seen) (begun_by (steps_in es) rest) (cond (begins begun (steps_in es)) 1 0) (begun_by (steps_in es) (rest ++ begun ∷ []))
        (split_rest (steps_in es)) (ap (λ k. cond k 1 0) b) (s.walk.once (steps_in es))
      where
        none : (t r d x : ℕ) → x ≡ r + (d + 0) → d ≡ 1 → t + x ≤ 1 → t ≡ 0
        none t r d x p q l = omega arith

    tried_once : (order : List Step) → times order (with_run here es runs) ≤ 1
    tried_once order = by here h.0 (tested (same_order (steps_in es) order))
      where
        one : (n : ℕ) → n ≡ 0 → 1 + n ≤ 1
        one n p = omega arith

        none : (n : ℕ) → n ≤ 1 → 0 + n ≤ 1
        none n l = omega arith

        by : (k : Bool) → (k ≡ true → switches (steps_in es) ≡ level) → Tested (same_order (steps_in es) order) → times order (with_run k es runs) ≤ 1
        by false g t = s.once order
        by true g (inl p) =
            let e : steps_in es ≡ order = same_is (steps_in es) order p in
            rw p (one (times order runs) (subst (λ x. times x runs ≡ 0) e (s.here (steps_in es) (g refl) ∙ not_seen)))
        by true g (inr p) = rw p (none (times order runs) (s.once order))

    tried_here : (order : List Step) → switches order ≡ level → times order (with_run here es runs) ≡ times order (with_run few es seen)
    tried_here order q = by (tested (same_order (steps_in es) order))
      where
        low : (n : ℕ) → n ≡ level → n ≤ level
        low n p = omega arith

        by : Tested (same_order (steps_in es) order) → times order (with_run here es runs) ≡ times order (with_run few es seen)
        by (inl p) =
            let e : switches (steps_in es) ≡ level = ap (λ x. switches x) (same_is (steps_in es) order p) ∙ q in
            rw (holds here h e, holds few f (low (switches (steps_in es)) e)) (ap (λ n. cond (same_order (steps_in es) order) 1 0 + n) (s.here order q))
        by (inr p) = times_other here runs order p ∙ s.here order q ∙ sym (times_other few seen order p)

    pub search_goes_on : IsSearch script start most_kills most level (with_run here es runs) (with_run few es seen) (rest ++ more) on
    search_goes_on = record {
      low = s.low;
      walk = walk_goes_on;
      within = in_run here runs s.within (λ p. low (switches (steps_in es)) (h.0 p));
      once = tried_once;
      fewer = λ ds q l. in_more here ds (s.fewer ds q l);
      here = tried_here;
    }
      where
        low : (n : ℕ) → n ≡ level → n ≤ level
        low n p = omega arith
