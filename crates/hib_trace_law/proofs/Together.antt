-- Why narrowing the commits by the answers loses no placing, and leaves none that does not explain them.
use Rattle.std.proofs.Common.{◌≡◌, ◌≤◌, ℕ, zero, suc, Bool, true, false, cond, nat_le, List, [], ◌∷◌, length, refl, sym, ap, subst, arith}
use Rattle.std.proofs.lemmas.Bool.{and_parts}
use Rattle.std.proofs.lemmas.Bool.Decides.{nat_tests}
use Rattle.hib_trace_law.specs.declared.calls.Call.{Call}
use Rattle.hib_trace_law.specs.declared.calls.Sighting.{Sighting}
use Rattle.hib_trace_law.specs.Placings.{IsPlaced, IsCommittedAt}
use Rattle.hib_trace_law.specs.Together.{AllExplained, AreOfKey, higher, lower, narrow, narrowed, fits_early, IsExact}
use Rattle.hib_trace_law.proofs.Placed.{le_test, le_of, both}

pub record IsLower (q t l : ℕ) : Type 0 where
  pub one : l ≤ q
  pub two : l ≤ t
  pub both : (m : ℕ) → m ≤ q → m ≤ t → m ≤ l

pub record IsHigher (q t h : ℕ) : Type 0 where
  pub one : q ≤ h
  pub two : t ≤ h
  pub both : (m : ℕ) → q ≤ m → t ≤ m → h ≤ m

pub lower_is : (q t : ℕ) → IsLower q t (lower q t)
lower_is q t = by (nat_le q t) refl
  where
    by : (b : Bool) → nat_le q t ≡ b → IsLower q t (cond b q t)
    by true p = let l : q ≤ t = le_of q t p in record { one = omega arith; two = l; both = λ m x y. x }
    by false p = let l : t ≤ q = grind (arith, nat_tests) in record { one = l; two = omega arith; both = λ m x y. y }

pub higher_is : (q t : ℕ) → IsHigher q t (higher q t)
higher_is q t = by (nat_le q t) refl
  where
    by : (b : Bool) → nat_le q t ≡ b → IsHigher q t (cond b t q)
    by true p = let l : q ≤ t = le_of q t p in record { one = l; two = omega arith; both = λ m x y. y }
    by false p = let l : t ≤ q = grind (arith, nat_tests) in record { one = omega arith; two = l; both = λ m x y. x }

-- each commit as early as it can be

early_placed : (cs : List Call) (least : ℕ) → fits_early least cs ≡ true → (ps : List ℕ) × IsPlaced least cs ps
early_placed [] least f = ([], tt)
early_placed (c ∷ cs) least f =
    let b : (nat_le (higher c.begin least) c.end ≡ true) × (fits_early (higher c.begin least) cs ≡ true) =
    and_parts (nat_le (higher c.begin least) c.end) (fits_early (higher c.begin least) cs) f in
    let h : IsHigher c.begin least (higher c.begin least) = higher_is c.begin least in
    let r : (ps : List ℕ) × IsPlaced (higher c.begin least) cs ps = early_placed cs (higher c.begin least) b.1 in
    (higher c.begin least ∷ r.0, (h.two, h.one, le_of (higher c.begin least) c.end b.0, r.1))

placed_early : (cs : List Call) (ps : List ℕ) (least l : ℕ) → l ≤ least → IsPlaced least cs ps → fits_early l cs ≡ true
placed_early [] ps least l m p = refl
placed_early (c ∷ cs) [] least l m p = absurd p
placed_early (c ∷ cs) (q ∷ ps) least l m p =
    let h : IsHigher c.begin l (higher c.begin l) = higher_is c.begin l in
    let a : least ≤ q = p.0 in
    let e : q ≤ c.end = p.2 in
    let k : higher c.begin l ≤ q = h.both q p.1 (omega (arith, m, a)) in
    both (nat_le (higher c.begin l) c.end) (fits_early (higher c.begin l) cs)
    (le_test (higher c.begin l) c.end (omega (arith, k, e)))
    (placed_early cs ps q (higher c.begin l) k p.3)

-- one answer

narrow_wide : (i s e : ℕ) (cs : List Call) (ps : List ℕ) (least : ℕ) → IsPlaced least (narrow i s e cs) ps → IsPlaced least cs ps
narrow_wide zero s e [] ps least p = p
narrow_wide (suc i) s e [] ps least p = p
narrow_wide zero s e (c ∷ cs) [] least p = absurd p
narrow_wide (suc i) s e (c ∷ cs) [] least p = absurd p
narrow_wide zero s e (c ∷ cs) (q ∷ ps) least p =
    let h : c.begin ≤ higher c.begin s = (higher_is c.begin s).one in
    let b : higher c.begin s ≤ q = p.1 in
    (p.0, omega (arith, h, b), p.2, narrow_wide zero s e cs ps q p.3)
narrow_wide (suc i) s e (c ∷ cs) (q ∷ ps) least p =
    let h : lower c.end e ≤ c.end = (lower_is c.end e).one in
    let b : q ≤ lower c.end e = p.2 in
    (p.0, p.1, omega (arith, h, b), narrow_wide i s e cs ps q p.3)

record IsSeen (i s e l : ℕ) (ps : List ℕ) : Type 0 where
  t : ℕ
  since : s ≤ t
  after : l ≤ t
  until : t ≤ e
  there : IsCommittedAt i ps t

narrow_seen : (i s e : ℕ) (cs : List Call) (ps : List ℕ) (l : ℕ) → IsPlaced l (narrow i s e cs) ps → l ≤ e → s ≤ e → i ≤ length cs → IsSeen i s e l ps
narrow_seen zero s e [] [] l p m n o = let h : IsHigher s l (higher s l) = higher_is s l in
    record { t = higher s l; since = h.one; after = h.two; until = h.both e n m; there = tt }
narrow_seen zero s e [] (q ∷ ps) l p m n o = absurd p
narrow_seen zero s e (c ∷ cs) [] l p m n o = absurd p
narrow_seen zero s e (c ∷ cs) (q ∷ ps) l p m n o =
    let h : IsHigher s l (higher s l) = higher_is s l in
    let k : s ≤ higher c.begin s = (higher_is c.begin s).two in
    let b : higher c.begin s ≤ q = p.1 in
    record { t = higher s l; since = h.one; after = h.two; until = h.both e n m; there = h.both q (omega (arith, k, b)) p.0 }
narrow_seen (suc i) s e [] ps l p m n o = absurd (no i o)
  where
    no : (k : ℕ) → suc k ≤ 0 → ⊥
    no k z = omega arith
narrow_seen (suc i) s e (c ∷ cs) [] l p m n o = absurd p
narrow_seen (suc i) s e (c ∷ cs) (q ∷ ps) l p m n o =
    let k : lower c.end e ≤ e = (lower_is c.end e).two in
    let b : q ≤ lower c.end e = p.2 in
    let r : IsSeen i s e q ps = narrow_seen i s e cs ps q p.3 (omega (arith, k, b)) n (omega arith) in
    let g : q ≤ r.t = r.after in
    let f : l ≤ q = p.0 in
    record { t = r.t; since = r.since; after = omega (arith, f, g); until = r.until; there = (g, r.there) }

seen_narrow : (i s e t : ℕ) (cs : List Call) (ps : List ℕ) (l : ℕ) → IsPlaced l cs ps → s ≤ t → t ≤ e → IsCommittedAt i ps t → IsPlaced l (narrow i s e cs) ps
seen_narrow zero s e t [] ps l p m n o = p
seen_narrow (suc i) s e t [] ps l p m n o = p
seen_narrow zero s e t (c ∷ cs) [] l p m n o = absurd p
seen_narrow (suc i) s e t (c ∷ cs) [] l p m n o = absurd p
seen_narrow zero s e t (c ∷ cs) (q ∷ ps) l p m n o =
    let g : t ≤ q = o in
    (p.0, (higher_is c.begin s).both q p.1 (omega (arith, m, g)), p.2, seen_narrow zero s e t cs ps q p.3 m n (later cs ps q g p.3))
  where
    later : (cs : List Call) (ps : List ℕ) (q : ℕ) → t ≤ q → IsPlaced q cs ps → IsCommittedAt zero ps t
    later cs [] q m r = tt
    later [] (o ∷ ps) q m r = absurd r
    later (y ∷ cs) (o ∷ ps) q m r = let n : q ≤ o = r.0 in omega (arith, m, n)
seen_narrow (suc i) s e t (c ∷ cs) (q ∷ ps) l p m n o =
    let g : q ≤ t = o.0 in
    (p.0, p.1, (lower_is c.end e).both q p.2 (omega (arith, n, g)), seen_narrow i s e t cs ps q p.3 m n o.1)

narrow_length : (i s e : ℕ) (cs : List Call) → length (narrow i s e cs) ≡ length cs
narrow_length zero s e [] = refl
narrow_length (suc i) s e [] = refl
narrow_length zero s e (c ∷ cs) = ap suc (narrow_length zero s e cs)
narrow_length (suc i) s e (c ∷ cs) = ap suc (narrow_length i s e cs)

-- all answers

of_narrow : (i s e : ℕ) (cs : List Call) (bs : List Sighting) → AreOfKey cs bs → AreOfKey (narrow i s e cs) bs
of_narrow i s e cs [] o = tt
of_narrow i s e cs (a ∷ bs) o = (o.0, subst (λ n. a.place ≤ n) (sym (narrow_length i s e cs)) o.1, of_narrow i s e cs bs o.2)

all_seen : (cs : List Call) (bs : List Sighting) (ps : List ℕ) → AreOfKey cs bs → IsPlaced 0 (narrowed cs bs) ps → IsPlaced 0 cs ps × AllExplained ps bs
all_seen cs [] ps o p = (p, tt)
all_seen cs (a ∷ bs) ps o p =
    let r : IsPlaced 0 (narrow a.place a.since a.end cs) ps × AllExplained ps bs =
    all_seen (narrow a.place a.since a.end cs) bs ps (of_narrow a.place a.since a.end cs bs o.2) p in
    let s : IsSeen a.place a.since a.end 0 ps = narrow_seen a.place a.since a.end cs ps 0 r.0 (omega arith) o.0 o.1 in
    (narrow_wide a.place a.since a.end cs ps 0 r.0, (record { at = s.t; since = s.since; until = s.until; committed = s.there }, r.1))

seen_all : (cs : List Call) (bs : List Sighting) (ps : List ℕ) → IsPlaced 0 cs ps → AllExplained ps bs → IsPlaced 0 (narrowed cs bs) ps
seen_all cs [] ps p x = p
seen_all cs (a ∷ bs) ps p x =
    seen_all (narrow a.place a.since a.end cs) bs ps
    (seen_narrow a.place a.since a.end (x.0).at cs ps 0 p (x.0).since (x.0).until (x.0).committed) x.1

pub exact : IsExact
exact cs bs o = (
  λ f. let r : (ps : List ℕ) × IsPlaced 0 (narrowed cs bs) ps = early_placed (narrowed cs bs) 0 f in
      let s : IsPlaced 0 cs r.0 × AllExplained r.0 bs = all_seen cs bs r.0 o r.1 in
      (r.0, s.0, s.1),
  λ e. placed_early (narrowed cs bs) e.0 0 0 (omega arith) (seen_all cs bs e.0 e.1 e.2),
)
