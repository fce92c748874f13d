-- Why the judge is right of one answer: an answer that it refuses has no placing, and of one that it lets pass any placing can be bent so
-- that it explains it.
use Rattle.std.proofs.Common.{◌≡◌, ◌≤◌, inl, inr, ℕ, zero, suc, Bool, true, false, cond, nat_le, List, [], ◌∷◌, refl, sym, ◌∙◌, arith}
use Rattle.std.specs.Prelude.{◌&&◌, ◌⊎◌}
use Rattle.std.proofs.lemmas.Bool.{true≢false, and_parts}
use Rattle.std.proofs.lemmas.Bool.Decides.{nat_tests}
use Rattle.hib_trace_law.specs.declared.calls.Call.{Call}
use Rattle.hib_trace_law.specs.declared.calls.Sighting.{Sighting}
use Rattle.hib_trace_law.specs.Placings.{IsPlaced, IsCommittedAt, may_be, IsSound, IsComplete}

pub le_test : (m n : ℕ) → m ≤ n → nat_le m n ≡ true
le_test m n p = grind (arith, nat_tests)

pub le_of : (m n : ℕ) → nat_le m n ≡ true → m ≤ n
le_of m n p = grind (arith, nat_tests)

pub both : (a b : Bool) → a ≡ true → b ≡ true → (a && b) ≡ true
both a b p q = rw (p, q) refl

-- what is explained is let pass

fits : (i : ℕ) (cs : List Call) (a : Sighting) (ps : List ℕ) (least t : ℕ) → IsPlaced least cs ps → a.since ≤ t → t ≤ a.end → IsCommittedAt i ps t →
    may_be i cs a ≡ true
fits zero [] a [] least t p s u c = refl
fits zero [] a (q ∷ ps) least t p s u c = absurd p
fits zero (x ∷ cs) a [] least t p s u c = absurd p
fits zero (x ∷ cs) a (q ∷ ps) least t p s u c =
    both (nat_le a.since x.end) (may_be zero cs a)
    (le_test a.since x.end (let m : t ≤ q = c in let n : q ≤ x.end = p.2 in omega (arith, s, m, n)))
    (fits zero cs a ps q t p.3 s u (later cs ps q c p.3))
  where
    later : (cs : List Call) (ps : List ℕ) (q : ℕ) → t ≤ q → IsPlaced q cs ps → IsCommittedAt zero ps t
    later cs [] q m r = tt
    later [] (o ∷ ps) q m r = absurd r
    later (y ∷ cs) (o ∷ ps) q m r = let n : q ≤ o = r.0 in omega (arith, m, n)
fits (suc i) [] a [] least t p s u c = absurd c
fits (suc i) [] a (q ∷ ps) least t p s u c = absurd p
fits (suc i) (x ∷ cs) a [] least t p s u c = absurd p
fits (suc i) (x ∷ cs) a (q ∷ ps) least t p s u c =
    both (nat_le x.begin a.end) (may_be i cs a)
    (le_test x.begin a.end (let m : q ≤ t = c.0 in let n : x.begin ≤ q = p.1 in omega (arith, u, m, n)))
    (fits i cs a ps q t p.3 s u c.1)

pub sound : IsSound
sound cs a f ps p e = true≢false (sym (fits a.place cs a ps 0 e.at p e.since e.until e.committed) ∙ f)

-- what is let pass has an instant that suits every commit

-- no commit behind the first i ended before t
abbrev IsUnder : ℕ → List Call → ℕ → Type 0
IsUnder i [] t = Unit {0}
IsUnder zero (c ∷ cs) t = (t ≤ c.end) × IsUnder zero cs t
IsUnder (suc i) (c ∷ cs) t = IsUnder i cs t

-- nor did one of the first i begin after it
abbrev IsClear : ℕ → List Call → ℕ → Type 0
IsClear zero cs t = IsUnder zero cs t
IsClear (suc i) [] t = ⊥
IsClear (suc i) (c ∷ cs) t = (c.begin ≤ t) × IsClear i cs t

under_placed : (i : ℕ) (cs : List Call) (ps : List ℕ) (least s : ℕ) → s ≤ least → IsPlaced least cs ps → IsUnder i cs s
under_placed zero [] ps least s l p = tt
under_placed (suc i) [] ps least s l p = tt
under_placed zero (c ∷ cs) [] least s l p = absurd p
under_placed (suc i) (c ∷ cs) [] least s l p = absurd p
under_placed zero (c ∷ cs) (q ∷ ps) least s l p =
    let m : least ≤ q = p.0 in
    let n : q ≤ c.end = p.2 in
    (omega (arith, l, m, n), under_placed zero cs ps q s (omega (arith, l, m)) p.3)
under_placed (suc i) (c ∷ cs) (q ∷ ps) least s l p = let m : least ≤ q = p.0 in under_placed i cs ps q s (omega (arith, l, m)) p.3

record IsSuited (i : ℕ) (cs : List Call) (s e : ℕ) : Type 0 where
  t : ℕ
  above : s ≤ t
  below : t ≤ e
  clear : IsClear i cs t

order : (m n : ℕ) → (m ≤ n) ⊎ (n ≤ m)
order m n = by (nat_le m n) refl
  where
    by : (b : Bool) → nat_le m n ≡ b → (m ≤ n) ⊎ (n ≤ m)
    by true p = inl (le_of m n p)
    by false p = inr (grind (arith, nat_tests))

suits : (i : ℕ) (cs : List Call) (a : Sighting) (qs : List ℕ) (least s : ℕ) → IsPlaced least cs qs → may_be i cs a ≡ true → s ≤ a.end → IsUnder i cs s →
    IsSuited i cs s a.end
suits zero cs a qs least s p m e u = record { t = s; above = omega arith; below = e; clear = u }
suits (suc i) [] a qs least s p m e u = absurd (true≢false (sym m))
suits (suc i) (c ∷ cs) a [] least s p m e u = absurd p
suits (suc i) (c ∷ cs) a (q ∷ qs) least s p m e u =
    let b : (nat_le c.begin a.end ≡ true) × (may_be i cs a ≡ true) = and_parts (nat_le c.begin a.end) (may_be i cs a) m in
    elim (order s c.begin) [
      | inl l ↦ let r : IsSuited i cs c.begin a.end = suits i cs a qs q c.begin p.3 b.1 (le_of c.begin a.end b.0) (under_placed i cs qs q c.begin p.1 p.3) in
          let v : c.begin ≤ r.t = r.above in
          record { t = r.t; above = omega (arith, l, v); below = r.below; clear = (v, r.clear) }
      | inr l ↦ let r : IsSuited i cs s a.end = suits i cs a qs q s p.3 b.1 e u in
          let v : s ≤ r.t = r.above in
          record { t = r.t; above = v; below = r.below; clear = (omega (arith, l, v), r.clear) }
    ]

passed : (cs : List Call) (a : Sighting) (i : ℕ) → may_be i cs a ≡ true → IsUnder i cs a.since
passed [] a i m = tt
passed (c ∷ cs) a zero m =
    let b : (nat_le a.since c.end ≡ true) × (may_be zero cs a ≡ true) = and_parts (nat_le a.since c.end) (may_be zero cs a) m in
    (le_of a.since c.end b.0, passed cs a zero b.1)
passed (c ∷ cs) a (suc i) m = passed cs a i (and_parts (nat_le c.begin a.end) (may_be i cs a) m).1

-- a placing bent to an instant: the first i are at it at the latest, the others at the earliest

lower : ℕ → ℕ → ℕ
lower q t = cond (nat_le q t) q t

higher : ℕ → ℕ → ℕ
higher q t = cond (nat_le q t) t q

record IsLower (q t l : ℕ) : Type 0 where
  one : l ≤ q
  two : l ≤ t
  both : (m : ℕ) → m ≤ q → m ≤ t → m ≤ l

record IsHigher (q t h : ℕ) : Type 0 where
  one : q ≤ h
  two : t ≤ h
  both : (m : ℕ) → q ≤ m → t ≤ m → h ≤ m

lower_is : (q t : ℕ) → IsLower q t (lower q t)
unfolding lower
lower_is q t = by (nat_le q t) refl
  where
    by : (b : Bool) → nat_le q t ≡ b → IsLower q t (cond b q t)
    by true p = let l : q ≤ t = le_of q t p in record { one = omega arith; two = l; both = λ m x y. x }
    by false p = let l : t ≤ q = grind (arith, nat_tests) in record { one = l; two = omega arith; both = λ m x y. y }

higher_is : (q t : ℕ) → IsHigher q t (higher q t)
unfolding higher
higher_is q t = by (nat_le q t) refl
  where
    by : (b : Bool) → nat_le q t ≡ b → IsHigher q t (cond b t q)
    by true p = let l : q ≤ t = le_of q t p in record { one = l; two = omega arith; both = λ m x y. y }
    by false p = let l : t ≤ q = grind (arith, nat_tests) in record { one = omega arith; two = l; both = λ m x y. x }

abbrev raised : List ℕ → ℕ → List ℕ
raised [] t = []
raised (q ∷ qs) t = higher q t ∷ raised qs t

abbrev bent : ℕ → List ℕ → ℕ → List ℕ
bent zero qs t = raised qs t
bent (suc i) [] t = []
bent (suc i) (q ∷ qs) t = lower q t ∷ bent i qs t

raised_placed : (cs : List Call) (qs : List ℕ) (least l t : ℕ) → l ≤ higher least t → IsPlaced least cs qs → IsUnder zero cs t → IsPlaced l cs (raised qs t)
raised_placed [] [] least l t m p u = tt
raised_placed [] (q ∷ qs) least l t m p u = absurd p
raised_placed (c ∷ cs) [] least l t m p u = absurd p
raised_placed (c ∷ cs) (q ∷ qs) least l t m p u =
    let h : IsHigher q t (higher q t) = higher_is q t in
    let g : IsHigher least t (higher least t) = higher_is least t in
    let a : least ≤ q = p.0 in
    let b : c.begin ≤ q = p.1 in
    let one : q ≤ higher q t = h.one in
    let two : higher least t ≤ higher q t = g.both (higher q t) (omega (arith, a, one)) h.two in
    (omega (arith, m, two), omega (arith, b, one), h.both c.end p.2 u.0, raised_placed cs qs q (higher q t) t (omega arith) p.3 u.1)

bent_placed : (i : ℕ) (cs : List Call) (qs : List ℕ) (least l t : ℕ) → l ≤ least → l ≤ t → IsPlaced least cs qs → IsClear i cs t → IsPlaced l cs (bent i qs t)
bent_placed zero cs qs least l t m n p u =
    let g : IsHigher least t (higher least t) = higher_is least t in
    let o : t ≤ higher least t = g.two in
    raised_placed cs qs least l t (omega (arith, n, o)) p u
bent_placed (suc i) [] qs least l t m n p u = absurd u
bent_placed (suc i) (c ∷ cs) [] least l t m n p u = absurd p
bent_placed (suc i) (c ∷ cs) (q ∷ qs) least l t m n p u =
    let h : IsLower q t (lower q t) = lower_is q t in
    let a : least ≤ q = p.0 in
    let one : lower q t ≤ q = h.one in
    let e : q ≤ c.end = p.2 in
    (h.both l (omega (arith, m, a)) n, h.both c.begin p.1 u.0, omega (arith, one, e), bent_placed i cs qs q (lower q t) t one h.two p.3 u.1)

bent_committed : (i : ℕ) (cs : List Call) (qs : List ℕ) (least t : ℕ) → IsPlaced least cs qs → IsClear i cs t → IsCommittedAt i (bent i qs t) t
bent_committed zero cs [] least t p u = tt
bent_committed zero cs (q ∷ qs) least t p u = (higher_is q t).two
bent_committed (suc i) [] qs least t p u = absurd u
bent_committed (suc i) (c ∷ cs) [] least t p u = absurd p
bent_committed (suc i) (c ∷ cs) (q ∷ qs) least t p u = ((lower_is q t).two, bent_committed i cs qs q t p.3 u.1)

pub complete : IsComplete
complete cs a l m qs q =
    let s : IsSuited a.place cs a.since a.end = suits a.place cs a qs 0 a.since q m l (passed cs a a.place m) in (
      bent a.place qs s.t,
      bent_placed a.place cs qs 0 0 s.t (omega arith) (omega arith) q s.clear,
      record { at = s.t; since = s.above; until = s.below; committed = bent_committed a.place cs qs 0 s.t q s.clear },
    )
