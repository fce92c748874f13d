-- Why what the judge refuses is false in every explanation.
use Rattle.std.proofs.Common.{◌≡◌, ◌≤◌, ◌<◌, inl, inr, ℕ, Bool, true, false, Option, None, Some, List, refl, sym, subst, arith}
use Rattle.std.specs.Prelude.{◌&&◌, ◌⊎◌, not, nat_eq, nat_lt}
use Rattle.std.specs.List.{list_any}
use Rattle.std.proofs.lemmas.Bool.{false≢true, both_ways, and_parts, and_from, or_cases, ltb-true, eq-eqb}
use Rattle.hib_trace_law.specs.declared.commits.Commit.{Commit}
use Rattle.hib_trace_law.specs.declared.commits.Answer.{Answer}
use Rattle.hib_trace_law.specs.Certain.{Placed, IsAmong, IsUntil, IsPlaced, IsCommittedAt, IsExplained, ended_before, is_before, is_after, is_old, is_new, may_be, may_pass}
use Rattle.hib_trace_law.proofs.Among.{fails, any_of, IsFound, any_found, ComesFrom, map_among, among_map}

pub not_from : (b : Bool) → b ≡ false → not b ≡ true
not_from true p = sym p
not_from false p = refl

-- what ended before an instant took effect before it
pub before_end : (o : Option ℕ) (p t : ℕ) → IsUntil o p → ended_before o t ≡ true → p < t
before_end None p t u e = absurd (false≢true e)
before_end (Some n) p t u e = let l : n < t = ltb-true n t e in let m : p ≤ n = u in omega (arith, l, m)

-- a row isn't the committed one any more after a commit that certainly came after it
pub replaced : (x y : Placed) (u : ℕ) → IsUntil x.commit.end x.at → y.commit.begin ≤ y.at → y.at < u →
    ((u ≤ y.at) ⊎ ((y.at ≤ x.at) × (is_before x.commit y.commit ≡ false))) → is_after x.commit y.commit ≡ true → ⊥
replaced x y u xe yb l (inl m) a = omega (arith, l, m)
replaced x y u xe yb l (inr m) a = elim (or_cases (is_before x.commit y.commit) (ended_before x.commit.end y.commit.begin) a) [
  | inl b ↦ both_ways (is_before x.commit y.commit) m.1 b
  | inr b ↦ let n : x.at < y.commit.begin = before_end x.commit.end x.at y.commit.begin xe b in let k : y.at ≤ x.at = m.0 in omega (arith, n, k, yb)
]

-- the placed commit of one of the key's
pub placed_of : (cs : List Commit) (xs : List Placed) → IsPlaced cs xs → (d : Commit) → IsAmong d cs → ComesFrom (λ x. x.commit) d xs
placed_of cs xs p d m = map_among (λ (x : Placed). x.commit) d xs (subst (λ ds. IsAmong d ds) (sym p.each) m)

pub commit_of : (cs : List Commit) (xs : List Placed) → IsPlaced cs xs → (x : Placed) → IsAmong x xs → IsAmong x.commit cs
commit_of cs xs p x m = subst (λ ds. IsAmong x.commit ds) p.each (among_map (λ (y : Placed). y.commit) x xs m)

pub least : (cs : List Commit) (xs : List Placed) → IsPlaced cs xs → (x : Placed) (t u : ℕ) → is_old cs x.commit t ≡ true → t ≤ u → IsCommittedAt xs x u → ⊥
least cs xs p x t u o l h =
    let f : IsFound (λ d. is_after x.commit d && ended_before d.end t) cs = any_found (λ d. is_after x.commit d && ended_before d.end t) cs o in
    let y : ComesFrom (λ z. z.commit) f.one xs = placed_of cs xs p f.one f.among in
    let q : (is_after x.commit y.one.commit && ended_before y.one.commit.end t) ≡ true =
    subst (λ d. (is_after x.commit d && ended_before d.end t) ≡ true) (sym y.is) f.passes in
    let b : (is_after x.commit y.one.commit ≡ true) × (ended_before y.one.commit.end t ≡ true) =
    and_parts (is_after x.commit y.one.commit) (ended_before y.one.commit.end t) q in
    let e : y.one.at < t = before_end y.one.commit.end y.one.at t (p.until y.one y.among) b.1 in
    replaced x y.one u (p.until x h.among) (p.since y.one y.among) (omega (arith, e, l)) (h.last y.one y.among) b.0

early : (cs : List Commit) (xs : List Placed) → IsPlaced cs xs → (x : Placed) (t u : ℕ) → IsCommittedAt xs x t → t ≤ u → is_new cs x.commit u ≡ true → ⊥
early cs xs p x t u h l n = elim (or_cases (nat_lt u x.commit.begin) (list_any (λ d. is_before d x.commit && nat_lt u d.begin) cs) n) [
  | inl e ↦ let a : u < x.commit.begin = ltb-true u x.commit.begin e in
      let b : x.commit.begin ≤ x.at = p.since x h.among in
      let c : x.at ≤ t = h.made in
      omega (arith, a, b, c, l)
  | inr e ↦ let f : IsFound (λ d. is_before d x.commit && nat_lt u d.begin) cs = any_found (λ d. is_before d x.commit && nat_lt u d.begin) cs e in
      let y : ComesFrom (λ z. z.commit) f.one xs = placed_of cs xs p f.one f.among in
      let q : (is_before y.one.commit x.commit && nat_lt u y.one.commit.begin) ≡ true =
      subst (λ d. (is_before d x.commit && nat_lt u d.begin) ≡ true) (sym y.is) f.passes in
      let b : (is_before y.one.commit x.commit ≡ true) × (nat_lt u y.one.commit.begin ≡ true) =
      and_parts (is_before y.one.commit x.commit) (nat_lt u y.one.commit.begin) q in
      let v : y.one.at ≤ x.at = p.ordered y.one x y.among h.among b.0 in
      let w : u < y.one.commit.begin = ltb-true u y.one.commit.begin b.1 in
      let k : y.one.commit.begin ≤ y.one.at = p.since y.one y.among in
      let c : x.at ≤ t = h.made in
      omega (arith, v, w, k, c, l)
]

-- the place that explains an answer is one of those that the judge lets pass
pub let_pass : (cs : List Commit) (xs : List Placed) (a : Answer) → IsPlaced cs xs → (e : IsExplained xs a) → may_be cs a e.source.commit ≡ true
let_pass cs xs a p e =
    let x : Placed = e.source in
    let c : Commit = x.commit in
    let o : is_old cs c a.since ≡ false = fails (is_old cs c a.since) (λ t. least cs xs p x a.since e.at t e.since e.committed) in
    let n : is_new cs c a.end ≡ false = fails (is_new cs c a.end) (λ t. early cs xs p x e.at a.end e.committed e.until t) in
    and_from (nat_eq c.row a.row && not (is_old cs c a.since)) (not (is_new cs c a.end))
    (and_from (nat_eq c.row a.row) (not (is_old cs c a.since)) (eq-eqb c.row a.row e.row) (not_from (is_old cs c a.since) o))
    (not_from (is_new cs c a.end) n)

pub sound : (cs : List Commit) (a : Answer) → may_pass cs a ≡ false → (xs : List Placed) → IsPlaced cs xs → IsExplained xs a → ⊥
sound cs a f xs p e =
    both_ways (may_pass cs a) f (any_of (may_be cs a) e.source.commit cs (commit_of cs xs p e.source e.committed.among) (let_pass cs xs a p e))
