-- Why answers that went back, and lost updates, are so in every explanation.
use Rattle.std.proofs.Common.{◌≡◌, ◌≤◌, ◌<◌, inl, inr, ℕ, true, false, List, sym, subst, arith}
use Rattle.std.specs.Prelude.{◌&&◌, ◌⊎◌, not, nat_eq, nat_lt}
use Rattle.std.specs.List.{list_any}
use Rattle.std.proofs.lemmas.Bool.{both_ways, and_parts, and_from, or_parts, or_cases, not-false, ltb-true, eq-eqb}
use Rattle.hib_trace_law.specs.declared.commits.Commit.{Commit}
use Rattle.hib_trace_law.specs.declared.commits.Answer.{Answer}
use Rattle.hib_trace_law.specs.Certain.{Placed, IsAmong, IsUntil, IsPlaced, IsExplained, ended_before, is_before, is_after, may_be}
use Rattle.hib_trace_law.specs.Pairs.{may_follow, RestsOn, may_rest_on, may_rest}
use Rattle.hib_trace_law.proofs.Among.{fails, any_of, IsFound, any_found, ComesFrom}
use Rattle.hib_trace_law.proofs.Explained.{not_from, before_end, replaced, placed_of, commit_of, let_pass}

pub back : (cs : List Commit) (a b : Answer) → may_follow cs a b ≡ false → (xs : List Placed) → IsPlaced cs xs → IsExplained xs a → IsExplained xs b → ⊥
back cs a b f xs p ea eb =
    let c : Commit = ea.source.commit in
    let d : Commit = eb.source.commit in
    let q : (not (nat_lt a.end b.since) ≡ false) × (list_any (λ v. may_be cs a v && list_any (λ w. may_be cs b w && not (is_after w v)) cs) cs ≡ false) =
    or_parts (not (nat_lt a.end b.since)) (list_any (λ v. may_be cs a v && list_any (λ w. may_be cs b w && not (is_after w v)) cs) cs) f in
    let l : a.end < b.since = ltb-true a.end b.since (not-false (nat_lt a.end b.since) q.0) in
    let s : ea.source.at ≤ ea.at = ea.committed.made in
    let t : ea.at ≤ a.end = ea.until in
    let u : b.since ≤ eb.at = eb.since in
    let n : is_after d c ≡ false = fails (is_after d c) (replaced eb.source ea.source eb.at (p.until eb.source eb.committed.among)
    (p.since ea.source ea.committed.among) (omega (arith, l, s, t, u)) (eb.committed.last ea.source ea.committed.among)) in
    both_ways (list_any (λ v. may_be cs a v && list_any (λ w. may_be cs b w && not (is_after w v)) cs) cs) q.1
    (any_of (λ v. may_be cs a v && list_any (λ w. may_be cs b w && not (is_after w v)) cs) c cs (commit_of cs xs p ea.source ea.committed.among)
    (and_from (may_be cs a c) (list_any (λ w. may_be cs b w && not (is_after w c)) cs) (let_pass cs xs a p ea)
    (any_of (λ w. may_be cs b w && not (is_after w c)) d cs (commit_of cs xs p eb.source eb.committed.among)
    (and_from (may_be cs b d) (not (is_after d c)) (let_pass cs xs b p eb) (not_from (is_after d c) n)))))

-- a commit that certainly came before another one, and isn't known to be after it, isn't at its instant or later
between : (d y x : Placed) → IsUntil d.commit.end d.at → y.commit.begin ≤ y.at → IsUntil y.commit.end y.at → x.commit.begin ≤ x.at →
    (((x.at ≤ y.at) × (is_before y.commit x.commit ≡ false)) ⊎ ((y.at ≤ d.at) × (is_before d.commit y.commit ≡ false))) →
    is_after d.commit y.commit ≡ true → is_after y.commit x.commit ≡ true → ⊥
between d y x de yb ye xb (inl m) p q = elim (or_cases (is_before y.commit x.commit) (ended_before y.commit.end x.commit.begin) q) [
  | inl b ↦ both_ways (is_before y.commit x.commit) m.1 b
  | inr b ↦ let n : y.at < x.commit.begin = before_end y.commit.end y.at x.commit.begin ye b in let k : x.at ≤ y.at = m.0 in omega (arith, n, k, xb)
]
between d y x de yb ye xb (inr m) p q = elim (or_cases (is_before d.commit y.commit) (ended_before d.commit.end y.commit.begin) p) [
  | inl b ↦ both_ways (is_before d.commit y.commit) m.1 b
  | inr b ↦ let n : d.at < y.commit.begin = before_end d.commit.end d.at y.commit.begin de b in let k : y.at ≤ d.at = m.0 in omega (arith, n, k, yb)
]

module _ (cs : List Commit) (xs : List Placed) (p : IsPlaced cs xs) (x : Placed) (m : IsAmong x xs) (row : ℕ) (r : RestsOn xs x row) where
  not_later : is_after x.commit r.source.commit ≡ true → ⊥
  not_later a = elim (or_cases (is_before x.commit r.source.commit) (ended_before x.commit.end r.source.commit.begin) a) [
    | inl b ↦ both_ways (is_before x.commit r.source.commit) r.earlier b
    | inr b ↦ let n : x.at < r.source.commit.begin = before_end x.commit.end x.at r.source.commit.begin (p.until x m) b in
        let k : r.source.at ≤ x.at = r.made in
        let o : r.source.commit.begin ≤ r.source.at = p.since r.source r.among in
        omega (arith, n, k, o)
  ]

  none_between : list_any (λ e. is_after r.source.commit e && is_after e x.commit) cs ≡ true → ⊥
  none_between a =
      let f : IsFound (λ e. is_after r.source.commit e && is_after e x.commit) cs = any_found (λ e. is_after r.source.commit e && is_after e x.commit) cs a in
      let y : ComesFrom (λ z. z.commit) f.one xs = placed_of cs xs p f.one f.among in
      let q : (is_after r.source.commit y.one.commit && is_after y.one.commit x.commit) ≡ true =
      subst (λ e. (is_after r.source.commit e && is_after e x.commit) ≡ true) (sym y.is) f.passes in
      let b : (is_after r.source.commit y.one.commit ≡ true) × (is_after y.one.commit x.commit ≡ true) =
      and_parts (is_after r.source.commit y.one.commit) (is_after y.one.commit x.commit) q in
      between r.source y.one x (p.until r.source r.among) (p.since y.one y.among) (p.until y.one y.among) (p.since x m) (r.last y.one y.among) b.0 b.1

  pub rests : may_rest cs x.commit row ≡ true
  rests =
      let e : Commit = r.source.commit in
      let c : Commit = x.commit in
      any_of (λ v. nat_eq v.row row && may_rest_on cs c v) e cs (commit_of cs xs p r.source r.among)
      (and_from (nat_eq e.row row) (may_rest_on cs c e) (eq-eqb e.row row r.is)
      (and_from (not (is_after c e)) (not (list_any (λ v. is_after e v && is_after v c) cs))
      (not_from (is_after c e) (fails (is_after c e) not_later))
      (not_from (list_any (λ v. is_after e v && is_after v c) cs) (fails (list_any (λ v. is_after e v && is_after v c) cs) none_between))))

pub lost : (cs : List Commit) (c : Commit) (row : ℕ) → may_rest cs c row ≡ false → (xs : List Placed) → IsPlaced cs xs →
    (x : Placed) → IsAmong x xs → x.commit ≡ c → RestsOn xs x row → ⊥
lost cs c row f xs p x m i r = both_ways (may_rest cs x.commit row) (subst (λ d. may_rest cs d row ≡ false) (sym i) f) (rests cs xs p x m row r)
