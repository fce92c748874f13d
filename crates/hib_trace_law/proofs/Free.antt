-- Why an answer that passes is right in an explanation, if nothing is known of the order but what the calls say: its commit takes effect as late,
-- and what had ended before it as early, as the calls allow.
use Rattle.std.proofs.Common.{◌≡◌, ◌≤◌, ◌<◌, inl, inr, ℕ, Bool, true, false, cond, Option, None, Some, List, [], ◌∷◌, map, refl, sym, ◌∙◌, ap, subst, arith}
use Rattle.std.specs.Prelude.{◌&&◌, ◌⊎◌, not, is_some, nat_eq, nat_lt}
use Rattle.std.specs.List.{list_any, list_all}
use Rattle.std.proofs.lemmas.Bool.{true≢false, false≢true, both_ways, and_parts, and_from, or_parts, not-true, ltb-true, ltb-false, lt-ltb, eqb-true}
use Rattle.hib_trace_law.specs.declared.commits.Commit.{Commit}
use Rattle.hib_trace_law.specs.declared.commits.Answer.{Answer}
use Rattle.hib_trace_law.specs.Together.{higher, lower}
use Rattle.hib_trace_law.specs.Certain.{Placed, IsAmong, IsUntil, IsPlaced, IsCommittedAt, IsExplained, ended_before, is_lower, is_before, is_after, is_old, is_new, may_be, may_pass, is_free}
use Rattle.hib_trace_law.proofs.Among.{fails, or_right, any_of, all_of, IsFound, any_found, ComesFrom, map_among, among_map}
use Rattle.hib_trace_law.proofs.Together.{IsHigher, lower_is, higher_is}

-- no version is lower than another if there is none
unordered : (c d : Commit) → is_some c.version ≡ false → is_before c d ≡ true → ⊥
unordered c d n b = no c.version d.version n (and_parts (is_some c.end && is_some d.end) (is_lower c.version d.version) b).1
  where
    no : (m n : Option ℕ) → is_some m ≡ false → is_lower m n ≡ true → ⊥
    no None n f l = false≢true l
    no (Some m) n f l = true≢false f

later_end : (o : Option ℕ) (s t : ℕ) → s ≤ t → ended_before o s ≡ true → ended_before o t ≡ true
later_end None s t l e = e
later_end (Some n) s t l e = let m : n < s = ltb-true n s e in lt-ltb n t (omega (arith, l, m))

end_between : (o : Option ℕ) (s t : ℕ) → ended_before o s ≡ false → ended_before o t ≡ true → s ≤ t
end_between None s t f e = absurd (false≢true e)
end_between (Some n) s t f e = let l : s ≤ n = ltb-false n s f in let m : n < t = ltb-true n t e in omega (arith, l, m)

not_ended : (o : Option ℕ) (p t : ℕ) → ended_before o t ≡ false → p ≤ t → IsUntil o p
not_ended None p t f l = tt
not_ended (Some n) p t f l = let m : t ≤ n = ltb-false n t f in omega (arith, l, m)

-- the first of two ends, if the first one is there
abbrev first_end : Option ℕ → Option ℕ → ℕ
first_end None o = 0
first_end (Some m) None = m
first_end (Some m) (Some n) = lower m n

first_until : (o g : Option ℕ) (t : ℕ) → ended_before o t ≡ true → IsUntil o (first_end o g)
first_until None g t e = absurd (false≢true e)
first_until (Some m) None t e = omega arith
first_until (Some m) (Some n) t e = (lower_is m n).one

first_since : (o g : Option ℕ) (s t : ℕ) → ended_before o t ≡ true → ended_before o s ≡ false → ended_before g s ≡ false → s ≤ first_end o g
first_since None g s t e f h = absurd (false≢true e)
first_since (Some m) None s t e f h = ltb-false m s f
first_since (Some m) (Some n) s t e f h = (lower_is m n).both s (ltb-false m s f) (ltb-false n s h)

first_below : (o g : Option ℕ) (t : ℕ) → ended_before o t ≡ true → first_end o g ≤ t
first_below None g t e = absurd (false≢true e)
first_below (Some m) None t e = let l : m < t = ltb-true m t e in omega (arith, l)
first_below (Some m) (Some n) t e = let l : m < t = ltb-true m t e in let k : lower m n ≤ m = (lower_is m n).one in omega (arith, l, k)

first_least : (o g : Option ℕ) (t : ℕ) → ended_before o t ≡ true → ended_before g t ≡ true → first_end o g ≤ first_end g g
first_least None g t e f = absurd (false≢true e)
first_least (Some m) None t e f = absurd (false≢true f)
first_least (Some m) (Some n) t e f = (lower_is n n).both (lower m n) (lower_is m n).two (lower_is m n).two

-- an instant for each commit if the answer is the row of b, at t
abbrev instant : Commit → ℕ → Commit → ℕ
instant b t c = cond (ended_before c.end t) (first_end c.end b.end) (higher c.begin t)

abbrev put : (Commit → ℕ) → Commit → Placed
put f c = record { commit = c; at = f c }

put_back : (f : Commit → ℕ) (cs : List Commit) → map (λ x. x.commit) (map (put f) cs) ≡ cs
put_back f [] = refl
put_back f (c ∷ cs) = ap (λ ds. c ∷ ds) (put_back f cs)

-- what is known of a commit beside that of the answer's row
record Suits (b c : Commit) (s : ℕ) : Type 0 where
  unordered_b : is_some b.version ≡ false
  unordered_c : is_some c.version ≡ false
  call_b : ended_before b.end b.begin ≡ false
  call_c : ended_before c.end c.begin ≡ false
  not_old : is_after b c ≡ true → ended_before c.end s ≡ true → ⊥

cases_higher : (m n : ℕ) → (higher m n ≡ m) ⊎ (higher m n ≡ n)
cases_higher m n =
    let h : IsHigher m n (higher m n) = higher_is m n in
    by (nat_lt m n) refl h
  where
    by : (v : Bool) → nat_lt m n ≡ v → IsHigher m n (higher m n) → (higher m n ≡ m) ⊎ (higher m n ≡ n)
    by true e h = let l : m < n = ltb-true m n e in
        let u : higher m n ≤ n = h.both n (omega (arith, l)) (omega arith) in let w : n ≤ higher m n = h.two in inr (omega (arith, u, w))
    by false e h = let l : n ≤ m = ltb-false m n e in
        let u : higher m n ≤ m = h.both m (omega arith) l in let w : m ≤ higher m n = h.one in inl (omega (arith, u, w))

-- what had ended before the answer's instant began before the answer's commit had ended
began_in_time : (b c : Commit) (s : ℕ) → Suits b c s → ended_before c.end (higher b.begin s) ≡ true → ended_before b.end c.begin ≡ false
began_in_time b c s k e = fails (ended_before b.end c.begin) (λ f. elim (cases_higher b.begin s) [
  | inl q ↦ let g : ended_before c.end b.begin ≡ true = sym (ap (ended_before c.end) q) ∙ e in
      both_ways (ended_before b.end b.begin) k.call_b (later_end b.end c.begin b.begin (end_between c.end c.begin b.begin k.call_c g) f)
  | inr q ↦ k.not_old (or_right (is_before b c) (ended_before b.end c.begin) f) (sym (ap (ended_before c.end) q) ∙ e)
])

module _ (b c : Commit) (s : ℕ) (k : Suits b c s) where
  abbrev t : ℕ
  t = higher b.begin s

  instant_since : c.begin ≤ instant b t c
  instant_since = by (ended_before c.end t) refl
    where
      by : (v : Bool) → ended_before c.end t ≡ v → c.begin ≤ cond v (first_end c.end b.end) (higher c.begin t)
      by true e = first_since c.end b.end c.begin t e k.call_c (began_in_time b c s k e)
      by false e = (higher_is c.begin t).one

  instant_until : IsUntil c.end (instant b t c)
  instant_until = by (ended_before c.end t) refl
    where
      by : (v : Bool) → ended_before c.end t ≡ v → IsUntil c.end (cond v (first_end c.end b.end) (higher c.begin t))
      by true e = first_until c.end b.end t e
      by false e = elim (cases_higher c.begin t) [
        | inl q ↦ subst (IsUntil c.end) (sym q) (not_ended c.end c.begin c.begin k.call_c (omega arith))
        | inr q ↦ subst (IsUntil c.end) (sym q) (not_ended c.end t t e (omega arith))
      ]

  instant_made : instant b t b ≤ t
  instant_made = by (ended_before b.end t) refl
    where
      by : (v : Bool) → ended_before b.end t ≡ v → cond v (first_end b.end b.end) (higher b.begin t) ≤ t
      by true e = first_below b.end b.end t e
      by false e = (higher_is b.begin t).both t (higher_is b.begin s).one (omega arith)

  instant_last : (t ≤ instant b t c) ⊎ ((instant b t c ≤ instant b t b) × (is_before b c ≡ false))
  instant_last = by (ended_before c.end t) refl
    where
      under : (w : Bool) → ended_before b.end t ≡ w → ended_before c.end t ≡ true → first_end c.end b.end ≤ cond w (first_end b.end b.end) (higher b.begin t)
      under true f e = first_least c.end b.end t e f
      under false f e = let m : first_end c.end b.end ≤ t = first_below c.end b.end t e in
          let n : t ≤ higher b.begin t = (higher_is b.begin t).two in omega (arith, m, n)

      by : (v : Bool) → ended_before c.end t ≡ v →
          (t ≤ cond v (first_end c.end b.end) (higher c.begin t)) ⊎ ((cond v (first_end c.end b.end) (higher c.begin t) ≤ instant b t b) × (is_before b c ≡ false))
      by true e = inr (under (ended_before b.end t) refl e, fails (is_before b c) (unordered b c k.unordered_b))
      by false e = inl (higher_is c.begin t).two

suits_of : (cs : List Commit) (b : Commit) (s : ℕ) → list_all is_free cs ≡ true → IsAmong b cs → is_old cs b s ≡ false → (c : Commit) → IsAmong c cs → Suits b c s
suits_of cs b s v m o c n =
    let fb : (not (is_some b.version) ≡ true) × (not (ended_before b.end b.begin) ≡ true) =
    and_parts (not (is_some b.version)) (not (ended_before b.end b.begin)) (all_of is_free b cs m v) in
    let fc : (not (is_some c.version) ≡ true) × (not (ended_before c.end c.begin) ≡ true) =
    and_parts (not (is_some c.version)) (not (ended_before c.end c.begin)) (all_of is_free c cs n v) in
    record {
      unordered_b = not-true (is_some b.version) fb.0;
      unordered_c = not-true (is_some c.version) fc.0;
      call_b = not-true (ended_before b.end b.begin) fb.1;
      call_c = not-true (ended_before c.end c.begin) fc.1;
      not_old = λ p q. both_ways (is_old cs b s) o
          (any_of (λ d. is_after b d && ended_before d.end s) c cs n (and_from (is_after b c) (ended_before c.end s) p q));
    }

module _ (cs : List Commit) (b : Commit) (s : ℕ) (m : IsAmong b cs) (suits : (c : Commit) → IsAmong c cs → Suits b c s) where
  abbrev at : Commit → ℕ
  at = instant b (higher b.begin s)

  came : (x : Placed) → IsAmong x (map (put at) cs) → ComesFrom (put at) x cs
  came x n = map_among (put at) x cs n

  all_placed : IsPlaced cs (map (put at) cs)
  all_placed = record {
    each = put_back at cs;
    since = λ x n. let r : ComesFrom (put at) x cs = came x n in
        subst (λ (y : Placed). y.commit.begin ≤ y.at) r.is (instant_since b r.one s (suits r.one r.among));
    until = λ x n. let r : ComesFrom (put at) x cs = came x n in
        subst (λ (y : Placed). IsUntil y.commit.end y.at) r.is (instant_until b r.one s (suits r.one r.among));
    ordered = λ x y n o e. let r : ComesFrom (put at) x cs = came x n in
        absurd (unordered x.commit y.commit (subst (λ (z : Placed). is_some z.commit.version ≡ false) r.is (suits r.one r.among).unordered_c) e);
  }

  committed : IsCommittedAt (map (put at) cs) (put at b) (higher b.begin s)
  committed = record {
    among = among_map (put at) b cs m;
    made = instant_made b b s (suits b m);
    last = λ y n. let r : ComesFrom (put at) y cs = came y n in
        subst (λ (z : Placed). (higher b.begin s ≤ z.at) ⊎ ((z.at ≤ at b) × (is_before b z.commit ≡ false))) r.is (instant_last b r.one s (suits r.one r.among));
  }

pub complete : (cs : List Commit) (a : Answer) → list_all is_free cs ≡ true → a.since ≤ a.end → may_pass cs a ≡ true →
    (xs : List Placed) × IsPlaced cs xs × IsExplained xs a
complete cs a v l m =
    let f : IsFound (may_be cs a) cs = any_found (may_be cs a) cs m in
    let b : Commit = f.one in
    let p : ((nat_eq b.row a.row && not (is_old cs b a.since)) ≡ true) × (not (is_new cs b a.end) ≡ true) =
    and_parts (nat_eq b.row a.row && not (is_old cs b a.since)) (not (is_new cs b a.end)) f.passes in
    let q : (nat_eq b.row a.row ≡ true) × (not (is_old cs b a.since) ≡ true) = and_parts (nat_eq b.row a.row) (not (is_old cs b a.since)) p.0 in
    let n : (nat_lt a.end b.begin ≡ false) × (list_any (λ d. is_before d b && nat_lt a.end d.begin) cs ≡ false) =
    or_parts (nat_lt a.end b.begin) (list_any (λ d. is_before d b && nat_lt a.end d.begin) cs) (not-true (is_new cs b a.end) p.1) in
    let g : b.begin ≤ a.end = ltb-false a.end b.begin n.0 in
    let suits : (c : Commit) → IsAmong c cs → Suits b c a.since = suits_of cs b a.since v f.among (not-true (is_old cs b a.since) q.1) in
    let h : IsHigher b.begin a.since (higher b.begin a.since) = higher_is b.begin a.since in (
      map (put (instant b (higher b.begin a.since))) cs,
      all_placed cs b a.since f.among suits,
      record {
        source = put (instant b (higher b.begin a.since)) b;
        row = eqb-true b.row a.row q.0;
        at = higher b.begin a.since;
        since = h.two;
        until = h.both a.end g l;
        committed = committed cs b a.since f.among suits;
      },
    )
