-- What is said for certain is false in every explanation.
use Rattle.std.proofs.Common.{◌≡◌, ◌≤◌, ◌<◌, ◌+◌, inl, inr, ℕ, Bool, true, false, Option, None, Some, List, [], ◌∷◌, arith}
use Rattle.std.specs.Prelude.{◌&&◌, not, nat_eq}
use Rattle.std.specs.List.{list_any}
use Rattle.std.proofs.lemmas.Bool.{both_ways, and_parts, and_from, not-true, ltb-true, lt-ltb, or_cases, or_left, or_right, not_from_false, false_from_ne_true}
use Rattle.hib_trace_law.specs.declared.commits.Commit.{Commit}
use Rattle.hib_trace_law.specs.declared.commits.Answer.{Answer}
use Rattle.hib_trace_law.specs.Certain.{Placed, IsPlaced, IsExplained, ended_before, is_after, is_old, is_new, may_pass}
use Rattle.hib_trace_law.proofs.Explained.{sound}
use Rattle.hib_traces.specs.declared.kinds.Verdict.TheVariants.{Old, New}
use Rattle.hib_traces.specs.Verdicts.{may_stand, IsOld, IsNew, IsVerdict}

-- a test that implies another one, of any element
any_implies : {X : Type 0} (p q : X → Bool) → ((x : X) → p x ≡ true → q x ≡ true) → (xs : List X) → list_any p xs ≡ true → list_any q xs ≡ true
any_implies p q f [] e = e
any_implies p q f (x ∷ xs) e = elim (or_cases (p x) (list_any p xs) e) [
  | inl h ↦ or_left (q x) (list_any q xs) (f x h)
  | inr h ↦ or_right (q x) (list_any q xs) (any_implies p q f xs h)
]

later_end : (o : Option ℕ) (s t : ℕ) → s ≤ t → ended_before o s ≡ true → ended_before o t ≡ true
later_end None s t l e = e
later_end (Some n) s t l e = let m : n < s = ltb-true n s e in lt-ltb n t (omega (arith, l, m))

older : (cs : List Commit) (c : Commit) (s t : ℕ) → s ≤ t → is_old cs c s ≡ true → is_old cs c t ≡ true
older cs c s t l = any_implies (λ d. is_after c d && ended_before d.end s) (λ d. is_after c d && ended_before d.end t)
    (λ d e. let b : (is_after c d ≡ true) × (ended_before d.end s ≡ true) = and_parts (is_after c d) (ended_before d.end s) e in
    and_from (is_after c d) (ended_before d.end t) b.0 (later_end d.end s t l b.1)) cs

-- a row that may stand later may stand earlier
earlier : (cs : List Commit) (a : Answer) (s t : ℕ) (ps : List Commit) → s ≤ t → may_stand cs a t ps ≡ true → may_stand cs a s ps ≡ true
earlier cs a s t ps l = any_implies (λ c. nat_eq c.row a.row && not (is_old cs c t) && not (is_new cs c a.end))
    (λ c. nat_eq c.row a.row && not (is_old cs c s) && not (is_new cs c a.end))
    (λ c e. let b : ((nat_eq c.row a.row && not (is_old cs c t)) ≡ true) × (not (is_new cs c a.end) ≡ true) =
    and_parts (nat_eq c.row a.row && not (is_old cs c t)) (not (is_new cs c a.end)) e in
    let d : (nat_eq c.row a.row ≡ true) × (not (is_old cs c t) ≡ true) = and_parts (nat_eq c.row a.row) (not (is_old cs c t)) b.0 in
    let o : is_old cs c s ≡ false = false_from_ne_true (is_old cs c s) (λ h. both_ways (is_old cs c t) (not-true (is_old cs c t) d.1) (older cs c s t l h)) in
    and_from (nat_eq c.row a.row && not (is_old cs c s)) (not (is_new cs c a.end))
    (and_from (nat_eq c.row a.row) (not (is_old cs c s)) d.0 (not_from_false (is_old cs c s) o)) b.1) ps

gone_later : (cs : List Commit) (a : Answer) (s t : ℕ) (ps : List Commit) → s ≤ t → may_stand cs a s ps ≡ false → may_stand cs a t ps ≡ false
gone_later cs a s t ps l f = false_from_ne_true (may_stand cs a t ps) (λ e. both_ways (may_stand cs a s ps) f (earlier cs a s t ps l e))

-- what is said for certain is refused by the law
pub certain : (cs : List Commit) (a : Answer) (t : ℕ) → IsVerdict cs a cs (Old t) → may_pass cs a ≡ false
certain cs a t i = gone_later cs a (t + 1) a.since cs (let l : t < a.since = i.before in omega (arith, l)) i.gone

pub certain_new : (cs : List Commit) (a : Answer) → IsVerdict cs a cs New → may_pass cs a ≡ false
certain_new cs a i = gone_later cs a 0 a.since cs (omega arith) i.late

pub old_is_false : (cs : List Commit) (a : Answer) (t : ℕ) → IsOld cs a t cs → (xs : List Placed) → IsPlaced cs xs → IsExplained xs a → ⊥
old_is_false cs a t i = sound cs a (certain cs a t i)

pub new_is_false : (cs : List Commit) (a : Answer) → IsNew cs a cs → (xs : List Placed) → IsPlaced cs xs → IsExplained xs a → ⊥
new_is_false cs a i = sound cs a (certain_new cs a i)
