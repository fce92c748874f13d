-- A keeper's verdict on a batch is the store's answer to a commit.
use Rattle.std.specs.Option.{option_or}
use Rattle.std.specs.Prelude.{unwrap_or, option_map}
use Rattle.std.proofs.Common.{◌≡◌, ℕ, zero, suc, ◌+◌, ◌-◌, ◌<◌, ◌≤◌, Bool, true, false, cond, List, [], ◌∷◌, ◌++◌, length, take, drop, get_or, Some, None, Option, refl, sym, ap, ◌∙◌, subst, arith, slice_get, append_assoc, length-append}
use Rattle.std.proofs.lemmas.List.{take_more, drop_more}
use Rattle.std.specs.Map.{lookup}
use Rattle.hib_base.specs.Keys.{same_key}
use Rattle.hib_base.proofs.Tables.{left_by, row_at_changes}
use Rattle.hib_base.specs.Tables.{Tables, row_at, with_absent, unless_there, last_on, after_change, after_changes, key_of, same_version, unless_expected, refusal, commit_answer}
use Rattle.hib_outside.specs.Types.{Key, Row, Change, Commit}
use Rattle.hib_outside.specs.Lasts.{change_at, HasLasts}
use Rattle.hib_outside.specs.Verdicts.{unless_as_expected, unless_free, refused_at, or_verdict, verdict, commit_of}
use Rattle.hib_outside.specs.declared.keeper.Applied.{Applied}

-- the answer that a verdict on one change makes
abbrev answered : List Change → Option Applied → Option Commit
answered cs None = None
answered cs (Some a) = Some (commit_of cs a)

get_at : (pre cs : List Change) (c : Change) → slice_get (pre ++ c ∷ cs) (length pre) ≡ Some c
get_at [] cs c = refl
get_at (p ∷ ps) cs c = get_at ps cs c

free_answer : (w : List Change) (at : ℕ) (c : Change) (o : Option Row) → slice_get w at ≡ Some c → answered w (unless_free at o) ≡ option_map (λ _. Commit.Duplicate (key_of c)) o
free_answer w at c None h = refl
free_answer w at c (Some r) h = rw h refl

expected_answer : (w : List Change) (at : ℕ) (c : Change) (v : Option ℕ) (o : Option Row) → slice_get w at ≡ Some c → answered w (unless_as_expected at v o) ≡ unless_expected (key_of c) v o
expected_answer w at c v None h = rw h refl
expected_answer w at c v (Some r) h = by_version (same_version v r.version)
  where
    by_version : (b : Bool) → answered w (cond b None (Some (Applied.Stale at r.version true))) ≡ cond b None (Some (Commit.Stale (key_of c) r.version))
    by_version true = refl
    by_version false = rw h refl

refusal_answer : (w : List Change) (at : ℕ) (c : Change) (t : Tables) → slice_get w at ≡ Some c → answered w (refused_at at c (row_at t (key_of c))) ≡ refusal c t
refusal_answer w at (Change.Insert k r) t h = free_answer w at (Change.Insert k r) (row_at t k) h
refusal_answer w at (Change.Update k v r) t h = expected_answer w at (Change.Update k v r) v (row_at t k) h
refusal_answer w at (Change.Delete k v) t h = expected_answer w at (Change.Delete k v) v (row_at t k) h

or_answered : (w : List Change) (o : Option Applied) (a : Applied) → commit_of w (or_verdict o a) ≡ unwrap_or (answered w o) (commit_of w a)
or_answered w None a = refl
or_answered w (Some b) a = refl

-- what is answered to the rest of a batch
commit_of_rest : (pre cs : List Change) (t : Tables) (n : ℕ) → n ≡ length pre → commit_of (pre ++ cs) (verdict t cs n) ≡ commit_answer cs t
commit_of_rest pre [] t n e = refl
commit_of_rest pre (c ∷ cs) t n e =
    let found : slice_get (pre ++ c ∷ cs) n ≡ Some c = ap (slice_get (pre ++ c ∷ cs)) e ∙ get_at pre cs c in
    let joined : pre ++ c ∷ [] ++ cs ≡ pre ++ c ∷ cs = append_assoc pre (c ∷ []) cs in
    let longer : n + 1 ≡ length (pre ++ c ∷ []) = omega (arith, e, length-append pre (c ∷ [])) in
    let rest : commit_of (pre ++ c ∷ cs) (verdict (after_change c t) cs (n + 1)) ≡ commit_answer cs (after_change c t) =
    subst (λ w. commit_of w (verdict (after_change c t) cs (n + 1)) ≡ commit_answer cs (after_change c t)) joined
    (commit_of_rest (pre ++ c ∷ []) cs (after_change c t) (n + 1) longer) in
    or_answered (pre ++ c ∷ cs) (refused_at n c (row_at t (key_of c))) (verdict (after_change c t) cs (n + 1))
    ∙ ap (λ o. unwrap_or o (commit_of (pre ++ c ∷ cs) (verdict (after_change c t) cs (n + 1)))) (refusal_answer (pre ++ c ∷ cs) n c t found)
    ∙ ap (unwrap_or (refusal c t)) rest

pub commit_of_verdict : (cs : List Change) (t : Tables) → commit_of cs (verdict t cs 0) ≡ commit_answer cs t
commit_of_verdict cs t = commit_of_rest [] cs t 0 refl

-- the changes so far, and the next
pub after_changes_push : (cs : List Change) (c : Change) (t : Tables) → after_changes (cs ++ c ∷ []) t ≡ after_change c (after_changes cs t)
after_changes_push [] c t = refl
after_changes_push (d ∷ cs) c t = after_changes_push cs c (after_change d t)

pub with_absent_push : (t es : Tables) (e : Key × Row) → with_absent t (es ++ e ∷ []) ≡ unless_there (with_absent t es) e.0 e.1 (row_at (with_absent t es) e.0)
with_absent_push t [] e = refl
with_absent_push t (d ∷ es) e = with_absent_push (unless_there t d.0 d.1 (row_at t d.0)) es e

pub last_on_push : (k : Key) (cs : List Change) (c : Change) → last_on k (cs ++ c ∷ []) ≡ option_or (cond (same_key (key_of c) k) (Some c) None) (last_on k cs)
last_on_push k [] c = by_key (cond (same_key (key_of c) k) (Some c) None)
  where
    by_key : (o : Option Change) → option_or None o ≡ option_or o None
    by_key None = refl
    by_key (Some d) = refl
last_on_push k (d ∷ cs) c =
    ap (λ o. option_or o (cond (same_key (key_of d) k) (Some d) None)) (last_on_push k cs c)
    ∙ by_key (cond (same_key (key_of c) k) (Some c) None) (last_on k cs) (cond (same_key (key_of d) k) (Some d) None)
  where
    by_key : (a b o : Option Change) → option_or (option_or a b) o ≡ option_or a (option_or b o)
    by_key None b o = refl
    by_key (Some x) b o = refl

-- the changes before the last place, and the one there
take_last : (cs : List Change) (n : ℕ) (c : Change) → 0 < n → n ≤ length cs → c ≡ get_or cs (n - 1) c → take n cs ≡ take (n - 1) cs ++ c ∷ []
take_last cs n c h l r =
    let e : n ≡ n - 1 + 1 = omega arith in
    ap (λ m. take m cs) e ∙ take_more cs (n - 1) c (omega arith) ∙ ap (λ x. take (n - 1) cs ++ x ∷ []) (sym r)

-- going down a list of changes from its end: the change at the place is on the key, or not
pub last_on_found : (cs : List Change) (k : Key) (n : ℕ) (c : Change) → 0 < n → n ≤ length cs → c ≡ get_or cs (n - 1) c → last_on k cs ≡ last_on k (take n cs)
    → same_key (key_of c) k ≡ true → last_on k cs ≡ Some c
last_on_found cs k n c h l r e s =
    e ∙ ap (last_on k) (take_last cs n c h l r) ∙ last_on_push k (take (n - 1) cs) c
    ∙ ap (λ b. option_or (cond b (Some c) None) (last_on k (take (n - 1) cs))) s

pub row_after_next : (cs : List Change) (k : Key) (n : ℕ) (c : Change) → 0 < n → n ≤ length cs → c ≡ get_or cs (n - 1) c
    → last_on k cs ≡ last_on k (take n cs) → same_key (key_of c) k ≡ false → last_on k cs ≡ last_on k (take (n - 1) cs)
row_after_next cs k n c h l r e s =
    e ∙ ap (last_on k) (take_last cs n c h l r) ∙ last_on_push k (take (n - 1) cs) c
    ∙ ap (λ b. option_or (cond b (Some c) None) (last_on k (take (n - 1) cs))) s

-- the row of a key after the first changes is what the last of them on the key leaves, or else the row before
pub row_after_last : (cs : List Change) (n : ℕ) (t : Tables) (k : Key) (ps : List (Key × ℕ)) → HasLasts cs n ps
    → left_by (change_at cs (lookup (same_key k) ps)) (row_at t k) ≡ row_at (after_changes (take n cs) t) k
row_after_last cs n t k ps h = ap (λ o. left_by o (row_at t k)) (h k) ∙ sym (row_at_changes (take n cs) t k)

pub got_at : {A : Type 0} (xs : List A) (i : ℕ) (x : A) → i < length xs → x ≡ get_or xs i x → slice_get xs i ≡ Some x
got_at [] i x l e = absurd (omega (arith, l))
got_at (y ∷ ys) zero x l e = ap Some (sym e)
got_at (y ∷ ys) (suc i) x l e = let m : i < length ys = omega (arith, l) in got_at ys i x m e

-- the place of a key's last change after one more
pub lasts_next : (cs : List Change) (n : ℕ) (c : Change) (k : Key) (o : Option ℕ) → n < length cs → c ≡ get_or cs n c → change_at cs o ≡ last_on k (take n cs)
    → change_at cs (cond (same_key (key_of c) k) (Some n) o) ≡ last_on k (take (n + 1) cs)
lasts_next cs n c k o l r h =
    let past : take (n + 1) cs ≡ take n cs ++ c ∷ [] = take_more cs n c l ∙ ap (λ d. take n cs ++ d ∷ []) (sym r) in
    by (same_key (key_of c) k) ∙ sym (ap (last_on k) past ∙ last_on_push k (take n cs) c)
  where
    by : (b : Bool) → change_at cs (cond b (Some n) o) ≡ option_or (cond b (Some c) None) (last_on k (take n cs))
    by true = got_at cs n c l r
    by false = h

-- one more change applies
pub verdict_next : (x : Applied) (t : Tables) (cs : List Change) (n : ℕ) (c : Change) (o : Option Row) → n < length cs → c ≡ get_or cs n c
    → o ≡ row_at (after_changes (take n cs) t) (key_of c) → None ≡ refused_at n c o → x ≡ verdict (after_changes (take n cs) t) (drop n cs) n
    → x ≡ verdict (after_changes (take (n + 1) cs) t) (drop (n + 1) cs) (n + 1)
verdict_next x t cs n c o l r f a e =
    let rest : drop n cs ≡ c ∷ drop (n + 1) cs = drop_more cs n c l ∙ ap (λ d. d ∷ drop (n + 1) cs) (sym r) in
    let past : take (n + 1) cs ≡ take n cs ++ c ∷ [] = take_more cs n c l ∙ ap (λ d. take n cs ++ d ∷ []) (sym r) in
    let grown : after_changes (take (n + 1) cs) t ≡ after_change c (after_changes (take n cs) t) = ap (λ ds. after_changes ds t) past ∙ after_changes_push (take n cs) c t in
    let applies : refused_at n c (row_at (after_changes (take n cs) t) (key_of c)) ≡ None = ap (refused_at n c) (sym f) ∙ sym a in
    e ∙ ap (λ ds. verdict (after_changes (take n cs) t) ds n) rest
    ∙ ap (λ u. or_verdict u (verdict (after_change c (after_changes (take n cs) t)) (drop (n + 1) cs) (n + 1))) applies
    ∙ ap (λ u. verdict u (drop (n + 1) cs) (n + 1)) (sym grown)
