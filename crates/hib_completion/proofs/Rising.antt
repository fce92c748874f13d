-- Changes whose keys rise are of one key each.
use Rattle.std.specs.Option.{option_or}
use Rattle.std.proofs.Common.{◌≡◌, ℕ, zero, suc, ◌+◌, ◌-◌, ◌<◌, ◌≤◌, Bool, true, false, cond, ◌||◌, List, [], ◌∷◌, Some, None, length, get_or, slice_get, take, drop, refl, sym, ap, ◌∙◌, subst, arith}
use Rattle.std.specs.List.{list_any}
use Rattle.std.proofs.lemmas.List.{drop_more, length-drop}
use Rattle.std.proofs.lemmas.Bool.{and_parts, and_from}
use Rattle.hib_base.specs.Keys.{same_key, is_before}
use Rattle.hib_base.specs.Tables.{key_of, first_on, last_on}
use Rattle.hib_base.proofs.Tables.{same_key_refl}
use Rattle.hib_outside.proofs.Orders.{is_before_trans, before_differs}
use Rattle.hib_journal.specs.Types.{Key, Change, EntityDef, Act}
use Rattle.hib_completion.specs.Completed.{key_acts}
use Rattle.hib_completion.specs.Touched.{is_next, rise}
use Rattle.hib_completion.proofs.Keys.{same_key_sym}

-- ---- found from the last one on
short : (cs : List Change) → length cs ≤ 1 → rise cs ≡ true
short [] l = refl
short (c ∷ []) l = refl
short (c ∷ d ∷ cs) l = absurd (omega arith)

pub last_rises : (cs : List Change) → rise (drop (length cs - 1) cs) ≡ true
last_rises cs = short (drop (length cs - 1) cs) (omega (arith, length-drop (length cs - 1) cs))

pub one_earlier : (cs : List Change) (i : ℕ) (c d : Change) → 0 < i → i < length cs → d ≡ get_or cs i d → c ≡ get_or cs (i - 1) c → is_before (key_of c) (key_of d) ≡ true
    → rise (drop i cs) ≡ true → rise (drop (i - 1) cs) ≡ true
one_earlier cs i c d p l e f b h =
    let k : i - 1 + 1 ≡ i = omega arith in
    let here : drop i cs ≡ d ∷ drop (i + 1) cs = drop_more cs i d l ∙ ap (λ z. z ∷ drop (i + 1) cs) (sym e) in
    let front : drop (i - 1) cs ≡ c ∷ drop i cs = drop_more cs (i - 1) c (omega arith) ∙ ap (λ z. z ∷ drop (i - 1 + 1) cs) (sym f) ∙ ap (λ n. c ∷ drop n cs) k in
    let next : is_next (key_of c) (drop i cs) ≡ true = ap (is_next (key_of c)) here ∙ b in
    ap rise front ∙ and_from (is_next (key_of c) (drop i cs)) (rise (drop i cs)) next h

-- ---- a key that comes before all of some changes
next_before : (j k : Key) (cs : List Change) → is_before j k ≡ true → is_next k cs ≡ true → is_next j cs ≡ true
next_before j k [] b n = refl
next_before j k (c ∷ cs) b n = is_before_trans j k (key_of c) b n

none_same : (k : Key) (cs : List Change) → is_next k cs ≡ true → rise cs ≡ true → list_any (λ d. same_key (key_of d) k) cs ≡ false
none_same k [] n r = refl
none_same k (c ∷ cs) n r =
    let p : (is_next (key_of c) cs ≡ true) × (rise cs ≡ true) = and_parts (is_next (key_of c) cs) (rise cs) r in
    rw (before_differs k (key_of c) n) (none_same k cs (next_before k (key_of c) cs n p.0) p.1)

none_last : (k : Key) (cs : List Change) → list_any (λ d. same_key (key_of d) k) cs ≡ false → last_on k cs ≡ None
none_last k [] h = refl
none_last k (c ∷ cs) h = by (same_key (key_of c) k) h (λ x. none_last k cs x)
  where
    by : (b : Bool) → (b || list_any (λ d. same_key (key_of d) k) cs) ≡ false → (list_any (λ d. same_key (key_of d) k) cs ≡ false → last_on k cs ≡ None)
        → option_or (last_on k cs) (cond b (Some c) None) ≡ None
    by true h i = absurd (cc)
    by false h i = rw (i h) refl

-- the change at a place behind has another key
behind_differs : (k : Key) (cs : List Change) (i : ℕ) (x : Change) → slice_get cs i ≡ Some x → is_next k cs ≡ true → rise cs ≡ true → same_key (key_of x) k ≡ false
behind_differs k [] i x e n r = absurd (cc)
behind_differs k (c ∷ cs) zero x e n r = let s : c ≡ x = cc in subst (λ y. same_key (key_of y) k ≡ false) s (before_differs k (key_of c) n)
behind_differs k (c ∷ cs) (suc i) x e n r =
    let p : (is_next (key_of c) cs ≡ true) × (rise cs ≡ true) = and_parts (is_next (key_of c) cs) (rise cs) r in
    behind_differs k cs i x e (next_before k (key_of c) cs n p.0) p.1

-- ---- the change at a place is the only one of its key
pub none_ahead : (cs : List Change) (i : ℕ) (x : Change) → slice_get cs i ≡ Some x → rise cs ≡ true → list_any (λ d. same_key (key_of d) (key_of x)) (take i cs) ≡ false
none_ahead [] i x e r = absurd (cc)
none_ahead (c ∷ cs) zero x e r = refl
none_ahead (c ∷ cs) (suc i) x e r =
    let p : (is_next (key_of c) cs ≡ true) × (rise cs ≡ true) = and_parts (is_next (key_of c) cs) (rise cs) r in
    let d : same_key (key_of c) (key_of x) ≡ false = same_key_sym (key_of c) (key_of x) ∙ behind_differs (key_of c) cs i x e p.0 p.1 in
    rw d (none_ahead cs i x e p.1)

is_first_one : (cs : List Change) (i : ℕ) (x : Change) → slice_get cs i ≡ Some x → rise cs ≡ true → first_on (key_of x) cs ≡ Some x
is_first_one [] i x e r = absurd (cc)
is_first_one (c ∷ cs) zero x e r = let s : c ≡ x = cc in rw (s, same_key_refl (key_of x)) refl
is_first_one (c ∷ cs) (suc i) x e r =
    let p : (is_next (key_of c) cs ≡ true) × (rise cs ≡ true) = and_parts (is_next (key_of c) cs) (rise cs) r in
    let d : same_key (key_of c) (key_of x) ≡ false = same_key_sym (key_of c) (key_of x) ∙ behind_differs (key_of c) cs i x e p.0 p.1 in
    rw d (is_first_one cs i x e p.1)

is_last_one : (cs : List Change) (i : ℕ) (x : Change) → slice_get cs i ≡ Some x → rise cs ≡ true → last_on (key_of x) cs ≡ Some x
is_last_one [] i x e r = absurd (cc)
is_last_one (c ∷ cs) zero x e r =
    let p : (is_next (key_of c) cs ≡ true) × (rise cs ≡ true) = and_parts (is_next (key_of c) cs) (rise cs) r in
    let s : c ≡ x = cc in
    let n : last_on (key_of x) cs ≡ None = subst (λ y. last_on (key_of y) cs ≡ None) s (none_last (key_of c) cs (none_same (key_of c) cs p.0 p.1)) in
    rw (n, s, same_key_refl (key_of x)) refl
is_last_one (c ∷ cs) (suc i) x e r =
    let p : (is_next (key_of c) cs ≡ true) × (rise cs ≡ true) = and_parts (is_next (key_of c) cs) (rise cs) r in
    rw (is_last_one cs i x e p.1) refl

-- so it completes its key alone
pub alone : (mapping : List EntityDef) (locks : List (Key × ℕ)) (done : Bool) (floor : ℕ) (cs : List Change) (i : ℕ) (x : Change) → slice_get cs i ≡ Some x → rise cs ≡ true
    → key_acts mapping (x ∷ []) locks done floor (key_of x) ≡ key_acts mapping cs locks done floor (key_of x)
alone mapping locks done floor cs i x e r = rw (is_first_one cs i x e r, is_last_one cs i x e r, same_key_refl (key_of x)) refl
