-- The registry's two maps: the sessions by their times, and the times by their sessions.
use Rattle.std.proofs.Common.{◌≡◌, ◌↔◌, ℕ, zero, suc, ◌≤◌, ◌<◌, Bool, true, false, cond, ◌==◌, nat_eq, nat_lt, List, [], ◌∷◌, ◌++◌, slice_get, Some, None, IsTrue, is_some, refl, sym, ap, ◌∙◌, subst, inl, inr}
use Rattle.std.proofs.lemmas.Bool.{true≢false, eqb-true, eq-eqb, ne_eqb}
use Rattle.std.specs.Cmp.{nat_cmp_is}
use native.Mathlib.Omega.{arith}
use Rattle.std.proofs.lemmas.Bool.Decides.{nat_tests}
use Rattle.std.specs.Ordering.{nat_cmp, is_lt}
use Rattle.std.specs.List.{list_any, All}
use Rattle.std.specs.Map.{lookup, keys_of, remove_entry}
use Rattle.std.specs.BTreeMap.{insert_entry, is_at}
use Rattle.std.specs.declared.cmp.Ordering.{Ordering}
use Rattle.hib_base.proofs.Tables.{Tested, tested}
use Rattle.hib_engines.specs.Registry.{Opened, Each, AreRising, AreApart, IsIndexed, by_session, floor_in, holds, without, time_of}
use Rattle.hib_engines.proofs.Opened.{none_some, same_some, self_eq, found, held_time, time_of-append, time_of-front, time_of-without, each_without, rising_without, rising_more}

-- ---- sessions that stand once

without_none : (ps : Opened) (s : ℕ) → holds s ps ≡ false → without s ps ≡ ps
without_none [] s h = refl
without_none (p ∷ ps) s h = by_test (tested (p.0 == s)) (without_none ps s)
  where
    by_test : Tested (p.0 == s) → (holds s ps ≡ false → without s ps ≡ ps) → without s (p ∷ ps) ≡ p ∷ ps
    by_test (inl q) f = absurd (true≢false (sym (rw q refl) ∙ h))
    by_test (inr q) f = rw q (ap (λ xs. p ∷ xs) (f (sym (rw q refl) ∙ h)))

untimed : (ps : Opened) (s : ℕ) → time_of ps s ≡ None → holds s ps ≡ false
untimed ps s e = held_time ps s ∙ ap is_some e

holds_without : (ps : Opened) (n s : ℕ) → holds s ps ≡ false → holds s (without n ps) ≡ false
holds_without ps n s h = held_time (without n ps) s ∙ (ap is_some (time_of-without ps n s) ∙ by (n == s) (sym (held_time ps s) ∙ h))
  where
    by : (b : Bool) → is_some (time_of ps s) ≡ false → is_some (cond b None (time_of ps s)) ≡ false
    by true e = refl
    by false e = e

gone : (ps : Opened) (s : ℕ) → holds s (without s ps) ≡ false
gone ps s = untimed (without s ps) s (time_of-without ps s s ∙ rw (self_eq s) refl)

apart_without : (ps : Opened) (n : ℕ) → AreApart ps → AreApart (without n ps)
apart_without [] n a = tt
apart_without (p ∷ ps) n a = by_test (tested (p.0 == n)) (apart_without ps n a.1)
  where
    by_test : Tested (p.0 == n) → AreApart (without n ps) → AreApart (without n (p ∷ ps))
    by_test (inl q) i = rw q i
    by_test (inr q) i = rw q (holds_without ps n p.0 a.0, i)

holds_more : (ps : Opened) (s n t : ℕ) → holds s ps ≡ false → (n == s) ≡ false → holds s (ps ++ (n, t) ∷ []) ≡ false
holds_more [] s n t h d = rw d refl
holds_more (p ∷ ps) s n t h d = by_test (tested (p.0 == s)) (λ e. holds_more ps s n t e d)
  where
    by_test : Tested (p.0 == s) → (holds s ps ≡ false → holds s (ps ++ (n, t) ∷ []) ≡ false) → holds s (p ∷ ps ++ (n, t) ∷ []) ≡ false
    by_test (inl q) f = absurd (true≢false (sym (rw q refl) ∙ h))
    by_test (inr q) f = rw q (f (sym (rw q refl) ∙ h))

apart_more : (ps : Opened) (n t : ℕ) → AreApart ps → holds n ps ≡ false → AreApart (ps ++ (n, t) ∷ [])
apart_more [] n t a h = (refl, tt)
apart_more (p ∷ ps) n t a h = by_test (tested (p.0 == n)) (apart_more ps n t a.1)
  where
    by_test : Tested (p.0 == n) → (holds n ps ≡ false → AreApart (ps ++ (n, t) ∷ [])) → AreApart (p ∷ ps ++ (n, t) ∷ [])
    by_test (inl q) f = absurd (true≢false (sym (rw q refl) ∙ h))
    by_test (inr q) f = (
      holds_more ps p.0 n t a.0 (ne_eqb n p.0 (λ e. true≢false (sym (eq-eqb p.0 n (sym e)) ∙ q))),
      f (sym (rw q refl) ∙ h),
    )

-- ---- comparisons

greater : (a b : ℕ) → b < a → nat_cmp a b ≡ Ordering.Greater
greater a b l = sym (nat_cmp_is a b Ordering.Greater l)

less : (a b : ℕ) → a < b → nat_cmp a b ≡ Ordering.Less
less a b l = sym (nat_cmp_is a b Ordering.Less l)

equal : (a b : ℕ) → a ≡ b → nat_cmp a b ≡ Ordering.Equal
equal a b e = sym (nat_cmp_is a b Ordering.Equal e)

-- ---- the sessions by their times

-- a time after all others comes last
pub appended : (es : List (ℕ × ℕ)) (s now : ℕ) → Each (λ t. t < now) (by_session es) → by_session (insert_entry nat_cmp es now s) ≡ by_session es ++ (s, now) ∷ []
appended [] s now a = refl
appended (e ∷ es) s now a = rw (greater now e.0 a.0) (ap (λ xs. (e.1, e.0) ∷ xs) (appended es s now a.1))

-- the entry at the time of a session is that session's
pub removed : (es : List (ℕ × ℕ)) (s t : ℕ) → AreRising (by_session es) → AreApart (by_session es) → time_of (by_session es) s ≡ Some t →
    by_session (remove_entry (is_at (nat_cmp t)) es) ≡ without s (by_session es)
removed [] s t r a e = absurd (none_some t e)
removed (x ∷ es) s t r a e = by_test (tested (x.1 == s)) (removed es s t r.1 a.1)
  where
    by_test : Tested (x.1 == s) → (time_of (by_session es) s ≡ Some t → by_session (remove_entry (is_at (nat_cmp t)) es) ≡ without s (by_session es)) →
        by_session (remove_entry (is_at (nat_cmp t)) (x ∷ es)) ≡ without s (by_session (x ∷ es))
    by_test (inl q) f =
        let here : x.0 ≡ t = same_some x.0 t (sym (rw q refl) ∙ e) in
        let none : holds s (by_session es) ≡ false = subst (λ n. holds n (by_session es) ≡ false) (eqb-true x.1 s q) a.0 in
        rw (equal t x.0 (sym here), q) (sym (without_none (by_session es) s none))
    by_test (inr q) f =
        let there : time_of (by_session es) s ≡ Some t = sym (rw q refl) ∙ e in
        let later : x.0 < t = found (λ u. x.0 < u) (by_session es) s t r.0 there in
        rw (greater t x.0 later, q) (ap (λ xs. (x.1, x.0) ∷ xs) (f there))

-- a session that was open moves to the end
pub moved : (es : List (ℕ × ℕ)) (s t now : ℕ) → AreRising (by_session es) → AreApart (by_session es) → Each (λ u. u < now) (by_session es) → time_of (by_session es) s ≡ Some t →
    by_session (remove_entry (is_at (nat_cmp t)) (insert_entry nat_cmp es now s)) ≡ without s (by_session es) ++ (s, now) ∷ []
moved [] s t now r a b e = absurd (none_some t e)
moved (x ∷ es) s t now r a b e = rw (greater now x.0 b.0) (by_test (tested (x.1 == s)) (moved es s t now r.1 a.1 b.1))
  where
    rest : List (ℕ × ℕ)
    rest = insert_entry nat_cmp es now s

    by_test : Tested (x.1 == s) → (time_of (by_session es) s ≡ Some t → by_session (remove_entry (is_at (nat_cmp t)) rest) ≡ without s (by_session es) ++ (s, now) ∷ []) →
        by_session (remove_entry (is_at (nat_cmp t)) (x ∷ rest)) ≡ without s (by_session (x ∷ es)) ++ (s, now) ∷ []
    by_test (inl q) f =
        let here : x.0 ≡ t = same_some x.0 t (sym (rw q refl) ∙ e) in
        let none : holds s (by_session es) ≡ false = subst (λ n. holds n (by_session es) ≡ false) (eqb-true x.1 s q) a.0 in
        rw (equal t x.0 (sym here), q) (appended es s now b.1 ∙ ap (λ xs. xs ++ (s, now) ∷ []) (sym (without_none (by_session es) s none)))
    by_test (inr q) f =
        let there : time_of (by_session es) s ≡ Some t = sym (rw q refl) ∙ e in
        let later : x.0 < t = found (λ u. x.0 < u) (by_session es) s t r.0 there in
        rw (greater t x.0 later, q) (ap (λ xs. (x.1, x.0) ∷ xs) (f there))

-- ---- both maps

-- a session that isn't among the times isn't open
pub stays_out : (es ts : List (ℕ × ℕ)) (s : ℕ) → IsIndexed es ts → lookup (nat_eq s) ts ≡ None → without s (by_session es) ≡ by_session es
stays_out es ts s i e = without_none (by_session es) s (untimed (by_session es) s (sym (i.same s) ∙ e))

pub is_held : (es ts : List (ℕ × ℕ)) (s : ℕ) → IsIndexed es ts → is_some (lookup (nat_eq s) ts) ≡ holds s (by_session es)
is_held es ts s i = ap is_some (i.same s) ∙ sym (held_time (by_session es) s)

-- after a session has left
pub indexed_without : (es ts fs us : List (ℕ × ℕ)) (s : ℕ) → IsIndexed es ts → by_session fs ≡ without s (by_session es) →
    ((q : ℕ) → lookup (nat_eq q) us ≡ cond (s == q) None (lookup (nat_eq q) ts)) → IsIndexed fs us
indexed_without es ts fs us s i p f = record {
  same = λ q. f q ∙ (ap (λ o. cond (s == q) None o) (i.same q) ∙ (sym (time_of-without (by_session es) s q) ∙ ap (λ ps. time_of ps q) (sym p)));
  rising = subst AreRising (sym p) (rising_without (by_session es) s i.rising);
  apart = subst AreApart (sym p) (apart_without (by_session es) s i.apart);
}

-- after a session has begun
pub indexed_more : (es ts fs us : List (ℕ × ℕ)) (s now : ℕ) → IsIndexed es ts → Each (λ t. t < now) (by_session es) → by_session fs ≡ without s (by_session es) ++ (s, now) ∷ [] →
    ((q : ℕ) → lookup (nat_eq q) us ≡ cond (s == q) (Some now) (lookup (nat_eq q) ts)) → IsIndexed fs us
indexed_more es ts fs us s now i b p f = record {
  same = λ q. (f q ∙ by_test q (tested (s == q))) ∙ ap (λ ps. time_of ps q) (sym p);
  rising = subst AreRising (sym p) (rising_more (without s (by_session es)) s now (rising_without (by_session es) s i.rising) (each_without (λ t. t < now) (by_session es) s b));
  apart = subst AreApart (sym p) (apart_more (without s (by_session es)) s now (apart_without (by_session es) s i.apart) (gone (by_session es) s));
}
  where
    by_test : (q : ℕ) → Tested (s == q) → cond (s == q) (Some now) (lookup (nat_eq q) ts) ≡ time_of (without s (by_session es) ++ (s, now) ∷ []) q
    by_test q (inl e) = rw e (sym (time_of-append (without s (by_session es)) s now q (time_of-without (by_session es) s q ∙ rw e refl) ∙ rw e refl))
    by_test q (inr e) = rw e (i.same q ∙ sym (time_of-front (without s (by_session es)) s now q e ∙ (time_of-without (by_session es) s q ∙ rw e refl)))

-- the sessions that have times are those that are open
pub keys_held : (ts : List (ℕ × ℕ)) (s : ℕ) → list_any (λ n. n == s) (keys_of ts) ≡ is_some (lookup (nat_eq s) ts)
keys_held [] s = refl
keys_held (t ∷ ts) s = by_test (tested (t.0 == s)) (keys_held ts s)
  where
    by_test : Tested (t.0 == s) → list_any (λ n. n == s) (keys_of ts) ≡ is_some (lookup (nat_eq s) ts) → list_any (λ n. n == s) (keys_of (t ∷ ts)) ≡ is_some (lookup (nat_eq s) (t ∷ ts))
    by_test (inl q) i = let e : (s == t.0) ≡ true = eq-eqb s t.0 (sym (eqb-true t.0 s q)) in rw (q, e) refl
    by_test (inr q) i = let e : (s == t.0) ≡ false = ne_eqb s t.0 (λ p. true≢false (sym (eq-eqb t.0 s (sym p)) ∙ q)) in rw (q, e) i

-- the first time is the floor
pub first_time : (es : List (ℕ × ℕ)) (now t s : ℕ) → slice_get es 0 ≡ Some (t, s) → t ≡ floor_in (by_session es) now
first_time [] now t s e = absurd (cc)
first_time (x ∷ es) now t s e = let p : x ≡ (t, s) = cc in sym (ap (λ y. y.0) p)

-- what holds of each time holds of that at a place
each_at : (P : ℕ → Type 0) (es : List (ℕ × ℕ)) (i t s : ℕ) → Each P (by_session es) → slice_get es i ≡ Some (t, s) → P t
each_at P [] i t s a e = absurd (cc)
each_at P (x ∷ es) zero t s a e = let p : x ≡ (t, s) = cc in subst P (ap (λ y. y.0) p) a.0
each_at P (x ∷ es) (suc i) t s a e = each_at P es i t s a.1 e

all_less : (es : List (ℕ × ℕ)) (now t : ℕ) → t < now → All (λ q. is_lt (nat_cmp t q) ≡ false) (keys_of es) → Each (λ u. u < now) (by_session es)
all_less [] now t l a = tt
all_less (x ∷ es) now t l a = (
  by_place (tested (nat_lt t x.0)),
  all_less es now t l (λ k d h. a (suc k) d (omega (arith, h))),
)
  where
    first : is_lt (nat_cmp t x.0) ≡ false
    first = a 0 x.0 (omega arith)

    by_place : Tested (nat_lt t x.0) → x.0 < now
    by_place (inl q) = let u : t < x.0 = grind (arith, nat_tests, q) in absurd (true≢false (sym (ap is_lt (less t x.0 u)) ∙ first))
    by_place (inr q) = let u : x.0 ≤ t = grind (arith, nat_tests, q) in omega (arith, u, l)

-- the last time is before a tick exactly if all are
pub last_decides : (es : List (ℕ × ℕ)) (now i t s : ℕ) → slice_get es i ≡ Some (t, s) → All (λ q. is_lt (nat_cmp t q) ≡ false) (keys_of es) → IsTrue (nat_lt t now) ↔ Each (λ u. u < now) (by_session es)
last_decides es now i t s e a = (
  λ q. let l : t < now = grind (arith, nat_tests, q) in all_less es now t l a,
  λ b. let l : t < now = each_at (λ u. u < now) es i t s b e in grind (arith, nat_tests, l),
)

-- a session has left
pub left : (es ts fs us : List (ℕ × ℕ)) (s t k : ℕ) → IsIndexed es ts → lookup (nat_eq s) ts ≡ Some t → k ≡ t → fs ≡ remove_entry (is_at (nat_cmp k)) es →
    ((q : ℕ) → lookup (nat_eq q) us ≡ cond (s == q) None (lookup (nat_eq q) ts)) → (by_session fs ≡ without s (by_session es)) × IsIndexed fs us
left es ts fs us s t k i e k_is p f = (out, indexed_without es ts fs us s i out f)
  where
    out : by_session fs ≡ without s (by_session es)
    out = ap by_session p ∙ (ap (λ n. by_session (remove_entry (is_at (nat_cmp n)) es)) k_is ∙ removed es s t i.rising i.apart (sym (i.same s) ∙ e))

-- a session has begun that wasn't open
pub fresh : (es ts rs fs us : List (ℕ × ℕ)) (s now n : ℕ) → IsIndexed es ts → rs ≡ ts → lookup (nat_eq s) rs ≡ None → n ≡ now → Each (λ t. t < now) (by_session es) → fs ≡ insert_entry nat_cmp es n s →
    ((q : ℕ) → lookup (nat_eq q) us ≡ cond (s == q) (Some now) (lookup (nat_eq q) rs)) → (by_session fs ≡ without s (by_session es) ++ (s, now) ∷ []) × IsIndexed fs us
fresh es ts rs fs us s now n i r e n_is b p f = (in_last, indexed_more es ts fs us s now i b in_last (λ q. f q ∙ ap (λ xs. cond (s == q) (Some now) (lookup (nat_eq q) xs)) r))
  where
    in_last : by_session fs ≡ without s (by_session es) ++ (s, now) ∷ []
    in_last = ap by_session p ∙ (ap (λ m. by_session (insert_entry nat_cmp es m s)) n_is ∙ (appended es s now b
        ∙ ap (λ xs. xs ++ (s, now) ∷ []) (sym (stays_out es ts s i (sym (ap (lookup (nat_eq s)) r) ∙ e)))))

-- a session has begun that was open
pub again : (es ts rs fs gs us : List (ℕ × ℕ)) (s now n t k : ℕ) → IsIndexed es ts → rs ≡ ts → lookup (nat_eq s) rs ≡ Some t → n ≡ now → k ≡ t → Each (λ u. u < now) (by_session es) →
    fs ≡ insert_entry nat_cmp es n s → gs ≡ remove_entry (is_at (nat_cmp k)) fs →
    ((q : ℕ) → lookup (nat_eq q) us ≡ cond (s == q) (Some now) (lookup (nat_eq q) rs)) → (by_session gs ≡ without s (by_session es) ++ (s, now) ∷ []) × IsIndexed gs us
again es ts rs fs gs us s now n t k i r e n_is k_is b p o f = (in_last, indexed_more es ts gs us s now i b in_last (λ q. f q ∙ ap (λ xs. cond (s == q) (Some now) (lookup (nat_eq q) xs)) r))
  where
    in_last : by_session gs ≡ without s (by_session es) ++ (s, now) ∷ []
    in_last = ap by_session o ∙ (ap (λ m. by_session (remove_entry (is_at (nat_cmp m)) fs)) k_is ∙ (ap (λ xs. by_session (remove_entry (is_at (nat_cmp t)) xs)) (p ∙ ap (λ m. insert_entry nat_cmp es m s) n_is)
        ∙ moved es s t now i.rising i.apart b (sym (i.same s) ∙ (sym (ap (lookup (nat_eq s)) r) ∙ e))))
