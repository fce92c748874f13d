-- Steps that are due, made one after the other.
use Rattle.std.specs.Prelude.{not, ◌&&◌, reverse}
use Rattle.std.specs.List.{list_all}
use Rattle.std.proofs.Common.{◌≡◌, ◌++◌, ◌+◌, ◌<◌, ℕ, zero, suc, Bool, true, false, cond, List, [], ◌∷◌, length, take, get_or, refl, sym, ap, ◌∙◌, subst, arith}
use Rattle.std.proofs.Math.Seq.{drop-append_seam}
use Rattle.std.proofs.lemmas.Bool.{false≢true}
use Rattle.std.proofs.lemmas.List.{append_assoc, append-nil, reverse-append, reverse-reverse, take_more}
use Rattle.std.proofs.lemmas.List.Folds.{list_all-append}
use Rattle.std.proofs.lemmas.Grind.{reverse_onto}
use Rattle.hib_base.specs.Tables.{Tables}
use Rattle.hib_journal.specs.Types.{Script, Entry}
use Rattle.hib_journal.specs.Kept.{Kept, past}
use Rattle.hib_journal.specs.Sessions.{Journal}
use Rattle.hib_core.specs.Bound.{outside_count}
use Rattle.hib_core.specs.Playing.{GoesOn}
use Rattle.hib_order_law.specs.Orders.{IsUndisturbed, begins, can_begin, is_due, is_kill_step, is_unkilled, kills, made, same_step, step_of, steps_in}
use Rattle.hib_order_law.specs.declared.step.Step.{Step}
use Rattle.hib_order_law.proofs.Begun.{and_both, and_left, and_right, is_step, step_is}
use Rattle.hib_order_law.proofs.Made.{order_makes}
use Rattle.hib_order_law.proofs.Later.{tail}
use Rattle.hib_order_plays.proofs.Steps.{of_sessions, own_steps}

-- what is undisturbed was so before
pub before : (script : Script) (start : Tables) (l h : Journal) → IsUndisturbed script start (l ++ h) → IsUndisturbed script start h
before script start [] h u = u
before script start (e ∷ l) h u = before script start l h (tail script start e (l ++ h) u)

-- each first step is due at its turn
due_at : (script : Script) (start : Tables) (steps ts : List Step) (i : ℕ) (d : Step) → can_begin script start (made script start ts) steps ≡ true → i < length steps →
    is_due script (made script start (reverse (take i steps) ++ ts)) (get_or steps i d) ≡ true
due_at script start [] ts i d c l = absurd (no i l)
  where
    no : (k : ℕ) → k < 0 → ⊥
    no k m = omega arith
due_at script start (t ∷ steps) ts zero d c l =
    and_left (is_due script (made script start ts) t) (can_begin script start (made script start (t ∷ ts)) steps) c
due_at script start (t ∷ steps) ts (suc i) d c l =
    subst (λ xs. is_due script (made script start xs) (get_or steps i d) ≡ true) turned
    (due_at script start steps (t ∷ ts) i d (and_right (is_due script (made script start ts) t) (can_begin script start (made script start (t ∷ ts)) steps) c) (omega arith))
  where
    turned : reverse (take i steps) ++ (t ∷ ts) ≡ reverse (t ∷ take i steps) ++ ts
    turned = sym (ap (λ l. l ++ ts) (reverse_onto (take i steps) t []) ∙ append_assoc (reverse (take i steps)) (t ∷ []) ts)

-- one more of the steps was made
pub step_more : (script : Script) (start : Tables) (steps : List Step) (i : ℕ) (d : Step) (old new : Journal) → can_begin script start [] steps ≡ true → i < length steps →
    GoesOn old new → (IsUndisturbed script start new → is_due script old (get_or steps i d) ≡ true → steps_in new ≡ get_or steps i d ∷ steps_in old) →
    (IsUndisturbed script start old → steps_in old ≡ reverse (take i steps)) → IsUndisturbed script start new → steps_in new ≡ reverse (take (i + 1) steps)
step_more script start steps i d old new c l g one f u = one u due ∙ ap (λ ts. get_or steps i d ∷ ts) was ∙ sym more
  where
    undisturbed : IsUndisturbed script start old
    undisturbed = before script start g.0 old (subst (IsUndisturbed script start) g.1 u)

    was : steps_in old ≡ reverse (take i steps)
    was = f undisturbed

    old_is : old ≡ made script start (reverse (take i steps) ++ [])
    old_is = order_makes script start old undisturbed.legal undisturbed.numbered undisturbed.plain
        ∙ ap (made script start) (was ∙ sym (append-nil (reverse (take i steps))))

    due : is_due script old (get_or steps i d) ≡ true
    due = subst (λ h. is_due script h (get_or steps i d) ≡ true) (sym old_is) (due_at script start steps [] i d c l)

    more : reverse (take (i + 1) steps) ≡ get_or steps i d ∷ reverse (take i steps)
    more = ap reverse (take_more steps i d l) ∙ reverse-append (take i steps) (get_or steps i d ∷ [])

-- ---- the whole run

steps_append : (a b : List Entry) → steps_in (a ++ b) ≡ steps_in a ++ steps_in b
steps_append [] b = refl
steps_append (e ∷ a) b = ap (λ l. step_of e ∷ l) (steps_append a b)

steps_reverse : (h : List Entry) → steps_in (reverse h) ≡ reverse (steps_in h)
steps_reverse [] = refl
steps_reverse (e ∷ h) =
    ap steps_in (reverse_onto h e []) ∙ steps_append (reverse h) (e ∷ []) ∙ ap (λ l. l ++ step_of e ∷ []) (steps_reverse h)
    ∙ sym (reverse_onto (steps_in h) (step_of e) [])

begins_so : (ss ts : List Step) → begins ss (ss ++ ts) ≡ true
begins_so [] ts = refl
begins_so (s ∷ ss) ts = and_both (same_step s s) (begins ss (ss ++ ts)) (is_step s s refl) (begins_so ss ts)

all_turned : (p : Step → Bool) (ts : List Step) → list_all p ts ≡ true → list_all p (reverse ts) ≡ true
all_turned p [] a = refl
all_turned p (t ∷ ts) a =
    ap (list_all p) (reverse_onto ts t []) ∙ list_all-append p (reverse ts) (t ∷ [])
    ∙ and_both (list_all p (reverse ts)) (p t && true) (all_turned p ts (and_right (p t) (list_all p ts) a)) (and_both (p t) true (and_left (p t) (list_all p ts) a) refl)

-- its order is the steps that were made before it went on, and then those of what was added
order_is : (steps : List Step) (l h : Journal) (j : Kept) → past j ≡ l ++ h → steps_in h ≡ reverse steps → steps_in j.list ≡ steps ++ steps_in (reverse l)
unfolding past
order_is steps l h j g was =
    ap steps_in list ∙ steps_append (reverse h) (reverse l)
    ∙ ap (λ o. o ++ steps_in (reverse l)) (steps_reverse h ∙ ap reverse was ∙ reverse-reverse steps)
  where
    list : j.list ≡ reverse h ++ reverse l
    list = sym (reverse-reverse j.list) ∙ ap reverse g ∙ reverse-append l h

-- a run begins with the steps that were made before it went on
pub begun : (script : Script) (start : Tables) (steps : List Step) (h : Journal) (j : Kept) → GoesOn h (past j) → IsUndisturbed script start (past j) →
    (IsUndisturbed script start h → steps_in h ≡ reverse steps) → begins steps (steps_in j.list) ≡ true
begun script start steps h j g u f =
    let was : steps_in h ≡ reverse steps = f (before script start g.0 h (subst (IsUndisturbed script start) g.1 u)) in
    subst (λ o. begins steps o ≡ true) (sym (order_is steps g.0 h j g.1 was)) (begins_so steps (steps_in (reverse g.0)))

-- and if sessions alone went on, none is killed after these
pub unkilled : (script : Script) (start : Tables) (steps : List Step) (h : Journal) (j : Kept) → GoesOn h (past j) → outside_count (past j) ≡ outside_count h →
    IsUndisturbed script start (past j) → (IsUndisturbed script start h → steps_in h ≡ reverse steps) → is_unkilled (length steps) (steps_in j.list) ≡ true
unkilled script start steps h j g o u f =
    let v : IsUndisturbed script start (g.0 ++ h) = subst (IsUndisturbed script start) g.1 u in
    let was : steps_in h ≡ reverse steps = f (before script start g.0 h v) in
    let own : list_all (λ t. not (is_kill_step t)) (steps_in g.0) ≡ true =
    own_steps script start g.0 h v (of_sessions g.0 h (subst (λ k. outside_count k ≡ outside_count h) g.1 o)) in
    subst (λ ts. is_unkilled (length steps) ts ≡ true) (sym (order_is steps g.0 h j g.1 was))
    (subst (λ ts. list_all (λ t. not (is_kill_step t)) ts ≡ true) (sym (drop-append_seam steps (steps_in (reverse g.0))))
    (subst (λ ts. list_all (λ t. not (is_kill_step t)) ts ≡ true) (sym (steps_reverse g.0)) (all_turned (λ t. not (is_kill_step t)) (steps_in g.0) own)))

-- ---- its kills

no_kills : (ts : List Step) → list_all (λ t. not (is_kill_step t)) ts ≡ true → kills ts ≡ 0
no_kills [] a = refl
no_kills (t ∷ ts) a =
    let n : kills ts ≡ 0 = no_kills ts (and_right (not (is_kill_step t)) (list_all (λ t. not (is_kill_step t)) ts) a) in
    by (is_kill_step t) (and_left (not (is_kill_step t)) (list_all (λ t. not (is_kill_step t)) ts) a) n
  where
    by : (b : Bool) → not b ≡ true → kills ts ≡ 0 → cond b 1 0 + kills ts ≡ 0
    by true p n = absurd (false≢true p)
    by false p n = omega (arith, n)

-- an order that begins so and kills none after that has as many kills
pub kills_are : (steps order : List Step) → begins steps order ≡ true → is_unkilled (length steps) order ≡ true → kills order ≡ kills steps
kills_are [] order b a = no_kills order a
kills_are (s ∷ ss) [] b a = absurd (false≢true b)
kills_are (s ∷ ss) (t ∷ ts) b a =
    let e : s ≡ t = step_is s t (and_left (same_step s t) (begins ss ts) b) in
    ap (λ n. cond (is_kill_step t) 1 0 + n) (kills_are ss ts (and_right (same_step s t) (begins ss ts) b) a) ∙ ap (λ x. cond (is_kill_step x) 1 0 + kills ss) (sym e)
