-- A run is short: its sessions have few entries.
use Rattle.std.specs.Option.{option_map_or}
use Rattle.std.proofs.Common.{◌≡◌, ℕ, suc, ◌+◌, ◌*◌, ◌≤◌, ◌<◌, ◌==◌, Bool, true, false, cond, List, [], ◌∷◌, length, slice_get, IsSome, Some, None, Option, refl, sym, ap, ◌∙◌, subst, arith, inl, inr}
use Rattle.std.proofs.lemmas.Bool.{false≢true, eqb-true, eqb-false}
use Rattle.std.proofs.lemmas.List.Sums.{sum_by-cons}
use Rattle.hib_base.specs.Scripts.{statement_count}
use Rattle.hib_base.specs.Tables.{Tables}
use Rattle.hib_base.specs.Valid.{is_valid}
use Rattle.hib_base.proofs.Tables.{Tested, tested}
use Rattle.hib_base.proofs.Valid.{Rules, rules}
use Rattle.hib_journal.specs.Types.{SessionDef, Script, Act, Reply, Entry}
use Rattle.hib_journal.specs.Sessions.{Journal, own, is_by, was_killed}
use Rattle.hib_journal.specs.Plan.{InOrder}
use Rattle.hib_journal.specs.Next.{plan_of, next}
use Rattle.hib_journal.specs.Legal.{IsLegal, due, due_by}
use Rattle.hib_session.specs.Bound.{most_entries}
use Rattle.hib_core.specs.Bound.{outside_count, most_in, one_if_none}
use Rattle.hib_core.specs.Standing.{outside_entry}
use Rattle.hib_engines.proofs.Bridge.{self_by}
use Rattle.hib_core.proofs.Playing.{unknown}

abbrev Ordered : Type 0
Ordered = (script : Script) (told : Option Tables) (s : ℕ) (h : Journal) → IsLegal script told h → InOrder (plan_of script s) (own s h)

abbrev Few : Type 0
Few = (script : Script) (s : ℕ) (mine : Journal) → InOrder (plan_of script s) mine → length mine ≤ most_entries (length (option_map_or (λ d. d.statements) (slice_get script.sessions s) []))

-- the entries of the sessions from k on
abbrev total : ℕ → List SessionDef → Journal → ℕ
total k [] h = 0
total k (d ∷ ds) h = length (own k h) + total (suc k) ds h

cond_grows : (b : Bool) (e : Entry) (h : Journal) → length h ≤ length (cond b (e ∷ h) h)
cond_grows true e h = omega arith
cond_grows false e h = omega arith

total_grows : (k : ℕ) (ds : List SessionDef) (e : Entry) (h : Journal) → total k ds h ≤ total k ds (e ∷ h)
total_grows k [] e h = omega arith
total_grows k (d ∷ ds) e h = let i = total_grows (suc k) ds e h in let j = cond_grows (is_by k e) e (own k h) in omega (arith, i, j)

own_more : (s : ℕ) (e : Entry) (h : Journal) → e.session ≡ Some s → length (own s (e ∷ h)) ≡ suc (length (own s h))
own_more s e h p = rw (p, self_by s) refl

total_here : (k : ℕ) (d : SessionDef) (ds : List SessionDef) (s : ℕ) (e : Entry) (h : Journal) → e.session ≡ Some s → k ≡ s → suc (total k (d ∷ ds) h) ≤ total k (d ∷ ds) (e ∷ h)
total_here k d ds s e h p q = let i = total_grows (suc k) ds e h in let j = own_more k e h (p ∙ ap Some (sym q)) in omega (arith, i, j)

total_more : (k : ℕ) (ds : List SessionDef) (s : ℕ) (e : Entry) (h : Journal) → e.session ≡ Some s → k ≤ s → s < k + length ds → suc (total k ds h) ≤ total k ds (e ∷ h)
total_more k [] s e h p l m = absurd (omega (arith, l, m))
total_more k (d ∷ ds) s e h p l m = by_test (tested (k == s)) (λ n. total_more (suc k) ds s e h p n (omega (arith, m)))
  where
    by_test : Tested (k == s) → (suc k ≤ s → suc (total (suc k) ds h) ≤ total (suc k) ds (e ∷ h)) → suc (total k (d ∷ ds) h) ≤ total k (d ∷ ds) (e ∷ h)
    by_test (inl q) f = total_here k d ds s e h p (eqb-true k s q)
    by_test (inr q) f = let n : suc k ≤ s = let r = eqb-false k s q in omega (arith, r, l) in let i = f n in let j = cond_grows (is_by k e) e (own k h) in omega (arith, i, j)

-- an entry of a session is one of those that the script has

not_there : (b : Bool) (o : Option Act) → o ≡ None → IsSome (cond b None o) → ⊥
not_there true o p w = false≢true w
not_there false o p w = false≢true (subst (λ v. IsSome v) p w)

there : (script : Script) (h : Journal) (s : ℕ) (e : Entry) → e.session ≡ Some s → IsSome (due script h e) → Tested (Rattle.std.specs.Prelude.nat_lt s (length script.sessions)) → s < length script.sessions
there script h s e p w (inl t) = Rattle.std.proofs.lemmas.Bool.ltb-true s (length script.sessions) t
there script h s e p w (inr f) = absurd (not_there (was_killed s h) (next script s (own s h))
    (unknown script s (own s h) (Rattle.std.proofs.lemmas.Bool.ltb-false s (length script.sessions) f)) (subst (λ o. IsSome (due_by script h o e.act)) p w))

counted : (script : Script) (h : Journal) (e : Entry) (o : Option ℕ) → e.session ≡ o → IsSome (due script h e) → length h ≤ total 0 script.sessions h + outside_count h →
    suc (length h) ≤ total 0 script.sessions (e ∷ h) + outside_count (e ∷ h)
counted script h e None p w i =
    let j = total_grows 0 script.sessions e h in
    let one : one_if_none e.session ≡ 1 = ap one_if_none p in omega (arith, i, j, one)
counted script h e (Some s) p w i =
    let l : s < length script.sessions = there script h s e p w (tested (Rattle.std.specs.Prelude.nat_lt s (length script.sessions))) in
    let j = total_more 0 script.sessions s e h p (omega arith) (omega (arith, l)) in omega (arith, i, j)

count : (script : Script) (told : Option Tables) (h : Journal) → IsLegal script told h → length h ≤ total 0 script.sessions h + outside_count h
count script told [] l = omega arith
count script told (e ∷ h) l = counted script h e e.session refl l.1.session (count script told h l.0)

-- and each has few

most_total : Ordered → Few → (script : Script) (told : Option Tables) (h : Journal) (k : ℕ) (ds : List SessionDef) → IsLegal script told h →
    ((i : ℕ) → slice_get script.sessions (k + i) ≡ slice_get ds i) → total k ds h ≤ most_in ds
most_total o f script told h k [] l g = omega arith
most_total o f script told h k (d ∷ ds) l g =
    let here : slice_get script.sessions k ≡ Some d = subst (λ n. slice_get script.sessions n ≡ Some d) (let e : k + 0 ≡ k = omega arith in e) (g 0) in
    let i : length (own k h) ≤ most_entries (length d.statements) = subst (λ x. length (own k h) ≤ most_entries (length (option_map_or (λ d. d.statements) x []))) here (f script k (own k h) (o script told k h l)) in
    let j : total (suc k) ds h ≤ most_in ds = most_total o f script told h (suc k) ds l
    (λ n. subst (λ m. slice_get script.sessions m ≡ slice_get ds n) (let e : k + suc n ≡ suc k + n = omega arith in e) (g (suc n))) in
    omega (arith, i, j)

pub run_few : Ordered → Few → (script : Script) (told : Option Tables) (h : Journal) → IsLegal script told h → length h ≤ most_in script.sessions + outside_count h
run_few o f script told h l =
    let i = count script told h l in
    let j = most_total o f script told h 0 script.sessions l (λ n. ap (slice_get script.sessions) (let e : 0 + n ≡ n = omega arith in e)) in
    omega (arith, i, j)

-- within the limits of a script

most_sum : (ds : List SessionDef) → most_in ds ≡ 5 * statement_count ds + length ds
most_sum [] = omega arith
most_sum (d ∷ ds) =
    let i = most_sum ds in
    let c : statement_count (d ∷ ds) ≡ length d.statements + statement_count ds = sum_by-cons (λ (y : SessionDef). length y.statements) d ds in
    omega (arith, i, c)

most_within : (script : Script) → is_valid script ≡ true → most_in script.sessions + length script.schedule ≤ 46000
most_within script v =
    let r : Rules script = rules script v in
    let m = most_sum script.sessions in
    let s : length script.sessions ≤ 1000 = r.sessions in
    let t : statement_count script.sessions ≤ 5000 = r.statements in
    let o : length script.schedule ≤ 20000 = r.orders in
    omega (arith, m, s, t, o)

pub run_within : Ordered → Few → (script : Script) (told : Option Tables) (h : Journal) → is_valid script ≡ true → IsLegal script told h → outside_count h ≤ length script.schedule → length h ≤ 150000
run_within p f script told h v l n =
    let i = run_few p f script told h l in
    let m = most_within script v in
    omega (arith, i, m, n)

-- a session's entry is none from outside
pub inside_same : (e : Entry) (s : ℕ) (h new : Journal) → e.session ≡ Some s → new ≡ e ∷ h → outside_count new ≡ outside_count h
inside_same e s h new p g = ap outside_count g ∙ (let z : one_if_none e.session ≡ 0 = ap one_if_none p in omega (arith, z))

pub outside_same : (h new : Journal) → new ≡ h → outside_count new ≤ outside_count h + 1
outside_same h new g = let e = ap outside_count g in omega (arith, e)

pub outside_one : (h new : Journal) (a : Act) (r : Reply) → new ≡ outside_entry h a r ∷ h → outside_count new ≤ outside_count h + 1
outside_one h new a r g = let e : outside_count new ≡ outside_count h + 1 = ap outside_count g in omega (arith, e)

-- an entry from outside that was added to what a journal still is
pub grown_from : (mid h new : Journal) (a : Act) (r : Reply) → new ≡ outside_entry mid a r ∷ mid → mid ≡ h → new ≡ outside_entry h a r ∷ h
grown_from mid h new a r g e = g ∙ ap (λ j. outside_entry j a r ∷ j) e
