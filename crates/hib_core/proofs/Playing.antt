-- A run that goes on by the definition of what is played.
use Rattle.std.specs.Prelude.{option_and_then}
use Rattle.std.specs.Option.{option_map_or}
use Rattle.std.proofs.Common.{◌≡◌, ◌≢◌, ℕ, zero, suc, ◌+◌, ◌-◌, ◌<◌, ◌≤◌, ◌==◌, add-one, Bool, true, false, not, ◌&&◌, List, [], ◌∷◌, ◌++◌, reverse, drop, length, is_some, slice_get, Some, None, Option, refl, sym, ap, ◌∙◌, subst, append_assoc, append-nil, arith, inl, inr}
use Rattle.std.proofs.lemmas.Bool.{true≢false, eqb-true}
use Rattle.std.proofs.lemmas.Option.{slice_get_past}
use Rattle.std.proofs.lemmas.List.{reverse-append, reverse-reverse, drop_all}
use Rattle.std.specs.List.{range_with_len}
use Rattle.hib_base.proofs.Tables.{Tested, tested}
use Rattle.hib_journal.specs.Types.{Mode, Order, SessionDef, Script, Act, Entry}
use Rattle.hib_journal.specs.Sessions.{Journal, own, is_by, was_killed, is_empty}
use Rattle.hib_journal.specs.Plan.{Plan, left_of, first_act}
use Rattle.hib_journal.specs.Next.{next, blocks}
use Rattle.hib_journal.specs.Played.{Playing, has_next, play_steps, play_order, play_orders, play_sessions, is_played}
use Rattle.hib_core.specs.Factory.{Does, IsOver}
use Rattle.hib_core.specs.Playing.{Play, played, play_all, play_script, GoesOn, Leads}
use Rattle.hib_engines.proofs.Bridge.{self_by}
use Rattle.hib_journal.proofs.Open.{killed_same}

pub leads_none : (all left : Play) (h : Journal) → ((rest : Journal) → all h rest ≡ left h rest) → Leads all left h h
leads_none all left h f = record { added = []; grown = refl; plays = f }

pub leads_on : (a b c : Play) (old mid new : Journal) → Leads a b old mid → Leads b c mid new → Leads a c old new
leads_on a b c old mid new x y = record {
  added = x.added ++ y.added;
  grown = y.grown ∙ (ap (λ m. reverse y.added ++ m) x.grown
      ∙ (sym (append_assoc (reverse y.added) (reverse x.added) old) ∙ ap (λ r. r ++ old) (sym (reverse-append x.added y.added))));
  plays = λ rest. ap (a old) (append_assoc x.added y.added rest) ∙ (x.plays (y.added ++ rest) ∙ y.plays rest);
}

-- a journal that has gone on

pub goes_by : (p q : Play) (old new : Journal) → Leads p q old new → GoesOn old new
goes_by p q old new w = (reverse w.added, w.grown)

pub goes_then : (old mid new : Journal) → GoesOn old mid → GoesOn mid new → GoesOn old new
goes_then old mid new a b = (b.0 ++ a.0, b.1 ∙ (ap (λ m. b.0 ++ m) a.1 ∙ sym (append_assoc b.0 a.0 old)))

pub goes_same : (old new : Journal) → new ≡ old → GoesOn old new
goes_same old new e = ([], e)

-- one step of a session

by_itself : (s : ℕ) (e : Entry) → e.session ≡ Some s → is_by s e ≡ true
by_itself s e p = rw p (self_by s)

goes : (script : Script) (s n : ℕ) (h rest : Journal) (e : Entry) → has_next script h s ≡ true → is_by s e ≡ true → play_steps script s (suc n) h (e ∷ rest) ≡ play_steps script s n (e ∷ h) rest
goes script s n h rest e p q = rw (p, q) refl

step_leads : (script : Script) (s n : ℕ) (h : Journal) (e : Entry) → has_next script h s ≡ true → e.session ≡ Some s → Leads (play_steps script s (suc n)) (play_steps script s n) h (e ∷ h)
step_leads script s n h e p q = record { added = e ∷ []; grown = refl; plays = λ rest. goes script s n h rest e p (by_itself s e q) }

all_leads : (script : Script) (s : ℕ) (h : Journal) (e : Entry) → has_next script h s ≡ true → e.session ≡ Some s → Leads (play_all script s) (play_all script s) h (e ∷ h)
all_leads script s h e p q = record { added = e ∷ []; grown = refl; plays = λ rest. goes script s (suc (length rest)) h rest e p (by_itself s e q) }

-- and none
no_step : (script : Script) (s n : ℕ) (h : Journal) → has_next script h s ≡ false → (rest : Journal) → play_steps script s n h rest ≡ Some (h, rest)
no_step script s zero h p rest = refl
no_step script s (suc n) h p rest = rw p refl

none_next : (b : Bool) (o : Option Act) → o ≡ None → (b && is_some o) ≡ false
none_next true o p = rw p refl
none_next false o p = refl

-- the steps of an order

pub steps_more : (script : Script) (s i : ℕ) (old mid new : Journal) (xs ys : List Rattle.hib_session.specs.declared.session.Session.Session) →
    ((n : ℕ) → Leads (play_steps script s (i + n)) (play_steps script s n) old mid) → Does script s mid new xs ys →
    (n : ℕ) → Leads (play_steps script s (i + 1 + n)) (play_steps script s n) old new
steps_more script s i old mid new xs ys f w n =
    let e : i + suc n ≡ i + 1 + n = omega arith in
    subst (λ j. Leads (play_steps script s (i + 1 + n)) (play_steps script s n) old j) (sym w.grown)
    (leads_on (play_steps script s (i + 1 + n)) (play_steps script s (suc n)) (play_steps script s n) old mid (w.entry ∷ mid)
    (subst (λ m. Leads (play_steps script s m) (play_steps script s (suc n)) old mid) e (f (suc n)))
    (step_leads script s n mid w.entry w.due w.by))

pub steps_over : (script : Script) (s i n : ℕ) (old mid new : Journal) → i ≤ n → ((m : ℕ) → Leads (play_steps script s (i + m)) (play_steps script s m) old mid) → IsOver script s mid new →
    Leads (play_steps script s n) played old new
steps_over script s i n old mid new l f w =
    let e : i + (n - i) ≡ n = omega (arith, l) in
    subst (λ j. Leads (play_steps script s n) played old j) (sym w.same)
    (leads_on (play_steps script s n) (play_steps script s (n - i)) played old mid mid
    (subst (λ m. Leads (play_steps script s m) (play_steps script s (n - i)) old mid) e (f (n - i)))
    (leads_none (play_steps script s (n - i)) played mid (no_step script s (n - i) mid (subst (λ j. has_next script j s ≡ false) w.same w.over))))

pub steps_done : (script : Script) (s i n : ℕ) (old new : Journal) → i ≤ n → n ≤ i → ((m : ℕ) → Leads (play_steps script s (i + m)) (play_steps script s m) old new) →
    Leads (play_steps script s n) played old new
steps_done script s i n old new l k f =
    let e : i + 0 ≡ n = omega (arith, l, k) in
    leads_on (play_steps script s n) (play_steps script s 0) played old new new
    (subst (λ m. Leads (play_steps script s m) (play_steps script s 0) old new) e (f 0)) (leads_none (play_steps script s 0) played new (λ rest. refl))

-- a session to its end

pub all_more : (script : Script) (s : ℕ) (old mid new : Journal) (xs ys : List Rattle.hib_session.specs.declared.session.Session.Session) →
    Leads (play_all script s) (play_all script s) old mid → Does script s mid new xs ys → Leads (play_all script s) (play_all script s) old new
all_more script s old mid new xs ys x w = subst (λ j. Leads (play_all script s) (play_all script s) old j) (sym w.grown)
    (leads_on (play_all script s) (play_all script s) (play_all script s) old mid (w.entry ∷ mid) x (all_leads script s mid w.entry w.due w.by))

pub all_over : (script : Script) (s : ℕ) (old mid new : Journal) → Leads (play_all script s) (play_all script s) old mid → IsOver script s mid new → Leads (play_all script s) played old new
all_over script s old mid new x w = subst (λ j. Leads (play_all script s) played old j) (sym w.same)
    (leads_on (play_all script s) (play_all script s) played old mid mid x
    (leads_none (play_all script s) played mid (λ rest. no_step script s (suc (length rest)) mid (subst (λ j. has_next script j s ≡ false) w.same w.over) rest)))

-- one piece after the other

bound : (p q : Play) (old new : Journal) → Leads p played old new → Leads (λ x r. option_and_then (λ y. q y.0 y.1) (p x r)) q old new
bound p q old new w = record { added = w.added; grown = w.grown; plays = λ rest. ap (λ (o : Option Playing). option_and_then (λ p. q p.0 p.1) o) (w.plays rest) }

pub sessions_more : (script : Script) (s n : ℕ) (all : Play) (old mid new : Journal) → s < n →
    Leads all (play_sessions script (range_with_len s (n - s))) old mid → Leads (play_all script s) played mid new →
    Leads all (play_sessions script (range_with_len (s + 1) (n - (s + 1)))) old new
sessions_more script s n all old mid new l x y =
    let e : n - s ≡ suc (n - (s + 1)) = omega (arith, l) in
    leads_on all (play_sessions script (range_with_len s (n - s))) (play_sessions script (range_with_len (s + 1) (n - (s + 1)))) old mid new x
    (subst (λ m. Leads (play_sessions script (range_with_len s m)) (play_sessions script (range_with_len (s + 1) (n - (s + 1)))) mid new) (sym e)
    (bound (play_all script s) (play_sessions script (range_with_len (s + 1) (n - (s + 1)))) mid new y))

pub sessions_done : (script : Script) (s n : ℕ) (all : Play) (old new : Journal) → n ≤ s → Leads all (play_sessions script (range_with_len s (n - s))) old new → Leads all played old new
sessions_done script s n all old new l x =
    let e : n - s ≡ 0 = omega (arith, l) in
    leads_on all (play_sessions script []) played old new new (subst (λ m. Leads all (play_sessions script (range_with_len s m)) old new) e x)
    (leads_none (play_sessions script []) played new (λ rest. refl))

drop_at : (os : List Order) (i : ℕ) (o : Order) → slice_get os i ≡ Some o → drop i os ≡ o ∷ drop (suc i) os
drop_at [] i o e = absurd (cc)
drop_at (p ∷ os) zero o e = let s : p ≡ o = cc in rw s refl
drop_at (p ∷ os) (suc i) o e = drop_at os i o e

pub orders_more : (script : Script) (i : ℕ) (o : Order) (all : Play) (old mid new : Journal) → slice_get script.schedule i ≡ Some o →
    Leads all (play_orders script (drop i script.schedule)) old mid → Leads (play_order script o) played mid new →
    Leads all (play_orders script (drop (i + 1) script.schedule)) old new
orders_more script i o all old mid new e x y = rw add-one
    (leads_on all (play_orders script (drop i script.schedule)) (play_orders script (drop (suc i) script.schedule)) old mid new x
    (subst (λ os. Leads (play_orders script os) (play_orders script (drop (suc i) script.schedule)) mid new) (sym (drop_at script.schedule i o e))
    (bound (play_order script o) (play_orders script (drop (suc i) script.schedule)) mid new y)))

pub orders_done : (script : Script) (n : ℕ) (all : Play) (old new : Journal) → length script.schedule ≤ n → Leads all (play_orders script (drop n script.schedule)) old new → Leads all played old new
orders_done script n all old new e x =
    leads_on all (play_orders script []) played old new new
    (subst (λ os. Leads all (play_orders script os) old new) (drop_all n script.schedule e) x)
    (leads_none (play_orders script []) played new (λ rest. refl))

-- all of it

pub script_leads : (script : Script) (old mid h : Journal) → Leads (play_orders script script.schedule) played old mid →
    Leads (play_sessions script (range_with_len 0 (length script.sessions))) played mid h → Leads (play_script script) played old h
script_leads script old mid h x y = leads_on (play_script script) sessions played old mid h (bound (play_orders script script.schedule) sessions old mid x) y
  where
    sessions : Play
    sessions = play_sessions script (range_with_len 0 (length script.sessions))

pub is_all_played : (script : Script) (mid h : Journal) → Leads (play_orders script script.schedule) played [] mid →
    Leads (play_sessions script (range_with_len 0 (length script.sessions))) played mid h → is_played script h ≡ true
unfolding is_played
is_all_played script mid h x y = ap (λ (o : Option Playing). option_map_or (λ p. is_empty p.1) o false) (ap (play_script script []) at_once ∙ z.plays [])
  where
    z : Leads (play_script script) played [] h
    z = script_leads script [] mid h x y

    at_once : reverse h ≡ z.added ++ []
    at_once = ap reverse (z.grown ∙ append-nil (reverse z.added)) ∙ (reverse-reverse z.added ∙ sym (append-nil z.added))

-- a step of one session leaves the entries of the others, and what is due in them
not_by : (s n : ℕ) (e : Entry) (h : Journal) → e.session ≡ Some n → (n == s) ≡ false → own s (e ∷ h) ≡ own s h
not_by s n e h p d = rw (p, d) refl

pub others_more : (script : Script) (n : ℕ) (old mid new : Journal) (xs ys : List Rattle.hib_session.specs.declared.session.Session.Session) →
    ((s : ℕ) → (n == s) ≡ false → own s mid ≡ own s old) → Does script n mid new xs ys → (s : ℕ) → (n == s) ≡ false → own s new ≡ own s old
others_more script n old mid new xs ys f w s d = ap (own s) w.grown ∙ (not_by s n w.entry mid w.by d ∙ f s d)

pub stay_more : (script : Script) (n : ℕ) (old mid new : Journal) (xs ys : List Rattle.hib_session.specs.declared.session.Session.Session) →
    ((s : ℕ) → (n == s) ≡ false → has_next script mid s ≡ has_next script old s) → Does script n mid new xs ys → (s : ℕ) → (n == s) ≡ false → has_next script new s ≡ has_next script old s
stay_more script n old mid new xs ys f w s d = ap (λ j. has_next script j s) w.grown ∙ (same ∙ f s d)
  where
    same : has_next script (w.entry ∷ mid) s ≡ has_next script mid s
    same = ap (λ b. not b && is_some (next script s (own s (w.entry ∷ mid)))) (killed_same s w.entry mid w.inside)
        ∙ ap (λ m. not (was_killed s mid) && is_some (next script s m)) (not_by s n w.entry mid w.by d)

-- the sessions so far are at their end, and so is one more
pub over_more : (script : Script) (n : ℕ) (mid new : Journal) → ((s : ℕ) → s < n → has_next script mid s ≡ false) → has_next script new n ≡ false →
    ((s : ℕ) → (n == s) ≡ false → has_next script new s ≡ has_next script mid s) → (s : ℕ) → s < n + 1 → has_next script new s ≡ false
over_more script n mid new f o g s l = by_test (tested (n == s))
  where
    by_test : Tested (n == s) → has_next script new s ≡ false
    by_test (inl p) = let e : n ≡ s = eqb-true n s p in subst (λ m. has_next script new m ≡ false) e o
    by_test (inr p) = let d : n ≢ s = λ e. true≢false (sym (ap (λ m. n == m) (sym e) ∙ self_by n) ∙ p) in
        g s p ∙ f s (omega (arith, l, d))

-- a session that is not there has no steps

over_left : (mine : Journal) → left_of Plan.Over mine ≡ Plan.Over
over_left [] = refl
over_left (e ∷ m) = rw (over_left m) refl

pub unknown : (script : Script) (s : ℕ) (mine : Journal) → length script.sessions ≤ s → next script s mine ≡ None
unfolding next
unknown script s mine l = ap (λ (o : Option SessionDef). first_act (left_of (blocks script Mode.Normal true (option_map_or (λ d. d.statements) o []) []) mine)) (slice_get_past script.sessions s l) ∙ ap first_act (over_left mine)

pub unknown_leads : (script : Script) (s n : ℕ) (h : Journal) → length script.sessions ≤ s → Leads (play_steps script s n) played h h
unknown_leads script s n h l = leads_none (play_steps script s n) played h (no_step script s n h (none_next (not (was_killed s h)) (next script s (own s h)) (unknown script s (own s h) l)))
