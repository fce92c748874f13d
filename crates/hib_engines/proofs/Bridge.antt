-- What the store defers and stores is what the sessions write and commit, after one more entry.
use Rattle.std.specs.Option.{option_map_or}
use Rattle.std.proofs.Common.{◌≡◌, ℕ, ◌==◌, inl, inr, Bool, true, false, cond, ◌||◌, List, [], ◌∷◌, Some, None, Option, refl, sym, ap, ◌∙◌, subst, arith}
use Rattle.std.proofs.lemmas.Bool.{true≢false, false≢true, eqb-true, or_parts}
use Rattle.std.proofs.lemmas.Bool.Decides.{nat_tests}
use Rattle.hib_base.specs.Tables.{Tables, after_changes}
use Rattle.hib_base.proofs.Tables.{Tested, tested}
use Rattle.hib_journal.specs.Types.{Key, Change, Commit, Script, Act, Reply, Entry}
use Rattle.hib_journal.specs.Sessions.{Journal, own, is_session, is_restart, is_open, open_after, was_killed, killed_by, committed, committer, changes, deferred, deferred_after}
use Rattle.hib_journal.specs.Held.{is_begin}
use Rattle.hib_journal.specs.Legal.{is_outside}
use Rattle.hib_journal.specs.Lists.{entry_at, stops, unsaved, unsaved_after, stored, stored_by}
use Rattle.hib_journal.proofs.Open.{begun_open, killed_same}
use Rattle.hib_engines.specs.Bridged.{IsBridged}
use Rattle.hib_engines.specs.Due.{AreStored, IsDue}

pub self_by : (s : ℕ) → (s == s) ≡ true
self_by s = grind (arith, nat_tests)

pub own_self : (h : Journal) (s now : ℕ) (a : Act) (r : Reply) → own s (entry_at now (Some s) a r ∷ h) ≡ entry_at now (Some s) a r ∷ own s h
own_self h s now a r = rw (self_by s) refl

pub own_other : (h : Journal) (s n now : ℕ) (a : Act) (r : Reply) → (s == n) ≡ false → own n (entry_at now (Some s) a r ∷ h) ≡ own n h
own_other h s n now a r d = rw d refl

-- a session that lives has lived before
pub lived : (n : ℕ) (e : Entry) (h : Journal) → was_killed n (e ∷ h) ≡ false → was_killed n h ≡ false
lived n e h p = (or_parts (killed_by n e.act (is_open n h)) (was_killed n h) p).1

pub not_outside : (a : Act) → is_outside a ≡ false → is_restart a ≡ false
not_outside Act.Restart p = absurd (true≢false p)
not_outside _ p = refl

pub inside_stops : (a : Act) → is_outside a ≡ false → stops a ≡ false
inside_stops (Act.Kill m) p = absurd (true≢false p)
inside_stops Act.Restart p = absurd (true≢false p)
inside_stops _ p = refl

pub unsaved_own : (n : ℕ) (by : Option ℕ) (a : Act) (cs : List Change) → stops a ≡ false → unsaved_after n by a cs ≡ cond (is_session n by) (deferred_after a cs) cs
unsaved_own n by (Act.Kill m) cs p = absurd (true≢false p)
unsaved_own n by Act.Restart cs p = absurd (true≢false p)
unsaved_own n by _ cs p = refl

-- what the store defers of a session that lives
pub deferred_of : (h : Journal) (s : ℕ) → IsBridged h → was_killed s h ≡ false → unsaved s h ≡ deferred (own s h)
deferred_of h s b live = b.changes s ∙ ap (λ k. cond k [] (deferred (own s h))) live

rows_by : (h : Journal) (s : ℕ) (a : Act) (r : Reply) (start : Tables) → IsBridged h → was_killed s h ≡ false → AreStored (own s h) a →
    stored_by (committer a r (Some s)) h (stored start h) ≡ option_map_or (λ x. after_changes (changes x h) (committed start h)) (committer a r (Some s)) (committed start h)
rows_by h s Act.Commit (Reply.Commit Commit.Committed) start b live d =
    ap (λ cs. after_changes cs (stored start h)) (deferred_of h s b live ∙ d) ∙ ap (λ t. after_changes (changes s h) t) (b.rows start)
rows_by h s Act.Commit _ start b live d = b.rows start
rows_by h s _ r start b live d = b.rows start

or_true : (b : Bool) → (b || true) ≡ true
or_true true = refl
or_true false = refl

begin_opens : (a : Act) (s : ℕ) (o : Bool) → is_begin a ≡ true → open_after s (Some s) a o ≡ true
begin_opens Act.Begin s o p = rw (self_by s) refl
begin_opens _ s o p = absurd (false≢true p)

-- within a transaction it is an End that closes a session
closing : (a : Act) (s : ℕ) → is_outside a ≡ false → open_after s (Some s) a true ≡ false → a ≡ Act.End
closing Act.Begin s i o = absurd (true≢false (sym (or_true (s == s)) ∙ o))
closing Act.End s i o = refl
closing (Act.Kill m) s i o = absurd (true≢false i)
closing Act.Restart s i o = absurd (true≢false i)
closing _ s i o = absurd (true≢false o)

closed_self : (script : Script) (h : Journal) (s : ℕ) (a : Act) → was_killed s h ≡ false → IsDue script (own s h) a → open_after s (Some s) a (is_open s h) ≡ false → deferred_after a (deferred (own s h)) ≡ []
closed_self script h s a live d o = by_begin (tested (is_begin a))
  where
    by_begin : Tested (is_begin a) → deferred_after a (deferred (own s h)) ≡ []
    by_begin (inl p) = absurd (true≢false (sym (begin_opens a s (is_open s h) p) ∙ o))
    by_begin (inr p) =
        let opened : is_open s h ≡ true = begun_open s h live ∙ d.within p in
        let e : a ≡ Act.End = closing a s d.inside (sym (ap (λ b. open_after s (Some s) a b) opened) ∙ o) in
        ap (λ b. deferred_after b (deferred (own s h))) e ∙ d.ends e

open_other : (n s : ℕ) (a : Act) (o : Bool) → (s == n) ≡ false → is_outside a ≡ false → open_after n (Some s) a o ≡ o
open_other n s Act.Begin o d i = rw d refl
open_other n s Act.End o d i = rw d refl
open_other n s (Act.Kill m) o d i = absurd (true≢false i)
open_other n s Act.Restart o d i = absurd (true≢false i)
open_other n s _ o d i = refl

pub bridged_own : (script : Script) (h : Journal) (s now : ℕ) (a : Act) (r : Reply) → IsBridged h → was_killed s h ≡ false → IsDue script (own s h) a → IsBridged (entry_at now (Some s) a r ∷ h)
bridged_own script h s now a r b live d = record {
  rows = λ start. rows_by h s a r start b live d.stored;
  changes = λ n. unsaved_own n (Some s) a (unsaved n h) (inside_stops a d.inside) ∙ changed n (tested (s == n));
  closed = λ n w o. closed n (lived n (entry_at now (Some s) a r) h w) o (tested (s == n));
}
  where
    killed : (n : ℕ) → was_killed n (entry_at now (Some s) a r ∷ h) ≡ was_killed n h
    killed n = killed_same n (entry_at now (Some s) a r) h d.inside

    changed : (n : ℕ) → Tested (s == n) → cond (s == n) (deferred_after a (unsaved n h)) (unsaved n h) ≡ cond (was_killed n (entry_at now (Some s) a r ∷ h)) [] (deferred (own n (entry_at now (Some s) a r ∷ h)))
    changed n (inl p) =
        let e : s ≡ n = eqb-true s n p in
        subst (λ m. cond (s == m) (deferred_after a (unsaved m h)) (unsaved m h) ≡ cond (was_killed m (entry_at now (Some s) a r ∷ h)) [] (deferred (own m (entry_at now (Some s) a r ∷ h)))) e
        (ap (λ c. cond c (deferred_after a (unsaved s h)) (unsaved s h)) (self_by s)
        ∙ (ap (deferred_after a) (deferred_of h s b live)
        ∙ (ap deferred (sym (own_self h s now a r)) ∙ sym (ap (λ k. cond k [] (deferred (own s (entry_at now (Some s) a r ∷ h)))) (killed s ∙ live)))))
    changed n (inr p) =
        ap (λ c. cond c (deferred_after a (unsaved n h)) (unsaved n h)) p
        ∙ (b.changes n ∙ (ap (λ k. cond k [] (deferred (own n h))) (sym (killed n)) ∙ ap (λ m. cond (was_killed n (entry_at now (Some s) a r ∷ h)) [] (deferred m)) (sym (own_other h s n now a r p))))

    closed : (n : ℕ) → was_killed n h ≡ false → is_open n (entry_at now (Some s) a r ∷ h) ≡ false → Tested (s == n) → deferred (own n (entry_at now (Some s) a r ∷ h)) ≡ []
    closed n w o (inl p) =
        let e : s ≡ n = eqb-true s n p in
        subst (λ m. is_open m (entry_at now (Some s) a r ∷ h) ≡ false → deferred (own m (entry_at now (Some s) a r ∷ h)) ≡ []) e
        (λ u. ap deferred (own_self h s now a r) ∙ closed_self script h s a live d u) o
    closed n w o (inr p) = ap deferred (own_other h s n now a r p) ∙ b.closed n w (sym (open_other n s a (is_open n h) p d.inside) ∙ o)

-- ---- and after one from outside

pub bridged_kill : (h : Journal) (m now : ℕ) (r : Reply) → IsBridged h → IsBridged (entry_at now None (Act.Kill m) r ∷ h)
bridged_kill h m now r b = record {
  rows = b.rows;
  changes = λ n. changed n (tested (m == n));
  closed = λ n w o. closed n w o (tested (m == n));
}
  where
    changed : (n : ℕ) → Tested (m == n) → cond (m == n) [] (unsaved n h) ≡ cond ((m == n) || was_killed n h) [] (deferred (own n h))
    changed n (inl p) = rw p refl
    changed n (inr p) = rw p (b.changes n)

    closed : (n : ℕ) → ((m == n) || was_killed n h) ≡ false → cond (m == n) false (is_open n h) ≡ false → Tested (m == n) → deferred (own n h) ≡ []
    closed n w o (inl p) = absurd (true≢false (sym p ∙ (or_parts (m == n) (was_killed n h) w).0))
    closed n w o (inr p) = b.closed n (or_parts (m == n) (was_killed n h) w).1 (sym (ap (λ c. cond c false (is_open n h)) p) ∙ o)

pub bridged_restart : (h : Journal) (now : ℕ) (r : Reply) → IsBridged h → IsBridged (entry_at now None Act.Restart r ∷ h)
bridged_restart h now r b = record {
  rows = b.rows;
  changes = λ n. changed n (tested (is_open n h || was_killed n h));
  closed = λ n w o. let u : (is_open n h ≡ false) × (was_killed n h ≡ false) = or_parts (is_open n h) (was_killed n h) w in b.closed n u.1 u.0;
}
  where
    changed : (n : ℕ) → Tested (is_open n h || was_killed n h) → [] ≡ cond (is_open n h || was_killed n h) [] (deferred (own n h))
    changed n (inl p) = sym (ap (λ k. cond k [] (deferred (own n h))) p)
    changed n (inr p) =
        let u : (is_open n h ≡ false) × (was_killed n h ≡ false) = or_parts (is_open n h) (was_killed n h) p in
        sym (ap (λ k. cond k [] (deferred (own n h))) p ∙ b.closed n u.1 u.0)

pub bridged_evict : (h : Journal) (k : Key) (now : ℕ) (r : Reply) → IsBridged h → IsBridged (entry_at now None (Act.Evict k) r ∷ h)
bridged_evict h k now r b = record { rows = b.rows; changes = b.changes; closed = b.closed }

pub bridged_begins : IsBridged []
bridged_begins = record { rows = λ start. refl; changes = λ n. refl; closed = λ n w o. refl }
