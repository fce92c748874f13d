-- A factory goes on: with one entry more its journal is legal, and its engines and sessions stand for it.
use Rattle.std.proofs.Common.{◌≡◌, ℕ, suc, ◌+◌, ◌<◌, ◌≤◌, ◌^◌, ◌==◌, Bool, true, false, cond, List, [], ◌∷◌, length, get_or, IsSome, IfSome, Some, None, Option, is_some, IfOk, Result, Ok, Err, refl, sym, ap, ◌∙◌, subst, arith, inl, inr}
use Rattle.std.proofs.lemmas.Bool.{true≢false, eqb-true}
use Rattle.std.proofs.lemmas.List.{length-set}
use Rattle.std.proofs.lemmas.Option.{slice_get_within, slice_get-get_or}
use Rattle.std.specs.Prelude.{slice_get, slice_set, option_map}
use Rattle.std.specs.declared.alloc.AllocError.{AllocError}
use Rattle.hib_base.proofs.Tables.{Tested, tested}
use Rattle.hib_journal.specs.Types.{Part, Script, Act, Reply, Entry}
use Rattle.hib_journal.specs.Sessions.{Journal, own, was_killed, last_tick, same_part, IsTimely}
use Rattle.hib_journal.specs.Next.{next}
use Rattle.hib_journal.specs.Played.{has_next}
use Rattle.hib_journal.specs.Legal.{IsLegal, part_of, due, may_come, is_outside}
use Rattle.hib_journal.specs.Lists.{IsLate}
use Rattle.hib_journal.specs.Runs.{IsNumbered, is_fault, fault_count}
use Rattle.hib_outside.specs.Causes.{Rose}
use Rattle.hib_session.specs.declared.session.Session.{Session}
use Rattle.hib_session.specs.Session.{Follows, IsTaken, number_of, is_killed}
use Rattle.hib_engines.specs.Due.{IsDue}
use Rattle.hib_engines.specs.Engines.{EnginesState, IsStill, IsReady, IsAnswered, IsTold}
use Rattle.hib_engines.proofs.Rose.{rose_more, rose_on, rose_if}
use Rattle.hib_engines.proofs.Still.{still_standing}
use Rattle.hib_core.specs.Standing.{Origin, entry_of}
use Rattle.hib_session.specs.Sessions.{AreSessions}
use Rattle.hib_core.specs.Factory.{Lawful, IsRun, IsMember, IsTurn, Answers}
use Rattle.hib_session.proofs.Together.{placed_here, placed_there}

-- ---- ticks

last_le : (p : Entry → Bool) (h : Journal) → IsNumbered h → last_tick p h ≤ length h
last_le p [] n = omega arith
last_le p (e ∷ h) n = by_test (tested (p e)) (last_le p h n.1)
  where
    by_test : Tested (p e) → last_tick p h ≤ length h → last_tick p (e ∷ h) ≤ suc (length h)
    by_test (inl q) i = rw q (omega (arith, n.0))
    by_test (inr q) i = rw q (omega (arith, i))

pub late : (p : Part) (h : Journal) (now : ℕ) → IsNumbered h → now ≡ length h + 1 → IsLate p now h
late p h now m e = omega (arith, last_le (λ d. same_part p d.part) h m, e)

pub timely : (h : Journal) (by : Option ℕ) (s : ℕ) (a : Act) (r : Reply) → IsNumbered h → length h < 2 ^ 62 →
    IsTimely (record { tick = length h + 1; session = by; part = part_of a s; act = a; reply = r }) h
timely h by s a r n l = record {
  positive = omega arith;
  bounded = omega (arith, l);
  ordered = omega (arith, last_le (λ d. true) h n);
  in_part = omega (arith, last_le (λ d. same_part (part_of a s) d.part) h n);
  in_session = omega (arith, last_le (λ d. Rattle.hib_journal.specs.Sessions.same_session by d.session) h n);
}

pub some_is : {A : Type 0} (x : Option A) (a : A) → x ≡ Some a → IsSome x
some_is x a p = rw p refl

stays : (script : Script) (h : Journal) (a : Act) → is_outside a ≡ false → may_come script h (Some a) ≡ Some a
stays script h (Act.Kill n) p = absurd (true≢false p)
stays script h Act.Restart p = absurd (true≢false p)
stays script h (Act.Evict k) p = absurd (true≢false p)
stays script h _ p = refl

-- ---- an entry of a session

pub goes_on : Lawful → (script : Script) (from : Origin) (h : Journal) (s : ℕ) (a : Act) (r : Reply) (x y : EnginesState) → IsRun script from h x → was_killed s h ≡ false →
    next script s (own s h) ≡ Some a → is_outside a ≡ false → IsAnswered script from.tables h (Some s) (length h + 1) a r y → x.store.faults ≤ y.store.faults →
    y.store.entities ≡ x.store.entities → (is_fault r ≡ true → Rose x.store.faults y.store.faults) → length h < 2 ^ 62 → IsRun script from (entry_of h s a r ∷ h) y
goes_on w script from h s a r x y run live p inside v later i fault l = record {
  legal = legal_next;
  law = w script from.tables (entry_of h s a r ∷ h) legal_next;
  numbered = (refl, run.numbered);
  engines = v.standing;
  entities = i ∙ run.entities;
  faults = rose_more from.faults (fault_count h) x.store.faults (cond (is_fault r) 1 0) y.store.faults run.faults (rose_if r x.store.faults y.store.faults later fault);
  built = run.built;
}
  where
    is_due : due script h (entry_of h s a r) ≡ Some a
    is_due = rw live p

    legal_next : IsLegal script from.tables (entry_of h s a r ∷ h)
    legal_next = (
      run.legal,
      record {
        tick = timely h (Some s) s a r run.numbered l;
        session = some_is (due script h (entry_of h s a r)) a is_due;
        part = ap (λ z. option_map (λ a. part_of a s) z) is_due;
        act = ap (λ z. may_come script h z) is_due ∙ stays script h a inside;
        reply = v.reply;
      },
    )

-- a run whose session has an act due is ready for it
pub ready : (script : Script) (from : Origin) (h : Journal) (now : ℕ) (y : Session) (a : Act) (x : EnginesState) → IsRun script from h x → IsTurn script h y a → now ≡ length h + 1 →
    IsReady script from.tables h (number_of y) now a x
ready script from h now y a x run t e = record { standing = run.engines; live = t.live; late = late (part_of a (number_of y)) h now run.numbered e; due = t.due }

pub entry_is : (h : Journal) (s n t : ℕ) (a : Act) (r : Reply) (p : Part) → t ≡ length h + 1 → n ≡ s → p ≡ part_of a n →
    ◌≡◌ {A = Entry} (record { tick = t; session = Some n; part = p; act = a; reply = r }) (entry_of h s a r)
entry_is h s n t a r p e d q =
    let tick : ℕ → Part → ℕ → Entry = λ u v m. record { tick = u; session = Some m; part = v; act = a; reply = r } in
    ap (λ u. tick u p n) e ∙ (ap (λ v. tick (length h + 1) v n) q ∙ ap (λ m. tick (length h + 1) (part_of a m) m) d)

pub answers_of : Lawful → (script : Script) (from : Origin) (y : Session) (a : Act) (r : Reply) (h : Journal) (now : ℕ) (e : Entry) (x z : EnginesState) → IsRun script from h x → IsTurn script h y a →
    now ≡ length h + 1 → IsTold script from.tables h (number_of y) now a r x z → x.store.faults ≤ z.store.faults → z.store.entities ≡ x.store.entities → length h < 2 ^ 62 → e ≡ entry_of h (number_of y) a r → Answers script from (number_of y) a h e x z
answers_of w script from y a r h now e x z run t m told later i l g = record {
  answer = r;
  entry = g;
  run = subst (λ (v : Entry). IsRun script from (v ∷ h) z) (sym g)
      (goes_on w script from h (number_of y) a r x z run t.live t.next t.due.inside (subst (λ n. IsAnswered script from.tables h (Some (number_of y)) n a r z) m told.answered) later i told.fault l);
  taken = subst (λ (v : Entry). IsTaken script (number_of y) (own (number_of y) h) v) (sym g) (record { due = t.next; own = told.mine });
  asked = told.asked;
  fault = told.fault;
}

-- engines that are as before, but for the keeper's counts, stand for the journal still
pub run_still : (script : Script) (from : Origin) (h : Journal) (x y : EnginesState) → IsRun script from h x → IsStill x y → y.store.entities ≡ x.store.entities → IsRun script from h y
run_still script from h x y run u i = record {
  legal = run.legal;
  law = run.law;
  numbered = run.numbered;
  engines = still_standing script from.tables h x y u run.engines;
  entities = i ∙ run.entities;
  faults = rose_on from.faults (fault_count h) x.store.faults y.store.faults run.faults u.store.faults;
  built = run.built;
}

-- the sessions of a run with no entry, if the one at s, which is now z, follows what it followed
pub sessions_same : (script : Script) (h : Journal) (s : ℕ) (xs : List Session) (y z : Session) → AreSessions script h xs → slice_get xs s ≡ Some y → number_of z ≡ number_of y →
    is_killed z ≡ is_killed y → ((mine : Journal) → Follows script y mine → Follows script z mine) → AreSessions script h (slice_set xs s z)
sessions_same script h s xs y z w v k d f = record {
  all = length-set xs s z ∙ w.all;
  numbers = λ n u p. number n u p (tested (s == n));
  killed = λ n u p. killed n u p (tested (s == n));
  follow = λ n u p live. follow n u p live (tested (s == n));
}
  where
    l : s < length xs
    l = slice_get_within xs s y v

    number : (n : ℕ) (u : Session) → slice_get (slice_set xs s z) n ≡ Some u → Tested (s == n) → number_of u ≡ n
    number n u p (inl q) = let e : s ≡ n = eqb-true s n q in ap number_of (placed_here s n xs u z l p e) ∙ (k ∙ (w.numbers s y v ∙ e))
    number n u p (inr q) = w.numbers n u (placed_there s n xs u z p q)

    killed : (n : ℕ) (u : Session) → slice_get (slice_set xs s z) n ≡ Some u → Tested (s == n) → is_killed u ≡ was_killed n h
    killed n u p (inl q) = let e : s ≡ n = eqb-true s n q in ap is_killed (placed_here s n xs u z l p e) ∙ (d ∙ (w.killed s y v ∙ ap (λ m. was_killed m h) e))
    killed n u p (inr q) = w.killed n u (placed_there s n xs u z p q)

    follow : (n : ℕ) (u : Session) → slice_get (slice_set xs s z) n ≡ Some u → was_killed n h ≡ false → Tested (s == n) → Follows script u (own n h)
    follow n u p live (inl q) = let e : s ≡ n = eqb-true s n q in
        subst (λ t. Follows script t (own n h)) (sym (placed_here s n xs u z l p e))
        (f (own n h) (subst (λ m. Follows script y (own m h)) e (w.follow s y v (subst (λ m. was_killed m h ≡ false) (sym e) live))))
    follow n u p live (inr q) = w.follow n u (placed_there s n xs u z p q) live

-- a session that was read at a place
pub at_place : (script : Script) (h : Journal) (xs : List Session) (i s : ℕ) (y : Session) → AreSessions script h xs → i ≡ s → s < length script.sessions → y ≡ get_or xs i y →
    slice_get xs s ≡ Some y
at_place script h xs i s y w e l v = slice_get-get_or xs s y (subst (λ n. s < n) (sym w.all) l) ∙ ap Some (sym (subst (λ n. y ≡ get_or xs n y) e v))

-- a session at its place
pub member_of : (script : Script) (h : Journal) (xs : List Session) (s : ℕ) (y : Session) → AreSessions script h xs → slice_get xs s ≡ Some y → IsMember script h y
member_of script h xs s y w p = record {
  killed = w.killed s y p ∙ ap (λ n. was_killed n h) (sym (w.numbers s y p));
  follow = λ live. subst (λ n. Follows script y (own n h)) (sym (w.numbers s y p)) (w.follow s y p (subst (λ n. was_killed n h ≡ false) (w.numbers s y p) live));
}

-- and after it was made ready
pub member_ready : (told script : Script) (h : Journal) (y z : Session) → told ≡ script → IsMember script h y → number_of z ≡ number_of y → is_killed z ≡ is_killed y →
    ((mine : Journal) → Follows told y mine → Follows told z mine) → IsMember script h z
member_ready told script h y z q m e d g = record {
  killed = d ∙ (m.killed ∙ ap (λ n. was_killed n h) (sym e));
  follow = λ live. subst (λ n. Follows script z (own n h)) (sym e)
      (subst (λ (v : Script). (mine : Journal) → Follows v y mine → Follows v z mine) q g (own (number_of y) h) (m.follow (subst (λ n. was_killed n h ≡ false) e live)));
}

-- the act that a session says is due
pub turn_of : (told script : Script) (h : Journal) (y : Session) (o : Option Act) (a : Act) → told ≡ script → IsMember script h y →
    ((mine : Journal) → Follows told y mine → o ≡ next told (number_of y) mine) → ((mine : Journal) → Follows told y mine → IfSome o (IsDue told mine)) →
    (is_killed y ≡ true → o ≡ None) → o ≡ Some a → IsTurn script h y a
turn_of told script h y o a q m f d k e = record {
  live = lives;
  follows = m.follow lives;
  next = subst (λ (v : Script). next v (number_of y) (own (number_of y) h) ≡ Some a) q (sym (f (own (number_of y) h) there) ∙ e);
  due = subst (λ (v : Script). IsDue v (own (number_of y) h) a) q (subst (λ z. IfSome z (IsDue told (own (number_of y) h))) e (d (own (number_of y) h) there));
}
  where
    by_kill : Tested (is_killed y) → is_killed y ≡ false
    by_kill (inl t) = absurd (none_some (sym (k t) ∙ e))
      where
        none_some : ◌≡◌ {A = Option Act} None (Some a) → ⊥
        none_some z = cc
    by_kill (inr t) = t

    lives : was_killed (number_of y) h ≡ false
    lives = sym m.killed ∙ by_kill (tested (is_killed y))

    there : Follows told y (own (number_of y) h)
    there = subst (λ (v : Script). Follows v y (own (number_of y) h)) (sym q) (m.follow lives)

-- and none is
pub over_killed : (script : Script) (h : Journal) (y : Session) → IsMember script h y → is_killed y ≡ true → has_next script h (number_of y) ≡ false
over_killed script h y m k = let t : was_killed (number_of y) h ≡ true = sym m.killed ∙ k in rw t refl

pub over_of : (told script : Script) (h : Journal) (y : Session) (o : Option Act) → told ≡ script → IsMember script h y →
    ((mine : Journal) → Follows told y mine → o ≡ next told (number_of y) mine) → o ≡ None → has_next script h (number_of y) ≡ false
over_of told script h y o q m f e = by_kill (tested (was_killed (number_of y) h))
  where
    by_kill : Tested (was_killed (number_of y) h) → has_next script h (number_of y) ≡ false
    by_kill (inl t) = rw t refl
    by_kill (inr t) =
        let there : Follows told y (own (number_of y) h) = subst (λ (v : Script). Follows v y (own (number_of y) h)) (sym q) (m.follow t) in
        let none : next script (number_of y) (own (number_of y) h) ≡ None =
        subst (λ (v : Script). next v (number_of y) (own (number_of y) h) ≡ None) q (sym (f (own (number_of y) h) there) ∙ e) in
        rw (t, none) refl

-- whether one is, by what a call answers
due_or : (told script : Script) (h : Journal) (y : Session) (b : Bool) → told ≡ script → IsMember script h y → ((mine : Journal) → Follows told y mine → is_killed y ≡ false → b ≡ is_some (next told (number_of y) mine)) →
    (is_killed y ≡ true → ◌≡◌ {A = Result Bool AllocError} (Ok b) (Ok false)) → b ≡ has_next script h (number_of y)
due_or told script h y b q m f k = by_kill (tested (was_killed (number_of y) h))
  where
    same_ok : (c : Bool) → ◌≡◌ {A = Result Bool AllocError} (Ok b) (Ok c) → b ≡ c
    same_ok c e = cc

    by_kill : Tested (was_killed (number_of y) h) → b ≡ has_next script h (number_of y)
    by_kill (inl t) = rw t (same_ok false (k (m.killed ∙ t)))
    by_kill (inr t) =
        let there : Follows told y (own (number_of y) h) = subst (λ (v : Script). Follows v y (own (number_of y) h)) (sym q) (m.follow t) in
        let due : b ≡ is_some (next script (number_of y) (own (number_of y) h)) =
        subst (λ (v : Script). b ≡ is_some (next v (number_of y) (own (number_of y) h))) q (f (own (number_of y) h) there (m.killed ∙ t)) in
        rw t due

pub due_in : (told script : Script) (h : Journal) (y : Session) (s : ℕ) (r : Result Bool AllocError) → told ≡ script → number_of y ≡ s → IsMember script h y →
    IfOk r (λ b. (mine : Journal) → Follows told y mine → is_killed y ≡ false → b ≡ is_some (next told (number_of y) mine)) → (is_killed y ≡ true → r ≡ Ok false) → IfOk r (λ b. b ≡ has_next script h s)
due_in told script h y s (Err e) q n m f k = tt
due_in told script h y s (Ok b) q n m f k = subst (λ i. b ≡ has_next script h i) n (due_or told script h y b q m f k)
