-- A turn of a session: what it leaves of the journal, the engines and the sessions.
use Rattle.std.proofs.Common.{◌≡◌, ◌≢◌, ℕ, ◌<◌, ◌≤◌, Bool, true, false, List, ◌∷◌, length, Result, Ok, Err, OnOk, OnErr, Some, None, Option, refl, sym, ap, ◌∙◌, subst, arith}
use Rattle.std.proofs.lemmas.List.{get_or-set_same, length-set}
use Rattle.std.proofs.lemmas.Option.{slice_get_within, slice_get-get_or}
use Rattle.std.specs.Prelude.{slice_get, slice_set}
use Rattle.hib_outside.specs.Causes.{Rose}
use Rattle.hib_journal.specs.Types.{Script, Act, Entry}
use Rattle.hib_journal.specs.Sessions.{Journal, own, was_killed}
use Rattle.hib_journal.specs.Next.{next}
use Rattle.hib_journal.specs.Played.{has_next}
use Rattle.hib_journal.specs.Runs.{is_fault}
use Rattle.hib_session.specs.declared.session.Session.{Session}
use Rattle.hib_session.specs.Session.{Follows, IsTaken, number_of, is_killed, left_in}
use Rattle.hib_engines.specs.declared.stepped.Stepped.{Stepped}
use Rattle.hib_engines.specs.Engines.{EnginesState, IsStill, IsAskedFor, IsRefused}
use Rattle.hib_engines.proofs.Still.{still_same}
use Rattle.hib_engines.proofs.Left.{refused_same}
use Rattle.hib_core.specs.Standing.{Origin, entry_of}
use Rattle.hib_session.specs.Sessions.{AreSessions}
use Rattle.hib_core.specs.Factory.{IsRun, IsAsked, IsAskedOnceMore, IsTurn, Answers, Serves, IsRefusedAt, IsStepRefused, Leaves, Moves, Does, IsOver, left_or}
use Rattle.hib_core.specs.Bound.{outside_count}
use Rattle.hib_core.proofs.Short.{inside_same}
use Rattle.hib_session.proofs.Together.{sessions_step}
use Rattle.hib_core.proofs.Going.{run_still, sessions_same}

pub brings_so : (b : Bool) → (b ≡ false → ⊥) → b ≡ true
brings_so true f = refl
brings_so false f = absurd (f refl)

-- the entry was added, and taken

pub serves_of : (told script : Script) (from : Origin) (a : Act) (e : Entry) (h new : Journal) (x w : EnginesState) (y z : Session) → told ≡ script → IsTurn script h y a →
    Answers script from (number_of y) a h e x w → new ≡ e ∷ h →
    ((mine : Journal) → Follows told y mine → IsTaken told (number_of y) mine e → Follows told z (e ∷ mine)) →
    ((mine : Journal) → Follows told y mine → IsTaken told (number_of y) mine e → left_in told z < left_in told y) → Serves script from a h new x w y z
serves_of told script from a e h new x w y z q t v g f d = record {
  answer = v.answer;
  grown = g ∙ ap (λ (u : Entry). u ∷ h) v.entry;
  run = subst (λ (j : Journal). IsRun script from j w) (sym g) v.run;
  follows = subst (λ (u : Entry). Follows script z (u ∷ own (number_of y) h)) v.entry (follows (own (number_of y) h) t.follows v.taken);
  less = less (own (number_of y) h) t.follows v.taken;
  asked = v.asked;
  fault = v.fault;
}
  where
    follows : (mine : Journal) → Follows script y mine → IsTaken script (number_of y) mine e → Follows script z (e ∷ mine)
    follows = subst (λ (v : Script). (mine : Journal) → Follows v y mine → IsTaken v (number_of y) mine e → Follows v z (e ∷ mine)) q f

    less : (mine : Journal) → Follows script y mine → IsTaken script (number_of y) mine e → left_in script z < left_in script y
    less = subst (λ (v : Script). (mine : Journal) → Follows v y mine → IsTaken v (number_of y) mine e → left_in v z < left_in v y) q d

-- or nothing was

-- nothing has changed, whatever was due
refused_any : (h : Journal) (s : ℕ) (x : EnginesState) (o : Option Act) → IsRefusedAt h s x x o
refused_any h s x None = refl
refused_any h s x (Some a) = refused_same h s a x x refl

pub refused_none : (script : Script) (h : Journal) (s : ℕ) (x : EnginesState) → IsStepRefused script h s x x
refused_none script h s x = refused_any h s x (next script s (own s h))

-- by the act that was due
pub refused_at : (script : Script) (h : Journal) (y : Session) (a : Act) (x w : EnginesState) → IsTurn script h y a → IsRefused h (number_of y) a x w → IsStepRefused script h (number_of y) x w
refused_at script h y a x w t r = subst (λ o. IsRefusedAt h (number_of y) x w o) (sym t.next) r

still_at : (h : Journal) (s : ℕ) (x w : EnginesState) (o : Option Act) → IsRefusedAt h s x w o → IsStill x w
still_at h s x w None e = still_same x w e
still_at h s x w (Some a) r = r.still

entities_at : (h : Journal) (s : ℕ) (x w : EnginesState) (o : Option Act) → IsRefusedAt h s x w o → w.store.entities ≡ x.store.entities
entities_at h s x w None e = ap (λ (v : EnginesState). v.store.entities) e
entities_at h s x w (Some a) r = r.entities

still_of : (script : Script) (h : Journal) (s : ℕ) (x w : EnginesState) → IsStepRefused script h s x w → IsStill x w
still_of script h s x w r = still_at h s x w (next script s (own s h)) r

run_refused : (script : Script) (from : Origin) (h : Journal) (s : ℕ) (x w : EnginesState) → IsRun script from h x → IsStepRefused script h s x w → IsRun script from h w
run_refused script from h s x w run r = run_still script from h x w run (still_of script h s x w r) (entities_at h s x w (next script s (own s h)) r)

pub leaves_of : (told script : Script) (h new : Journal) (x w : EnginesState) (y z : Session) → told ≡ script → new ≡ h → IsStepRefused script h (number_of y) x w →
    ((mine : Journal) → Follows told y mine → Follows told z mine) → Leaves script h new x w y z
leaves_of told script h new x w y z q e u f = record {
  same = e;
  engines = u;
  follows = subst (λ (v : Script). (mine : Journal) → Follows v y mine → Follows v z mine) q f;
}

pub leaves_on : (told script : Script) (h new : Journal) (x w : EnginesState) (y u z : Session) → told ≡ script → number_of u ≡ number_of y → ((mine : Journal) → Follows told y mine → Follows told u mine) →
    Leaves script h new x w u z → Leaves script h new x w y z
leaves_on told script h new x w y u z q e f v = record {
  same = v.same;
  engines = subst (λ n. IsStepRefused script h n x w) e v.engines;
  follows = λ mine g. v.follows mine (subst (λ (v : Script). (mine : Journal) → Follows v y mine → Follows v u mine) q f mine g);
}

-- a session that was made ready first
pub moves_of : (told script : Script) (from : Origin) (a : Act) (h new : Journal) (x w : EnginesState) (y u z : Session) → told ≡ script → number_of u ≡ number_of y →
    left_in told u ≤ left_in told y → IsTurn script h u a → Serves script from a h new x w u z → Moves script from h new x w y z
moves_of told script from a h new x w y u z q e l t v = record {
  act = a;
  live = subst (λ n. was_killed n h ≡ false) e t.live;
  next = subst (λ n. next script n (own n h) ≡ Some a) e t.next;
  inside = t.due.inside;
  served = record {
    answer = v.answer;
    grown = v.grown ∙ ap (λ n. entry_of h n a v.answer ∷ h) e;
    run = v.run;
    follows = subst (λ n. Follows script z (entry_of h n a v.answer ∷ own n h)) e v.follows;
    less = let m : left_in script u ≤ left_in script y = subst (λ (v : Script). left_in v u ≤ left_in v y) q l in omega (arith, m, v.less);
    asked = subst (λ n. IsAskedFor h n a x w) e v.asked;
    fault = v.fault;
  };
}

-- among all sessions

pub record Turned {E : Type 0} (script : Script) (from : Origin) (s : ℕ) (r : Result Stepped E) (h new : Journal) (x w : EnginesState) (xs ys : List Session) : Type 0 where
  pub run : IsRun script from new w
  pub sessions : AreSessions script new ys
  pub did : r ≡ Ok Stepped.Did → Does script s h new xs ys
  pub done : r ≡ Ok Stepped.Done → IsOver script s h new
  pub same : OnErr r (new ≡ h)
  pub err : OnErr r (IsStill x w)
  pub counts : OnErr r (IsStepRefused script h s x w)
  pub asked : OnOk r (IsAsked from h x → IsAsked from new w)
  pub asks_once : (e : Entry) → new ≡ e ∷ h → IsAskedFor h s e.act x w
  pub fault : (e : Entry) → new ≡ e ∷ h → is_fault e.reply ≡ true → Rose x.store.faults w.store.faults
  pub inside : outside_count new ≡ outside_count h

set_there : (ys : List Session) (n : ℕ) (u : Session) → n < length ys → slice_get (slice_set ys n u) n ≡ Some u
set_there ys n u b = slice_get-get_or (slice_set ys n u) n u (omega (arith, length-set ys n u, b)) ∙ ap Some (get_or-set_same ys n u u b)

no_entry : (h new : Journal) (e : Entry) → new ≡ h → new ≡ e ∷ h → ⊥
no_entry h new e p q = let l : length h ≡ length (e ∷ h) = ap length (sym p ∙ q) in omega (arith, l)

-- one that was is the only one
one_entry : (h new : Journal) (d e : Entry) → new ≡ d ∷ h → new ≡ e ∷ h → d ≡ e
one_entry h new d e p q = let same : d ∷ h ≡ e ∷ h = sym p ∙ q in cc

not_done : {E : Type 0} → ◌≡◌ {A = Result Stepped E} (Ok Stepped.Did) (Ok Stepped.Done) → ⊥
not_done p = cc

not_did : {E : Type 0} → ◌≡◌ {A = Result Stepped E} (Ok Stepped.Done) (Ok Stepped.Did) → ⊥
not_did p = cc

not_ok : {E : Type 0} (e : E) (t : Stepped) → ◌≡◌ {A = Result Stepped E} (Err e) (Ok t) → ⊥
not_ok e t p = cc

pub turned : {E : Type 0} (script : Script) (from : Origin) (s : ℕ) (r : Result Stepped E) (h new : Journal) (x w : EnginesState) (xs : List Session) (y z : Session) →
    IsRun script from h x → AreSessions script h xs → slice_get xs s ≡ Some y → number_of z ≡ number_of y → is_killed z ≡ is_killed y →
    (r ≡ Ok Stepped.Did → Moves script from h new x w y z) → (r ≡ Ok Stepped.Done → has_next script h (number_of y) ≡ false) → (r ≡ Ok Stepped.Done → w ≡ x) →
    (r ≢ Ok Stepped.Did → Leaves script h new x w y z) → Turned script from s r h new x w xs (slice_set xs s z)
turned {E = X} script from s (Ok Stepped.Did) h new x w xs y z run all p k d did done quiet still = by_move (did refl)
  where
    here : number_of y ≡ s
    here = all.numbers s y p

    within : s < length xs
    within = slice_get_within xs s y p

    by_move : Moves script from h new x w y z → Turned {E = X} script from s (Ok Stepped.Did) h new x w xs (slice_set xs s z)
    by_move m = record {
      run = m.served.run;
      sessions = subst (λ j. AreSessions script j (slice_set xs s z)) (sym (m.served.grown ∙ ap (λ n. entry_of h n m.act m.served.answer ∷ h) here))
          (sessions_step script h s (entry_of h s m.act m.served.answer) xs z refl all within (k ∙ here) (d ∙ all.killed s y p)
          m.inside (subst (λ n. Follows script z (entry_of h n m.act m.served.answer ∷ own n h)) here m.served.follows));
      did = λ e. record {
        entry = entry_of h (number_of y) m.act m.served.answer;
        by = ap Some here;
        grown = m.served.grown;
        due = let live : was_killed s h ≡ false = subst (λ n. was_killed n h ≡ false) here m.live in
            let n : next script s (own s h) ≡ Some m.act = subst (λ i. next script i (own i h) ≡ Some m.act) here m.next in rw (live, n) refl;
        inside = m.inside;
        less = subst (λ o. left_or script (slice_get (slice_set xs s z) s) < left_or script o) (sym p)
            (subst (λ o. left_or script o < left_in script y) (sym (set_there xs s z within)) m.served.less);
      };
      done = λ e. absurd (not_done e);
      same = tt;
      err = tt;
      counts = tt;
      asked = λ g. subst (λ (j : Journal). IsAsked from j w) (sym m.served.grown) (record {
        later = omega (arith, g.later, m.served.asked.later);
        few = omega (arith, g.few, m.served.asked.few);
      });
      asks_once = λ e q. subst (λ (v : Entry). IsAskedFor h s v.act x w) (one_entry h new (entry_of h (number_of y) m.act m.served.answer) e m.served.grown q)
          (subst (λ n. IsAskedFor h n m.act x w) here m.served.asked);
      fault = λ e q f. m.served.fault (subst (λ (v : Entry). is_fault v.reply ≡ true) (sym (one_entry h new (entry_of h (number_of y) m.act m.served.answer) e m.served.grown q)) f);
      inside = inside_same (entry_of h (number_of y) m.act m.served.answer) (number_of y) h new refl m.served.grown;
    }
turned {E = X} script from s (Ok Stepped.Done) h new x w xs y z run all p k d did done quiet still = by_leave (still not_did)
  where
    by_leave : Leaves script h new x w y z → Turned {E = X} script from s (Ok Stepped.Done) h new x w xs (slice_set xs s z)
    by_leave v = record {
      run = subst (λ (j : Journal). IsRun script from j w) (sym v.same) (run_refused script from h (number_of y) x w run v.engines);
      sessions = subst (λ (j : Journal). AreSessions script j (slice_set xs s z)) (sym v.same) (sessions_same script h s xs y z all p k d v.follows);
      did = λ e. absurd (not_did e);
      done = λ e. record {
        same = v.same;
        over = subst (λ (j : Journal). has_next script j s ≡ false) (sym v.same) (subst (λ n. has_next script h n ≡ false) (all.numbers s y p) (done refl));
      };
      same = tt;
      err = tt;
      counts = tt;
      asked = λ g. subst (λ (j : Journal). IsAsked from j w) (sym v.same) (subst (λ (u : EnginesState). IsAsked from h u) (sym (quiet refl)) g);
      asks_once = λ e q. absurd (no_entry h new e v.same q);
      fault = λ e q f. absurd (no_entry h new e v.same q);
      inside = ap outside_count v.same;
    }
turned {E = X} script from s (Err a) h new x w xs y z run all p k d did done quiet still = by_leave (still (not_ok a Stepped.Did))
  where
    by_leave : Leaves script h new x w y z → Turned {E = X} script from s (Err a) h new x w xs (slice_set xs s z)
    by_leave v = record {
      run = subst (λ (j : Journal). IsRun script from j w) (sym v.same) (run_refused script from h (number_of y) x w run v.engines);
      sessions = subst (λ (j : Journal). AreSessions script j (slice_set xs s z)) (sym v.same) (sessions_same script h s xs y z all p k d v.follows);
      did = λ e. absurd (not_ok a Stepped.Did e);
      done = λ e. absurd (not_ok a Stepped.Done e);
      same = v.same;
      err = still_of script h (number_of y) x w v.engines;
      counts = subst (λ n. IsStepRefused script h n x w) (all.numbers s y p) v.engines;
      asked = tt;
      asks_once = λ e q. absurd (no_entry h new e v.same q);
      fault = λ e q f. absurd (no_entry h new e v.same q);
      inside = ap outside_count v.same;
    }

-- the keeper was not asked more
pub once_more : (from : Origin) (h new : Journal) (x y : EnginesState) → IsAsked from h x → new ≡ h → y ≡ x → IsAskedOnceMore from new y
once_more from h new x y g e d = subst (λ (j : Journal). IsAskedOnceMore from j y) (sym e) (subst (λ (v : EnginesState). IsAskedOnceMore from h v) (sym d)
    (record { later = g.later; few = omega (arith, g.few) }))
