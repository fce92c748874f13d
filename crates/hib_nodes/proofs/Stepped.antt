-- A turn of a session among all sessions.
use Rattle.std.specs.Prelude.{slice_get, slice_set, get_or}
use Rattle.std.proofs.Common.{◌≡◌, ◌≢◌, inl, inr, ℕ, ◌+◌, ◌<◌, ◌==◌, true, false, List, ◌∷◌, length, Result, Ok, Err, OnOk, Some, None, Option, IfSome, refl, sym, ap, ◌∙◌, subst, arith}
use Rattle.std.proofs.lemmas.Bool.{eqb-true}
use Rattle.std.proofs.lemmas.List.{length-set}
use Rattle.std.proofs.lemmas.Option.{slice_get_within, slice_get-get_or}
use Rattle.std.specs.declared.alloc.AllocError.{AllocError}
use Rattle.hib_base.proofs.Tables.{Tested, tested}
use Rattle.hib_journal.specs.Types.{Script, Part, Act}
use Rattle.hib_journal.specs.Sessions.{Journal, own, is_session}
use Rattle.hib_journal.specs.Lists.{entry_at, of_part}
use Rattle.hib_journal.specs.Next.{next}
use Rattle.hib_journal.specs.Runs.{is_fault}
use Rattle.hib_outside.specs.Causes.{Rose}
use Rattle.hib_session.specs.declared.session.Session.{Session}
use Rattle.hib_session.specs.Session.{Follows, number_of}
use Rattle.hib_session.proofs.Together.{placed_here, placed_there}
use Rattle.hib_split_law.specs.Apart.{store_ask_count}
use Rattle.hib_engines.specs.declared.stepped.Stepped.{Stepped}
use Rattle.hib_engines.specs.Counts.{RoseWithin}
use Rattle.hib_engines.specs.Due.{IsDue}
use Rattle.hib_engines.specs.Origin.{Origin}
use Rattle.hib_nodes_law.specs.declared.nodes.NodeEntry.{NodeEntry}
use Rattle.hib_nodes_law.specs.Types.{Noded, Nodings}
use Rattle.hib_nodes_law.specs.Nodes.{entries}
use Rattle.hib_nodes_law.specs.Legal.{node_of}
use Rattle.hib_nodes.specs.Kept.{past}
use Rattle.hib_nodes.specs.Standing.{NodesPartsState, IsAskedFor, IsStepRefused, IsStill, entry_on}
use Rattle.hib_nodes.specs.Shared.{SharedState, AreSessions, HasTurned, IsAskedOn, IsShared, IsTurn, Leaves, Moves, Serves}
use Rattle.hib_nodes.specs.Turns.{IsKept}
use Rattle.hib_nodes.proofs.Refused.{still_of}
use Rattle.hib_nodes.proofs.Still.{shared_still}
use Rattle.hib_nodes.proofs.Turned.{asked_on}

-- ---- a session that was made ready

-- the act that is due in it
pub turn_of : (told script : Script) (h mid : Noded) (y u : Session) (o : Option Act) (a : Act) → told ≡ script → mid ≡ h → IsKept told y u → number_of y < length script.sessions →
    Follows script y (own (number_of y) (entries h)) → ((mine : Journal) → Follows told u mine → o ≡ next told (number_of u) mine) →
    ((mine : Journal) → Follows told u mine → IfSome o (IsDue told mine)) → o ≡ Some a → IsTurn script mid u a
turn_of told script h mid y u o a q e k l f n d p = subst (λ (g : Noded). IsTurn script g u a) (sym e) (subst (λ (v : Script). IsTurn v h u a) q (record {
  known = subst (λ (v : Script). number_of u < length v.sessions) (sym q) (subst (λ i. i < length script.sessions) (sym k.number) l);
  follows = follows;
  next = sym (n (own (number_of u) (entries h)) follows) ∙ p;
  due = subst (λ z. IfSome z (IsDue told (own (number_of u) (entries h)))) p (d (own (number_of u) (entries h)) follows);
}))
  where
    follows : Follows told u (own (number_of u) (entries h))
    follows = subst (λ i. Follows told u (own i (entries h))) (sym k.number)
        (k.follows (own (number_of y) (entries h)) (subst (λ (v : Script). Follows v y (own (number_of y) (entries h))) (sym q) f))

-- or none
pub over_of : (told script : Script) (h : Noded) (y u : Session) (o : Option Act) → told ≡ script → IsKept told y u → Follows script y (own (number_of y) (entries h)) →
    ((mine : Journal) → Follows told u mine → o ≡ next told (number_of u) mine) → o ≡ None → next script (number_of y) (own (number_of y) (entries h)) ≡ None
over_of told script h y u o q k f n p = subst (λ (v : Script). next v (number_of y) (own (number_of y) (entries h)) ≡ None) q
    (subst (λ i. next told i (own (number_of y) (entries h)) ≡ None) k.number
    (sym (n (own (number_of y) (entries h)) (k.follows (own (number_of y) (entries h)) (subst (λ (v : Script). Follows v y (own (number_of y) (entries h))) (sym q) f))) ∙ p))

pub moves_of : (told script : Script) (places : Nodings) (from : Origin) (a : Act) (x v w : SharedState) (y u z : Session) → past v.journal ≡ past x.journal → v.parts ≡ x.parts → IsKept told y u →
    IsTurn script (past v.journal) u a → Serves script places from a v w u z → Moves script places from x w y z
moves_of told script places from a x v w y u z e p k t s = record {
  act = a;
  due = subst (λ i. next script i (own i (entries (past x.journal))) ≡ Some a) k.number
      (subst (λ (g : Noded). next script (number_of u) (own (number_of u) (entries g)) ≡ Some a) e t.next);
  serves = record {
    answer = s.answer;
    grown = subst (λ i. past w.journal ≡ entry_on (node_of places i) (entry_at (length (past x.journal) + 1) (Some i) a s.answer) ∷ past x.journal) k.number
        (subst (λ (g : Noded). past w.journal ≡ entry_on (node_of places (number_of u)) (entry_at (length g + 1) (Some (number_of u)) a s.answer) ∷ g) e s.grown);
    shared = s.shared;
    number = s.number ∙ k.number;
    follows = subst (λ i. Follows script z (own i (entries (past w.journal)))) k.number s.follows;
    asked = subst (λ i. IsAskedFor (past x.journal) i a x.parts w.parts) k.number
        (subst (λ (q : NodesPartsState). IsAskedFor (past x.journal) (number_of u) a q w.parts) p
        (subst (λ (g : Noded). IsAskedFor g (number_of u) a v.parts w.parts) e s.asked));
    fault = λ f. subst (λ (q : NodesPartsState). Rose q.store.faults w.parts.store.faults) p (s.fault f);
  };
}

-- ---- the sessions, of which the one at s is now z

sessions_on : (script : Script) (h new : Noded) (s : ℕ) (xs : List Session) (y z : Session) → AreSessions script h xs → slice_get xs s ≡ Some y → number_of z ≡ number_of y →
    Follows script z (own s (entries new)) → ((n : ℕ) → (s == n) ≡ false → own n (entries new) ≡ own n (entries h)) → AreSessions script new (slice_set xs s z)
sessions_on script h new s xs y z w v k f o = record {
  all = length-set xs s z ∙ w.all;
  numbers = λ n u p. number n u p (tested (s == n));
  follow = λ n u p. follow n u p (tested (s == n));
}
  where
    l : s < length xs
    l = slice_get_within xs s y v

    number : (n : ℕ) (u : Session) → slice_get (slice_set xs s z) n ≡ Some u → Tested (s == n) → number_of u ≡ n
    number n u p (inl q) = let e : s ≡ n = eqb-true s n q in ap number_of (placed_here s n xs u z l p e) ∙ (k ∙ (w.numbers s y v ∙ e))
    number n u p (inr q) = w.numbers n u (placed_there s n xs u z p q)

    follow : (n : ℕ) (u : Session) → slice_get (slice_set xs s z) n ≡ Some u → Tested (s == n) → Follows script u (own n (entries new))
    follow n u p (inl q) = let e : s ≡ n = eqb-true s n q in
        subst (λ t. Follows script t (own n (entries new))) (sym (placed_here s n xs u z l p e)) (subst (λ m. Follows script z (own m (entries new))) e f)
    follow n u p (inr q) = subst (λ t. Follows script u t) (sym (o n q)) (w.follow n u (placed_there s n xs u z p q))

pub session_at : (script : Script) (h : Noded) (xs : List Session) (i s : ℕ) (y : Session) → AreSessions script h xs → i ≡ s → s < length script.sessions → y ≡ get_or xs i y → slice_get xs s ≡ Some y
session_at script h xs i s y w e l v = slice_get-get_or xs s y (subst (λ n. s < n) (sym w.all) l) ∙ ap Some (sym (subst (λ n. y ≡ get_or xs n y) e v))

-- the entries of a session, with one of another
pub own_rests : (s n : ℕ) (e : NodeEntry) (h : Noded) → e.entry.session ≡ Some s → (s == n) ≡ false → own n (entries (e ∷ h)) ≡ own n (entries h)
own_rests s n e h by d = let p : is_session n e.entry.session ≡ false = ap (is_session n) by ∙ d in rw p refl

-- ---- what a turn comes to

same_entry : (e f : NodeEntry) (h new : Noded) → new ≡ e ∷ h → new ≡ f ∷ h → e ≡ f
same_entry e f h new p q = cc

no_entry : (e : NodeEntry) (h new : Noded) → new ≡ h → new ≡ e ∷ h → ⊥
no_entry e h new p q = let l = ap length (sym p ∙ q) in omega (arith, l)

done_not : ◌≡◌ {A = Result Stepped AllocError} (Ok Stepped.Done) (Ok Stepped.Did) → ⊥
done_not p = cc

did_not : ◌≡◌ {A = Result Stepped AllocError} (Ok Stepped.Did) (Ok Stepped.Done) → ⊥
did_not p = cc

err_not : (e : AllocError) (t : Stepped) → ◌≡◌ {A = Result Stepped AllocError} (Err e) (Ok t) → ⊥
err_not e t p = cc

pub record Turned (script : Script) (places : Nodings) (from : Origin) (s : ℕ) (r : Result Stepped AllocError) (x w : SharedState) (ys : List Session) : Type 0 where
  pub turned : HasTurned script places from s r x w
  pub sessions : AreSessions script (past w.journal) ys

pub turned : (script : Script) (places : Nodings) (from : Origin) (s : ℕ) (r : Result Stepped AllocError) (x w : SharedState) (xs : List Session) (y z : Session) → IsShared script places from x →
    AreSessions script (past x.journal) xs → slice_get xs s ≡ Some y → (r ≡ Ok Stepped.Did → Moves script places from x w y z) →
    (r ≡ Ok Stepped.Done → next script (number_of y) (own (number_of y) (entries (past x.journal))) ≡ None) → (r ≡ Ok Stepped.Done → w.parts ≡ x.parts) →
    (r ≢ Ok Stepped.Did → Leaves script x w y z) → Turned script places from s r x w (slice_set xs s z)
turned script places from s r x w xs y z k all p did done rests left = by_result r refl
  where
    here : number_of y ≡ s
    here = all.numbers s y p

    asked : Moves script places from x w y z → IsAskedOn x w
    asked m b v = subst (λ (g : Noded). RoseWithin b (store_ask_count (of_part Part.Store (entries g))) w.parts.store.asked) (sym m.serves.grown)
        (asked_on (past x.journal) (node_of places (number_of y)) (number_of y) (length (past x.journal) + 1) m.act m.serves.answer x.parts w.parts m.serves.asked b v)

    by_move : r ≡ Ok Stepped.Did → Moves script places from x w y z → Turned script places from s r x w (slice_set xs s z)
    by_move e m =
        let one : NodeEntry = entry_on (node_of places (number_of y)) (entry_at (length (past x.journal) + 1) (Some (number_of y)) m.act m.serves.answer) in
        record {
          turned = record {
            shared = m.serves.shared;
            did = λ i. record {
              entry = one;
              grown = m.serves.grown;
              by = ap Some here;
              node = ap (node_of places) here;
              due = subst (λ n. next script n (own n (entries (past x.journal))) ≡ Some m.act) here m.due;
            };
            done = λ i. absurd (did_not (sym e ∙ i));
            same = λ i. absurd (i e);
            still = λ i. absurd (i e);
            counts = λ i. absurd (i e);
            asked = subst (λ o. OnOk o (IsAskedOn x w)) (sym e) (asked m);
            asks_once = λ f q. subst (λ (t : NodeEntry). IsAskedFor (past x.journal) s t.entry.act x.parts w.parts) (same_entry one f (past x.journal) (past w.journal) m.serves.grown q)
                (subst (λ n. IsAskedFor (past x.journal) n m.act x.parts w.parts) here m.serves.asked);
            fault = λ f q i. m.serves.fault (subst (λ (t : NodeEntry). is_fault t.entry.reply ≡ true) (sym (same_entry one f (past x.journal) (past w.journal) m.serves.grown q)) i);
          };
          sessions = sessions_on script (past x.journal) (past w.journal) s xs y z all p m.serves.number (subst (λ n. Follows script z (own n (entries (past w.journal)))) here m.serves.follows)
              (λ n d. ap (λ g. own n (entries g)) m.serves.grown ∙ own_rests (number_of y) n one (past x.journal) refl (ap (λ i. i == n) here ∙ d));
        }

    by_leave : OnOk r (IsAskedOn x w) → (r ≡ Ok Stepped.Did → ⊥) → Leaves script x w y z → Turned script places from s r x w (slice_set xs s z)
    by_leave a f v = record {
      turned = record {
        shared = shared_still script places from x w k v.same still v.queues;
        did = λ i. absurd (f i);
        done = λ i. record { same = v.same; over = ap (λ g. next script s (own s (entries g))) v.same ∙ subst (λ n. next script n (own n (entries (past x.journal))) ≡ None) here (done i) };
        same = λ i. v.same;
        still = λ i. still;
        counts = λ i. subst (λ n. IsStepRefused script (past x.journal) n x.parts w.parts) here v.parts;
        asked = a;
        asks_once = λ e q. absurd (no_entry e (past x.journal) (past w.journal) v.same q);
        fault = λ e q i. absurd (no_entry e (past x.journal) (past w.journal) v.same q);
      };
      sessions = sessions_on script (past x.journal) (past w.journal) s xs y z all p v.number
          (subst (λ (g : Noded). Follows script z (own s (entries g))) (sym v.same) (v.follows (own s (entries (past x.journal))) (all.follow s y p))) (λ n q. ap (λ g. own n (entries g)) v.same);
    }
      where
        still : IsStill x.parts w.parts
        still = still_of script (past x.journal) (number_of y) x.parts w.parts v.parts

    rested : r ≡ Ok Stepped.Done → past w.journal ≡ past x.journal → IsAskedOn x w
    rested e q b v = subst (λ (g : Noded). RoseWithin b (store_ask_count (of_part Part.Store (entries g))) w.parts.store.asked) (sym q)
        (subst (λ (t : NodesPartsState). RoseWithin b (store_ask_count (of_part Part.Store (entries (past x.journal)))) t.store.asked) (sym (rests e)) v)

    by_result : (q : Result Stepped AllocError) → r ≡ q → Turned script places from s r x w (slice_set xs s z)
    by_result (Ok Stepped.Did) e = by_move e (did e)
    by_result (Ok Stepped.Done) e =
        let n : r ≡ Ok Stepped.Did → ⊥ = λ i. done_not (sym e ∙ i) in
        by_leave (subst (λ o. OnOk o (IsAskedOn x w)) (sym e) (rested e (left n).same)) n (left n)
    by_result (Err u) e =
        let n : r ≡ Ok Stepped.Did → ⊥ = λ i. err_not u Stepped.Did (sym e ∙ i) in
        by_leave (subst (λ o. OnOk o (IsAskedOn x w)) (sym e) tt) n (left n)
