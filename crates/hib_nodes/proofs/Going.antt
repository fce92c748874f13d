-- A run of two nodes goes on: by an act of a session, and by a fence.
use Rattle.std.proofs.Common.{◌≡◌, ◌≤◌, ◌<◌, ◌+◌, ◌^◌, ℕ, Bool, true, false, cond, [], ◌∷◌, length, Some, refl, sym, ap, subst, arith, inl, inr}
use Rattle.std.proofs.lemmas.Bool.{false≢true}
use Rattle.hib_base.proofs.Tables.{Tested, tested}
use Rattle.hib_journal.specs.Types.{Script, Act, Reply}
use Rattle.hib_journal.specs.Sessions.{Journal, own, last_tick, is_by}
use Rattle.hib_journal.specs.Next.{next}
use Rattle.hib_journal.specs.Legal.{reply_of}
use Rattle.hib_journal.specs.Lists.{entry_at}
use Rattle.hib_journal.specs.Runs.{is_fault, fault_count}
use Rattle.hib_outside.specs.Causes.{Rose}
use Rattle.hib_session.specs.Session.{own_reply}
use Rattle.hib_split_law.specs.Apart.{is_of_session, IsOwnStep}
use Rattle.hib_engines.specs.Counts.{RoseBy}
use Rattle.hib_engines.specs.Origin.{Origin}
use Rattle.hib_nodes_law.specs.declared.nodes.NodeEntry.{NodeEntry}
use Rattle.hib_nodes_law.specs.Types.{Noded, Nodings}
use Rattle.hib_nodes_law.specs.Nodes.{entries}
use Rattle.hib_nodes_law.specs.Legal.{node_of}
use Rattle.hib_nodes.specs.Standing.{NodesPartsState, AreBefore, IsTold, entry_on, is_node}
use Rattle.hib_nodes.specs.Run.{IsRun}
use Rattle.hib_nodes.proofs.Lists.{turns_before, before_all}
use Rattle.hib_nodes.proofs.Apart.{apart_more}

-- the next entry of a session
abbrev pub next_entry : Noded → ℕ → ℕ → Act → Reply → NodeEntry
next_entry h n s a r = entry_on n (entry_at (length h + 1) (Some s) a r)

own_own : (s : ℕ) (h : Journal) → own s (own s h) ≡ own s h
own_own s [] = refl
own_own s (e ∷ h) = by_test (tested (is_by s e)) (own_own s h)
  where
    by_test : Tested (is_by s e) → own s (own s h) ≡ own s h → own s (own s (e ∷ h)) ≡ own s (e ∷ h)
    by_test (inl p) i = rw p (rw p (ap (λ l. e ∷ l) i))
    by_test (inr p) i = rw p i

last_own : (s : ℕ) (h : Journal) → last_tick (λ _. true) (own s h) ≡ last_tick (is_by s) h
last_own s [] = refl
last_own s (e ∷ h) = by_test (tested (is_by s e)) (last_own s h)
  where
    by_test : Tested (is_by s e) → last_tick (λ _. true) (own s h) ≡ last_tick (is_by s) h → last_tick (λ _. true) (own s (e ∷ h)) ≡ last_tick (is_by s) (e ∷ h)
    by_test (inl p) i = rw p refl
    by_test (inr p) i = rw p i

-- what a session answers itself is the reply that is due over its own entries
own_due : (script : Script) (m : Journal) (s now : ℕ) (a : Act) → is_of_session a ≡ true → own_reply script (own s m) a ≡ Some (reply_of script [] m s now a)
own_due script m s now Act.End o = refl
own_due script m s now (Act.Find k) o = refl
own_due script m s now (Act.Persist k r) o = refl
own_due script m s now (Act.Set k cells) o = refl
own_due script m s now (Act.Remove k) o = refl
own_due script m s now Act.Clear o = refl
own_due script m s now _ o = absurd (false≢true o)

own_step : (script : Script) (h : Noded) (s now : ℕ) (a : Act) (r : Reply) → next script s (own s (entries h)) ≡ Some a → AreBefore now h →
    ((q : Reply) → own_reply script (own s (entries h)) a ≡ Some q → r ≡ q) → IsOwnStep script s (own s (entries h)) (entry_at now (Some s) a r)
own_step script h s now a r n b mine = record {
  tick = subst (λ t. t < now) (sym (last_own s (entries h))) (before_all now h (is_by s) b);
  act = n;
  part = refl;
  reply = λ o. mine (reply_of script [] (own s (entries h)) s now a)
      (subst (λ l. own_reply script l a ≡ Some (reply_of script [] (own s (entries h)) s now a)) (own_own s (entries h)) (own_due script (own s (entries h)) s now a o));
}

rose_next : (from n before now : ℕ) (b : Bool) → RoseBy from n before → before ≤ now → (b ≡ true → Rose before now) → RoseBy from (n + cond b 1 0) now
rose_next from n before now true w l f = let r : Rose before now = f refl in omega (arith, w, l, r)
rose_next from n before now false w l f = omega (arith, w, l)

-- ---- an act of a session

pub before_next : (script : Script) (places : Nodings) (from : Origin) (h : Noded) (x : NodesPartsState) → IsRun script places from h x → AreBefore (length h + 1) h
before_next script places from h x run = turns_before script places h (length h + 1) run.turns (omega arith)

pub runs_on : (script : Script) (places : Nodings) (from : Origin) (h : Noded) (s : ℕ) (a : Act) (r : Reply) (x y : NodesPartsState) → IsRun script places from h x →
    length h < 2 ^ 62 → next script s (own s (entries h)) ≡ Some a → is_node (node_of places s) ≡ true →
    IsTold script from.tables h (node_of places s) s (length h + 1) a r x y → x.store.faults ≤ y.store.faults →
    IsRun script places from (next_entry h (node_of places s) s a r ∷ h) y
runs_on script places from h s a r x y run few n i told f = record {
  turns = (run.turns, record { tick = refl; bounded = omega (arith, few); turn = (refl, run.whole) });
  whole = refl;
  nodes = (run.nodes, i);
  apart = apart_more script from.tables h (next_entry h (node_of places s) s a r) s (before_next script places from h x run) told.answered.reply refl
      (own_step script h s (length h + 1) a r n (before_next script places from h x run) told.mine) run.apart;
  standing = told.answered.standing;
  faults = rose_next from.faults (fault_count (entries h)) x.store.faults y.store.faults (is_fault r) run.faults f told.fault;
  built = run.built;
  set = run.set;
}
