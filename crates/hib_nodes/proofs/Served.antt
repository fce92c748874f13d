-- What a turn of a session comes to, from what its calls have answered.
use Rattle.std.proofs.Common.{◌≡◌, ◌≤◌, ◌<◌, ◌+◌, ◌^◌, ℕ, Bool, true, false, cond, ◌==◌, List, [], ◌∷◌, ◌++◌, length, Some, Option, refl, sym, ap, ◌∙◌, subst, inl, inr}
use Rattle.std.proofs.lemmas.Bool.{eq-eqb}
use Rattle.std.specs.List.{list_all}
use Rattle.hib_base.specs.Tables.{Tables}
use Rattle.hib_base.proofs.Tables.{Tested, tested}
use Rattle.hib_journal.specs.Types.{Key, Script, Part, Act, Reply, Entry}
use Rattle.hib_journal.specs.Sessions.{own}
use Rattle.hib_journal.specs.Legal.{part_of}
use Rattle.hib_journal.specs.Lists.{entry_at}
use Rattle.hib_session.specs.declared.session.Session.{Session}
use Rattle.hib_session.specs.Session.{Follows, IsTaken, number_of}
use Rattle.hib_engines.specs.Origin.{Origin}
use Rattle.hib_nodes_law.specs.Types.{Noded, Nodings}
use Rattle.hib_nodes_law.specs.Nodes.{entries}
use Rattle.hib_nodes_law.specs.Legal.{node_of}
use Rattle.hib_nodes.specs.Kept.{past}
use Rattle.hib_nodes.specs.Standing.{NodesPartsState, IsReady, IsRefused, IsStepRefused, IsTold, entry_on, is_node}
use Rattle.hib_nodes.specs.Queue.{QueuesState, AreQueues, AreWaiting, queue_in, other_node}
use Rattle.hib_nodes.specs.Run.{IsRun, AreSet}
use Rattle.hib_nodes.specs.Shared.{SharedState, IsShared, IsTurn, Serves}
use Rattle.hib_nodes.specs.Turns.{keys_at, is_committed}
use Rattle.hib_nodes.proofs.Going.{before_next, runs_on}
use Rattle.hib_nodes.proofs.Refused.{refused_at}
use Rattle.hib_nodes.proofs.Turned.{committed_keys, queues_more}

-- a place is a node, and so is the node of a session that has none
placed : (ps : Nodings) (s : ℕ) → list_all (λ p. is_node p.1) ps ≡ true → is_node (node_of ps s) ≡ true
placed [] s a = refl
placed (p ∷ ps) s a =
    let w : (is_node p.1 ≡ true) × (list_all (λ p. is_node p.1) ps ≡ true) = Rattle.std.proofs.lemmas.Bool.and_parts (is_node p.1) (list_all (λ p. is_node p.1) ps) a in
    by_test (tested (p.0 == s)) w.0 (placed ps s w.1)
  where
    by_test : Tested (p.0 == s) → is_node p.1 ≡ true → is_node (node_of ps s) ≡ true → is_node (cond (p.0 == s) p.1 (node_of ps s)) ≡ true
    by_test (inl t) i j = rw t i
    by_test (inr t) i j = rw t j

pub at_node : (script : Script) (places : Nodings) (s : ℕ) → AreSet script places → is_node (node_of places s) ≡ true
at_node script places s w = placed places s w.nodes

-- the parts are ready for the act that is due
pub ready_of : (script : Script) (places : Nodings) (from : Origin) (h : Noded) (x : NodesPartsState) (y : Session) (a : Act) → IsRun script places from h x → IsTurn script h y a →
    IsReady script from.tables h (node_of places (number_of y)) (number_of y) (length h + 1) a x
ready_of script places from h x y a run turn = record {
  standing = run.standing;
  node = at_node script places (number_of y) run.set;
  late = before_next script places from h x run;
  due = turn.due;
}

pub taken_of : (script : Script) (h : Noded) (n : ℕ) (x z : NodesPartsState) (told : Option Tables) (y : Session) (a : Act) (r : Reply) → IsTurn script h y a →
    IsTold script told h n (number_of y) (length h + 1) a r x z → IsTaken script (number_of y) (own (number_of y) (entries h)) (entry_at (length h + 1) (Some (number_of y)) a r)
taken_of script h n x z told y a r turn v = record { due = turn.next; own = v.mine }

own_grown : (s : ℕ) (n now : ℕ) (a : Act) (r : Reply) (h : Noded) → own s (entries (entry_on n (entry_at now (Some s) a r) ∷ h)) ≡ entry_at now (Some s) a r ∷ own s (entries h)
own_grown s n now a r h = rw (eq-eqb s s refl) refl

pub serves_of : (script : Script) (places : Nodings) (from : Origin) (a : Act) (r : Reply) (x w : SharedState) (q : QueuesState) (y z : Session) (e : Entry) (ks : List Key) →
    IsShared script places from x → IsTurn script (past x.journal) y a → length (past x.journal) < 2 ^ 62 →
    IsTold script from.tables (past x.journal) (node_of places (number_of y)) (number_of y) (length (past x.journal) + 1) a r x.parts w.parts → x.parts.store.faults ≤ w.parts.store.faults →
    e ≡ entry_at (length (past x.journal) + 1) (Some (number_of y)) a r → past w.journal ≡ entry_on (node_of places (number_of y)) e ∷ past x.journal →
    number_of z ≡ number_of y → Follows script z (e ∷ own (number_of y) (entries (past x.journal))) →
    AreWaiting x.queues q → ks ≡ keys_at script a (own (number_of y) (entries (past x.journal))) →
    (queue_in w.queues (other_node (node_of places (number_of y)))).pairs ≡ (queue_in q (other_node (node_of places (number_of y)))).pairs ++ cond (is_committed e.reply) ks [] →
    (queue_in w.queues (other_node (node_of places (number_of y)))).taken ≡ (queue_in q (other_node (node_of places (number_of y)))).taken →
    queue_in w.queues (other_node (other_node (node_of places (number_of y)))) ≡ queue_in q (other_node (other_node (node_of places (number_of y)))) →
    Serves script places from a x w y z
serves_of script places from a r x w q y z e ks shared turn few told faults is grown number follows waits keys pairs taken other = record {
  answer = r;
  grown = grown ∙ ap (λ (t : Entry). entry_on n t ∷ h) is;
  shared = record {
    run = subst (λ g. IsRun script places from g w.parts) (sym (grown ∙ ap (λ (t : Entry). entry_on n t ∷ h) is))
        (runs_on script places from h s a r x.parts w.parts shared.run few turn.next (at_node script places s shared.run.set) told faults);
    queues = subst (λ g. AreQueues script g w.queues) (sym (grown ∙ ap (λ (t : Entry). entry_on n t ∷ h) is))
        (queues_more script h (entry_on n (entry_at (length h + 1) (Some s) a r)) s (cond (is_committed r) ks []) x.queues q w.queues shared.queues refl (at_node script places s shared.run.set) waits
        (committed_keys script h n s (length h + 1) a r ∙ ap (λ js. cond (is_committed r) js []) (sym keys))
        (pairs ∙ ap (λ (t : Entry). (queue_in q (other_node n)).pairs ++ cond (is_committed t.reply) ks []) is) taken other);
  };
  number = number;
  follows = subst (λ g. Follows script z (own s (entries g))) (sym (grown ∙ ap (λ (t : Entry). entry_on n t ∷ h) is))
      (subst (λ m. Follows script z m) (sym (own_grown s n (length h + 1) a r h)) (subst (λ (t : Entry). Follows script z (t ∷ own s (entries h))) is follows));
  asked = told.asked;
  fault = told.fault;
}
  where
    h : Noded
    h = past x.journal

    s : ℕ
    s = number_of y

    n : ℕ
    n = node_of places (number_of y)

-- by the script, the node and the tick that were handed in
ready_by : (given script : Script) (places : Nodings) (from : Origin) (n tick : ℕ) (x : SharedState) (y : Session) (a : Act) → given ≡ script → n ≡ node_of places (number_of y) →
    tick ≡ length (past x.journal) + 1 → IsShared script places from x → IsTurn script (past x.journal) y a → IsReady given from.tables (past x.journal) n (number_of y) tick a x.parts
ready_by given script places from n tick x y a q m t s turn =
    subst (λ i. IsReady given from.tables h i k tick a x.parts) (sym m)
    (subst (λ i. IsReady given from.tables h its k i a x.parts) (sym t)
    (subst (λ (v : Script). IsReady v from.tables h its k (length h + 1) a x.parts) (sym q) (ready_of script places from h x.parts y a s.run turn)))
  where
    h : Noded
    h = past x.journal

    k : ℕ
    k = number_of y

    its : ℕ
    its = node_of places (number_of y)

-- what the parts were asked for
pub asked_of : (given script : Script) (places : Nodings) (from : Origin) (n tick : ℕ) (x : SharedState) (y : Session) (a : Act) (r : Reply) (w : NodesPartsState) → given ≡ script →
    n ≡ node_of places (number_of y) → tick ≡ length (past x.journal) + 1 → IsShared script places from x → IsTurn script (past x.journal) y a →
    ((o : Option Tables) (h : Noded) → Follows given y (own (number_of y) (entries h)) → IsReady given o h n (number_of y) tick a x.parts → IsTold given o h n (number_of y) tick a r x.parts w) →
    IsTold script from.tables (past x.journal) (node_of places (number_of y)) (number_of y) (length (past x.journal) + 1) a r x.parts w
asked_of given script places from n tick x y a r w q m t s turn f =
    subst (λ i. IsTold script from.tables h its k i a r x.parts w) t
    (subst (λ i. IsTold script from.tables h i k tick a r x.parts w) m
    (subst (λ (v : Script). IsTold v from.tables h n k tick a r x.parts w) q
    (f from.tables h (subst (λ (v : Script). Follows v y (own k (entries h))) (sym q) turn.follows) (ready_by given script places from n tick x y a q m t s turn))))
  where
    h : Noded
    h = past x.journal

    k : ℕ
    k = number_of y

    its : ℕ
    its = node_of places (number_of y)

-- and what they leave if they refuse it
pub refused_of : (given script : Script) (places : Nodings) (from : Origin) (n tick : ℕ) (x : SharedState) (y : Session) (a : Act) (w : NodesPartsState) → given ≡ script →
    n ≡ node_of places (number_of y) → tick ≡ length (past x.journal) + 1 → IsShared script places from x → IsTurn script (past x.journal) y a →
    ((o : Option Tables) (h : Noded) → IsReady given o h n (number_of y) tick a x.parts → IsRefused h (number_of y) a x.parts w) → IsStepRefused script (past x.journal) (number_of y) x.parts w
refused_of given script places from n tick x y a w q m t s turn f =
    refused_at script (past x.journal) (number_of y) a x.parts w turn.next (f from.tables (past x.journal) (ready_by given script places from n tick x y a q m t s turn))

pub entry_is : (h : Noded) (s n t : ℕ) (a : Act) (r : Reply) (p : Part) → t ≡ length h + 1 → n ≡ s → p ≡ part_of a n →
    ◌≡◌ {A = Entry} (record { tick = t; session = Some n; part = p; act = a; reply = r }) (entry_at (length h + 1) (Some s) a r)
entry_is h s n t a r p d u v =
    let make : ℕ → Part → ℕ → Entry = λ t p n. record { tick = t; session = Some n; part = p; act = a; reply = r } in
    ap (λ i. make i p n) d ∙ (ap (λ i. make (length h + 1) i n) v ∙ ap (λ i. make (length h + 1) (part_of a i) i) u)

pub brings_so : (b : Bool) → (b ≡ false → ⊥) → b ≡ true
brings_so true f = refl
brings_so false f = absurd (f refl)
