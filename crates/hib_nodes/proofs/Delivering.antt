-- A run of two nodes goes on by a fence: its two entries are due, and it takes the first pair that waits.
use Rattle.std.specs.Prelude.{slice_get, option_map}
use Rattle.std.proofs.Common.{◌≡◌, ◌<◌, ◌+◌, ◌^◌, ℕ, zero, suc, Bool, true, false, cond, List, [], ◌∷◌, length, drop, Some, None, Result, Ok, ◌≢◌, refl, sym, ap, ◌∙◌, subst, arith, eq-eqb}
use Rattle.std.specs.declared.alloc.AllocError.{AllocError}
use Rattle.hib_journal.specs.Types.{Key, Script, Part, Act, Reply, Entry}
use Rattle.hib_journal.specs.Sessions.{floor, own}
use Rattle.hib_journal.specs.Lists.{of_part, IsStoreReply}
use Rattle.hib_session.specs.declared.session.Session.{Session}
use Rattle.hib_session.specs.Session.{Follows}
use Rattle.hib_split_law.specs.Apart.{is_own, is_of_session, store_ask_count}
use Rattle.hib_store.specs.Stores.{StoreState}
use Rattle.hib_engines.specs.Counts.{RoseWithin}
use Rattle.hib_engines.specs.Fenced.{fence_lock, fence_unlock}
use Rattle.hib_engines.specs.Origin.{Origin}
use Rattle.hib_nodes_law.specs.Types.{Noded, Nodings}
use Rattle.hib_nodes_law.specs.Nodes.{entries, of_node, queue, pairs, fence_count}
use Rattle.hib_nodes_law.specs.Legal.{second_half, due_of}
use Rattle.hib_nodes_law.specs.Apart.{IsInTurn}
use Rattle.hib_nodes.specs.Fencing.{IsFencedAt}
use Rattle.hib_nodes.specs.Standing.{NodesPartsState, AreStanding, AreBefore, entry_on, is_node, node_in}
use Rattle.hib_nodes_law.specs.Apart.{AreOfParts}
use Rattle.hib_nodes.specs.Kept.{past}
use Rattle.hib_nodes.specs.Queue.{AreQueues, queue_in, with_queue}
use Rattle.hib_nodes.specs.Run.{IsRun, HasDelivered, IsAsked}
use Rattle.hib_nodes.specs.Shared.{SharedState, AreSessions, IsShared}
use Rattle.hib_nodes.proofs.Waiting.{queues_fenced}
use Rattle.hib_nodes.proofs.Lists.{at_node, same_list}
use Rattle.hib_nodes.proofs.Replies.{lock_reply, unlock_reply}
use Rattle.hib_nodes.proofs.Apart.{apart_nobody}
use Rattle.hib_nodes.proofs.Going.{before_next}
use Rattle.hib_nodes.proofs.Queues.{fence_pairs, fence_counts}

module _ (script : Script) (places : Nodings) (from : Origin) (h : Noded) (n : ℕ) (k : Key) (x y : NodesPartsState) (run : IsRun script places from h x)
    (few : length h + 1 < 2 ^ 62) (known : is_node n ≡ true) (first : slice_get (queue script n h) 0 ≡ Some k) where
  now : ℕ
  now = length h + 1

  abbrev low : ℕ
  low = floor (of_node n h) (length h + 1)

  module _ (d e : Entry) (f : IsFencedAt script (of_node n h) k (length h + 1) d e (node_in y n))
      (floors : floor (of_node n h) (length h + 1) ≡ floor (of_part Part.Registry (of_node n h)) (length h + 1)) where
    lock_is : d ≡ fence_lock (length h + 1) k low f.locked
    lock_is = f.lock ∙ ap (λ t. fence_lock (length h + 1) k t f.locked) (sym floors)

    lock_due : due_of script places h n (length h + 1) None (second_half h) ≡ Some (Act.Lock k None low)
    lock_due = ap (due_of script places h n (length h + 1) None) run.whole ∙ ap (option_map (λ j. Act.Lock j None low)) first

    lock_turn : IsInTurn script places h (entry_on n (fence_lock (length h + 1) k low f.locked))
    lock_turn = record { tick = refl; bounded = omega (arith, few); turn = (lock_due, refl) }

    unlock_turn : IsInTurn script places (entry_on n (fence_lock (length h + 1) k low f.locked) ∷ h) (entry_on n (fence_unlock (length h + 1) k f.locked f.unlocked))
    unlock_turn = record {
      tick = omega arith;
      bounded = omega (arith, few);
      turn = (ap (λ b. cond b (Some (Act.Unlock k f.locked.id)) None) (eq-eqb n n refl), refl);
    }

    lock_reply_due : is_own (Part.Region k.entity) ≡ false → is_of_session (Act.Lock k None low) ≡ false →
        IsStoreReply script from.tables (of_part (Part.Region k.entity) (of_node n h)) (fence_lock (length h + 1) k low f.locked)
    lock_reply_due o i = lock_reply script from.tables (of_part (Part.Region k.entity) (of_node n h)) (length h + 1) k low (Reply.Locked f.locked)
        (subst (λ (t : Entry). Rattle.hib_journal.specs.Lists.IsReplyOf script (of_part (Part.Region k.entity) (of_node n h)) None (length h + 1) t.act t.reply) lock_is f.lock_reply)

    own_two : of_part (Part.Region k.entity) (of_node n (entry_on n (fence_lock (length h + 1) k low f.locked) ∷ h))
        ≡ fence_lock (length h + 1) k low f.locked ∷ of_part (Part.Region k.entity) (of_node n h)
    own_two = ap (of_part (Part.Region k.entity)) (at_node n (entry_on n (fence_lock (length h + 1) k low f.locked)) h (eq-eqb n n refl))
        ∙ same_list (Part.Region k.entity) (fence_lock (length h + 1) k low f.locked) (of_node n h) (eq-eqb k.entity k.entity refl)

    unlock_reply_due : is_own (Part.Region k.entity) ≡ false → is_of_session (Act.Unlock k f.locked.id) ≡ false →
        IsStoreReply script from.tables (of_part (Part.Region k.entity) (of_node n (entry_on n (fence_lock (length h + 1) k low f.locked) ∷ h))) (fence_unlock (length h + 1) k f.locked f.unlocked)
    unlock_reply_due o i =
        subst (λ g. IsStoreReply script from.tables g (fence_unlock (length h + 1) k f.locked f.unlocked)) (sym own_two)
        (unlock_reply script from.tables (fence_lock (length h + 1) k low f.locked ∷ of_part (Part.Region k.entity) (of_node n h)) (length h + 1 + 1) k f.locked.id (Reply.Unlocked f.unlocked)
        (subst (λ (t : Entry). Rattle.hib_journal.specs.Lists.IsReplyOf script (t ∷ of_part (Part.Region k.entity) (of_node n h)) None (length h + 1 + 1) (Act.Unlock k f.locked.id) (Reply.Unlocked f.unlocked)) lock_is
        (subst (λ (t : Entry). Rattle.hib_journal.specs.Lists.IsReplyOf script (d ∷ of_part (Part.Region k.entity) (of_node n h)) None (length h + 1 + 1) t.act t.reply) f.unlock f.unlock_reply)))

    before : AreBefore (length h + 1) h
    before = before_next script places from h x run

    before_two : AreBefore (length h + 1 + 1) (entry_on n (fence_lock (length h + 1) k low f.locked) ∷ h)
    before_two = (later h before, omega arith)
      where
        later : (g : Noded) → AreBefore (length h + 1) g → AreBefore (length h + 1 + 1) g
        later [] b = omega arith
        later (c ∷ g) b = (later g b.0, omega (arith, b.1))

    -- with the halves as the definitions have them
    pub delivers_on : AreStanding script from.tables (entry_on n e ∷ entry_on n d ∷ h) y → y.store ≡ x.store → IsRun script places from (entry_on n e ∷ entry_on n d ∷ h) y
    delivers_on stands same =
        subst (λ (t : Entry). IsRun script places from (entry_on n t ∷ entry_on n d ∷ h) y) (sym f.unlock)
        (subst (λ (t : Entry). IsRun script places from (entry_on n (fence_unlock (length h + 1) k f.locked f.unlocked) ∷ entry_on n t ∷ h) y) (sym lock_is) (record {
          turns = ((run.turns, lock_turn), unlock_turn);
          whole = refl;
          nodes = ((run.nodes, known), known);
          apart = apart_nobody script from.tables (entry_on n (fence_lock (length h + 1) k low f.locked) ∷ h) (entry_on n (fence_unlock (length h + 1) k f.locked f.unlocked)) before_two unlock_reply_due refl
              (apart_nobody script from.tables h (entry_on n (fence_lock (length h + 1) k low f.locked)) before lock_reply_due refl run.apart);
          standing = subst (λ (t : Entry). AreStanding script from.tables (entry_on n (fence_unlock (length h + 1) k f.locked f.unlocked) ∷ entry_on n t ∷ h) y) lock_is
              (subst (λ (t : Entry). AreStanding script from.tables (entry_on n t ∷ entry_on n d ∷ h) y) f.unlock stands);
          faults = omega (arith, run.faults, ap (λ z. z.faults) same);
          built = run.built;
          set = run.set;
        }))

-- ---- the queue

first_drop : (c : ℕ) (ks : List Key) (k : Key) → slice_get (drop c ks) 0 ≡ Some k → drop c ks ≡ k ∷ drop (suc c) ks
first_drop zero [] k e = absurd (cc)
first_drop zero (j ∷ ks) k e = let d : j ≡ k = cc in ap (λ i. i ∷ ks) d
first_drop (suc c) [] k e = absurd (cc)
first_drop (suc c) (j ∷ ks) k e = first_drop c ks k e

pub takes_first : (script : Script) (n now f : ℕ) (k : Key) (p : Rattle.hib_journal.specs.Types.Locked) (u : Rattle.hib_journal.specs.Types.Unlocked) (h : Noded) → slice_get (queue script n h) 0 ≡ Some k →
    queue script n h ≡ k ∷ queue script n (entry_on n (fence_unlock now k p u) ∷ entry_on n (fence_lock now k f p) ∷ h)
takes_first script n now f k p u h e =
    first_drop (fence_count n h) (pairs script n h) k e
    ∙ ap (λ c. k ∷ drop c (pairs script n h)) (sym counts)
    ∙ ap (λ ks. k ∷ drop (fence_count n (entry_on n (fence_unlock now k p u) ∷ entry_on n (fence_lock now k f p) ∷ h)) ks) (sym (fence_pairs script n n now f k p u h))
  where
    counts : fence_count n (entry_on n (fence_unlock now k p u) ∷ entry_on n (fence_lock now k f p) ∷ h) ≡ suc (fence_count n h)
    counts = fence_counts n n now f k p u h ∙ (ap (λ b. cond b 1 0 + fence_count n h) (eq-eqb n n refl) ∙ omega arith)

-- ---- the whole

pub record IsFence (script : Script) (places : Nodings) (from : Origin) (n : ℕ) (x w : SharedState) : Type 0 where
  pub shared : IsShared script places from w
  pub delivered : HasDelivered script n (past x.journal) (past w.journal)

pub fence_of : (script : Script) (places : Nodings) (from : Origin) (n : ℕ) (k : Key) (d e : Entry) (x w : SharedState) → IsShared script places from x → is_node n ≡ true →
    length (past x.journal) + 1 < 2 ^ 62 → slice_get (queue script n (past x.journal)) 0 ≡ Some k → AreOfParts (past x.journal) →
    IsFencedAt script (of_node n (past x.journal)) k (length (past x.journal) + 1) d e (node_in w.parts n) →
    AreStanding script from.tables (entry_on n e ∷ entry_on n d ∷ past x.journal) w.parts → w.parts.store ≡ x.parts.store → past w.journal ≡ entry_on n e ∷ entry_on n d ∷ past x.journal →
    w.queues ≡ with_queue n (record (queue_in x.queues n) { taken = (queue_in x.queues n).taken + 1 }) x.queues → IsFence script places from n x w
fence_of script places from n k d e x w s i few first told f stands same grown queues = record {
  shared = record {
    run = subst (λ (g : Noded). IsRun script places from g w.parts) (sym grown) (delivers_on script places from h n k x.parts w.parts s.run few i first d e f (told.floors n (length h + 1)) stands same);
    queues = subst (λ (g : Noded). AreQueues script g w.queues) (sym two) (queues_fenced script n (length h + 1) low_in k f.locked f.unlocked h x.queues w.queues s.queues i queues);
  };
  delivered = record {
    key = k;
    floor = low_in;
    locked = f.locked;
    unlocked = f.unlocked;
    grown = two;
    first = takes_first script n (length h + 1) low_in k f.locked f.unlocked h first ∙ ap (λ g. k ∷ queue script n g) (sym two);
  };
}
  where
    h : Noded
    h = past x.journal

    low_in : ℕ
    low_in = floor (of_node n (past x.journal)) (length (past x.journal) + 1)

    lock_so : d ≡ fence_lock (length (past x.journal) + 1) k (floor (of_node n (past x.journal)) (length (past x.journal) + 1)) f.locked
    lock_so = f.lock ∙ ap (λ t. fence_lock (length (past x.journal) + 1) k t f.locked) (sym (told.floors n (length (past x.journal) + 1)))

    two : past w.journal ≡ entry_on n (fence_unlock (length (past x.journal) + 1) k f.locked f.unlocked)
        ∷ entry_on n (fence_lock (length (past x.journal) + 1) k (floor (of_node n (past x.journal)) (length (past x.journal) + 1)) f.locked) ∷ past x.journal
    two = grown ∙ (ap (λ (t : Entry). entry_on n t ∷ entry_on n d ∷ past x.journal) f.unlock
        ∙ ap (λ (t : Entry). entry_on n (fence_unlock (length (past x.journal) + 1) k f.locked f.unlocked) ∷ entry_on n t ∷ past x.journal) lock_so)

-- ---- the sessions, and how often the keeper was asked

sessions_rest : (script : Script) (n : ℕ) (h new : Noded) (xs : List Session) → HasDelivered script n h new → AreSessions script h xs → AreSessions script new xs
sessions_rest script n h new xs v w = record {
  all = w.all;
  numbers = w.numbers;
  follow = λ s y p. subst (λ m. Follows script y m) (sym (ap (λ j. own s (entries j)) v.grown)) (w.follow s y p);
}

asked_rest : (script : Script) (from : Origin) (n : ℕ) (h new : Noded) (x y : NodesPartsState) → HasDelivered script n h new → y.store ≡ x.store → IsAsked from h x → IsAsked from new y
asked_rest script from n h new x y v e a = subst (λ (j : Noded). RoseWithin from.asked (store_ask_count (of_part Part.Store (entries j))) y.store.asked) (sym v.grown)
    (subst (λ (z : StoreState). RoseWithin from.asked (store_ask_count (of_part Part.Store (entries h))) z.asked) (sym e) a)

pub record IsRested (script : Script) (from : Origin) (new : Noded) (y : NodesPartsState) (xs : List Session) (A : Type 0) : Type 0 where
  pub sessions : AreSessions script new xs
  pub asked : A → IsAsked from new y

-- whether or not one was delivered
pub rested : (script : Script) (from : Origin) (n : ℕ) (b : Bool) (h new : Noded) (x y : NodesPartsState) (xs : List Session) (A : Type 0) → (b ≡ true → HasDelivered script n h new) → (b ≡ false → new ≡ h) →
    y.store ≡ x.store → AreSessions script h xs → (A → IsAsked from h x) → IsRested script from new y xs A
rested script from n true h new x y xs A f g e w a = record { sessions = sessions_rest script n h new xs (f refl) w; asked = λ i. asked_rest script from n h new x y (f refl) e (a i) }
rested script from n false h new x y xs A f g e w a = record {
  sessions = subst (λ (j : Noded). AreSessions script j xs) (sym (g refl)) w;
  asked = λ i. subst (λ (j : Noded). IsAsked from j y) (sym (g refl))
      (subst (λ (z : StoreState). RoseWithin from.asked (store_ask_count (of_part Part.Store (entries h))) z.asked) (sym e) (a i));
}

pub ok_false : (r : Result Bool AllocError) → r ≡ Ok false → r ≢ Ok true
ok_false r e f = let d : ◌≡◌ {A = Result Bool AllocError} (Ok false) (Ok true) = sym e ∙ f in cc
