-- What a step and a delivery play, and what they leave due.
use Rattle.std.specs.Prelude.{option_and_then, take, drop}
use Rattle.std.specs.Option.{option_map_or}
use Rattle.std.proofs.Common.{◌≡◌, ℕ, ◌+◌, ◌≤◌, ◌==◌, Bool, true, false, cond, List, [], ◌∷◌, length, is_some, Some, None, Option, Result, Ok, Err, OnOk, refl, sym, ap, ◌∙◌, subst, arith, inl, inr, eq-eqb}
use Rattle.std.proofs.lemmas.Bool.{eqb-true}
use Rattle.std.proofs.lemmas.Option.{slice_get_past}
use Rattle.std.specs.declared.alloc.AllocError.{AllocError}
use Rattle.hib_base.proofs.Tables.{Tested, tested}
use Rattle.hib_journal.specs.Types.{Key, Script, Mode, SessionDef}
use Rattle.hib_journal.specs.Sessions.{Journal, own, is_session}
use Rattle.hib_journal.specs.Next.{next, blocks}
use Rattle.hib_journal.specs.Plan.{Plan, left_of, first_act}
use Rattle.hib_engines.specs.Fenced.{fence_lock, fence_unlock}
use Rattle.hib_engines.specs.Origin.{Origin}
use Rattle.hib_playing.specs.Playing.{GoesOn, Leads, Playing, play_each, played}
use Rattle.hib_playing.proofs.Playing.{all_played, goes_same, goes_then, leads_none, leads_on}
use Rattle.hib_nodes_law.specs.declared.nodes.NodeEntry.{NodeEntry}
use Rattle.hib_nodes_law.specs.declared.nodes.NodeOrder.{NodeOrder}
use Rattle.hib_nodes_law.specs.Types.{Noded, Nodings}
use Rattle.hib_nodes_law.specs.Nodes.{entries, fence_count, pairs, queue}
use Rattle.hib_nodes.specs.Standing.{entry_on, is_node}
use Rattle.hib_nodes.specs.Kept.{past}
use Rattle.hib_nodes.specs.Run.{HasDelivered, HasStepped, HasStopped, IsAskedOnceMore, IsDelivered, IsOver, NodesState}
use Rattle.hib_nodes.specs.Played.{has_next, is_by, is_played, play_deliver, play_fence, play_order, play_queue, play_script}
use Rattle.hib_nodes.proofs.Queues.{fence_counts, fence_pairs, this_or_other}
use Rattle.hib_nodes.proofs.Stepped.{own_rests}

-- nothing is due in a session that isn't there
over_left : (mine : Journal) → left_of Plan.Over mine ≡ Plan.Over
over_left [] = refl
over_left (e ∷ m) = rw (over_left m) refl

unknown : (script : Script) (s : ℕ) (mine : Journal) → length script.sessions ≤ s → next script s mine ≡ None
unfolding next
unknown script s mine l = ap (λ (o : Option SessionDef). first_act (left_of (blocks script Mode.Normal true (option_map_or (λ d. d.statements) o []) []) mine)) (slice_get_past script.sessions s l) ∙ ap first_act (over_left mine)

pub none_unknown : (script : Script) (s : ℕ) (h : Noded) → length script.sessions ≤ s → has_next script h s ≡ false
none_unknown script s h l = ap is_some (unknown script s (own s (entries h)) l)

-- ---- a step

module _ (script : Script) (places : Nodings) where
  pub due_in : (s : ℕ) (h new : Noded) → HasStepped script places s h new → has_next script h s ≡ true
  due_in s h new v = ap is_some v.due

  pub added_by : (s : ℕ) (h new : Noded) (v : HasStepped script places s h new) → is_by s v.entry ≡ true
  added_by s h new v = ap (is_session s) v.by ∙ eq-eqb s s refl

  pub not_due : (s : ℕ) (h new : Noded) → IsOver script s h new → has_next script new s ≡ false
  not_due s h new v = ap is_some v.over

  pub stay_more : (s : ℕ) (old mid new : Noded) → HasStepped script places s mid new → ((n : ℕ) → (s == n) ≡ false → has_next script mid n ≡ has_next script old n) →
      (n : ℕ) → (s == n) ≡ false → has_next script new n ≡ has_next script old n
  stay_more s old mid new v f n q = ap (λ g. is_some (next script n g)) (ap (λ g. own n (entries g)) v.grown ∙ own_rests s n v.entry mid v.by q) ∙ f n q

-- ---- a delivery

module _ (script : Script) (n : ℕ) (h new : Noded) (v : HasDelivered script n h new) where
  abbrev lock : NodeEntry
  lock = entry_on n (fence_lock (length h + 1) v.key v.floor v.locked)

  abbrev unlock : NodeEntry
  unlock = entry_on n (fence_unlock (length h + 1) v.key v.locked v.unlocked)

  pub fence_stays : (s : ℕ) → has_next script new s ≡ has_next script h s
  fence_stays s = ap (λ g. has_next script g s) v.grown

  pub queue_rests : (m : ℕ) → (n == m) ≡ false → queue script m new ≡ queue script m h
  queue_rests m q =
      let counts : fence_count m (unlock ∷ lock ∷ h) ≡ fence_count m h = fence_counts m n (length h + 1) v.floor v.key v.locked v.unlocked h ∙ (ap (λ b. cond b 1 0 + fence_count m h) q ∙ omega arith) in
      ap (queue script m) v.grown
      ∙ (ap (λ c. drop c (pairs script m (unlock ∷ lock ∷ h))) counts
      ∙ ap (λ ks. drop (fence_count m h) ks) (fence_pairs script m n (length h + 1) v.floor v.key v.locked v.unlocked h))

  fence_plays : (rest : Noded) → play_fence n h (lock ∷ unlock ∷ rest) ≡ Some (new, rest)
  fence_plays rest = rw (eq-eqb n n refl) (ap (λ (g : Noded). Some (g, rest)) (sym v.grown))

  pub deliver_leads : Leads (play_deliver script n) played h new
  deliver_leads = record {
    added = lock ∷ unlock ∷ [];
    grown = v.grown;
    plays = λ rest.
        ap (λ ks. play_each (λ (k : Key). play_fence n) (take 1 ks) h (lock ∷ unlock ∷ rest)) v.first
        ∙ ap (λ (o : Option (Playing NodeEntry)). option_and_then (λ p. Some (p.0, p.1)) o) (fence_plays rest);
  }

  queue_leads : Leads (play_queue script n) (play_queue script n) h new
  queue_leads = record {
    added = lock ∷ unlock ∷ [];
    grown = v.grown;
    plays = λ rest.
        ap (λ ks. play_each (λ (k : Key). play_fence n) ks h (lock ∷ unlock ∷ rest)) v.first
        ∙ ap (λ (o : Option (Playing NodeEntry)). option_and_then (λ p. play_each (λ (k : Key). play_fence n) (queue script n new) p.0 p.1) o) (fence_plays rest);
  }

  pub queue_more : (old : Noded) → Leads (play_queue script n) (play_queue script n) old h → Leads (play_queue script n) (play_queue script n) old new
  queue_more old w = leads_on (play_queue script n) (play_queue script n) (play_queue script n) old h new w queue_leads

-- nothing waited
module _ (script : Script) (n : ℕ) (h new : Noded) (v : IsDelivered script n h new) where
  empty : queue script n h ≡ []
  empty = ap (queue script n) (sym v.same) ∙ v.empty

  pub none_delivers : Leads (play_deliver script n) played h new
  none_delivers = subst (λ (g : Noded). Leads (play_deliver script n) played h g) (sym v.same)
      (leads_none (play_deliver script n) played h (λ rest. ap (λ ks. play_each (λ (k : Key). play_fence n) (take 1 ks) h rest) empty))

  pub queue_done : (old : Noded) → Leads (play_queue script n) (play_queue script n) old h → Leads (play_queue script n) played old new
  queue_done old w = subst (λ (g : Noded). Leads (play_queue script n) played old g) (sym v.same)
      (leads_on (play_queue script n) (play_queue script n) played old h h w
      (leads_none (play_queue script n) played h (λ rest. ap (λ ks. play_each (λ (k : Key). play_fence n) ks h rest) empty)))

-- ---- an order

pub order_delivers : (script : Script) (n : ℕ) (h new : Noded) → is_node n ≡ true → Leads (play_deliver script n) played h new → Leads (play_order script (NodeOrder.Deliver n)) played h new
order_delivers script n h new i w = record { added = w.added; grown = w.grown; plays = λ rest. rw i (w.plays rest) }

pub order_rests : (script : Script) (n : ℕ) (h : Noded) → is_node n ≡ false → Leads (play_order script (NodeOrder.Deliver n)) played h h
order_rests script n h i = leads_none (play_order script (NodeOrder.Deliver n)) played h (λ rest. rw i refl)

-- ---- the whole

pub all_of_it : (script : Script) (orders : List NodeOrder) (h : Noded) → Leads (play_script script orders) played [] h → is_played script orders h ≡ true
unfolding is_played
all_of_it script orders h w = all_played (play_script script orders) h w

-- both queues are empty
pub both_empty : (script : Script) (mid new : Noded) → queue script 1 mid ≡ [] → queue script 2 new ≡ [] → ((m : ℕ) → (2 == m) ≡ false → queue script m new ≡ queue script m mid) →
    (n : ℕ) → is_node n ≡ true → queue script n new ≡ []
both_empty script mid new e f o n i = by_node (tested (2 == n))
  where
    by_node : Tested (2 == n) → queue script n new ≡ []
    by_node (inl q) = subst (λ m. queue script m new ≡ []) (eqb-true 2 n q) f
    by_node (inr q) = let s : n ≡ 1 = this_or_other 2 n refl i q in o n q ∙ (ap (λ m. queue script m mid) s ∙ e)

pub both_on : {T E : Type 0} (r : Result T E) (R S Q : Type 0) → OnOk r R → OnOk r S → (R → S → Q) → OnOk r Q
both_on (Ok t) R S Q p q f = f p q
both_on (Err e) R S Q p q f = tt

pub first_node : (n : ℕ) → n ≡ 1 → is_node n ≡ true
first_node n e = subst (λ m. is_node m ≡ true) (sym e) refl

pub second_node : (n : ℕ) → n ≡ 2 → is_node n ≡ true
second_node n e = subst (λ m. is_node m ≡ true) (sym e) refl

-- a delivery, whether or not anything waited
pub delivers_by : (script : Script) (n : ℕ) (b : Bool) (r : Result Bool AllocError) (h new : Noded) → r ≡ Ok b → (r ≡ Ok true → HasDelivered script n h new) → (r ≡ Ok false → IsDelivered script n h new) →
    Leads (play_deliver script n) played h new
delivers_by script n true r h new e f g = deliver_leads script n h new (f e)
delivers_by script n false r h new e f g = none_delivers script n h new (g e)

-- ---- a run that stopped

-- after what was played before
pub stopped_after : (from : Origin) (old mid new : NodesState) → GoesOn (past old.journal) (past mid.journal) → mid.refused ≡ old.refused → HasStopped from mid new → HasStopped from old new
stopped_after from old mid new f p s = record { stands = goes_then (past old.journal) (past mid.journal) (past new.journal) f s.stands; asked = λ e. s.asked (p ∙ e); refused = s.refused }

-- at a step that added nothing
pub stopped_at : (from : Origin) (mid new : NodesState) → past new.journal ≡ past mid.journal → (mid.refused ≡ false → IsAskedOnceMore from (past new.journal) new.parts) → new.refused ≡ true →
    HasStopped from mid new
stopped_at from mid new e a r = record { stands = goes_same (past mid.journal) (past new.journal) e; asked = a; refused = r }
