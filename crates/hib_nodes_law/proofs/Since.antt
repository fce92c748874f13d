-- An item has an entry that gave its row.
use Rattle.std.specs.Prelude.{option_and_then, is_some}
use Rattle.std.specs.Option.{option_map_or}
use Rattle.std.specs.List.{list_any}
use Rattle.std.proofs.Common.{◌≡◌, ℕ, zero, suc, inl, inr, Bool, true, false, cond, ◌&&◌, ◌||◌, ◌==◌, [], ◌∷◌, Some, None, Option, refl, ap, sym, ◌∙◌, subst}
use Rattle.std.proofs.lemmas.Bool.{true≢false, false≢true, and_parts, or_cases}
use Rattle.hib_journal.specs.Types.{Key, Row, Commit, Script, Act, Reply, Unlocked, Evicted}
use Rattle.hib_base.specs.Keys.{same_key}
use Rattle.hib_base.specs.Tables.{Tables}
use Rattle.hib_journal.specs.Sessions.{is_by, own, floor, is_restart, committer}
use Rattle.hib_journal.specs.Slot.{Touch, History, Base, Slot, slot, slot_from, slot_of, base, stretch, locks, history, touch, touch_here, touch_at, key_in, evicted_in}
use Rattle.hib_journal.specs.Next.{next}
use Rattle.hib_journal.specs.Legal.{is_outside}
use Rattle.hib_journal.specs.Coherence.{done_in, done_after}
use Rattle.hib_base.proofs.Tables.{Tested, tested, same_key_eq, same_key_refl}
use Rattle.hib_journal.proofs.Sessions.{is_some_session}
use Rattle.hib_law.proofs.StoreRules.{AllowedStore, MayPut, MayStore, allowed_store_by}
use Rattle.hib_law.proofs.Views.{history_step}
use Rattle.hib_nodes_law.specs.Types.{NodeEntry, Noded, Nodings}
use Rattle.hib_nodes_law.specs.Nodes.{entries, of_node, up_to, is_store, stores, gave, since}
use Rattle.hib_nodes_law.specs.Legal.{AreNodesLegal}
use Rattle.hib_nodes_law.proofs.Rules.{Doer, doer, in_order, not_restart}
use Rattle.hib_nodes_law.proofs.Seen.{loads_by, commits_by}

-- there is an entry in a journal
abbrev pub IsThere : Noded → Type 0
IsThere g = (d : NodeEntry) × (f : Noded) × (g ≡ d ∷ f)

-- an item was stored

abbrev has_stored : History → Bool
has_stored s = list_any (λ x. is_store (Some x.0)) s

base_stored : (s : History) (r : Row) (t : ℕ) → base s ≡ Base.Stored r t → has_stored s ≡ true
base_stored [] r t e = absurd (cc)
base_stored ((Touch.Stores x late, now) ∷ s) r t e = refl
base_stored ((Touch.Evicts, now) ∷ s) r t e = absurd (cc)
base_stored ((Touch.Expires, now) ∷ s) r t e = absurd (cc)
base_stored ((Touch.Leaves, now) ∷ s) r t e = absurd (cc)
base_stored ((Touch.Locks v, now) ∷ s) r t e = base_stored s r t e
base_stored ((Touch.Releases n, now) ∷ s) r t e = base_stored s r t e

item_base : (timeout : ℕ) (b : Base) (n : ℕ) (s : History) (r : Row) (t : ℕ) → slot_of timeout b n s ≡ Slot.Item r t → b ≡ Base.Stored r t
item_base timeout Base.Nothing zero s r t e = absurd (cc)
item_base timeout Base.Nothing (suc n) s r t e = absurd (cc)
item_base timeout (Base.Stored x u) zero s r t e = cc
item_base timeout (Base.Stored x u) (suc n) s r t e = absurd (cc)
item_base timeout (Base.Barred u x) zero s r t e = absurd (cc)
item_base timeout (Base.Barred u x) (suc n) s r t e = absurd (cc)

item_stored : (timeout : ℕ) (s : History) (r : Row) (t : ℕ) → slot_from timeout s ≡ Slot.Item r t → has_stored s ≡ true
unfolding slot_from
item_stored timeout s r t e = base_stored s r t (item_base timeout (base s) (locks (stretch s)) (stretch s) r t e)

-- what a session has done before it may store

there_here : (p : NodeEntry → Bool) (e : NodeEntry) (h : Noded) → p e ≡ true → IsThere (up_to p (e ∷ h))
there_here p e h t = (e, h, rw t refl)

there_on : (p : NodeEntry → Bool) (e : NodeEntry) (h : Noded) → IsThere (up_to p h) → IsThere (up_to p (e ∷ h))
there_on p e h i = by_test (tested (p e))
  where
    by_test : Tested (p e) → IsThere (up_to p (e ∷ h))
    by_test (inl t) = there_here p e h t
    by_test (inr t) = let u : up_to p (e ∷ h) ≡ up_to p h = rw t refl in (i.0, i.1, u ∙ i.2)

load_there : (s : ℕ) (k : Key) (r : Row) (h : Noded) → MayPut (own s (entries h)) k r → IsThere (up_to (loads_by s k) h)
load_there s k r [] m = absurd m
load_there s k r (e ∷ h) m = by_session (tested (is_by s e.entry)) (load_there s k r h)
  where
    by_session : Tested (is_by s e.entry) → (MayPut (own s (entries h)) k r → IsThere (up_to (loads_by s k) h)) → IsThere (up_to (loads_by s k) (e ∷ h))
    by_session (inr b) i = let m2 : MayPut (own s (entries h)) k r = rw b at m in there_on (loads_by s k) e h (i m2)
    by_session (inl b) i =
        let m2 : MayPut (e.entry ∷ own s (entries h)) k r = rw b at m in
        there_here (loads_by s k) e h (rw (b, m2.0, same_key_refl k) refl)

done_by : (a : Act) (r : Reply) (by : Option ℕ) (s : ℕ) (d : Bool) → by ≡ Some s → done_after a r d ≡ true → (is_some (committer a r by) || d) ≡ true
done_by Act.Begin r by s d q p = absurd (false≢true p)
done_by Act.Commit (Reply.Commit Commit.Committed) by s d q p = rw q refl
done_by _ r by s d q p = p

done_there : (s : ℕ) (h : Noded) → done_in (own s (entries h)) ≡ true → IsThere (up_to (commits_by s) h)
done_there s [] p = absurd (false≢true p)
done_there s (e ∷ h) p = by_session (tested (is_by s e.entry)) (done_there s h)
  where
    by_session : Tested (is_by s e.entry) → (done_in (own s (entries h)) ≡ true → IsThere (up_to (commits_by s) h)) → IsThere (up_to (commits_by s) (e ∷ h))
    by_session (inr b) i = let p2 : done_in (own s (entries h)) ≡ true = rw b at p in there_on (commits_by s) e h (i p2)
    by_session (inl b) i =
        let p2 : done_after e.entry.act e.entry.reply (done_in (own s (entries h))) ≡ true = rw b at p in
        elim (or_cases (is_some (committer e.entry.act e.entry.reply e.entry.session)) (done_in (own s (entries h)))
        (done_by e.entry.act e.entry.reply e.entry.session s (done_in (own s (entries h))) (is_some_session s e.entry.session b) p2)) [
          | inl c ↦ there_here (commits_by s) e h (rw (b, c) refl)
          | inr c ↦ there_on (commits_by s) e h (i c)
        ]

there_same : (p q : NodeEntry → Bool) → ((d : NodeEntry) → p d ≡ q d) → (h : Noded) → IsThere (up_to q h) → IsThere (up_to p h)
there_same p q f [] i = i
there_same p q f (e ∷ h) i = by_test (tested (q e)) (there_same p q f h)
  where
    by_test : Tested (q e) → (IsThere (up_to q h) → IsThere (up_to p h)) → IsThere (up_to p (e ∷ h))
    by_test (inl t) g = there_here p e h (f e ∙ t)
    by_test (inr t) g =
        let u : up_to q (e ∷ h) ≡ up_to q h = rw t refl in
        there_on p e h (g (i.0, i.1, sym u ∙ i.2))

-- the acts that store a row of k
data Storing (k : Key) (a : Act) : Type 0 where
  ByPut : (r : Row) (t f : ℕ) → a ≡ Act.Put k r t f → Storing k a
  ByInsert : (r : Row) (f : ℕ) → a ≡ Act.AfterInsert k r f → Storing k a
  ByUpdate : (i : ℕ) (r : Row) → a ≡ Act.AfterUpdate k i r → Storing k a

both_ways : {b : Bool} → b ≡ false → b ≡ true → ⊥
both_ways p q = true≢false (sym q ∙ p)

never : (b x : Bool) (o : Option Touch) → is_store o ≡ false → is_store (cond b o (cond x (Some Touch.Leaves) None)) ≡ false
never true x o p = p
never false true o p = refl
never false false o p = refl

lock_stores : (j : Key) (v : Option ℕ) (f : ℕ) (r : Reply) → is_store (touch_here (Act.Lock j v f) r) ≡ false
lock_stores j v f (Reply.Locked l) = refl
lock_stores j v f _ = refl

unlock_stores : (j : Key) (i : ℕ) (r : Reply) → is_store (touch_here (Act.Unlock j i) r) ≡ false
unlock_stores j i (Reply.Unlocked (Unlocked.Released n)) = refl
unlock_stores j i (Reply.Unlocked Unlocked.Expired) = refl
unlock_stores j i _ = refl

remove_stores : (j : Key) (r : Reply) → is_store (touch_here (Act.RegionRemove j) r) ≡ false
remove_stores j Reply.Dropped = refl
remove_stores j _ = refl

evict_stores : (j : Key) (r : Reply) → is_store (touch_here (Act.Evict j) r) ≡ false
evict_stores j (Reply.Evicted Evicted.Gone) = refl
evict_stores j _ = refl

module _ (k : Key) where
  here_only : (j : Key) (x : Bool) (o : Option Touch) → Tested (same_key j k) → is_store (cond (same_key j k) o (cond x (Some Touch.Leaves) None)) ≡ true → same_key j k ≡ true
  here_only j x o (inl t) e = t
  here_only j true o (inr t) e = let g : false ≡ true = rw t at e in absurd (false≢true g)
  here_only j false o (inr t) e = let g : false ≡ true = rw t at e in absurd (false≢true g)

  storing : (a : Act) (r : Reply) → is_store (option_and_then (λ j. touch_at k j a r) (key_in a)) ≡ true → Storing k a
  storing (Act.Put j x t f) r e =
      let s : same_key j k ≡ true = here_only j ((j.entity == k.entity) && option_map_or (λ i. i == k.id) (evicted_in r) false) (touch_here (Act.Put j x t f) r) (tested (same_key j k)) e in
      Storing.ByPut x t f (ap (λ z. Act.Put z x t f) (same_key_eq j k s))
  storing (Act.AfterInsert j x f) r e =
      let s : same_key j k ≡ true = here_only j ((j.entity == k.entity) && option_map_or (λ i. i == k.id) (evicted_in r) false) (touch_here (Act.AfterInsert j x f) r) (tested (same_key j k)) e in
      Storing.ByInsert x f (ap (λ z. Act.AfterInsert z x f) (same_key_eq j k s))
  storing (Act.AfterUpdate j i x) r e =
      let s : same_key j k ≡ true = here_only j ((j.entity == k.entity) && option_map_or (λ i. i == k.id) (evicted_in r) false) (touch_here (Act.AfterUpdate j i x) r) (tested (same_key j k)) e in
      Storing.ByUpdate i x (ap (λ z. Act.AfterUpdate z i x) (same_key_eq j k s))
  storing (Act.Get j t) r e = absurd (both_ways (never (same_key j k) ((j.entity == k.entity) && option_map_or (λ i. i == k.id) (evicted_in r) false) (touch_here (Act.Get j t) r) refl) e)
  storing (Act.Lock j v f) r e = absurd (both_ways (never (same_key j k) ((j.entity == k.entity) && option_map_or (λ i. i == k.id) (evicted_in r) false) (touch_here (Act.Lock j v f) r) (lock_stores j v f r)) e)
  storing (Act.Unlock j i) r e = absurd (both_ways (never (same_key j k) ((j.entity == k.entity) && option_map_or (λ i. i == k.id) (evicted_in r) false) (touch_here (Act.Unlock j i) r) (unlock_stores j i r)) e)
  storing (Act.RegionRemove j) r e = absurd (both_ways (never (same_key j k) ((j.entity == k.entity) && option_map_or (λ i. i == k.id) (evicted_in r) false) (touch_here (Act.RegionRemove j) r) (remove_stores j r)) e)
  storing (Act.Evict j) r e = absurd (both_ways (never (same_key j k) ((j.entity == k.entity) && option_map_or (λ i. i == k.id) (evicted_in r) false) (touch_here (Act.Evict j) r) (evict_stores j r)) e)
  storing _ r e = absurd (false≢true e)

module _ (script : Script) (told : Option Tables) (places : Nodings) (n : ℕ) (k : Key) where
  -- the entry that gave a stored row is there
  gave_there : (e : NodeEntry) (h : Noded) → AreNodesLegal script told places (e ∷ h) → is_store (touch k e.entry) ≡ true →
      IsThere (up_to (gave k e.entry.act e.entry.session) h)
  gave_there e h l p = by_doer (doer script told places h e l.1) (storing k e.entry.act e.entry.reply p)
    where
      may : (s : ℕ) (a : Act) → e.entry.act ≡ a → next script s (own s (entries h)) ≡ Some e.entry.act → AllowedStore (own s (entries h)) a
      may s a q m = subst (λ x. AllowedStore (own s (entries h)) x) q (allowed_store_by script s (own s (entries h)) e.entry.act (in_order script told places s h l.0) m)

      given : (s : ℕ) (a : Act) (q : NodeEntry → Bool) → e.entry.session ≡ Some s → e.entry.act ≡ a → ((d : NodeEntry) → gave k a (Some s) d ≡ q d) → IsThere (up_to q h) →
          IsThere (up_to (gave k e.entry.act e.entry.session) h)
      given s a q w x f i =
          subst (λ o. IsThere (up_to (gave k e.entry.act o) h)) (sym w)
          (subst (λ b. IsThere (up_to (gave k b (Some s)) h)) (sym x) (there_same (gave k a (Some s)) q f h i))

      not_storing : {P : Type 0} (a : Act) → e.entry.act ≡ a → (Storing k a → ⊥) → Storing k e.entry.act → P
      not_storing a q f s = absurd (f (subst (λ x. Storing k x) q s))

      no_lock : (j : Key) (v : Option ℕ) (f : ℕ) → Storing k (Act.Lock j v f) → ⊥
      no_lock j v f (Storing.ByPut r t g x) = cc
      no_lock j v f (Storing.ByInsert r g x) = cc
      no_lock j v f (Storing.ByUpdate i r x) = cc

      no_unlock : (j : Key) (i : ℕ) → Storing k (Act.Unlock j i) → ⊥
      no_unlock j i (Storing.ByPut r t g x) = cc
      no_unlock j i (Storing.ByInsert r g x) = cc
      no_unlock j i (Storing.ByUpdate y r x) = cc

      by_doer : Doer script places h e → Storing k e.entry.act → IsThere (up_to (gave k e.entry.act e.entry.session) h)
      by_doer (Doer.Session s w b m z a) (Storing.ByPut r t f x) =
          given s (Act.Put k r t f) (loads_by s k) w x (λ d. refl) (load_there s k r h (may s (Act.Put k r t f) x a))
      by_doer (Doer.Session s w b m z a) (Storing.ByInsert r f x) =
          let y : MayStore (own s (entries h)) k r = may s (Act.AfterInsert k r f) x a in
          given s (Act.AfterInsert k r f) (commits_by s) w x (λ d. refl) (done_there s h y.1)
      by_doer (Doer.Session s w b m z a) (Storing.ByUpdate i r x) =
          let y : MayStore (own s (entries h)) k r = may s (Act.AfterUpdate k i r) x a in
          given s (Act.AfterUpdate k i r) (commits_by s) w x (λ d. refl) (done_there s h y.1)
      by_doer (Doer.First j w z a b) s = not_storing (Act.Lock j None (floor (of_node e.node h) e.entry.tick)) b (no_lock j None (floor (of_node e.node h) e.entry.tick)) s
      by_doer (Doer.Second j i w z a) s = not_storing (Act.Unlock j i) a (no_unlock j i) s

  -- of a stored row the entry that gave it is there
  since_there : (h : Noded) → AreNodesLegal script told places h → has_stored (history k (of_node n h)) ≡ true → IsThere (since n k h)
  since_there [] l p = absurd (false≢true p)
  since_there (e ∷ h) l p = by_store (tested (stores n k e)) (since_there h l.0)
    where
      runs : (a : Act) → is_outside a ≡ false → is_restart a ≡ false
      runs Act.Restart q = absurd (true≢false q)
      runs _ q = refl

      before : (o : Option Touch) → touch k e.entry ≡ o → is_store (touch k e.entry) ≡ false →
          has_stored (option_map_or (λ t. (t, e.entry.tick) ∷ (history k (of_node n h))) (touch k e.entry) (history k (of_node n h))) ≡ true → has_stored (history k (of_node n h)) ≡ true
      before None q s g = rw q at g
      before (Some x) q s g =
          let f : (is_store (Some x) || has_stored (history k (of_node n h))) ≡ true = rw q at g in
          let y : is_store (Some x) ≡ false = rw q at s in
          rw y at f

      by_node : Tested (e.node == n) → stores n k e ≡ false → has_stored (history k (of_node n h)) ≡ true
      by_node (inr q) s = rw q at p
      by_node (inl q) s =
          let g : has_stored (history k (e.entry ∷ of_node n h)) ≡ true = rw q at p in
          let y : is_store (touch k e.entry) ≡ false = rw q at s in
          before (touch k e.entry) refl y (rw (history_step k e.entry (of_node n h) (runs e.entry.act (not_restart script told places h e l))) at g)

      by_store : Tested (stores n k e) → (has_stored (history k (of_node n h)) ≡ true → IsThere (since n k h)) → IsThere (since n k (e ∷ h))
      by_store (inl s) i =
          let y : ((e.node == n) ≡ true) × (is_store (touch k e.entry) ≡ true) = and_parts (e.node == n) (is_store (touch k e.entry)) s in
          let u : since n k (e ∷ h) ≡ up_to (gave k e.entry.act e.entry.session) h = rw s refl in
          let g : IsThere (up_to (gave k e.entry.act e.entry.session) h) = gave_there e h l y.1 in
          (g.0, g.1, u ∙ g.2)
      by_store (inr s) i =
          let u : since n k (e ∷ h) ≡ since n k h = rw s refl in
          let g : IsThere (since n k h) = i (by_node (tested (e.node == n)) s) in
          (g.0, g.1, u ∙ g.2)

  -- so it is of an item
  pub item_since : (h : Noded) (r : Row) (t : ℕ) → AreNodesLegal script told places h → slot script.timeout k (of_node n h) ≡ Slot.Item r t → IsThere (since n k h)
  item_since h r t l e = since_there h l (item_stored script.timeout (history k (of_node n h)) r t e)
