-- What a region answers an act of a session is due, and afterwards it stands for the entries with that one.
use Rattle.std.specs.Prelude.{option_map}
use Rattle.std.proofs.Common.{◌≡◌, ◌⊎◌, inl, inr, ℕ, ◌+◌, ◌==◌, Bool, true, false, cond, not, List, [], ◌∷◌, Some, None, Option, length, eq-eqb, refl, sym, ◌∙◌, subst, nat_lt}
use Rattle.std.proofs.lemmas.Bool.{true≢false, false≢true, eqb-true, ne_eqb}
use Rattle.std.proofs.lemmas.Option.{none-some, same_Some}
use Rattle.hib_base.specs.Tables.{Tables}
use Rattle.hib_journal.specs.Types.{Key, Row, Strategy, Script, Part, Act, Reply, Put, Unlocked, Inserted, Updated, Miss}
use Rattle.hib_journal.specs.Sessions.{same_part, time, is_restart}
use Rattle.hib_journal.specs.Slot.{Slot, key_in, is_positive}
use Rattle.hib_journal.specs.Next.{strategy}
use Rattle.hib_journal.specs.Legal as Legal
use Rattle.hib_journal.specs.Legal.{is_outside}
use Rattle.hib_journal.specs.Due.{asks_store}
use Rattle.hib_journal.specs.Regions as Regions
use Rattle.hib_journal.specs.Runs as Runs
use Rattle.hib_session.specs.Memory.{brings}
use Rattle.hib_engines.specs.Region.{entity_in, is_regional, acts_on, Suits}
use Rattle.hib_engines.proofs.Regions.{uncached_not, apart, is_read_write, is_read_only, is_nonstrict}
use Rattle.hib_engines.proofs.Grows.{elsewhere}
use Rattle.hib_bulk.specs.Types.{BulkDef, BulkAct, BulkReply, BulkEntry}
use Rattle.hib_bulk_law.specs.Plain.{Bulked, plain}
use Rattle.hib_bulk_law.specs.Rows.{committed}
use Rattle.hib_bulk_law.specs.Legal.{reply_of, is_of_store, IsReply}
use Rattle.hib_bulk_law.proofs.Entries.{plain_of}
use Rattle.hib_rw_region.specs.Region.{RegionState, slot_in, room_in}
use Rattle.hib_rw_region.specs.Steps as Inner
use Rattle.hib_bulk_region.specs.Region.{BulkState, shuts}
use Rattle.hib_bulk_region.specs.declared.answers.BulkPut.{BulkPut}
use Rattle.hib_bulk_region.specs.declared.answers.BulkInserted.{BulkInserted}
use Rattle.hib_bulk_region.specs.Answers.{put_reply, inserted_reply}
use Rattle.hib_bulk_region.specs.Stands.{IsBulkRegion}
use Rattle.hib_bulk_region.specs.Laws as Wide
use Rattle.hib_bulk_region.specs.Steps as Steps
use Rattle.hib_bulk.specs.declared.region.EntityRegion.{EntityRegion}
use Rattle.hib_bulk.specs.Changed.{is_fault}
use Rattle.hib_bulk_law.specs.Wide.{is_old}
use Rattle.hib_bulk_law.specs.Acts.{swept_for}
use Rattle.hib_base.proofs.Tables.{Tested, tested}
use Rattle.hib_bulk.specs.Regions.{answer_by, state_after, answer_in, region_after, region_of, has_old_in, swept, IsAtRegion, IsOfEntity, IsPlaced}
use Rattle.hib_bulk.specs.Standing.{entry_at, IsLate}

-- the laws of the regions, as their functions' clauses give them
pub record WideAnswers : Type 0 where
  pub get : Wide.Gets
  pub put : Wide.Puts
  pub lock : Wide.Locks
  pub unlock : Wide.Unlocks
  pub after_update : Wide.Updates
  pub after_insert : Wide.Inserts

pub record WideGrows : Type 0 where
  pub get : Wide.GetGrows
  pub put : Wide.PutGrows
  pub lock : Wide.LockGrows
  pub unlock : Wide.UnlockGrows
  pub after_update : Wide.UpdateGrows
  pub after_insert : Wide.InsertGrows

-- ---- capacities and timeouts stay

pub record IsSized (new old : RegionState) : Type 0 where
  pub capacity : new.capacity ≡ old.capacity
  pub timeout : new.timeout ≡ old.timeout

put_sized : (id : ℕ) (row : Row) (now : ℕ) (p : Put) (y : RegionState) → IsSized (Inner.put_leaves id row now p y) y
put_sized id row now (Put.Stored v late) y = record { capacity = refl; timeout = refl }
put_sized id row now _ y = record { capacity = refl; timeout = refl }

insert_sized : (id : ℕ) (row : Row) (now : ℕ) (p : Inserted) (y : RegionState) → IsSized (Inner.insert_leaves id row now p y) y
insert_sized id row now (Inserted.Stored v) y = record { capacity = refl; timeout = refl }
insert_sized id row now _ y = record { capacity = refl; timeout = refl }

unlock_sized : (id now : ℕ) (u : Unlocked) (y : RegionState) → IsSized (Inner.unlock_leaves id now u y) y
unlock_sized id now (Unlocked.Released n) y = record { capacity = refl; timeout = refl }
unlock_sized id now Unlocked.Expired y = record { capacity = refl; timeout = refl }

update_sized : (id : ℕ) (row : Row) (now : ℕ) (u : Updated) (y : RegionState) → IsSized (Inner.update_leaves id row now u y) y
update_sized id row now Updated.Stored y = record { capacity = refl; timeout = refl }
update_sized id row now (Updated.Shared n) y = record { capacity = refl; timeout = refl }
update_sized id row now Updated.Expired y = record { capacity = refl; timeout = refl }

either : (b : Bool) (x : BulkState) (y : RegionState) → IsSized y x.inner → IsSized (cond b x (record x { inner = y })).inner x.inner
either true x y z = record { capacity = refl; timeout = refl }
either false x y z = z

one_of : (b : Bool) (x y z : RegionState) → IsSized x z → IsSized y z → IsSized (cond b x y) z
one_of true x y z v w = v
one_of false x y z v w = w

sized : (x : BulkState) (begun now : ℕ) (a : Act) → IsSized (state_after x begun now a).inner x.inner
sized x begun now (Act.Put k row time floor) = either (shuts x time) x (Inner.after_put k.id row time floor now x.inner)
    (put_sized k.id row now (Regions.put (slot_in x.inner k.id) (room_in x.inner floor) time row.version) x.inner)
sized x begun now (Act.Lock k version floor) = record { capacity = refl; timeout = refl }
sized x begun now (Act.Unlock k i) = unlock_sized k.id now (Regions.unlock (slot_in x.inner k.id) i) x.inner
sized x begun now (Act.AfterInsert k row floor) = either (shuts x begun) x (Inner.after_insert k.id row floor now x.inner)
    (insert_sized k.id row now (Regions.after_insert (slot_in x.inner k.id) (room_in x.inner floor)) x.inner)
sized x begun now (Act.AfterUpdate k i row) = one_of (shuts x i) (Inner.after_unlock k.id i now x.inner) (Inner.after_update k.id i row now x.inner) x.inner
    (unlock_sized k.id now (Regions.unlock (slot_in x.inner k.id) i) x.inner) (update_sized k.id row now (Regions.after_update (slot_in x.inner k.id) i) x.inner)
sized x begun now _ = record { capacity = refl; timeout = refl }

-- ---- an act of a session on a region

pub record IsServedBy (script : Script) (lines : List BulkDef) (h : Bulked) (s now n : ℕ) (x : BulkState) (begun : ℕ) (a : Act) : Type 0 where
  pub reply : (rows : Tables) → answer_by x begun now a ≡ reply_of script lines rows h s now (BulkAct.Plain a)
  pub stands : IsBulkRegion (state_after x begun now a) n (entry_at now s (BulkAct.Plain a) (answer_by x begun now a) ∷ h)

of_key : (script : Script) (k : Key) (x : BulkState) (h : Bulked) → IsOfEntity script k.entity x h → Wide.IsOfScript script x k h
of_key script k x h p = record { strategy = p.strategy; capacity = p.capacity; timeout = p.timeout; stands = p.stands }

-- the next entry of the region
next_of : (x : BulkState) (n : ℕ) (h : Bulked) (s now : ℕ) (a : Act) (r : BulkReply) → IsBulkRegion x n h → IsLate now (plain h) → Legal.part_of a s ≡ Part.Region n →
    Wide.IsNext x n h (entry_at now s (BulkAct.Plain a) r) (BulkAct.Plain a) r
next_of x n h s now a r w late p = record { stands = w; part = p; later = late (λ d. same_part (Legal.part_of a s) d.part); act = refl; reply = refl }

module _ (w : WideAnswers) (g : WideGrows) (script : Script) (lines : List BulkDef) (h : Bulked) (s now : ℕ) (x : BulkState) (begun : ℕ) (late : IsLate now (plain h)) where
  -- on the region of the key that it names
  served_at : (a : Act) (k : Key) → key_in a ≡ Some k → begun ≡ time s (plain h) → IsOfEntity script k.entity x h → Suits (strategy script k.entity) a → is_outside a ≡ false →
      IsServedBy script lines h s now k.entity x begun a
  served_at (Act.Get j t) k q b p u o = let e : j ≡ k = same_Some j k q in subst (λ i. IsOfEntity script i.entity x h → IsServedBy script lines h s now i.entity x begun (Act.Get j t)) e (λ p. record {
    reply = λ rows. w.get script lines rows h s now x j t (of_key script j x h p);
    stands = g.get h (entry_at now s (BulkAct.Plain (Act.Get j t)) (answer_by x begun now (Act.Get j t))) x j t (next_of x j.entity h s now (Act.Get j t) (answer_by x begun now (Act.Get j t)) p.stands late refl);
  }) p
  served_at (Act.Put j r t f) k q b p u o = let e : j ≡ k = same_Some j k q in subst (λ i. IsOfEntity script i.entity x h → IsServedBy script lines h s now i.entity x begun (Act.Put j r t f)) e (λ p. record {
    reply = λ rows. w.put script lines rows h s now x j r t f (of_key script j x h p);
    stands = g.put h (entry_at now s (BulkAct.Plain (Act.Put j r t f)) (answer_by x begun now (Act.Put j r t f))) x j r t f (next_of x j.entity h s now (Act.Put j r t f) (answer_by x begun now (Act.Put j r t f)) p.stands late refl);
  }) p
  served_at (Act.Lock j v f) k q b p u o = let e : j ≡ k = same_Some j k q in subst (λ i. IsOfEntity script i.entity x h → IsServedBy script lines h s now i.entity x begun (Act.Lock j v f)) e (λ p. record {
    reply = λ rows. w.lock script lines rows h s now x j v f (of_key script j x h p);
    stands = g.lock h (entry_at now s (BulkAct.Plain (Act.Lock j v f)) (answer_by x begun now (Act.Lock j v f))) x j v f (next_of x j.entity h s now (Act.Lock j v f) (answer_by x begun now (Act.Lock j v f)) p.stands late refl);
  }) p
  served_at (Act.Unlock j i) k q b p u o = let e : j ≡ k = same_Some j k q in subst (λ m. IsOfEntity script m.entity x h → IsServedBy script lines h s now m.entity x begun (Act.Unlock j i)) e (λ p. record {
    reply = λ rows. w.unlock script lines rows h s now x j i (of_key script j x h p);
    stands = g.unlock h (entry_at now s (BulkAct.Plain (Act.Unlock j i)) (answer_by x begun now (Act.Unlock j i))) x j i (next_of x j.entity h s now (Act.Unlock j i) (answer_by x begun now (Act.Unlock j i)) p.stands late refl);
  }) p
  served_at (Act.AfterInsert j r f) k q b p u o = let e : j ≡ k = same_Some j k q in subst (λ i. IsOfEntity script i.entity x h → IsServedBy script lines h s now i.entity x begun (Act.AfterInsert j r f)) e (λ p. record {
    reply = λ rows.
        subst (λ z. answer_by x z now (Act.AfterInsert j r f) ≡ reply_of script lines rows h s now (BulkAct.Plain (Act.AfterInsert j r f))) (sym b)
        (w.after_insert script lines rows h s now x j r f (of_key script j x h p));
    stands = g.after_insert h (entry_at now s (BulkAct.Plain (Act.AfterInsert j r f)) (answer_by x begun now (Act.AfterInsert j r f))) x j r begun f (next_of x j.entity h s now (Act.AfterInsert j r f) (answer_by x begun now (Act.AfterInsert j r f)) p.stands late refl);
  }) p
  served_at (Act.AfterUpdate j i r) k q b p u o = let e : j ≡ k = same_Some j k q in subst (λ m. IsOfEntity script m.entity x h → IsServedBy script lines h s now m.entity x begun (Act.AfterUpdate j i r)) e (λ p. record {
    reply = λ rows. w.after_update script lines rows h s now x j i r (of_key script j x h p);
    stands = g.after_update h (entry_at now s (BulkAct.Plain (Act.AfterUpdate j i r)) (answer_by x begun now (Act.AfterUpdate j i r))) x j i r (next_of x j.entity h s now (Act.AfterUpdate j i r) (answer_by x begun now (Act.AfterUpdate j i r)) p.stands late refl);
  }) p
  served_at (Act.RegionRemove j) k q b p u o = absurd (removes u)
    where
      removes : (strategy script k.entity ≡ Strategy.ReadOnly) ⊎ (strategy script k.entity ≡ Strategy.Nonstrict) → ⊥
      removes (inl v) = apart is_read_only (strategy script k.entity) Strategy.ReadWrite Strategy.ReadOnly p.strategy v refl refl
      removes (inr v) = apart is_nonstrict (strategy script k.entity) Strategy.ReadWrite Strategy.Nonstrict p.strategy v refl refl
  served_at (Act.Evict j) k q b p u o = absurd (true≢false o)
  served_at _ k q b p u o = absurd (none-some k q)

-- ---- and on the region of an entity

-- an act of a region has a reply of the region's kind
region_kind : (a : Act) (r : BulkReply) (k : Key) → key_in a ≡ Some k → is_of_store (BulkAct.Plain a) r ≡ true
region_kind a (BulkReply.Plain r) k q = plain_kind a q
  where
    plain_kind : (a : Act) → key_in a ≡ Some k → Legal.is_of_store a r ≡ true
    plain_kind (Act.Load j) q = absurd (none-some k q)
    plain_kind (Act.List j) q = absurd (none-some k q)
    plain_kind Act.Commit q = absurd (none-some k q)
    plain_kind _ q = refl
region_kind a _ k q = other_kind a q
  where
    other_kind : (a : Act) → key_in a ≡ Some k → not (asks_store a) ≡ true
    other_kind (Act.Load j) q = absurd (none-some k q)
    other_kind (Act.List j) q = absurd (none-some k q)
    other_kind Act.Commit q = absurd (none-some k q)
    other_kind _ q = refl

-- the reply that is due, whether rows are told or not
kind_due : (script : Script) (lines : List BulkDef) (told : Option Tables) (h : Bulked) (s now : ℕ) (a : Act) (r : BulkReply) (k : Key) → key_in a ≡ Some k →
    ((rows : Tables) → r ≡ reply_of script lines rows h s now (BulkAct.Plain a)) → IsReply script lines told h (entry_at now s (BulkAct.Plain a) r)
kind_due script lines None h s now a r k q f = (region_kind a r k q, λ p. inl (f []))
kind_due script lines (Some start) h s now a r k q f = inl (f (committed script lines start h))

pub record IsRegional (script : Script) (lines : List BulkDef) (told : Option Tables) (h : Bulked) (s now n : ℕ) (a : Act) (r : BulkReply) (y : EntityRegion) : Type 0 where
  pub reply : IsReply script lines told h (entry_at now s (BulkAct.Plain a) r)
  pub placed : IsPlaced script n (entry_at now s (BulkAct.Plain a) r ∷ h) y

keyed : (o : Option Key) (n : ℕ) → option_map (λ k. k.entity) o ≡ Some n → (k : Key) × (o ≡ Some k) × (k.entity ≡ n)
keyed None n e = absurd (none-some n e)
keyed (Some k) n e = (k, refl, same_Some k.entity n e)

-- no act of a region is due on an entity that is uncached
unsuited : (g : Strategy) (a : Act) (k : Key) → key_in a ≡ Some k → g ≡ Strategy.Uncached → Suits g a → ⊥
unsuited g (Act.Get k t) j q p u = uncached_not g p u
unsuited g (Act.Put k row t f) j q p u = uncached_not g p u
unsuited g (Act.Lock k v f) j q p u = apart is_read_write g Strategy.Uncached Strategy.ReadWrite p u refl refl
unsuited g (Act.Unlock k i) j q p u = apart is_read_write g Strategy.Uncached Strategy.ReadWrite p u refl refl
unsuited g (Act.AfterInsert k row f) j q p (inl u) = apart is_read_only g Strategy.Uncached Strategy.ReadOnly p u refl refl
unsuited g (Act.AfterInsert k row f) j q p (inr u) = apart is_read_write g Strategy.Uncached Strategy.ReadWrite p u refl refl
unsuited g (Act.AfterUpdate k i row) j q p u = apart is_read_write g Strategy.Uncached Strategy.ReadWrite p u refl refl
unsuited g (Act.RegionRemove k) j q p (inl u) = apart is_read_only g Strategy.Uncached Strategy.ReadOnly p u refl refl
unsuited g (Act.RegionRemove k) j q p (inr u) = apart is_nonstrict g Strategy.Uncached Strategy.Nonstrict p u refl refl
unsuited g (Act.Evict k) j q p u = uncached_not g p u
unsuited g _ j q p u = none-some j q

pub regional : WideAnswers → WideGrows → (script : Script) (lines : List BulkDef) (told : Option Tables) (h : Bulked) (s now n begun : ℕ) (a : Act) (r : BulkReply) (x y : EntityRegion) → IsLate now (plain h) →
    entity_in a ≡ Some n → begun ≡ time s (plain h) → IsPlaced script n h x → Suits (strategy script n) a → is_outside a ≡ false → r ≡ answer_in x begun now a → y ≡ region_after x begun now a →
    IsRegional script lines told h s now n a r y
regional w g script lines told h s now n begun a r EntityRegion.Uncached y late e b p u o q v = let k = keyed (key_in a) n e in absurd (unsuited (strategy script n) a k.0 k.1 p u)
regional w g script lines told h s now n begun a r (EntityRegion.ReadWrite x) y late e b p u o q v =
    let k = keyed (key_in a) n e in
    let t : IsServedBy script lines h s now n x begun a =
    subst (λ i. IsServedBy script lines h s now i x begun a) k.2 (
    served_at w g script lines h s now x begun late a k.0 k.1 b (subst (λ i. IsOfEntity script i x h) (sym k.2) p)
    (subst (λ i. Suits (strategy script i) a) (sym k.2) u) o
    ) in
    subst (λ z. IsRegional script lines told h s now n a r z) (sym v) (subst (λ z. IsRegional script lines told h s now n a z (EntityRegion.ReadWrite (state_after x begun now a))) (sym q) (record {
      reply = kind_due script lines told h s now a (answer_by x begun now a) k.0 k.1 t.reply;
      placed = let z = sized x begun now a in record { strategy = p.strategy; capacity = z.capacity ∙ p.capacity; timeout = z.timeout ∙ p.timeout; stands = t.stands };
    }))

-- ---- no region answers a fault

calm_got : (s : Slot) (time : ℕ) → Runs.is_fault (Regions.got s time) ≡ false
calm_got Slot.Vacant time = refl
calm_got (Slot.Item r stamp) time = by_test (nat_lt stamp time)
  where
    by_test : (b : Bool) → Runs.is_fault (cond b (Reply.Hit r) (Reply.Miss (Miss.Young stamp))) ≡ false
    by_test true = refl
    by_test false = refl
calm_got (Slot.Lock l) time = refl

calm_wide : (b : Bool) (n : ℕ) (r : Reply) → Runs.is_fault r ≡ false → is_fault (cond b (BulkReply.Wide n) (BulkReply.Plain r)) ≡ false
calm_wide true n r p = refl
calm_wide false n r p = p

calm_put : (p : BulkPut) → is_fault (put_reply p) ≡ false
calm_put (BulkPut.Wide n) = refl
calm_put (BulkPut.WideEarly u) = refl
calm_put (BulkPut.Plain p) = refl

calm_inserted : (p : BulkInserted) → is_fault (inserted_reply p) ≡ false
calm_inserted (BulkInserted.Wide n) = refl
calm_inserted (BulkInserted.WideEarly u) = refl
calm_inserted (BulkInserted.Plain p) = refl

pub calm_in : (x : EntityRegion) (begun now : ℕ) (a : Act) → is_fault (answer_in x begun now a) ≡ false
calm_in EntityRegion.Uncached begun now a = refl
calm_in (EntityRegion.ReadWrite x) begun now (Act.Get k time) = calm_wide (is_positive x.holders) x.holders (Regions.got (slot_in x.inner k.id) time) (calm_got (slot_in x.inner k.id) time)
calm_in (EntityRegion.ReadWrite x) begun now (Act.Put k row time floor) = calm_put (Steps.put x k.id row.version time floor)
calm_in (EntityRegion.ReadWrite x) begun now (Act.AfterInsert k row floor) = calm_inserted (Steps.inserted x k.id begun floor)
calm_in (EntityRegion.ReadWrite x) begun now _ = refl

-- ---- elsewhere

pub placed_stays : Wide.Stays → (script : Script) (h : Bulked) (e : BulkEntry) (n : ℕ) (x : EntityRegion) → Wide.IsElsewhere n e → IsPlaced script n h x → IsPlaced script n (e ∷ h) x
placed_stays l script h e n EntityRegion.Uncached w p = p
placed_stays l script h e n (EntityRegion.ReadWrite x) w p = record { strategy = p.strategy; capacity = p.capacity; timeout = p.timeout; stands = l h e x n w p.stands }

-- an act of a session on another region, or on none
pub placed_kept : Wide.Stays → (script : Script) (h : Bulked) (n s now : ℕ) (a : Act) (r : BulkReply) (x : EntityRegion) → IsPlaced script n h x → (is_regional a ≡ true → (acts_on a == n) ≡ false) →
    is_restart a ≡ false → IsPlaced script n (entry_at now s (BulkAct.Plain a) r ∷ h) x
placed_kept l script h n s now a r x p d q =
    let e : BulkEntry = entry_at now s (BulkAct.Plain a) r in
    let w = elsewhere a s n (plain_of e a) refl refl q d in
    placed_stays l script h e n x (record { part = w.part; act = w.key; stays = w.stays }) p

-- no act of a region is due on an entity that is uncached
pub none_due : (script : Script) (h : Bulked) (n : ℕ) (a : Act) (x : EntityRegion) → x ≡ EntityRegion.Uncached → IsPlaced script n h x → entity_in a ≡ Some n → Suits (strategy script n) a → ⊥
none_due script h n a EntityRegion.Uncached e p q u = let k = keyed (key_in a) n q in unsuited (strategy script n) a k.0 k.1 p u
none_due script h n a (EntityRegion.ReadWrite x) e p q u = absurd (cc)

-- an act that brings something to its session changes no region
pub brings_rest : (x : EntityRegion) (begun now : ℕ) (a : Act) → brings a ≡ true → region_after x begun now a ≡ x
brings_rest EntityRegion.Uncached begun now a b = refl
brings_rest (EntityRegion.ReadWrite x) begun now (Act.Put k r t f) b = absurd (false≢true b)
brings_rest (EntityRegion.ReadWrite x) begun now (Act.Lock k v f) b = absurd (false≢true b)
brings_rest (EntityRegion.ReadWrite x) begun now (Act.Unlock k i) b = absurd (false≢true b)
brings_rest (EntityRegion.ReadWrite x) begun now (Act.AfterInsert k r f) b = absurd (false≢true b)
brings_rest (EntityRegion.ReadWrite x) begun now (Act.AfterUpdate k i r) b = absurd (false≢true b)
brings_rest (EntityRegion.ReadWrite x) begun now _ b = refl

-- ---- old items

pub swept_key : (a : Act) (k : Key) → swept_for a ≡ Some k → key_in a ≡ Some k
swept_key (Act.Get j t) k p = p
swept_key (Act.Put j r t f) k p = p
swept_key (Act.Lock j v f) k p = p
swept_key _ k p = absurd (none-some k p)

pub old_is : Wide.FindsOld → (script : Script) (h : Bulked) (k : Key) (a : Act) (x : EntityRegion) → IsPlaced script k.entity h x → key_in a ≡ Some k → Suits (strategy script k.entity) a →
    has_old_in x k.id ≡ is_old script k h
old_is w script h k a EntityRegion.Uncached p q u = absurd (unsuited (strategy script k.entity) a k q p u)
old_is w script h k a (EntityRegion.ReadWrite x) p q u = w script x k h (of_key script k x h p)

-- ---- all regions, after that of entity n has changed

pub regions_by : (P : ℕ → EntityRegion → Type 0) (n : ℕ) (xs ys : List EntityRegion) → IsAtRegion n xs ys → P n (region_of ys n) → ((m : ℕ) → (n == m) ≡ false → P m (region_of xs m)) → (m : ℕ) → P m (region_of ys m)
regions_by P n xs ys at here others m = by_test (tested (n == m))
  where
    by_test : Tested (n == m) → P m (region_of ys m)
    by_test (inl q) = subst (λ i. P i (region_of ys i)) (eqb-true n m q) here
    by_test (inr q) = subst (λ z. P m z) (sym (at.others m q)) (others m q)

pub other_way : (n m : ℕ) → (n == m) ≡ false → (m == n) ≡ false
other_way n m p = ne_eqb m n (λ e. true≢false (sym (eq-eqb n m (sym e)) ∙ p))

-- an old item is swept away
pub placed_swept : Wide.SweepGrows → (script : Script) (h : Bulked) (s : ℕ) (k : Key) (x : EntityRegion) → IsLate (length h + 1) (plain h) → has_old_in x k.id ≡ true → IsPlaced script k.entity h x →
    IsPlaced script k.entity (entry_at (length h + 1) s (BulkAct.Sweep k) BulkReply.Swept ∷ h) (swept x k.id (length h + 1))
placed_swept w script h s k EntityRegion.Uncached late o p = absurd (false≢true o)
placed_swept w script h s k (EntityRegion.ReadWrite x) late o p = record {
  strategy = p.strategy;
  capacity = p.capacity;
  timeout = p.timeout;
  stands = w h (entry_at (length h + 1) s (BulkAct.Sweep k) BulkReply.Swept) x k
      (record { stands = p.stands; part = refl; later = late (λ d. same_part (Part.Region k.entity) d.part); act = refl; reply = refl }) o;
}

pub swept_elsewhere : (h : Bulked) (s m : ℕ) (k : Key) → (k.entity == m) ≡ false → Wide.IsElsewhere m (entry_at (length h + 1) s (BulkAct.Sweep k) BulkReply.Swept)
swept_elsewhere h s m k d = record { part = other_way k.entity m d; act = d; stays = refl }
