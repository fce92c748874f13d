-- After each call the region stands for the journal with that entry.
use Rattle.std.proofs.Common.{◌≡◌, ℕ, Bool, true, false, cond, ◌||◌, nat_le, ◌∷◌, refl, sym, ap, ◌∙◌, subst, arith, eq-eqb}
use Rattle.std.proofs.lemmas.Bool.{false≢true}
use Rattle.hib_journal.specs.Types.{Key, Act, Reply, Miss, Put, Unlocked, Inserted, Updated, Evicted, Entry}
use Rattle.hib_journal.specs.Slot.{Slot, is_positive}
use Rattle.hib_journal.specs.Regions as Regions
use Rattle.hib_room_laws.specs.Elsewhere as Room
use Rattle.hib_rw_region.specs.Region.{RegionState, kept_in, slot_in, room_in}
use Rattle.hib_rw_region.specs.Steps as Inner
use Rattle.hib_rw_region.specs.Stands.{IsRegion}
use Rattle.hib_rw_region.specs.Laws as Inside
use Rattle.hib_rw_region.proofs.Grows as Grow
use Rattle.hib_bulk_region.specs.Types.{BulkAct, BulkReply, BulkEntry}
use Rattle.hib_bulk_law.specs.Plain.{Bulked, plain, plain_reply}
use Rattle.hib_bulk_law.specs.Wide.{wide_holders, wide_unlock, locks_all, unlocks_all}
use Rattle.hib_bulk_law.specs.Legal.{given_back}
use Rattle.hib_bulk_law.proofs.Entries.{Shape, shape, is_wide, plain_of, swept_of, plain_does, plain_sweeps, plain_rests}
use Rattle.hib_bulk_region.specs.declared.answers.BulkPut.{BulkPut}
use Rattle.hib_bulk_region.specs.declared.answers.BulkInserted.{BulkInserted}
use Rattle.hib_bulk_region.specs.Region.{BulkState, shuts_item}
use Rattle.hib_bulk_region.specs.Answers.{put_reply, inserted_reply}
use Rattle.hib_bulk_region.specs.Stands.{IsBulkRegion}
use Rattle.hib_bulk_region.specs.Laws.{IsNext, IsElsewhere, is_of, GetGrows, PutGrows, LockGrows, UnlockGrows, UpdateGrows, InsertGrows, SweepGrows, LockAllGrows, UnlockAllGrows, Stays, Begins}

-- an act that locks nothing as a whole, nor gives it back, leaves holders and unlock time
module _ (n : ℕ) (h : Bulked) (e : BulkEntry) (l : locks_all n e.act ≡ false) (u : unlocks_all n e.act ≡ false) where
  holders_stay : wide_holders n (e ∷ h) ≡ wide_holders n h
  holders_stay = rw (l, u) (omega arith)

  unlock_stays : wide_unlock n (e ∷ h) ≡ wide_unlock n h
  unlock_stays = rw u refl

-- an act of a session or a line that the region inside answers
module _ (state : BulkState) (k : Key) (h : Bulked) (e : BulkEntry) (a : Act) (r : BulkReply) (next : IsNext state k.entity h e (BulkAct.Plain a) r) where
  inside : Inside.IsNext state.inner k (plain h) (plain_of e a) a (plain_reply a r)
  inside = record { stands = next.stands.stands; part = next.part; later = next.later; act = refl; reply = ap (plain_reply a) next.reply }

  stands : (x : RegionState) → IsRegion x k.entity (plain_of e a ∷ plain h) → IsBulkRegion (record state { inner = x }) k.entity (e ∷ h)
  stands x w = record {
    holders = next.stands.holders ∙ sym (holders_stay k.entity h e (rw next.act refl) (rw next.act refl));
    unlock = next.stands.unlock ∙ sym (unlock_stays k.entity h e (rw next.act refl) (rw next.act refl));
    stands = subst (λ g. IsRegion x k.entity g) (sym (plain_does e h a next.act)) w;
  }

pub get_grows : GetGrows
get_grows h e state k time next = by (is_positive state.holders) next
  where
    by : (b : Bool) → IsNext state k.entity h e (BulkAct.Plain (Act.Get k time)) (cond b (BulkReply.Wide state.holders) (BulkReply.Plain (Regions.got (slot_in state.inner k.id) time)))
        → IsBulkRegion state k.entity (e ∷ h)
    by true n = stands state k h e (Act.Get k time) (BulkReply.Wide state.holders) n state.inner
        (Grow.same_region state.inner k (plain h) (plain_of e (Act.Get k time)) (Act.Get k time) (Reply.Miss Miss.Absent)
        (inside state k h e (Act.Get k time) (BulkReply.Wide state.holders) n) refl refl refl refl)
    by false n = stands state k h e (Act.Get k time) (BulkReply.Plain (Regions.got (slot_in state.inner k.id) time)) n state.inner
        (Grow.get_grows (plain h) (plain_of e (Act.Get k time)) state.inner k time
        (inside state k h e (Act.Get k time) (BulkReply.Plain (Regions.got (slot_in state.inner k.id) time)) n))

pub put_grows : PutGrows
put_grows h e state k row time floor next = by (is_positive state.holders) (nat_le time state.unlock) next
  where
    refused : (r : BulkReply) → plain_reply (Act.Put k row time floor) r ≡ Reply.Put Put.Crowded → IsNext state k.entity h e (BulkAct.Plain (Act.Put k row time floor)) r
        → IsBulkRegion state k.entity (e ∷ h)
    refused r c n = stands state k h e (Act.Put k row time floor) r n state.inner
        (Grow.same_region state.inner k (plain h) (plain_of e (Act.Put k row time floor)) (Act.Put k row time floor) (Reply.Put Put.Crowded)
        (subst (λ x. Inside.IsNext state.inner k (plain h) (plain_of e (Act.Put k row time floor)) (Act.Put k row time floor) x) c
        (inside state k h e (Act.Put k row time floor) r n)) refl refl refl refl)

    by : (b c : Bool) → IsNext state k.entity h e (BulkAct.Plain (Act.Put k row time floor))
        (put_reply (cond b (BulkPut.Wide state.holders) (cond c (BulkPut.WideEarly state.unlock) (BulkPut.Plain (Regions.put (slot_in state.inner k.id) (room_in state.inner floor) time row.version)))))
        → IsBulkRegion (cond (b || c) state (record state { inner = Inner.after_put k.id row time floor e.tick state.inner })) k.entity (e ∷ h)
    by true c n = refused (BulkReply.Wide state.holders) refl n
    by false true n = refused (BulkReply.WideEarly state.unlock) refl n
    by false false n =
        let r : BulkReply = BulkReply.Plain (Reply.Put (Regions.put (slot_in state.inner k.id) (room_in state.inner floor) time row.version)) in
        stands state k h e (Act.Put k row time floor) r n (Inner.after_put k.id row time floor e.tick state.inner)
        (Grow.put_grows (plain h) (plain_of e (Act.Put k row time floor)) state.inner k row time floor (inside state k h e (Act.Put k row time floor) r n))

pub insert_grows : InsertGrows
insert_grows h e state k row time floor next = by (is_positive state.holders) (nat_le time state.unlock) next
  where
    refused : (r : BulkReply) → plain_reply (Act.AfterInsert k row floor) r ≡ Reply.Inserted Inserted.Crowded → IsNext state k.entity h e (BulkAct.Plain (Act.AfterInsert k row floor)) r
        → IsBulkRegion state k.entity (e ∷ h)
    refused r c n = stands state k h e (Act.AfterInsert k row floor) r n state.inner
        (Grow.same_region state.inner k (plain h) (plain_of e (Act.AfterInsert k row floor)) (Act.AfterInsert k row floor) (Reply.Inserted Inserted.Crowded)
        (subst (λ x. Inside.IsNext state.inner k (plain h) (plain_of e (Act.AfterInsert k row floor)) (Act.AfterInsert k row floor) x) c
        (inside state k h e (Act.AfterInsert k row floor) r n)) refl refl refl refl)

    by : (b c : Bool) → IsNext state k.entity h e (BulkAct.Plain (Act.AfterInsert k row floor))
        (inserted_reply (cond b (BulkInserted.Wide state.holders) (cond c (BulkInserted.WideEarly state.unlock) (BulkInserted.Plain (Regions.after_insert (slot_in state.inner k.id) (room_in state.inner floor))))))
        → IsBulkRegion (cond (b || c) state (record state { inner = Inner.after_insert k.id row floor e.tick state.inner })) k.entity (e ∷ h)
    by true c n = refused (BulkReply.Wide state.holders) refl n
    by false true n = refused (BulkReply.WideEarly state.unlock) refl n
    by false false n =
        let r : BulkReply = BulkReply.Plain (Reply.Inserted (Regions.after_insert (slot_in state.inner k.id) (room_in state.inner floor))) in
        stands state k h e (Act.AfterInsert k row floor) r n (Inner.after_insert k.id row floor e.tick state.inner)
        (Grow.insert_grows (plain h) (plain_of e (Act.AfterInsert k row floor)) state.inner k row floor (inside state k h e (Act.AfterInsert k row floor) r n))

pub lock_grows : LockGrows
lock_grows h e state k version floor next =
    let r : BulkReply = BulkReply.Plain (Reply.Locked (Regions.lock state.inner.timeout (slot_in state.inner k.id) (room_in state.inner floor) e.tick)) in
    stands state k h e (Act.Lock k version floor) r next (Inner.after_lock k.id version floor e.tick state.inner)
    (Grow.lock_grows (plain h) (plain_of e (Act.Lock k version floor)) state.inner k version floor (inside state k h e (Act.Lock k version floor) r next))

pub unlock_grows : UnlockGrows
unlock_grows h e state k lock next =
    let r : BulkReply = BulkReply.Plain (Reply.Unlocked (Regions.unlock (slot_in state.inner k.id) lock)) in
    stands state k h e (Act.Unlock k lock) r next (Inner.after_unlock k.id lock e.tick state.inner)
    (Grow.unlock_grows (plain h) (plain_of e (Act.Unlock k lock)) state.inner k lock (inside state k h e (Act.Unlock k lock) r next))

pub update_grows : UpdateGrows
update_grows h e state k lock row next = by (is_positive state.holders || nat_le lock state.unlock) next
  where
    given : (p : Unlocked) → Regions.unlock (slot_in state.inner k.id) lock ≡ p → IsNext state k.entity h e (BulkAct.Plain (Act.AfterUpdate k lock row)) (BulkReply.Plain (Reply.Updated (given_back p)))
        → IsBulkRegion (record state { inner = Inner.unlock_leaves k.id e.tick p state.inner }) k.entity (e ∷ h)
    given (Unlocked.Released m) is n =
        let r : BulkReply = BulkReply.Plain (Reply.Updated (Updated.Shared m)) in
        let s = Grow.unlock_held (kept_in state.inner k.id) lock m is in
        stands state k h e (Act.AfterUpdate k lock row) r n (Inner.with_release k.id e.tick state.inner)
        (Grow.released_region state.inner k (plain h) (plain_of e (Act.AfterUpdate k lock row)) (Act.AfterUpdate k lock row) (Reply.Updated (Updated.Shared m))
        (inside state k h e (Act.AfterUpdate k lock row) r n) refl refl s.0 m s.1 s.2 refl refl)
    given Unlocked.Expired is n =
        let r : BulkReply = BulkReply.Plain (Reply.Updated Updated.Expired) in
        stands state k h e (Act.AfterUpdate k lock row) r n (Inner.unlock_leaves k.id e.tick Unlocked.Expired state.inner)
        (Grow.expired_region state.inner k (plain h) (plain_of e (Act.AfterUpdate k lock row)) (Act.AfterUpdate k lock row) (Reply.Updated Updated.Expired)
        (inside state k h e (Act.AfterUpdate k lock row) r n) refl refl refl refl)

    by : (b : Bool) → IsNext state k.entity h e (BulkAct.Plain (Act.AfterUpdate k lock row))
        (BulkReply.Plain (Reply.Updated (cond b (given_back (Regions.unlock (slot_in state.inner k.id) lock)) (Regions.after_update (slot_in state.inner k.id) lock))))
        → IsBulkRegion (record state { inner = cond b (Inner.after_unlock k.id lock e.tick state.inner) (Inner.after_update k.id lock row e.tick state.inner) }) k.entity (e ∷ h)
    by true n = given (Regions.unlock (slot_in state.inner k.id) lock) refl n
    by false n =
        let r : BulkReply = BulkReply.Plain (Reply.Updated (Regions.after_update (slot_in state.inner k.id) lock)) in
        stands state k h e (Act.AfterUpdate k lock row) r n (Inner.after_update k.id lock row e.tick state.inner)
        (Grow.update_grows (plain h) (plain_of e (Act.AfterUpdate k lock row)) state.inner k lock row (inside state k h e (Act.AfterUpdate k lock row) r n))

-- an old item is evicted
old_goes : (state : BulkState) (s : Slot) → shuts_item state s ≡ true → Regions.evict s ≡ Evicted.Gone
old_goes state Slot.Vacant p = absurd (false≢true p)
old_goes state (Slot.Item r t) p = refl
old_goes state (Slot.Lock l) p = absurd (false≢true p)

pub sweep_grows : SweepGrows
sweep_grows h e state k next old = record {
  holders = next.stands.holders ∙ sym (holders_stay k.entity h e (rw next.act refl) (rw next.act refl));
  unlock = next.stands.unlock ∙ sym (unlock_stays k.entity h e (rw next.act refl) (rw next.act refl));
  stands = subst (λ g. IsRegion (Inner.after_evict k.id e.tick state.inner) k.entity g) (sym (plain_sweeps e h k next.act)) (
      Grow.evict_grows (plain h) (swept_of e k) state.inner k (
      record {
        stands = next.stands.stands;
        part = next.part;
        later = next.later;
        act = refl;
        reply = ap (plain_reply (Act.Evict k)) next.reply ∙ ap (λ x. Reply.Evicted x) (sym (old_goes state (slot_in state.inner k.id) old));
      }
      )
      );
}

pub lock_all_grows : LockAllGrows
lock_all_grows h e state n a w = record {
  holders = rw (a, eq-eqb n n refl) (omega (arith, w.holders));
  unlock = rw a w.unlock;
  stands = subst (λ g. IsRegion state.inner n g) (sym (plain_rests e h (ap is_wide a))) w.stands;
}

pub unlock_all_grows : UnlockAllGrows
unlock_all_grows h e state n a w = record {
  holders = rw (a, eq-eqb n n refl) (omega (arith, w.holders));
  unlock = rw (a, eq-eqb n n refl) refl;
  stands = subst (λ g. IsRegion state.inner n g) (sym (plain_rests e h (ap is_wide a))) w.stands;
}

-- an act of another region locks this one not
not_locked : (n : ℕ) (x : BulkAct) → is_of n x ≡ false → locks_all n x ≡ false
not_locked n (BulkAct.LockAll m) p = p
not_locked n _ p = refl

not_unlocked : (n : ℕ) (x : BulkAct) → is_of n x ≡ false → unlocks_all n x ≡ false
not_unlocked n (BulkAct.UnlockAll m) p = p
not_unlocked n _ p = refl

pub stays : Stays
stays h e state n apart w = record {
  holders = w.holders ∙ sym (holders_stay n h e (not_locked n e.act apart.act) (not_unlocked n e.act apart.act));
  unlock = w.unlock ∙ sym (unlock_stays n h e (not_locked n e.act apart.act) (not_unlocked n e.act apart.act));
  stands = by (shape e.act);
}
  where
    rests : (d : Entry) → Room.IsElsewhere n d → IsRegion state.inner n (d ∷ plain h)
    rests d p = Grow.stays (plain h) d state.inner n p w.stands

    by : Shape e.act → IsRegion state.inner n (plain (e ∷ h))
    by (Shape.Does a q) = subst (λ g. IsRegion state.inner n g) (sym (plain_does e h a q)) (rests (plain_of e a) (record {
      part = apart.part;
      key = subst (λ x. is_of n x ≡ false) q apart.act;
      stays = subst (λ x. Rattle.hib_bulk_region.specs.Laws.restarts x ≡ false) q apart.stays;
    }))
    by (Shape.Sweeps j q) = subst (λ g. IsRegion state.inner n g) (sym (plain_sweeps e h j q)) (rests (swept_of e j) (record {
      part = apart.part;
      key = subst (λ x. is_of n x ≡ false) q apart.act;
      stays = refl;
    }))
    by (Shape.Wide q) = subst (λ g. IsRegion state.inner n g) (sym (plain_rests e h q)) w.stands

pub begins : Begins
begins capacity timeout n = record { holders = refl; unlock = refl; stands = Grow.begins capacity timeout n }
