-- What a region answers that lines may lock is the reply that is due.
use Rattle.std.specs.Prelude.{unwrap_or}
use Rattle.std.proofs.Common.{◌≡◌, ℕ, Bool, true, false, cond, [], Some, None, refl, ap, ◌∙◌}
use Rattle.hib_journal.specs.Types.{Key, Script, Reply, Put, Inserted, Updated}
use Rattle.hib_journal.specs.Slot.{Slot, slot}
use Rattle.hib_rw_region.specs.Region.{slot_in}
use Rattle.hib_rw_region.specs.Laws as Inner
use Rattle.hib_rw_region.proofs.Answers as Answers
use Rattle.hib_bulk_region.specs.Types.{BulkReply}
use Rattle.hib_bulk_law.specs.Plain.{Bulked, plain}
use Rattle.hib_bulk_law.specs.Wide.{is_item_shut}
use Rattle.hib_bulk_region.specs.declared.answers.BulkPut.{BulkPut}
use Rattle.hib_bulk_region.specs.declared.answers.BulkInserted.{BulkInserted}
use Rattle.hib_bulk_region.specs.Region.{BulkState, shuts_item}
use Rattle.hib_bulk_region.specs.Answers.{put_reply, inserted_reply}
use Rattle.hib_bulk_region.specs.Laws.{IsOfScript, Gets, Puts, Locks, Unlocks, Updates, Inserts, LocksAll, UnlocksAll, FindsOld}

inner_of : (script : Script) (state : BulkState) (k : Key) (h : Bulked) → IsOfScript script state k h → Inner.IsOfScript script state.inner k (plain h)
inner_of script state k h of = record { strategy = of.strategy; capacity = of.capacity; timeout = of.timeout; stands = of.stands.stands }

slot_due : (script : Script) (state : BulkState) (k : Key) (h : Bulked) → IsOfScript script state k h → slot_in state.inner k.id ≡ slot script.timeout k (plain h)
slot_due script state k h of = of.stands.stands.same k.id ∙ ap (λ t. slot t k (plain h)) of.timeout

got_is : (b : Bool) (n : ℕ) (p q : Reply) → p ≡ q → cond b (BulkReply.Wide n) (BulkReply.Plain p) ≡ unwrap_or (cond b (Some (BulkReply.Wide n)) None) (BulkReply.Plain q)
got_is true n p q e = refl
got_is false n p q e = ap (λ r. BulkReply.Plain r) e

put_is : (b c : Bool) (n u : ℕ) (p : Put) (q : Reply) → Reply.Put p ≡ q →
    put_reply (cond b (BulkPut.Wide n) (cond c (BulkPut.WideEarly u) (BulkPut.Plain p)))
    ≡ unwrap_or (cond b (Some (BulkReply.Wide n)) (cond c (Some (BulkReply.WideEarly u)) None)) (BulkReply.Plain q)
put_is true c n u p q e = refl
put_is false true n u p q e = refl
put_is false false n u p q e = ap (λ r. BulkReply.Plain r) e

inserted_is : (b c : Bool) (n u : ℕ) (p : Inserted) (q : Reply) → Reply.Inserted p ≡ q →
    inserted_reply (cond b (BulkInserted.Wide n) (cond c (BulkInserted.WideEarly u) (BulkInserted.Plain p)))
    ≡ unwrap_or (cond b (Some (BulkReply.Wide n)) (cond c (Some (BulkReply.WideEarly u)) None)) (BulkReply.Plain q)
inserted_is true c n u p q e = refl
inserted_is false true n u p q e = refl
inserted_is false false n u p q e = ap (λ r. BulkReply.Plain r) e

updated_is : (b : Bool) (p q : Updated) (r : Reply) → Reply.Updated q ≡ r →
    BulkReply.Plain (Reply.Updated (cond b p q)) ≡ unwrap_or (cond b (Some (BulkReply.Plain (Reply.Updated p))) None) (BulkReply.Plain r)
updated_is true p q r e = refl
updated_is false p q r e = ap (λ r. BulkReply.Plain r) e

pub gets : Gets
gets script lines rows h s now state k time of =
    rw of.stands.holders (got_is _ _ _ _ (Answers.gets script [] (plain h) s now state.inner k time (inner_of script state k h of)))

pub puts : Puts
puts script lines rows h s now state k row time floor of =
    rw (of.stands.holders, of.stands.unlock) (put_is _ _ _ _ _ _ (Answers.puts script [] (plain h) s now state.inner k row time floor (inner_of script state k h of)))

pub locks : Locks
locks script lines rows h s now state k version floor of =
    ap (λ r. BulkReply.Plain r) (Answers.locks script [] (plain h) s now state.inner k version floor (inner_of script state k h of))

pub unlocks : Unlocks
unlocks script lines rows h s now state k lock of =
    ap (λ r. BulkReply.Plain r) (Answers.unlocks script [] (plain h) s now state.inner k lock (inner_of script state k h of))

pub updates : Updates
updates script lines rows h s now state k lock row of =
    rw (of.stands.holders, of.stands.unlock, slot_due script state k h of) (updated_is _ _ _ _ refl)

pub inserts : Inserts
inserts script lines rows h s now state k row floor of =
    rw (of.stands.holders, of.stands.unlock) (inserted_is _ _ _ _ _ _ (Answers.inserts script [] (plain h) s now state.inner k row floor (inner_of script state k h of)))

pub locks_all : LocksAll
locks_all script lines rows h s now n state w = rw w.holders refl

pub unlocks_all : UnlocksAll
unlocks_all script lines rows h s now n state w = rw w.holders refl

pub finds_old : FindsOld
finds_old script state k h of = rw (slot_due script state k h of) (by_slot (slot script.timeout k (plain h)))
  where
    by_slot : (s : Slot) → shuts_item state s ≡ is_item_shut k.entity h s
    by_slot Slot.Vacant = refl
    by_slot (Slot.Item r t) = rw (of.stands.holders, of.stands.unlock) refl
    by_slot (Slot.Lock l) = refl
