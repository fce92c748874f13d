-- After each call the region stands for the journal with that entry.
use Rattle.std.specs.Prelude.{is_some, ◌==◌}
use Rattle.std.specs.Option.{option_map_or}
use Rattle.std.proofs.Common.{◌≡◌, ◌<◌, ℕ, inl, inr, Bool, true, false, cond, ◌&&◌, nat_eq, nat_le, [], ◌∷◌, ◌++◌, Some, None, Option, refl, sym, ap, ◌∙◌, subst, arith, eq-eqb}
use Rattle.std.specs.Map.{lookup, remove_entry}
use Rattle.std.proofs.lemmas.Bool.{eqb-true}
use Rattle.hib_base.proofs.Tables.{Tested, tested}
use Rattle.hib_journal.specs.Types.{Key, Row, Part, Act, Reply, Entry, Miss, Put, Inserted, Evicted}
use Rattle.hib_journal.specs.Sessions.{Journal, last_tick, same_part, is_restart}
use Rattle.hib_journal.specs.Slot.{Touch, History, history, touch_here, key_in, evicted_in}
use Rattle.hib_journal.specs.Room.{key, item}
use Rattle.hib_journal.specs.Regions.{got_item, put_item}
use Rattle.hib_room_laws.specs.Order.{IsUpTo}
use Rattle.hib_room_laws.specs.Elsewhere.{last_of}
use Rattle.hib_room_laws.proofs.Touched.{touch_by, touched_by, quiet, elsewhere}
use Rattle.hib_other_regions.specs.Items.{ItemsState, item_in, oldest_in, without, with_new, after_put, after_remove}
use Rattle.hib_other_regions.specs.Stands.{IsItems, stamp_of}
use Rattle.hib_other_regions.specs.Laws.{IsNext, GetGrows, PutGrows, InsertGrows, RemoveGrows, EvictGrows, Stays, Restarts, Begins}
use Rattle.hib_other_regions.proofs.Kept.{ItemList, IsRising, rising_later, rising_without, rising_push, lookup_gone, lookup_come}

-- what a touch leaves of an item
abbrev after_touch : Option Touch → ℕ → Option (Row × ℕ) → Option (Row × ℕ)
after_touch None now p = p
after_touch (Some (Touch.Stores r late)) now p = Some (r, now)
after_touch (Some Touch.Leaves) now p = None
after_touch (Some Touch.Evicts) now p = None
after_touch (Some _) now p = p

item_after : (o : Option Touch) (now : ℕ) (s : History) → item (option_map_or (λ t. (t, now) ∷ s) o s) ≡ after_touch o now (item s)
item_after None now s = refl
item_after (Some (Touch.Stores r late)) now s = refl
item_after (Some Touch.Leaves) now s = refl
item_after (Some Touch.Evicts) now s = refl
item_after (Some (Touch.Locks v)) now s = refl
item_after (Some (Touch.Releases m)) now s = refl
item_after (Some Touch.Expires) now s = refl

rising : (state : ItemsState) (n : ℕ) (h : Journal) → IsItems state n h → IsRising state.items (last_of n h)
rising state n h stands = record { order = stands.order; before = stands.before }

module _ (state : ItemsState) (k : Key) (h : Journal) (e : Entry) (a : Act) (r : Reply) (next : IsNext state k h e a r) (names : key_in a ≡ Some k) (goes : is_restart a ≡ false) where
  last_now : last_of k.entity (e ∷ h) ≡ e.tick
  last_now = rw (next.part, eq-eqb k.entity k.entity refl)

  last_before : last_of k.entity h < e.tick
  last_before = subst (λ (p : Part). last_tick (λ d. same_part p d.part) h < e.tick) next.part next.later

  item_now : (i : ℕ) → item (history (key k.entity i) (e ∷ h)) ≡ after_touch (touch_by k.id i a r) e.tick (item_in state i)
  item_now i =
      rw (touched_by k h e a r next.act next.reply names goes i, item_after (touch_by k.id i a r) e.tick (history (key k.entity i) h), ← next.stands.same i)

  -- the list that is left has the items that the touches leave, and its stamps rise to the tick
  stands_by : (items : ItemList) → IsRising items e.tick → ((i : ℕ) → lookup (nat_eq i) items ≡ after_touch (touch_by k.id i a r) e.tick (item_in state i))
      → IsItems (record state { items = items }) k.entity (e ∷ h)
  stands_by items rise is = record {
    same = λ i. is i ∙ sym (item_now i);
    order = rise.order;
    before = λ i. subst (λ l. IsUpTo l (stamp_of (record state { items = items }) i)) (sym last_now) (rise.before i);
  }

  rise : IsRising state.items (last_of k.entity h)
  rise = rising state k.entity h next.stands

  rise_now : IsRising state.items e.tick
  rise_now = rising_later state.items (last_of k.entity h) e.tick (omega (arith, last_before)) rise

  -- an answer that touches nothing
  stands_same : ((i : ℕ) → touch_by k.id i a r ≡ None) → IsItems state k.entity (e ∷ h)
  stands_same none = stands_by state.items rise_now (λ i. ap (λ o. after_touch o e.tick (item_in state i)) (sym (none i)))

  -- an answer after which the key has no item
  stands_gone : ((i : ℕ) → after_touch (touch_by k.id i a r) e.tick (item_in state i) ≡ cond (nat_eq k.id i) None (item_in state i)) → IsItems (after_remove k.id state) k.entity (e ∷ h)
  stands_gone is = stands_by (remove_entry (nat_eq k.id) state.items) (rising_later (remove_entry (nat_eq k.id) state.items) (last_of k.entity h) e.tick (omega (arith, last_before))
      (rising_without state.items (last_of k.entity h) rise k.id))
      (λ i. lookup_gone state.items (last_of k.entity h) rise k.id i ∙ sym (is i))

  -- an answer that stores a row in a new key, and names one that leaves
  lookup_left : (v : Option ℕ) (i : ℕ) → lookup (nat_eq i) (without v state.items) ≡ cond (option_map_or (λ x. x == i) v false) None (item_in state i)
  lookup_left None i = refl
  lookup_left (Some v) i = lookup_gone state.items (last_of k.entity h) rise v i

  rise_left : (v : Option ℕ) → IsRising (without v state.items) (last_of k.entity h)
  rise_left None = rise
  rise_left (Some v) = rising_without state.items (last_of k.entity h) rise v

  none_left : (b : Bool) → ◌≡◌ {A = Option (Row × ℕ)} (cond b None None) None
  none_left true = refl
  none_left false = refl

  stands_new : (row : Row) → item_in state k.id ≡ None → touch_here a r ≡ Some (Touch.Stores row false) → evicted_in r ≡ oldest_in state
      → IsItems (with_new k.id row e.tick state) k.entity (e ∷ h)
  stands_new row absent here left =
      let v = oldest_in state in
      let gone : lookup (nat_eq k.id) (without v state.items) ≡ None = lookup_left v k.id ∙ ap (λ p. cond (option_map_or (λ x. x == k.id) v false) None p) absent ∙ none_left (option_map_or (λ x. x == k.id) v false) in
      stands_by (without v state.items ++ (k.id, (row, e.tick)) ∷ [])
      (rising_push (without v state.items) (last_of k.entity h) (rise_left v) k.id e.tick row gone last_before)
      (λ i. lookup_come (without v state.items) (last_of k.entity h) (rise_left v) k.id e.tick row gone last_before i ∙ ap (λ p. cond (nat_eq k.id i) (Some (row, e.tick)) p) (lookup_left v i)
      ∙ rw (here, left) (by (nat_eq k.id i) (option_map_or (λ x. x == i) v false) (item_in state i)))
    where
      by : (b c : Bool) (p : Option (Row × ℕ)) → cond b (Some (row, e.tick)) (cond c None p) ≡ after_touch (cond b (Some (Touch.Stores row false)) (cond c (Some Touch.Leaves) None)) e.tick p
      by true c p = refl
      by false true p = refl
      by false false p = refl

-- if there is no item, it is as if it had gone
gone_already : (state : ItemsState) (x i : ℕ) → item_in state x ≡ None → item_in state i ≡ cond (nat_eq x i) None (item_in state i)
gone_already state x i absent = by (tested (nat_eq x i))
  where
    by : Tested (nat_eq x i) → item_in state i ≡ cond (nat_eq x i) None (item_in state i)
    by (inl t) = rw t (ap (item_in state) (sym (eqb-true x i t)) ∙ absent)
    by (inr t) = rw t

got_none : (b : Bool) (t : ℕ) (p : Option (Row × ℕ)) → evicted_in (got_item b t p) ≡ None
got_none b t None = refl
got_none b t (Some p) = by (b && nat_le t p.1)
  where
    by : (c : Bool) → evicted_in (cond c (Reply.Miss (Miss.Young p.1)) (Reply.Hit p.0)) ≡ None
    by true = refl
    by false = refl

pub get_grows : GetGrows
get_grows h e state k time b t next =
    stands_same state k h e (Act.Get k time) (got_item b t (item_in state k.id)) next refl refl
    (λ i. quiet k.id i (Act.Get k time) (got_item b t (item_in state k.id)) refl (got_none b t (item_in state k.id)))

pub put_grows : PutGrows
put_grows h e state k row time floor next = by (item_in state k.id) refl
  where
    by : (p : Option (Row × ℕ)) → item_in state k.id ≡ p → IsItems (after_put k.id row e.tick state) k.entity (e ∷ h)
    by None is =
        let r = Reply.Put (Put.Stored (oldest_in state) false) in
        let now : IsNext state k h e (Act.Put k row time floor) r = subst (λ p. IsNext state k h e (Act.Put k row time floor) (Reply.Put (put_item (oldest_in state) p))) is next in
        subst (λ p. IsItems (cond (is_some p) state (with_new k.id row e.tick state)) k.entity (e ∷ h)) (sym is)
        (stands_new state k h e (Act.Put k row time floor) r now refl refl row is refl refl)
    by (Some p) is =
        let r = Reply.Put (Put.Present p.0.version) in
        let now : IsNext state k h e (Act.Put k row time floor) r = subst (λ p. IsNext state k h e (Act.Put k row time floor) (Reply.Put (put_item (oldest_in state) p))) is next in
        subst (λ p. IsItems (cond (is_some p) state (with_new k.id row e.tick state)) k.entity (e ∷ h)) (sym is)
        (stands_same state k h e (Act.Put k row time floor) r now refl refl (λ i. quiet k.id i (Act.Put k row time floor) r refl refl))

pub insert_grows : InsertGrows
insert_grows h e state k row floor next = by (item_in state k.id) refl
  where
    by : (p : Option (Row × ℕ)) → item_in state k.id ≡ p → IsItems (after_put k.id row e.tick state) k.entity (e ∷ h)
    by None is =
        let r = Reply.Inserted (Inserted.Stored (oldest_in state)) in
        let now : IsNext state k h e (Act.AfterInsert k row floor) r = subst (λ p. IsNext state k h e (Act.AfterInsert k row floor) (Reply.Inserted (cond (is_some p) Inserted.Present (Inserted.Stored (oldest_in state))))) is next in
        subst (λ p. IsItems (cond (is_some p) state (with_new k.id row e.tick state)) k.entity (e ∷ h)) (sym is)
        (stands_new state k h e (Act.AfterInsert k row floor) r now refl refl row is refl refl)
    by (Some p) is =
        let r = Reply.Inserted Inserted.Present in
        let now : IsNext state k h e (Act.AfterInsert k row floor) r = subst (λ p. IsNext state k h e (Act.AfterInsert k row floor) (Reply.Inserted (cond (is_some p) Inserted.Present (Inserted.Stored (oldest_in state))))) is next in
        subst (λ p. IsItems (cond (is_some p) state (with_new k.id row e.tick state)) k.entity (e ∷ h)) (sym is)
        (stands_same state k h e (Act.AfterInsert k row floor) r now refl refl (λ i. quiet k.id i (Act.AfterInsert k row floor) r refl refl))

leaves : (b : Bool) (t : Touch) (now : ℕ) (p : Option (Row × ℕ)) → after_touch (Some t) now p ≡ None → after_touch (cond b (Some t) None) now p ≡ cond b None p
leaves true t now p h = h
leaves false t now p h = refl

pub remove_grows : RemoveGrows
remove_grows h e state k next = by (item_in state k.id) refl
  where
    by : (p : Option (Row × ℕ)) → item_in state k.id ≡ p → IsItems (after_remove k.id state) k.entity (e ∷ h)
    by None is =
        stands_gone state k h e (Act.RegionRemove k) Reply.Absent (subst (λ p. IsNext state k h e (Act.RegionRemove k) (cond (is_some p) Reply.Dropped Reply.Absent)) is next) refl refl
        (λ i. ap (λ o. after_touch o e.tick (item_in state i)) (quiet k.id i (Act.RegionRemove k) Reply.Absent refl refl) ∙ gone_already state k.id i is)
    by (Some p) is =
        stands_gone state k h e (Act.RegionRemove k) Reply.Dropped (subst (λ p. IsNext state k h e (Act.RegionRemove k) (cond (is_some p) Reply.Dropped Reply.Absent)) is next) refl refl
        (λ i. leaves (nat_eq k.id i) Touch.Leaves e.tick (item_in state i) refl)

pub evict_grows : EvictGrows
evict_grows h e state k next = by (item_in state k.id) refl
  where
    by : (p : Option (Row × ℕ)) → item_in state k.id ≡ p → IsItems (after_remove k.id state) k.entity (e ∷ h)
    by None is =
        let r = Reply.Evicted Evicted.Absent in
        stands_gone state k h e (Act.Evict k) r (subst (λ p. IsNext state k h e (Act.Evict k) (Reply.Evicted (cond (is_some p) Evicted.Gone Evicted.Absent))) is next) refl refl
        (λ i. ap (λ o. after_touch o e.tick (item_in state i)) (quiet k.id i (Act.Evict k) r refl refl) ∙ gone_already state k.id i is)
    by (Some p) is =
        let r = Reply.Evicted Evicted.Gone in
        stands_gone state k h e (Act.Evict k) r (subst (λ p. IsNext state k h e (Act.Evict k) (Reply.Evicted (cond (is_some p) Evicted.Gone Evicted.Absent))) is next) refl refl
        (λ i. leaves (nat_eq k.id i) Touch.Evicts e.tick (item_in state i) refl)

pub stays : Stays
stays h e state n apart stands = record {
  same = λ i. stands.same i ∙ rw (elsewhere n i h e apart);
  order = stands.order;
  before = λ i. rw apart.part (stands.before i);
}

pub restarts : Restarts
restarts h e state n a = record { same = λ i. rw a; order = tt; before = λ i. tt }

pub begins : Begins
begins capacity n = record { same = λ id. refl; order = tt; before = λ id. tt }
