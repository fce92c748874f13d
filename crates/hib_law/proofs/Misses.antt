-- Each refusal has its cause.
use Rattle.std.specs.Prelude.{is_some}
use Rattle.std.specs.Option.{option_map_or}
use Rattle.std.proofs.Common.{◌≡◌, ℕ, zero, suc, ◌≤◌, ◌⊎◌, inl, inr, Bool, true, false, cond, ◌&&◌, nat_lt, nat_le, List, [], ◌∷◌, ◌++◌, length, Some, None, Option, refl, ap, sym, ◌∙◌, subst, arith}
use Rattle.std.proofs.lemmas.Bool.{and_parts, ltb-false, leb-true}
use Rattle.hib_journal.specs.Types.{Key, Row, Strategy, Checked, Miss, Put, Inserted, Script, Act, Reply, Entry}
use Rattle.hib_base.specs.Tables.{Tables}
use Rattle.hib_journal.specs.Sessions.{Journal}
use Rattle.hib_journal.specs.Slot.{LockState, Slot, slot, history, is_positive}
use Rattle.hib_journal.specs.Room.{item, oldest}
use Rattle.hib_journal.specs.Regions
use Rattle.hib_journal.specs.Regions.{is_below}
use Rattle.hib_journal.specs.Stamps.{stamp, check, check_one}
use Rattle.hib_journal.specs.Results.{Result, last_kept, others, result}
use Rattle.hib_journal.specs.Next.{strategy, capacity, tables_of}
use Rattle.hib_journal.specs.Legal.{IsLegal, IsStep, get_reply, put_reply, insert_reply, room_for}
use Rattle.hib_law.specs.Prefixes.{AtEachEntry}
use Rattle.hib_law.specs.Misses.{MissesSlot, MissesItem, Misses, IsStale, IsGone, SlotRefuses, ItemRefuses, Refuses, RefusesInsert, HasCause}
use Rattle.hib_base.proofs.Tables.{Tested, tested}
use Rattle.hib_law.proofs.Basics.{replied}

same_miss : {m n : Miss} → Reply.Miss m ≡ Reply.Miss n → m ≡ n
same_miss e = cc

-- a read

misses_slot : (z : Slot) (t : ℕ) (m : Miss) → Regions.got z t ≡ Reply.Miss m → MissesSlot z t m
misses_slot Slot.Vacant t m e = subst (λ x. MissesSlot Slot.Vacant t x) (same_miss e) refl
misses_slot (Slot.Item r u) t m e = by_time (tested (nat_lt u t)) e
  where
    by_time : Tested (nat_lt u t) → Regions.got (Slot.Item r u) t ≡ Reply.Miss m → MissesSlot (Slot.Item r u) t m
    by_time (inl p) e = let g : Reply.Hit r ≡ Reply.Miss m = rw p at e in absurd (cc)
    by_time (inr p) e =
        let g : Reply.Miss (Miss.Young u) ≡ Reply.Miss m = rw p at e in
        subst (λ x. MissesSlot (Slot.Item r u) t x) (same_miss g) (r, refl, ltb-false u t p)
misses_slot (Slot.Lock l) t m e = subst (λ x. MissesSlot (Slot.Lock l) t x) (same_miss e) (by_count l.holders refl)
  where
    by_count : (n : ℕ) → l.holders ≡ n → MissesSlot (Slot.Lock l) t (cond (is_positive n) (Miss.Locked n) (Miss.Released l.unlock))
    by_count zero p = (l, refl, p, refl)
    by_count (suc n) p = (l, refl, p, omega arith)

misses_item : (by_time : Bool) (i : Option (Row × ℕ)) (t : ℕ) (m : Miss) → Regions.got_item by_time t i ≡ Reply.Miss m → MissesItem by_time i t m
misses_item by_time None t m e = subst (λ x. MissesItem by_time None t x) (same_miss e) refl
misses_item by_time (Some p) t m e = by_test (tested (by_time && nat_le t p.1)) e
  where
    by_test : Tested (by_time && nat_le t p.1) → Regions.got_item by_time t (Some p) ≡ Reply.Miss m → MissesItem by_time (Some p) t m
    by_test (inl q) e =
        let g : Reply.Miss (Miss.Young p.1) ≡ Reply.Miss m = rw q at e in
        let b : (by_time ≡ true) × (nat_le t p.1 ≡ true) = and_parts by_time (nat_le t p.1) q in
        subst (λ x. MissesItem by_time (Some p) t x) (same_miss g) (b.0, p.0, refl, leb-true t p.1 b.1)
    by_test (inr q) e = let g : Reply.Hit p.0 ≡ Reply.Miss m = rw q at e in absurd (cc)

misses : (g : Strategy) (script : Script) (h : Journal) (k : Key) (t : ℕ) (m : Miss) → get_reply g script h k t ≡ Reply.Miss m → Misses g script h k t m
misses Strategy.ReadWrite script h k t m e = misses_slot (slot script.timeout k h) t m e
misses Strategy.ReadOnly script h k t m e = misses_item true (item (history k h)) t m e
misses Strategy.Nonstrict script h k t m e = misses_item false (item (history k h)) t m e
misses Strategy.Uncached script h k t m e = misses_item false (item (history k h)) t m e

-- a list

same_stale : {n m v w : ℕ} → Checked.Stale n v ≡ Checked.Stale m w → (n ≡ m) × (v ≡ w)
same_stale e = (cc, cc)

-- the first table that is stale
pub record IsFirst (timeout : ℕ) (h : Journal) (t : ℕ) (ts : List ℕ) (n v : ℕ) : Type 0 where
  pub before : List ℕ
  pub after : List ℕ
  pub split : ts ≡ before ++ n ∷ after
  pub fresh : check timeout t before h ≡ Checked.Fresh
  pub stamp : stamp timeout n h ≡ Some v
  pub late : t ≤ v

first_stale : (timeout : ℕ) (h : Journal) (t : ℕ) (ts : List ℕ) (n v : ℕ) → check timeout t ts h ≡ Checked.Stale n v → IsFirst timeout h t ts n v
first_stale timeout h t [] n v e = absurd (cc)
first_stale timeout h t (x ∷ ts) n v e = by_stamp (stamp timeout x h) refl e (first_stale timeout h t ts n v)
  where
    later : check timeout t (x ∷ []) h ≡ Checked.Fresh → ((bs : List ℕ) → check timeout t bs h ≡ Checked.Fresh → check timeout t (x ∷ bs) h ≡ Checked.Fresh) →
        IsFirst timeout h t ts n v → IsFirst timeout h t (x ∷ ts) n v
    later p f i = record { before = x ∷ i.before; after = i.after; split = ap (λ ys. x ∷ ys) i.split; fresh = f i.before i.fresh; stamp = i.stamp; late = i.late }

    by_time : (u : ℕ) → stamp timeout x h ≡ Some u → Tested (nat_lt u t) → check_one t x (Some u) (check timeout t ts h) ≡ Checked.Stale n v →
        (check timeout t ts h ≡ Checked.Stale n v → IsFirst timeout h t ts n v) → IsFirst timeout h t (x ∷ ts) n v
    by_time u p (inl q) e i =
        let g : check timeout t ts h ≡ Checked.Stale n v = rw q at e in
        later (rw (p, q) refl) (λ bs z. rw (p, q) z) (i g)
    by_time u p (inr q) e i =
        let g : Checked.Stale x u ≡ Checked.Stale n v = rw q at e in
        let s : (x ≡ n) × (u ≡ v) = same_stale g in
        record {
          before = [];
          after = ts;
          split = ap (λ y. y ∷ ts) s.0;
          fresh = refl;
          stamp = subst (λ y. stamp timeout y h ≡ Some v) s.0 (p ∙ ap (λ w. Some w) s.1);
          late = subst (λ w. t ≤ w) s.1 (ltb-false u t q);
        }

    by_stamp : (o : Option ℕ) → stamp timeout x h ≡ o → check_one t x (stamp timeout x h) (check timeout t ts h) ≡ Checked.Stale n v →
        (check timeout t ts h ≡ Checked.Stale n v → IsFirst timeout h t ts n v) → IsFirst timeout h t (x ∷ ts) n v
    by_stamp None p e i = let g : check timeout t ts h ≡ Checked.Stale n v = rw p at e in later (rw p refl) (λ bs z. rw p z) (i g)
    by_stamp (Some u) p e i = by_time u p (tested (nat_lt u t)) (rw p at e) i

is_stale : (script : Script) (h : Journal) (q t n v : ℕ) → Reply.Check (check script.timeout t (tables_of script q) h) ≡ Reply.Check (Checked.Stale n v) → IsStale script h q t n v
is_stale script h q t n v e =
    let i : IsFirst script.timeout h t (tables_of script q) n v = first_stale script.timeout h t (tables_of script q) n v (same e) in
    (i.before, i.after, i.split, i.fresh, i.stamp, i.late)
  where
    same : {c d : Checked} → Reply.Check c ≡ Reply.Check d → c ≡ d
    same e = cc

is_gone : (script : Script) (h : Journal) (q : ℕ) → option_map_or (λ r. Reply.Found r.0 r.1) (result script.results q h) Reply.Absent ≡ Reply.Absent → IsGone script h q
unfolding result
is_gone script h q e = by_room (tested (nat_lt (length (others q h)) script.results)) e
  where
    by_kept : (o : Option Result) → last_kept q h ≡ o → option_map_or (λ r. Reply.Found r.0 r.1) o Reply.Absent ≡ Reply.Absent → IsGone script h q
    by_kept None p e = inl p
    by_kept (Some r) p e = absurd (cc)

    by_room : Tested (nat_lt (length (others q h)) script.results) → option_map_or (λ r. Reply.Found r.0 r.1) (cond (nat_lt (length (others q h)) script.results) (last_kept q h) None) Reply.Absent ≡ Reply.Absent → IsGone script h q
    by_room (inl p) e = let g : option_map_or (λ r. Reply.Found r.0 r.1) (last_kept q h) Reply.Absent ≡ Reply.Absent = rw p at e in by_kept (last_kept q h) refl g
    by_room (inr p) e = inr (ltb-false (length (others q h)) script.results p)

-- a row that is not taken

module _ (room : Option (Option ℕ)) (t : ℕ) (w : Option ℕ) where
  item_refuses : (r : Row) (u : ℕ) (p : Put) → Tested (is_below r.version w) → Regions.put (Slot.Item r u) room t w ≡ p → SlotRefuses (Slot.Item r u) room t w p
  item_refuses r u p (inl b) e = let g : Put.Stored None false ≡ p = rw b at e in subst (λ x. SlotRefuses (Slot.Item r u) room t w x) g tt
  item_refuses r u p (inr b) e =
      let g : Put.Present r.version ≡ p = rw b at e in subst (λ x. SlotRefuses (Slot.Item r u) room t w x) g (r, u, refl, refl, b)

  -- a lock that nobody holds
  early : (l : LockState) → l.holders ≡ 0 → (l.version ≡ None) ⊎ (l.shared ≡ true) → Tested (nat_lt l.unlock t) →
      SlotRefuses (Slot.Lock l) room t w (cond (nat_lt l.unlock t) (Put.Stored None false) (Put.Early l.unlock))
  early l z v (inl b) = rw b tt
  early l z v (inr b) = rw b (l, refl, z, refl, ltb-false l.unlock t b, v)

  old : (l : LockState) (v : ℕ) → l.holders ≡ 0 → l.version ≡ Some v → l.shared ≡ false → Tested (is_below (Some v) w) →
      SlotRefuses (Slot.Lock l) room t w (cond (is_below (Some v) w) (Put.Stored None false) (Put.Old v))
  old l v z p q (inl b) = rw b tt
  old l v z p q (inr b) = rw b (l, refl, z, q, p, b)

  free_refuses : (l : LockState) → l.holders ≡ 0 → (v : Option ℕ) → l.version ≡ v → (x : Bool) → l.shared ≡ x → SlotRefuses (Slot.Lock l) room t w (Regions.free_answer l v x t w)
  free_refuses l z None p true q = early l z (inl p) (tested (nat_lt l.unlock t))
  free_refuses l z None p false q = early l z (inl p) (tested (nat_lt l.unlock t))
  free_refuses l z (Some v) p true q = early l z (inr q) (tested (nat_lt l.unlock t))
  free_refuses l z (Some v) p false q = old l v z p q (tested (is_below (Some v) w))

  lock_refuses : (l : LockState) → SlotRefuses (Slot.Lock l) room t w (Regions.lock_answer l t w)
  lock_refuses l = by_time (tested (nat_lt l.timeout t))
    where
      by_count : t ≤ l.timeout → (n : ℕ) → l.holders ≡ n →
          SlotRefuses (Slot.Lock l) room t w (cond (is_positive n) (Put.Held n) (Regions.free_answer l l.version l.shared t w))
      by_count b zero p = free_refuses l p l.version refl l.shared refl
      by_count b (suc n) p = (l, refl, p, omega arith, b)

      by_time : Tested (nat_lt l.timeout t) → SlotRefuses (Slot.Lock l) room t w (Regions.lock_answer l t w)
      by_time (inl b) = rw b tt
      by_time (inr b) = rw b (by_count (ltb-false l.timeout t b) l.holders refl)

slot_refuses : (z : Slot) (room : Option (Option ℕ)) (t : ℕ) (w : Option ℕ) (p : Put) → Regions.put z room t w ≡ p → SlotRefuses z room t w p
slot_refuses Slot.Vacant None t w p e = subst (λ x. SlotRefuses Slot.Vacant None t w x) e (refl, refl)
slot_refuses Slot.Vacant (Some v) t w p e = subst (λ x. SlotRefuses Slot.Vacant (Some v) t w x) e tt
slot_refuses (Slot.Item r u) room t w p e = item_refuses room t w r u p (tested (is_below r.version w)) e
slot_refuses (Slot.Lock l) room t w p e = subst (λ x. SlotRefuses (Slot.Lock l) room t w x) e (lock_refuses room t w l)

weak_refuses : (i : Option (Row × ℕ)) (v : Option ℕ) (p : Put) → Regions.put_item v i ≡ p → ItemRefuses i p
weak_refuses None v p e = subst (λ x. ItemRefuses None x) e tt
weak_refuses (Some i) v p e = subst (λ x. ItemRefuses (Some i) x) e (i.0, i.1, refl, refl)

same_put : {p q : Put} → Reply.Put p ≡ Reply.Put q → p ≡ q
same_put e = cc

refuses : (g : Strategy) (script : Script) (h : Journal) (k : Key) (r : Row) (t f : ℕ) (p : Put) → put_reply g script h k r t f ≡ Reply.Put p → Refuses g script h k r t f p
refuses Strategy.ReadWrite script h k r t f p e = slot_refuses (slot script.timeout k h) (room_for script h k f) t r.version p (same_put e)
refuses Strategy.ReadOnly script h k r t f p e = weak_refuses (item (history k h)) (oldest (capacity script k.entity) k.entity h) p (same_put e)
refuses Strategy.Nonstrict script h k r t f p e = weak_refuses (item (history k h)) (oldest (capacity script k.entity) k.entity h) p (same_put e)
refuses Strategy.Uncached script h k r t f p e = weak_refuses (item (history k h)) (oldest (capacity script k.entity) k.entity h) p (same_put e)

same_inserted : {p q : Inserted} → Reply.Inserted p ≡ Reply.Inserted q → p ≡ q
same_inserted e = cc

module _ (script : Script) (h : Journal) (k : Key) (f : ℕ) where
  slot_insert : (z : Slot) → slot script.timeout k h ≡ z → (room : Option (Option ℕ)) → room_for script h k f ≡ room →
      RefusesInsert Strategy.ReadWrite script h k f (Regions.after_insert z room)
  slot_insert Slot.Vacant p None q = (p, q)
  slot_insert Slot.Vacant p (Some v) q = tt
  slot_insert (Slot.Item r t) p room q = rw p refl
  slot_insert (Slot.Lock l) p room q = rw p refl

  weak_insert : (g : Strategy) (i : Option (Row × ℕ)) → item (history k h) ≡ i → (v : Option ℕ) → (g ≡ Strategy.ReadWrite → ⊥) →
      RefusesInsert g script h k f (cond (is_some i) Inserted.Present (Inserted.Stored v))
  weak_insert g None p v n = tt
  weak_insert Strategy.ReadWrite (Some i) p v n = absurd (n refl)
  weak_insert Strategy.ReadOnly (Some i) p v n = rw p refl
  weak_insert Strategy.Nonstrict (Some i) p v n = rw p refl
  weak_insert Strategy.Uncached (Some i) p v n = rw p refl

  refuses_insert : (g : Strategy) (i : Inserted) → insert_reply g script h k f ≡ Reply.Inserted i → RefusesInsert g script h k f i
  refuses_insert Strategy.ReadWrite i e =
      subst (λ x. RefusesInsert Strategy.ReadWrite script h k f x) (same_inserted e) (slot_insert (slot script.timeout k h) refl (room_for script h k f) refl)
  refuses_insert Strategy.ReadOnly i e =
      subst (λ x. RefusesInsert Strategy.ReadOnly script h k f x) (same_inserted e) (weak_insert Strategy.ReadOnly (item (history k h)) refl _ (λ x. cc))
  refuses_insert Strategy.Nonstrict i e =
      subst (λ x. RefusesInsert Strategy.Nonstrict script h k f x) (same_inserted e) (weak_insert Strategy.Nonstrict (item (history k h)) refl _ (λ x. cc))
  refuses_insert Strategy.Uncached i e =
      subst (λ x. RefusesInsert Strategy.Uncached script h k f x) (same_inserted e) (weak_insert Strategy.Uncached (item (history k h)) refl _ (λ x. cc))

module _ (script : Script) (start : Tables) where
  has_cause : (h : Journal) (e : Entry) → IsStep script (Some start) h e → HasCause script h e
  has_cause h e t = record {
    get = λ k u m p q. misses (strategy script k.entity) script h k u m (sym (replied script start h e (Act.Get k u) t.reply p (λ cs. refl)) ∙ q);
    check = λ d u n v p q. is_stale script h d u n v (sym (replied script start h e (Act.Check d u) t.reply p (λ cs. refl)) ∙ q);
    look = λ d p q. is_gone script h d (sym (replied script start h e (Act.Look d) t.reply p (λ cs. refl)) ∙ q);
    put = λ k r u f x p q. refuses (strategy script k.entity) script h k r u f x (sym (replied script start h e (Act.Put k r u f) t.reply p (λ cs. refl)) ∙ q);
    insert = λ k r f i p q. refuses_insert script h k f (strategy script k.entity) i (sym (replied script start h e (Act.AfterInsert k r f) t.reply p (λ cs. refl)) ∙ q);
  }

  pub have_causes : (h : Journal) → IsLegal script (Some start) h → AtEachEntry (HasCause script) h
  have_causes [] l = tt
  have_causes (e ∷ h) l = (has_cause h e l.1, have_causes h l.0)
