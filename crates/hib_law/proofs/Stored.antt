-- Whatever the strategy, and of unsound keys too: a row that is stored was committed since the restart.
use Rattle.std.specs.Prelude.{option_and_then}
use Rattle.std.specs.Option.{option_map_or}
use Rattle.std.proofs.Common.{◌≡◌, ℕ, zero, suc, inl, inr, Bool, true, false, [], ◌∷◌, Some, None, Option, refl, ap, sym, ◌∙◌, subst}
use Rattle.std.proofs.lemmas.Bool.{true≢false, false≢true}
use Rattle.hib_journal.specs.Types.{Key, Row, Change, Put, Unlocked, Inserted, Updated, Evicted, Script, Act, Reply, Entry}
use Rattle.hib_base.specs.Tables.{Tables, row_at, last_on, row_left}
use Rattle.hib_journal.specs.Sessions.{Journal, is_by, own, changes, changes_in, changes_after, is_open, is_restart, committed, view}
use Rattle.hib_journal.specs.Slot.{Touch, Base, History, Slot, slot_from, slot_of, base, locks, stretch, history, touch, touch_here, key_in, touch_at}
use Rattle.hib_journal.specs.Room.{item}
use Rattle.hib_journal.specs.Held.{is_begin}
use Rattle.hib_journal.specs.Next.{is_in}
use Rattle.hib_journal.specs.Legal.{IsLegal, IsStep, is_outside}
use Rattle.hib_journal.specs.Sound.{up_to}
use Rattle.hib_journal.specs.Coherence.{is_done, done_in, done_after, last_row}
use Rattle.hib_law.specs.Prefixes.{AtEachPrefix}
use Rattle.hib_law.specs.Rows.{WasCommitted}
use Rattle.hib_law.specs.Items.{IsItemOld}
use Rattle.hib_base.proofs.Tables.{Tested, tested, left_by, row_at_changes}
use Rattle.hib_journal.proofs.Sessions.{is_some_session}
use Rattle.hib_law.proofs.Touches.{here_or_victim}
use Rattle.hib_law.proofs.Coherent.{open_before, closed}
use Rattle.hib_journal.specs.Sessions.{is_begun}
use Rattle.hib_journal.proofs.Open.{begun_open}
use Rattle.hib_law.proofs.Orderly.{Kind, kind, Doer, doer}
use Rattle.hib_law.proofs.Whole.{view_unchanged, loaded_by}
use Rattle.hib_law.proofs.StoreRules.{MayPut, MayStore, AllowedStore, allowed_store}
use Rattle.hib_law.proofs.Past.{IsPast, up_own, legal_past}
use Rattle.hib_law.proofs.Basics.{none_some, some_same}

-- which acts store a row

pub data Gives (r : Row) (a : Act) : Type 0 where
  ByPut : (j : Key) (t f : ℕ) → a ≡ Act.Put j r t f → Gives r a
  ByInsert : (j : Key) (f : ℕ) → a ≡ Act.AfterInsert j r f → Gives r a
  ByUpdate : (j : Key) (i : ℕ) → a ≡ Act.AfterUpdate j i r → Gives r a

same_row : {x r : Row} {l m : Bool} → Touch.Stores x l ≡ Touch.Stores r m → x ≡ r
same_row e = cc

stores_here : (r : Row) (late : Bool) (a : Act) (d : Reply) → touch_here a d ≡ Some (Touch.Stores r late) → Gives r a
stores_here r late (Act.Put j x t f) (Reply.Put (Put.Stored v l)) e = Gives.ByPut j t f (ap (λ z. Act.Put j z t f) (same_row (some_same e)))
stores_here r late (Act.AfterInsert j x f) (Reply.Inserted (Inserted.Stored v)) e = Gives.ByInsert j f (ap (λ z. Act.AfterInsert j z f) (same_row (some_same e)))
stores_here r late (Act.AfterUpdate j i x) (Reply.Updated Updated.Stored) e = Gives.ByUpdate j i (ap (λ z. Act.AfterUpdate j i z) (same_row (some_same e)))
stores_here r late (Act.AfterUpdate j i x) (Reply.Updated (Updated.Shared n)) e = let g : Touch.Releases n ≡ Touch.Stores r late = some_same e in absurd (cc)
stores_here r late (Act.AfterUpdate j i x) (Reply.Updated Updated.Expired) e = let g : Touch.Expires ≡ Touch.Stores r late = some_same e in absurd (cc)
stores_here r late (Act.Lock j v f) (Reply.Locked l) e = let g : Touch.Locks v ≡ Touch.Stores r late = some_same e in absurd (cc)
stores_here r late (Act.Unlock j i) (Reply.Unlocked (Unlocked.Released n)) e = let g : Touch.Releases n ≡ Touch.Stores r late = some_same e in absurd (cc)
stores_here r late (Act.Unlock j i) (Reply.Unlocked Unlocked.Expired) e = let g : Touch.Expires ≡ Touch.Stores r late = some_same e in absurd (cc)
stores_here r late (Act.Evict j) (Reply.Evicted Evicted.Gone) e = let g : Touch.Evicts ≡ Touch.Stores r late = some_same e in absurd (cc)
stores_here r late (Act.RegionRemove j) Reply.Dropped e = let g : Touch.Leaves ≡ Touch.Stores r late = some_same e in absurd (cc)
stores_here r late _ _ e = none_some e

pub data StoredBy (k : Key) (r : Row) (a : Act) : Type 0 where
  ByPut : (t f : ℕ) → a ≡ Act.Put k r t f → StoredBy k r a
  ByInsert : (f : ℕ) → a ≡ Act.AfterInsert k r f → StoredBy k r a
  ByUpdate : (i : ℕ) → a ≡ Act.AfterUpdate k i r → StoredBy k r a

stored_by : (k : Key) (r : Row) (late : Bool) (a : Act) (d : Reply) → option_and_then (λ j. touch_at k j a d) (key_in a) ≡ Some (Touch.Stores r late) → StoredBy k r a
stored_by k r late a d e = by_key (key_in a) refl e
  where
    named : (j : Key) → key_in a ≡ Some j → j ≡ k → Gives r a → StoredBy k r a
    named j p q (Gives.ByPut i t f x) =
        let y : Some i ≡ Some j = ap key_in (sym x) ∙ p in StoredBy.ByPut t f (x ∙ ap (λ z. Act.Put z r t f) (some_same y ∙ q))
    named j p q (Gives.ByInsert i f x) =
        let y : Some i ≡ Some j = ap key_in (sym x) ∙ p in StoredBy.ByInsert f (x ∙ ap (λ z. Act.AfterInsert z r f) (some_same y ∙ q))
    named j p q (Gives.ByUpdate i n x) =
        let y : Some i ≡ Some j = ap key_in (sym x) ∙ p in StoredBy.ByUpdate n (x ∙ ap (λ z. Act.AfterUpdate z n r) (some_same y ∙ q))

    not_leaves : Touch.Stores r late ≡ Touch.Leaves → ⊥
    not_leaves x = cc

    by_key : (o : Option Key) → key_in a ≡ o → option_and_then (λ j. touch_at k j a d) o ≡ Some (Touch.Stores r late) → StoredBy k r a
    by_key None p e = none_some e
    by_key (Some j) p e = elim (here_or_victim k j a d (Touch.Stores r late) e) [
      | inl x ↦ named j p x.0 (stores_here r late a d x.1)
      | inr x ↦ absurd (not_leaves x.2)
    ]

module _ (script : Script) (start : Tables) (k : Key) where
  was_now : (r : Row) (h : Journal) → row_at (committed start h) k ≡ Some r → WasCommitted start k r h
  was_now r [] e = e
  was_now r (e ∷ h) p = inl p

  was_past : (r : Row) (g h : Journal) → IsPast g h → row_at (committed start g) k ≡ Some r → WasCommitted start k r h
  was_past r g [] p e = subst (λ z. row_at (committed start z) k ≡ Some r) p e
  was_past r g (d ∷ h) (inl q) e = inl (subst (λ z. row_at (committed start z) k ≡ Some r) q e)
  was_past r g (d ∷ h) (inr q) e = inr (q.0, was_past r g h q.1 e)

  load_same : (v : Entry) (g : Journal) → v.act ≡ Act.Load k → committed start (v ∷ g) ≡ committed start g
  load_same v g p = rw p refl

  -- what the last change of a session that has committed left was committed
  done_old : (s : ℕ) (r : Row) (h : Journal) → IsLegal script (Some start) h → is_open s h ≡ true → is_done s h ≡ true → last_row k s h ≡ Some r → WasCommitted start k r h
  done_old s r [] l o d q = absurd (false≢true d)
  done_old s r (e ∷ h) l o d q = by_restart (tested (is_restart e.act)) (done_old s r h l.0)
    where
      IH : Type 0
      IH = is_open s h ≡ true → is_done s h ≡ true → last_row k s h ≡ Some r → WasCommitted start k r h

      left_some : (o : Option Change) (x : Option Row) → option_and_then row_left o ≡ Some r → left_by o x ≡ Some r
      left_some None x p = none_some p
      left_some (Some c) x p = p

      begin_not : (a : Act) (r : Reply) (d : Bool) → is_begin a ≡ true → done_after a r d ≡ false
      begin_not Act.Begin r d p = refl
      begin_not _ r d p = absurd (false≢true p)

      mine : is_restart e.act ≡ false → is_by s e ≡ true → e.session ≡ Some s → AllowedStore (own s h) e.act → Kind e.act e.reply → IH → WasCommitted start k r (e ∷ h)
      mine n p w a (Kind.Begins x) i = let g : false ≡ true = rw (p, x) at d in absurd (false≢true g)
      mine n p w a (Kind.Writes c x) i =
          let g : is_done s h ≡ true = rw (p, x) at d in
          let f : is_done s h ≡ false = subst (λ y. AllowedStore (own s h) y) x a in
          absurd (true≢false (sym g ∙ f))
      mine n p w a (Kind.Commits x y) i =
          let g : option_and_then row_left (last_on k (changes s h)) ≡ Some r = rw (p, x) at q in
          let c : row_at (committed start (e ∷ h)) k ≡ left_by (last_on k (changes s h)) (row_at (committed start h) k) =
          rw (x, y, w) (row_at_changes (changes s h) (committed start h) k) in
          inl (c ∙ left_some (last_on k (changes s h)) (row_at (committed start h) k) g)
      mine n p w a (Kind.Other x y z) i = by_begin (tested (is_begin e.act))
        where
          by_begin : Tested (is_begin e.act) → WasCommitted start k r (e ∷ h)
          by_begin (inl b) =
              let g : done_after e.act e.reply (done_in (own s h)) ≡ true = rw p at d in
              absurd (false≢true (sym (begin_not e.act e.reply (done_in (own s h)) b) ∙ g))
          by_begin (inr b) =
              let g : done_after e.act e.reply (done_in (own s h)) ≡ true = rw p at d in
              let f : option_and_then row_left (last_on k (changes_after e.act (changes_in (own s h)))) ≡ Some r = rw p at q in
              let g2 : is_done s h ≡ true = sym (x (done_in (own s h))) ∙ g in
              let f2 : last_row k s h ≡ Some r = sym (ap (λ cs. option_and_then row_left (last_on k cs)) (y (changes_in (own s h)))) ∙ f in
              inr (n, i (open_before s e.session e.act (is_open s h) (rw (p, b) refl) o) g2 f2)

      by_session : is_restart e.act ≡ false → Tested (is_by s e) → IH → WasCommitted start k r (e ∷ h)
      by_session n (inr p) i =
          let g : is_done s h ≡ true = rw p at d in
          let f : last_row k s h ≡ Some r = rw p at q in
          inr (n, i (open_before s e.session e.act (is_open s h) (rw p refl) o) g f)
      by_session n (inl p) i =
          mine n p (is_some_session s e.session p) (allowed_store script start s h e l.0 l.1 p) (kind e.act e.reply) i

      by_restart : Tested (is_restart e.act) → IH → WasCommitted start k r (e ∷ h)
      by_restart (inl x) i = absurd (closed s e.session e.act (is_open s h) x o)
      by_restart (inr n) i = by_session n (tested (is_by s e)) i

  -- a row that is stored was committed since the restart
  pub stored_old : (h : Journal) (e : Entry) (r : Row) (late : Bool) → IsLegal script (Some start) h → IsStep script (Some start) h e → touch k e ≡ Some (Touch.Stores r late) →
      WasCommitted start k r h
  stored_old h e r late l t x = by_doer (doer script start h e t) (stored_by k r late e.act e.reply x)
    where
      outside_not : {P : Type 0} (a : Act) → e.act ≡ a → is_outside a ≡ false → is_outside e.act ≡ true → P
      outside_not a p n q = absurd (false≢true (sym n ∙ (ap is_outside (sym p) ∙ q)))

      by_doer : Doer script h e → StoredBy k r e.act → WasCommitted start k r h
      by_doer (Doer.Outside c q) (StoredBy.ByPut u f p) = outside_not (Act.Put k r u f) p refl q
      by_doer (Doer.Outside c q) (StoredBy.ByInsert f p) = outside_not (Act.AfterInsert k r f) p refl q
      by_doer (Doer.Outside c q) (StoredBy.ByUpdate i p) = outside_not (Act.AfterUpdate k i r) p refl q
      by_doer (Doer.Session s c b w) (StoredBy.ByPut u f p) =
          put_old (own s h) refl (subst (λ a. AllowedStore (own s h) a) p (allowed_store script start s h e l t b))
        where
          put_old : (m : Journal) → own s h ≡ m → MayPut m k r → WasCommitted start k r h
          put_old [] o z = absurd z
          put_old (v ∷ m) o z =
              let y : is_begun (own s h) ≡ true = rw (o, z.0) (z.3) in
              let i : is_open s h ≡ true = begun_open s h w ∙ y in
              let g : (f : Journal) × (up_to (is_by s) h ≡ v ∷ f) × (own s f ≡ m) × IsPast (v ∷ f) h × (is_by s v ≡ true) = up_own s v m h i o in
              let lv : IsLegal script (Some start) (v ∷ g.0) = legal_past script start (v ∷ g.0) h g.3 l in
              let n : is_in k (changes s g.0) ≡ false = subst (λ d. is_in k (changes_in d) ≡ false) (sym g.2) z.2 in
              let a : Some r ≡ view start g.0 s k = loaded_by script start k g.0 v s (Some r) lv.1.reply (is_some_session s v.session g.4) z.0 z.1 in
              let q : row_at (committed start g.0) k ≡ Some r = sym (view_unchanged start g.0 s k n) ∙ sym a in
              let q2 : row_at (committed start (v ∷ g.0)) k ≡ Some r = ap (λ x. row_at x k) (load_same v g.0 z.0) ∙ q in
              was_past r (v ∷ g.0) h g.3 q2
      by_doer (Doer.Session s c b w) (StoredBy.ByInsert f p) =
          let a : MayStore (own s h) k r = subst (λ a. AllowedStore (own s h) a) p (allowed_store script start s h e l t b) in
          done_old s r h l (begun_open s h w ∙ a.0) a.1 a.2
      by_doer (Doer.Session s c b w) (StoredBy.ByUpdate i p) =
          let a : MayStore (own s h) k r = subst (λ a. AllowedStore (own s h) a) p (allowed_store script start s h e l t b) in
          done_old s r h l (begun_open s h w ∙ a.0) a.1 a.2

  -- of all that a history stores
  abbrev AllOld : Journal → History → Type 0
  AllOld h [] = Unit {0}
  AllOld h ((Touch.Stores r late, t) ∷ s) = WasCommitted start k r h × AllOld h s
  AllOld h ((_, t) ∷ s) = AllOld h s

  old_on : (h : Journal) (e : Entry) (s : History) → is_restart e.act ≡ false → AllOld h s → AllOld (e ∷ h) s
  old_on h e [] n a = tt
  old_on h e ((Touch.Stores r late, t) ∷ s) n a = (inr (n, a.0), old_on h e s n a.1)
  old_on h e ((Touch.Locks v, t) ∷ s) n a = old_on h e s n a
  old_on h e ((Touch.Releases m, t) ∷ s) n a = old_on h e s n a
  old_on h e ((Touch.Evicts, t) ∷ s) n a = old_on h e s n a
  old_on h e ((Touch.Expires, t) ∷ s) n a = old_on h e s n a
  old_on h e ((Touch.Leaves, t) ∷ s) n a = old_on h e s n a

  all_old : (h : Journal) → IsLegal script (Some start) h → AllOld h (history k h)
  all_old [] l = tt
  all_old (e ∷ h) l = by_restart (tested (is_restart e.act)) (all_old h l.0)
    where
      with_one : is_restart e.act ≡ false → (o : Option Touch) → touch k e ≡ o → AllOld h (history k h) → AllOld (e ∷ h) (option_map_or (λ t. (t, e.tick) ∷ (history k h)) o (history k h))
      with_one n None p a = old_on h e (history k h) n a
      with_one n (Some (Touch.Stores r late)) p a = (inr (n, stored_old h e r late l.0 l.1 p), old_on h e (history k h) n a)
      with_one n (Some (Touch.Locks v)) p a = old_on h e (history k h) n a
      with_one n (Some (Touch.Releases m)) p a = old_on h e (history k h) n a
      with_one n (Some Touch.Evicts) p a = old_on h e (history k h) n a
      with_one n (Some Touch.Expires) p a = old_on h e (history k h) n a
      with_one n (Some Touch.Leaves) p a = old_on h e (history k h) n a

      by_restart : Tested (is_restart e.act) → AllOld h (history k h) → AllOld (e ∷ h) (history k (e ∷ h))
      by_restart (inl r) a = rw r tt
      by_restart (inr n) a = rw n (with_one n (touch k e) refl a)

  stored_base : (h : Journal) (r : Row) (t : ℕ) (s : History) → base s ≡ Base.Stored r t → AllOld h s → WasCommitted start k r h
  stored_base h r t [] e a = absurd (cc)
  stored_base h r t ((Touch.Stores x late, u) ∷ s) e a = let g : x ≡ r = cc in subst (λ z. WasCommitted start k z h) g a.0
  stored_base h r t ((Touch.Locks v, u) ∷ s) e a = stored_base h r t s e a
  stored_base h r t ((Touch.Releases m, u) ∷ s) e a = stored_base h r t s e a
  stored_base h r t ((Touch.Evicts, u) ∷ s) e a = absurd (cc)
  stored_base h r t ((Touch.Expires, u) ∷ s) e a = absurd (cc)
  stored_base h r t ((Touch.Leaves, u) ∷ s) e a = absurd (cc)

  item_base : (timeout : ℕ) (r : Row) (t : ℕ) (s : History) → slot_from timeout s ≡ Slot.Item r t → base s ≡ Base.Stored r t
  unfolding slot_from
  item_base timeout r t s e = by_base (base s) (locks (stretch s)) e
    where
      by_base : (b : Base) (n : ℕ) → slot_of timeout b n (stretch s) ≡ Slot.Item r t → b ≡ Base.Stored r t
      by_base Base.Nothing zero e = absurd (cc)
      by_base Base.Nothing (suc n) e = absurd (cc)
      by_base (Base.Stored x u) zero e = let g : x ≡ r = cc in let f : u ≡ t = cc in ap (λ z. Base.Stored z u) g ∙ ap (λ z. Base.Stored r z) f
      by_base (Base.Stored x u) (suc n) e = absurd (cc)
      by_base (Base.Barred u x) zero e = absurd (cc)
      by_base (Base.Barred u x) (suc n) e = absurd (cc)

  item_old : (h : Journal) (r : Row) (t : ℕ) (s : History) → item s ≡ Some (r, t) → AllOld h s → WasCommitted start k r h
  item_old h r t [] e a = none_some e
  item_old h r t ((Touch.Stores x late, u) ∷ s) e a = subst (λ z. WasCommitted start k z h) (ap (λ z. z.0) (some_same e)) a.0
  item_old h r t ((Touch.Leaves, u) ∷ s) e a = none_some e
  item_old h r t ((Touch.Evicts, u) ∷ s) e a = none_some e
  item_old h r t ((Touch.Locks v, u) ∷ s) e a = item_old h r t s e a
  item_old h r t ((Touch.Releases m, u) ∷ s) e a = item_old h r t s e a
  item_old h r t ((Touch.Expires, u) ∷ s) e a = item_old h r t s e a

  pub is_item_old : (h : Journal) → IsLegal script (Some start) h → IsItemOld script start k h
  is_item_old h l = record {
    slot = λ r t e. stored_base h r t (history k h) (item_base script.timeout r t (history k h) e) (all_old h l);
    item = λ r t e. item_old h r t (history k h) e (all_old h l);
  }

  pub items_old : (h : Journal) → IsLegal script (Some start) h → AtEachPrefix (IsItemOld script start k) h
  items_old [] l = is_item_old [] l
  items_old (e ∷ h) l = (is_item_old (e ∷ h) l, items_old h l.0)
