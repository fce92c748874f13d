-- The committed rows and the counts of a journal are those of the store's list.
use Rattle.std.specs.Prelude.{is_some, unwrap_or}
use Rattle.std.specs.Option.{option_map_or}
use Rattle.std.proofs.Common.{◌≡◌, ℕ, ◌+◌, ◌&&◌, ◌||◌, nat_le, inl, inr, Bool, true, false, cond, List, [], ◌∷◌, Some, None, Option, refl, sym, ap, ◌∙◌, subst, arith, nat_lt}
use Rattle.std.proofs.lemmas.Bool.{true≢false, or_parts}
use Rattle.hib_base.specs.Tables.{Tables}
use Rattle.hib_journal.specs.Types.{Key, Row, Change, Miss, Strategy, Script, Part, Act, Reply, Entry}
use Rattle.hib_journal.specs.Sessions.{Journal, own, changes, same_part}
use Rattle.hib_journal.specs.Slot.{Slot, history, slot}
use Rattle.hib_journal.specs.Room.{item}
use Rattle.hib_journal.specs.Regions
use Rattle.hib_journal.specs.Results.{Result, result}
use Rattle.hib_journal.specs.Held.{held}
use Rattle.hib_journal.specs.Next.{strategy, is_in}
use Rattle.hib_journal.specs.Runs.{asks, ask_count, is_fault, fault_count}
use Rattle.hib_journal.specs.Legal.{row_of, set_unless, get_reply, put_reply, insert_reply, evict_reply, reply_of, fault_of, is_told, part_of, IsAnswer, IsReply, IsLegal}
use Rattle.hib_journal.specs.Due.{asks_store}
use Rattle.hib_journal.specs.Lists.{of_part, stops, seen_by, unsaved}
use Rattle.hib_split_law.specs.Apart.{HaveSessions, store_ask_count, IsStoreAlone}
use Rattle.hib_split_law.proofs.Local.{AllFit, unsaved_local, committed_local}
use Rattle.hib_split_law.proofs.Apart.{seen_part, all_legal, inner_legal}

-- how often the keeper may be asked

asks_skip : (a : Act) (s : ℕ) (cs : List Change) → same_part Part.Store (part_of a s) ≡ false → asks cs a ≡ false
asks_skip (Act.Load k) s cs p = absurd (true≢false p)
asks_skip (Act.List q) s cs p = absurd (true≢false p)
asks_skip _ s cs p = refl

asks_same : (a : Act) (cs ds : List Change) → (asks_store a ≡ true → cs ≡ ds) → asks cs a ≡ asks ds a
asks_same (Act.Load k) cs ds e = ap (λ xs. asks xs (Act.Load k)) (e refl)
asks_same (Act.List q) cs ds e = refl
asks_same _ cs ds e = refl

pub asked_local : (h : Journal) → AllFit h → ask_count h ≡ store_ask_count (seen_by Part.Store h)
asked_local [] a = refl
asked_local (e ∷ h) a = by (same_part Part.Store e.part || stops e.act) refl (asked_local h a.0)
  where
    same : asks (changes (unwrap_or e.session 0) h) e.act ≡ asks (unsaved (unwrap_or e.session 0) (seen_by Part.Store h)) e.act
    same = asks_same e.act (changes (unwrap_or e.session 0) h) (unsaved (unwrap_or e.session 0) (seen_by Part.Store h))
        (λ y. sym (a.1.same y) ∙ unsaved_local (unwrap_or e.session 0) h a.0)

    by : (b : Bool) → (same_part Part.Store e.part || stops e.act) ≡ b → ask_count h ≡ store_ask_count (seen_by Part.Store h) → ask_count (e ∷ h) ≡ store_ask_count (seen_by Part.Store (e ∷ h))
    by true q i = rw q (λ x. i x + cond (same x) 1 0)
    by false q i =
        let n : asks (changes (unwrap_or e.session 0) h) e.act ≡ false = asks_skip e.act (unwrap_or e.session 0) (changes (unwrap_or e.session 0) h) (ap (same_part Part.Store) a.1.part ∙ (or_parts (same_part Part.Store e.part) (stops e.act) q).0) in
        rw (q, n) (omega (arith, i))

-- no other part answers that the keeper failed

calm_persisted : (b : Bool) → is_fault (cond b Reply.Known Reply.New) ≡ false
calm_persisted true = refl
calm_persisted false = refl

calm_set : (b : Bool) (g : Strategy) → is_fault (cond b (set_unless g) Reply.Unknown) ≡ false
calm_set true Strategy.ReadOnly = refl
calm_set true Strategy.ReadWrite = refl
calm_set true Strategy.Nonstrict = refl
calm_set true Strategy.Uncached = refl
calm_set false g = refl

calm_removed : (b : Bool) → is_fault (cond b Reply.Removed Reply.Unknown) ≡ false
calm_removed true = refl
calm_removed false = refl

calm_found : (r : Option Result) → is_fault (option_map_or (λ x. Reply.Found x.0 x.1) r Reply.Absent) ≡ false
calm_found None = refl
calm_found (Some r) = refl

calm_got : (s : Slot) (t : ℕ) → is_fault (Regions.got s t) ≡ false
calm_got Slot.Vacant t = refl
calm_got (Slot.Item r u) t = by (nat_lt u t)
  where
    by : (b : Bool) → is_fault (cond b (Reply.Hit r) (Reply.Miss (Miss.Young u))) ≡ false
    by true = refl
    by false = refl
calm_got (Slot.Lock l) t = refl

calm_item : (b : Bool) (t : ℕ) (o : Option (Row × ℕ)) → is_fault (Regions.got_item b t o) ≡ false
calm_item b t None = refl
calm_item b t (Some p) = by (b && nat_le t p.1)
  where
    by : (c : Bool) → is_fault (cond c (Reply.Miss (Miss.Young p.1)) (Reply.Hit p.0)) ≡ false
    by true = refl
    by false = refl

calm_get : (g : Strategy) (script : Script) (h : Journal) (k : Key) (t : ℕ) → is_fault (get_reply g script h k t) ≡ false
calm_get Strategy.ReadWrite script h k t = calm_got (slot script.timeout k h) t
calm_get Strategy.ReadOnly script h k t = calm_item true t (item (history k h))
calm_get Strategy.Nonstrict script h k t = calm_item false t (item (history k h))
calm_get Strategy.Uncached script h k t = calm_item false t (item (history k h))

calm_put : (g : Strategy) (script : Script) (h : Journal) (k : Key) (r : Row) (t f : ℕ) → is_fault (put_reply g script h k r t f) ≡ false
calm_put Strategy.ReadWrite script h k r t f = refl
calm_put Strategy.ReadOnly script h k r t f = refl
calm_put Strategy.Nonstrict script h k r t f = refl
calm_put Strategy.Uncached script h k r t f = refl

calm_insert : (g : Strategy) (script : Script) (h : Journal) (k : Key) (f : ℕ) → is_fault (insert_reply g script h k f) ≡ false
calm_insert Strategy.ReadWrite script h k f = refl
calm_insert Strategy.ReadOnly script h k f = refl
calm_insert Strategy.Nonstrict script h k f = refl
calm_insert Strategy.Uncached script h k f = refl

calm_drop : (o : Option (Row × ℕ)) → is_fault (cond (is_some o) Reply.Dropped Reply.Absent) ≡ false
calm_drop None = refl
calm_drop (Some p) = refl

calm_evict : (g : Strategy) (script : Script) (h : Journal) (k : Key) → is_fault (evict_reply g script h k) ≡ false
calm_evict Strategy.ReadWrite script h k = refl
calm_evict Strategy.ReadOnly script h k = refl
calm_evict Strategy.Nonstrict script h k = refl
calm_evict Strategy.Uncached script h k = refl

calm_reply : (script : Script) (start : Tables) (h : Journal) (s now : ℕ) (a : Act) → asks_store a ≡ false → is_fault (reply_of script start h s now a) ≡ false
calm_reply script start h s now (Act.Load k) o = absurd (true≢false o)
calm_reply script start h s now (Act.List q) o = absurd (true≢false o)
calm_reply script start h s now Act.Commit o = absurd (true≢false o)
calm_reply script start h s now (Act.Persist k r) o = calm_persisted (is_some (held (own s h) k) || is_in k (changes s h))
calm_reply script start h s now (Act.Set k cells) o = calm_set (is_some (row_of (held (own s h) k))) (strategy script k.entity)
calm_reply script start h s now (Act.Remove k) o = calm_removed (is_some (row_of (held (own s h) k)))
calm_reply script start h s now (Act.Look q) o = calm_found (result script.results q h)
calm_reply script start h s now (Act.Get k t) o = calm_get (strategy script k.entity) script h k t
calm_reply script start h s now (Act.Put k r t f) o = calm_put (strategy script k.entity) script h k r t f
calm_reply script start h s now (Act.AfterInsert k r f) o = calm_insert (strategy script k.entity) script h k f
calm_reply script start h s now (Act.RegionRemove k) o = calm_drop (item (history k h))
calm_reply script start h s now (Act.Evict k) o = calm_evict (strategy script k.entity) script h k
calm_reply script start h s now _ o = refl

-- an act that does not ask the store

sure_act : (a : Act) (cs : List Change) → asks_store a ≡ false → (is_told cs a ≡ false) × (fault_of cs a ≡ None)
sure_act (Act.Load k) cs o = absurd (true≢false o)
sure_act (Act.List q) cs o = absurd (true≢false o)
sure_act Act.Commit cs o = absurd (true≢false o)
sure_act _ cs o = (refl, refl)

pub elsewhere : (a : Act) (s : ℕ) → same_part Part.Store (part_of a s) ≡ false → asks_store a ≡ false
elsewhere (Act.Load k) s p = absurd (true≢false p)
elsewhere (Act.List q) s p = absurd (true≢false p)
elsewhere Act.Commit s p = absurd (true≢false p)
elsewhere _ s p = refl

module _ (script : Script) (e : Entry) (h : Journal) (o : asks_store e.act ≡ false) where
  calm_answer : (start : Tables) → IsAnswer script start h e → is_fault e.reply ≡ false
  calm_answer start (inl p) = ap is_fault p ∙ calm_reply script start h (unwrap_or e.session 0) e.tick e.act o
  calm_answer start (inr p) = absurd (none (sym (sure_act e.act (changes (unwrap_or e.session 0) h) o).1 ∙ p))
    where
      none : ◌≡◌ {A = Option Reply} None (Some e.reply) → ⊥
      none q = cc

  pub calm : (told : Option Tables) → IsReply script told h e → is_fault e.reply ≡ false
  calm (Some start) p = calm_answer start p
  calm None p = calm_answer [] (p.1 (sure_act e.act (changes (unwrap_or e.session 0) h) o).0)

faults_local : (script : Script) (told : Option Tables) (h : Journal) → AllFit h → IsLegal script told h → fault_count h ≡ fault_count (seen_by Part.Store h)
faults_local script told [] a l = refl
faults_local script told (e ∷ h) a l = by (same_part Part.Store e.part || stops e.act) refl (faults_local script told h a.0 l.0)
  where
    by : (b : Bool) → (same_part Part.Store e.part || stops e.act) ≡ b → fault_count h ≡ fault_count (seen_by Part.Store h) → fault_count (e ∷ h) ≡ fault_count (seen_by Part.Store (e ∷ h))
    by true q i = rw q (ap (λ n. n + cond (is_fault e.reply) 1 0) i)
    by false q i =
        let n : is_fault e.reply ≡ false = calm script e h (elsewhere e.act (unwrap_or e.session 0) (ap (same_part Part.Store) a.1.part ∙ (or_parts (same_part Part.Store e.part) (stops e.act) q).0)) told l.1.reply in
        rw (q, n) (omega (arith, i))

pub store_alone : (script : Script) (told : Option Tables) (h : Journal) → IsLegal script told h → IsStoreAlone h (seen_by Part.Store h)
store_alone script told h l =
    let a : AllFit h = all_legal script told h l in
    record { rows = λ start. committed_local start h a; asked = asked_local h a; faults = faults_local script told h a l }

pub store_listed : (script : Script) (told : Option Tables) (h : Journal) → HaveSessions h → IsLegal script told h → IsStoreAlone h (of_part Part.Store h)
store_listed script told h q l = subst (λ j. IsStoreAlone h j) (seen_part Part.Store h (inner_legal script told h q l)) (store_alone script told h l)
