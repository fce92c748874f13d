-- The reply that a journal gives is the one that the part's list gives, or the session's.
use Rattle.std.specs.Prelude.{is_some, unwrap_or}
use Rattle.std.specs.Option.{option_map_or}
use Rattle.std.proofs.Common.{◌≡◌, inl, inr, ℕ, Bool, true, false, cond, ◌||◌, List, [], ◌∷◌, length, slice_get, Some, None, Option, refl, sym, ap, ◌∙◌, subst}
use Rattle.std.proofs.lemmas.Bool.{true≢false, false≢true}
use Rattle.hib_base.specs.Tables.{Tables, row_at, after_changes, commit_answer}
use Rattle.hib_journal.specs.Types.{Key, Row, Change, Strategy, Script, Part, Act, Reply, Entry, Inserted, Evicted}
use Rattle.hib_journal.specs.Sessions.{Journal, own, is_by, changes, changes_in}
use Rattle.hib_journal.specs.Slot.{history, slot_from}
use Rattle.hib_journal.specs.Room.{item, oldest}
use Rattle.hib_journal.specs.Regions
use Rattle.hib_journal.specs.Held.{held}
use Rattle.hib_journal.specs.Next.{strategy, is_in, capacity, tables_of}
use Rattle.hib_journal.specs.Legal.{outcome, row_of, set_unless, get_reply, put_reply, insert_reply, evict_reply, room_for, reply_by, reply_of, fault_of, is_told, is_of_store, part_of, IsAnswerBy, IsAnswer, IsReply}
use Rattle.hib_journal.specs.Due.{asks_store}
use Rattle.hib_journal.specs.Lists.{seen_by, unsaved, stored, IsStoreReply}
use Rattle.hib_journal.specs.Query.{gives}
use Rattle.hib_split_law.specs.Apart.{is_of_session}
use Rattle.hib_split_law.proofs.Local.{Fits, AllFit, check_local, result_local, dropped_local, history_local, room_local, oldest_local, floor_local, unsaved_local, committed_local}

-- the reply that a part gives over its list
abbrev reply_in_part : Script → Tables → Journal → ℕ → ℕ → Act → Reply
reply_in_part script start l s now b = reply_by script (unsaved s l) (stored start l) l s now b

module _ (script : Script) (start : Tables) (h : Journal) (a : AllFit h) where
  get_same : (g : Strategy) (k : Key) (t : ℕ) → get_reply g script h k t ≡ get_reply g script (seen_by (Part.Region k.entity) h) k t
  get_same Strategy.ReadWrite k t = λ x. Regions.got (slot_from script.timeout (history_local k h a x)) t
  get_same Strategy.ReadOnly k t = λ x. Regions.got_item true t (item (history_local k h a x))
  get_same Strategy.Nonstrict k t = λ x. Regions.got_item false t (item (history_local k h a x))
  get_same Strategy.Uncached k t = λ x. Regions.got_item false t (item (history_local k h a x))

  room_same : (k : Key) (f : ℕ) → room_for script h k f ≡ room_for script (seen_by (Part.Region k.entity) h) k f
  room_same k f = room_local script.timeout (capacity script k.entity) k.entity f h a

  put_other : (k : Key) (r : Row) → Reply.Put (Regions.put_item (oldest (capacity script k.entity) k.entity h) (item (history k h)))
      ≡ Reply.Put (Regions.put_item (oldest (capacity script k.entity) k.entity (seen_by (Part.Region k.entity) h)) (item (history k (seen_by (Part.Region k.entity) h))))
  put_other k r = λ x. Reply.Put (Regions.put_item (oldest_local (capacity script k.entity) k.entity h a x) (item (history_local k h a x)))

  put_same : (g : Strategy) (k : Key) (r : Row) (t f : ℕ) → put_reply g script h k r t f ≡ put_reply g script (seen_by (Part.Region k.entity) h) k r t f
  put_same Strategy.ReadWrite k r t f = λ x. Reply.Put (Regions.put (slot_from script.timeout (history_local k h a x)) (room_same k f x) t r.version)
  put_same Strategy.ReadOnly k r t f = put_other k r
  put_same Strategy.Nonstrict k r t f = put_other k r
  put_same Strategy.Uncached k r t f = put_other k r

  insert_other : (k : Key) → Reply.Inserted (cond (is_some (item (history k h))) Inserted.Present (Inserted.Stored (oldest (capacity script k.entity) k.entity h)))
      ≡ Reply.Inserted (cond (is_some (item (history k (seen_by (Part.Region k.entity) h)))) Inserted.Present (Inserted.Stored (oldest (capacity script k.entity) k.entity (seen_by (Part.Region k.entity) h))))
  insert_other k = λ x. Reply.Inserted (cond (is_some (item (history_local k h a x))) Inserted.Present (Inserted.Stored (oldest_local (capacity script k.entity) k.entity h a x)))

  insert_same : (g : Strategy) (k : Key) (f : ℕ) → insert_reply g script h k f ≡ insert_reply g script (seen_by (Part.Region k.entity) h) k f
  insert_same Strategy.ReadWrite k f = λ x. Reply.Inserted (Regions.after_insert (slot_from script.timeout (history_local k h a x)) (room_same k f x))
  insert_same Strategy.ReadOnly k f = insert_other k
  insert_same Strategy.Nonstrict k f = insert_other k
  insert_same Strategy.Uncached k f = insert_other k

  evict_same : (g : Strategy) (k : Key) → evict_reply g script h k ≡ evict_reply g script (seen_by (Part.Region k.entity) h) k
  evict_same Strategy.ReadWrite k = λ x. Reply.Evicted (Regions.evict (slot_from script.timeout (history_local k h a x)))
  evict_same Strategy.ReadOnly k = λ x. Reply.Evicted (cond (is_some (item (history_local k h a x))) Evicted.Gone Evicted.Absent)
  evict_same Strategy.Nonstrict k = λ x. Reply.Evicted (cond (is_some (item (history_local k h a x))) Evicted.Gone Evicted.Absent)
  evict_same Strategy.Uncached k = λ x. Reply.Evicted (cond (is_some (item (history_local k h a x))) Evicted.Gone Evicted.Absent)

  module _ (s now : ℕ) where
    changes_same : (asked : unsaved s h ≡ changes s h) → changes s h ≡ unsaved s (seen_by Part.Store h)
    changes_same asked = sym asked ∙ unsaved_local s h a

    -- the reply of a part
    reply_same : (b : Act) → is_of_session b ≡ false → (asks_store b ≡ true → unsaved s h ≡ changes s h) →
        reply_of script start h s now b ≡ reply_in_part script start (seen_by (part_of b s) h) s now b
    reply_same Act.Begin o d = λ x. Reply.Began (floor_local h now a x)
    reply_same (Act.Load k) o d = λ x. Reply.Row (row_at (after_changes (changes_same (d refl) x) (committed_local start h a x)) k)
    reply_same (Act.List q) o d = λ x. option_map_or (λ y. Reply.Listed (gives y (after_changes (changes_same (d refl) x) (committed_local start h a x)))) (slice_get script.queries q) Reply.Fault
    reply_same Act.Commit o d = λ x. Reply.Commit (commit_answer (changes_same (d refl) x) (committed_local start h a x))
    reply_same (Act.Check q t) o d = λ x. Reply.Check (check_local script.timeout t (tables_of script q) h a x)
    reply_same (Act.Look q) o d = λ x. option_map_or (λ r. Reply.Found r.0 r.1) (result_local script.results q h a x) Reply.Absent
    reply_same (Act.Keep q t l) o d = λ x. Reply.Kept (dropped_local script.results (length script.queries) q h a x)
    reply_same (Act.Get k t) o d = get_same (strategy script k.entity) k t
    reply_same (Act.Put k r t f) o d = put_same (strategy script k.entity) k r t f
    reply_same (Act.Lock k v f) o d = λ x. Reply.Locked (Regions.lock script.timeout (slot_from script.timeout (history_local k h a x)) (room_same k f x) now)
    reply_same (Act.Unlock k i) o d = λ x. Reply.Unlocked (Regions.unlock (slot_from script.timeout (history_local k h a x)) i)
    reply_same (Act.AfterInsert k r f) o d = insert_same (strategy script k.entity) k f
    reply_same (Act.AfterUpdate k i r) o d = λ x. Reply.Updated (Regions.after_update (slot_from script.timeout (history_local k h a x)) i)
    reply_same (Act.RegionRemove k) o d = λ x. cond (is_some (item (history_local k h a x))) Reply.Dropped Reply.Absent
    reply_same (Act.Evict k) o d = evict_same (strategy script k.entity) k
    reply_same Act.End o d = absurd (true≢false o)
    reply_same (Act.Find k) o d = absurd (true≢false o)
    reply_same (Act.Persist k r) o d = absurd (true≢false o)
    reply_same (Act.Set k cells) o d = absurd (true≢false o)
    reply_same (Act.Remove k) o d = absurd (true≢false o)
    reply_same Act.Clear o d = absurd (true≢false o)
    reply_same (Act.Kill n) o d = refl
    reply_same Act.Restart o d = refl
    reply_same (Act.Write c) o d = refl
    reply_same Act.Rollback o d = refl
    reply_same (Act.Pre ts) o d = refl
    reply_same (Act.Stamp ts) o d = refl

    fault_same : (b : Act) → (asks_store b ≡ true → unsaved s h ≡ changes s h) →
        fault_of (changes s h) b ≡ fault_of (unsaved s (seen_by (part_of b s) h)) b
    fault_same (Act.Load k) d = ap (λ cs. fault_of cs (Act.Load k)) (changes_same (d refl))
    fault_same (Act.List q) d = refl
    fault_same Act.Commit d = ap (λ cs. fault_of cs Act.Commit) (changes_same (d refl))
    fault_same _ d = refl

    told_same : (b : Act) → (asks_store b ≡ true → unsaved s h ≡ changes s h) →
        is_told (changes s h) b ≡ is_told (unsaved s (seen_by (part_of b s) h)) b
    told_same (Act.Load k) d = ap (λ cs. is_told cs (Act.Load k)) (changes_same (d refl))
    told_same (Act.List q) d = refl
    told_same Act.Commit d = ap (λ cs. is_told cs Act.Commit) (changes_same (d refl))
    told_same _ d = refl

-- an answer over the journal, and one over what the part sees
module _ (script : Script) (e : Entry) (h : Journal) (a : AllFit h) (f : Fits e h) (o : is_of_session e.act ≡ false) where
  abbrev L : Journal
  L = seen_by (part_of e.act (unwrap_or e.session 0)) h

  answer_in : (start : Tables) → IsAnswer script start h e → IsAnswerBy (unsaved (unwrap_or e.session 0) L) (reply_in_part script start L (unwrap_or e.session 0) e.tick e.act) e
  answer_in start (inl p) = inl (p ∙ reply_same script start h a (unwrap_or e.session 0) e.tick e.act o f.same)
  answer_in start (inr p) = inr (sym (fault_same script start h a (unwrap_or e.session 0) e.tick e.act f.same) ∙ p)

  answer_out : (start : Tables) → IsAnswerBy (unsaved (unwrap_or e.session 0) L) (reply_in_part script start L (unwrap_or e.session 0) e.tick e.act) e → IsAnswer script start h e
  answer_out start (inl p) = inl (p ∙ sym (reply_same script start h a (unwrap_or e.session 0) e.tick e.act o f.same))
  answer_out start (inr p) = inr (fault_same script start h a (unwrap_or e.session 0) e.tick e.act f.same ∙ p)

  told_in : is_told (changes (unwrap_or e.session 0) h) e.act ≡ is_told (unsaved (unwrap_or e.session 0) L) e.act
  told_in = told_same script [] h a (unwrap_or e.session 0) e.tick e.act f.same

  part_in : (told : Option Tables) → IsReply script told h e → IsStoreReply script told L e
  part_in (Some start) p = answer_in start p
  part_in None p = (p.0, λ t. answer_in [] (p.1 (told_in ∙ t)))

  part_out : (told : Option Tables) → IsStoreReply script told L e → IsReply script told h e
  part_out (Some start) p = answer_out start p
  part_out None p = (p.0, λ t. answer_out [] (p.1 (sym told_in ∙ t)))

  pub reply_in : (told : Option Tables) → IsReply script told h e → IsStoreReply script told (seen_by e.part h) e
  reply_in told p = subst (λ x. IsStoreReply script told (seen_by x h) e) f.part (part_in told p)

  pub reply_out : (told : Option Tables) → IsStoreReply script told (seen_by e.part h) e → IsReply script told h e
  reply_out told p = part_out told (subst (λ x. IsStoreReply script told (seen_by x h) e) (sym f.part) p)

-- the replies that hang on the session's entries

pub own_twice : (s : ℕ) (h : Journal) → own s (own s h) ≡ own s h
own_twice s [] = refl
own_twice s (e ∷ h) = by (is_by s e) refl (own_twice s h)
  where
    by : (b : Bool) → is_by s e ≡ b → own s (own s h) ≡ own s h → own s (own s (e ∷ h)) ≡ own s (e ∷ h)
    by true p i = rw (p, p) (ap (λ m. e ∷ m) i)
    by false p i = rw p i

own_reply : (script : Script) (start : Tables) (h : Journal) (s now : ℕ) (b : Act) → is_of_session b ≡ true →
    reply_of script start h s now b ≡ reply_of script [] (own s h) s now b
own_reply script start h s now Act.End o = λ x. Reply.Ended (outcome (sym (own_twice s h) x))
own_reply script start h s now (Act.Find k) o = λ x. Reply.Row (row_of (held (sym (own_twice s h) x) k))
own_reply script start h s now (Act.Persist k r) o = ap (λ m. cond (is_some (held m k) || is_in k (changes_in m)) Reply.Known Reply.New) (sym (own_twice s h))
own_reply script start h s now (Act.Set k cells) o = ap (λ m. cond (is_some (row_of (held m k))) (set_unless (strategy script k.entity)) Reply.Unknown) (sym (own_twice s h))
own_reply script start h s now (Act.Remove k) o = ap (λ m. cond (is_some (row_of (held m k))) Reply.Removed Reply.Unknown) (sym (own_twice s h))
own_reply script start h s now Act.Clear o = refl
own_reply script start h s now _ o = absurd (false≢true o)

own_told : (b : Act) (cs : List Change) → is_of_session b ≡ true → (is_told cs b ≡ false) × (fault_of cs b ≡ None)
own_told Act.End cs o = (refl, refl)
own_told (Act.Find k) cs o = (refl, refl)
own_told (Act.Persist k r) cs o = (refl, refl)
own_told (Act.Set k cells) cs o = (refl, refl)
own_told (Act.Remove k) cs o = (refl, refl)
own_told Act.Clear cs o = (refl, refl)
own_told _ cs o = absurd (false≢true o)

own_kind : (b : Act) (r : Reply) → is_of_session b ≡ true → is_of_store b r ≡ true
own_kind (Act.Load k) r o = absurd (false≢true o)
own_kind (Act.List q) r o = absurd (false≢true o)
own_kind Act.Commit r o = absurd (false≢true o)
own_kind _ r o = refl

module _ (script : Script) (e : Entry) (h : Journal) (o : is_of_session e.act ≡ true) where
  own_in : (start : Tables) → IsAnswer script start h e → e.reply ≡ reply_of script [] (own (unwrap_or e.session 0) h) (unwrap_or e.session 0) e.tick e.act
  own_in start (inl p) = p ∙ own_reply script start h (unwrap_or e.session 0) e.tick e.act o
  own_in start (inr p) = absurd (none (sym (own_told e.act (changes (unwrap_or e.session 0) h) o).1 ∙ p))
    where
      none : ◌≡◌ {A = Option Reply} None (Some e.reply) → ⊥
      none q = cc

  pub mine_in : (told : Option Tables) → IsReply script told h e → e.reply ≡ reply_of script [] (own (unwrap_or e.session 0) h) (unwrap_or e.session 0) e.tick e.act
  mine_in (Some start) p = own_in start p
  mine_in None p = own_in [] (p.1 (own_told e.act (changes (unwrap_or e.session 0) h) o).0)

  own_out : (start : Tables) → e.reply ≡ reply_of script [] (own (unwrap_or e.session 0) h) (unwrap_or e.session 0) e.tick e.act → IsAnswer script start h e
  own_out start p = inl (p ∙ sym (own_reply script start h (unwrap_or e.session 0) e.tick e.act o))

  pub mine_out : (told : Option Tables) → e.reply ≡ reply_of script [] (own (unwrap_or e.session 0) h) (unwrap_or e.session 0) e.tick e.act → IsReply script told h e
  mine_out (Some start) p = own_out start p
  mine_out None p = (own_kind e.act e.reply o, λ t. own_out [] p)
