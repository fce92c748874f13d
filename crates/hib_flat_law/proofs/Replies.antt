-- The reply of a well-formed entry is read again from its object.
use Rattle.std.proofs.Common.{◌≡◌, ℕ, Option, Some, None, refl, ap, ap₂, ◌∙◌, true, codes, length, option_map}
use Rattle.hib_base.specs.Fits.{entity_columns}
use Rattle.hib_journal.specs.Types.{Key, Row, Part, Act, Outcome, Commit, Checked, Miss, Put, Locked, Unlocked, Inserted, Updated, Evicted, Reply, Script}
use Rattle.hib_report.specs.Lines.{outcome_text}
use Rattle.hib_texts.specs.Texts.{query_text}
use Rattle.hib_entry_fields.specs.Fields.{entity_of, query_of}
use Rattle.hib_entry_fields.specs.Known.{is_key, is_entity, is_tick, is_version}
use Rattle.hib_entry_fields.proofs.PieceLaws.{and_left}
use Rattle.hib_entry_fields.proofs.NameLaws.{IsNamed, known_entity, known_query}
use Rattle.hib_entry_fields.proofs.FieldLaws.{lt_from}
use Rattle.hib_entry_texts.specs.Replies.{outcome_of, persisted_of, changed_of, removed_of, dropped_reply_of, evicted_of}
use Rattle.hib_entry_texts.specs.WellFormed.{is_dropped_query, is_begun, is_ended, is_done, is_found, is_persisted, is_changed, is_removed, is_cleared, is_loaded, is_listed, is_written, is_committed, is_stamped, is_checked, is_looked, is_kept, is_got, is_stored, is_locked, is_unlocked, is_inserted, is_updated, is_dropped, is_evicted, is_reply}
use Rattle.hib_flat.specs.Words.{reply_word, miss_word, evict_word}
use Rattle.hib_flat_law.specs.Reading.{or_zero, read_of, listed_of, commit_of, checked_of, looked_of, miss_of, got_of, put_of, locked_of, unlocked_of, inserted_of, updated_of, reply_by, word_in, look, number_at}
use Rattle.hib_flat_law.proofs.Fine.{fine_cells}
use Rattle.hib_flat_law.proofs.Looks.{found, IsGood, at_cause, at_dropped, at_table, at_late, at_list, at_found, at_stamp, at_time, at_floor, at_lock, at_until, at_released, at_stored, at_holders, at_evicted, key_back, row_back}
use Rattle.hib_flat_law.proofs.Acts.{mk}

outcome_back : (o : Outcome) → outcome_of (outcome_text o) ≡ o
outcome_back Outcome.Committed = refl
outcome_back Outcome.RolledBack = refl
outcome_back Outcome.Stale = refl
outcome_back Outcome.Duplicate = refl
outcome_back Outcome.Fault = refl

evicted_word_back : (e : Evicted) → evicted_of (evict_word e) ≡ e
evicted_word_back Evicted.Gone = refl
evicted_word_back Evicted.Held = refl
evicted_word_back Evicted.Absent = refl

begun_back : (script : Script) (t : ℕ) (s : Option ℕ) (p : Part) (r : Reply) → IsGood script (mk t s p Act.Begin r) → is_begun r ≡ true → Reply.Began (number_at (codes "floor") (found script (mk t s p Act.Begin r))) ≡ r
begun_back script t s p (Reply.Began f) h w = ap Reply.Began (ap or_zero (at_floor script (mk t s p Act.Begin (Reply.Began f)) h))
begun_back script t s p _ h w = absurd cc

ended_back : (r : Reply) → is_ended r ≡ true → Reply.Ended (outcome_of (reply_word r)) ≡ r
ended_back (Reply.Ended o) w = ap Reply.Ended (outcome_back o)
ended_back _ w = absurd cc

done_back : (r : Reply) → is_done r ≡ true → Reply.Done ≡ r
done_back Reply.Done w = refl
done_back _ w = absurd cc

found_back : (script : Script) (t : ℕ) (s : Option ℕ) (p : Part) (k : Key) (r : Reply) → IsNamed script → IsGood script (mk t s p (Act.Find k) r) → is_found r ≡ true → read_of (found script (mk t s p (Act.Find k) r)) (reply_word r) ≡ r
found_back script t s p k (Reply.Row None) n h w = refl
found_back script t s p k (Reply.Row (Some x)) n h w =
    let e = mk t s p (Act.Find k) (Reply.Row (Some x)) in
    ap (λ (y : Row). Reply.Row (Some y)) (row_back script e x (entity_columns script.mapping k.entity) h (fine_cells script e n h.act h.reply) refl refl)
found_back script t s p k _ n h w = absurd cc

loaded_back : (script : Script) (t : ℕ) (s : Option ℕ) (p : Part) (k : Key) (r : Reply) → IsNamed script → IsGood script (mk t s p (Act.Load k) r) → is_loaded r ≡ true → read_of (found script (mk t s p (Act.Load k) r)) (reply_word r) ≡ r
loaded_back script t s p k (Reply.Row None) n h w = refl
loaded_back script t s p k (Reply.Row (Some x)) n h w =
    let e = mk t s p (Act.Load k) (Reply.Row (Some x)) in
    ap (λ (y : Row). Reply.Row (Some y)) (row_back script e x (entity_columns script.mapping k.entity) h (fine_cells script e n h.act h.reply) refl refl)
loaded_back script t s p k Reply.Fault n h w = refl
loaded_back script t s p k _ n h w = absurd cc

persisted_back : (r : Reply) → is_persisted r ≡ true → persisted_of (reply_word r) ≡ r
persisted_back Reply.New w = refl
persisted_back Reply.Known w = refl
persisted_back _ w = absurd cc

changed_back : (r : Reply) → is_changed r ≡ true → changed_of (reply_word r) ≡ r
changed_back Reply.Set w = refl
changed_back Reply.Unknown w = refl
changed_back Reply.ReadOnly w = refl
changed_back _ w = absurd cc

removed_back : (r : Reply) → is_removed r ≡ true → removed_of (reply_word r) ≡ r
removed_back Reply.Removed w = refl
removed_back Reply.Unknown w = refl
removed_back _ w = absurd cc

cleared_back : (r : Reply) → is_cleared r ≡ true → Reply.Cleared ≡ r
cleared_back Reply.Cleared w = refl
cleared_back _ w = absurd cc

listed_back : (script : Script) (t : ℕ) (s : Option ℕ) (p : Part) (q : ℕ) (r : Reply) → IsGood script (mk t s p (Act.List q) r) → is_listed r ≡ true → listed_of (found script (mk t s p (Act.List q) r)) (reply_word r) ≡ r
listed_back script t s p q (Reply.Listed l) h w = ap Reply.Listed (at_list script (mk t s p (Act.List q) (Reply.Listed l)) h)
listed_back script t s p q Reply.Fault h w = refl
listed_back script t s p q _ h w = absurd cc

written_back : (r : Reply) → is_written r ≡ true → Reply.Written ≡ r
written_back Reply.Written w = refl
written_back _ w = absurd cc

committed_back : (script : Script) (t : ℕ) (s : Option ℕ) (p : Part) (r : Reply) → IsNamed script → IsGood script (mk t s p Act.Commit r) → is_committed script r ≡ true → Reply.Commit (commit_of script (found script (mk t s p Act.Commit r)) (reply_word r)) ≡ r
committed_back script t s p (Reply.Commit Commit.Committed) n h w = refl
committed_back script t s p (Reply.Commit (Commit.Stale k v)) n h w =
    let e = mk t s p Act.Commit (Reply.Commit (Commit.Stale k v)) in
    ap Reply.Commit (ap₂ Commit.Stale (key_back script e k n h refl (and_left (is_key script k) (is_version v) w)) (at_found script e h))
committed_back script t s p (Reply.Commit (Commit.Duplicate k)) n h w =
    let e = mk t s p Act.Commit (Reply.Commit (Commit.Duplicate k)) in
    ap Reply.Commit (ap Commit.Duplicate (key_back script e k n h refl w))
committed_back script t s p (Reply.Commit Commit.Fault) n h w = refl
committed_back script t s p _ n h w = absurd cc

stamped_back : (script : Script) (t : ℕ) (s : Option ℕ) (p : Part) (a : Act) (r : Reply) → IsGood script (mk t s p a r) → is_stamped r ≡ true → Reply.Stamped (number_at (codes "stamp") (found script (mk t s p a r))) ≡ r
stamped_back script t s p a (Reply.Stamped v) h w = ap Reply.Stamped (ap or_zero (at_stamp script (mk t s p a (Reply.Stamped v)) h))
stamped_back script t s p a _ h w = absurd cc

checked_back : (script : Script) (t : ℕ) (s : Option ℕ) (p : Part) (a : Act) (r : Reply) → IsNamed script → IsGood script (mk t s p a r) → is_checked script r ≡ true → Reply.Check (checked_of script (found script (mk t s p a r)) (reply_word r)) ≡ r
checked_back script t s p a (Reply.Check Checked.Fresh) n h w = refl
checked_back script t s p a (Reply.Check (Checked.Stale m u)) n h w =
    let e = mk t s p a (Reply.Check (Checked.Stale m u)) in
    ap Reply.Check (ap₂ Checked.Stale (ap (entity_of script) (at_table script e) ∙ (known_entity script m n (lt_from m (length script.mapping) (and_left (is_entity script m) (is_tick u) w))).back) (ap or_zero (at_stamp script e h)))
checked_back script t s p a _ n h w = absurd cc

looked_back : (script : Script) (t : ℕ) (s : Option ℕ) (p : Part) (q : ℕ) (r : Reply) → IsGood script (mk t s p (Act.Look q) r) → is_looked r ≡ true → looked_of (found script (mk t s p (Act.Look q) r)) (reply_word r) ≡ r
looked_back script t s p q (Reply.Found u l) h w =
    let e = mk t s p (Act.Look q) (Reply.Found u l) in
    ap₂ Reply.Found (ap or_zero (at_time script e h)) (at_list script e h)
looked_back script t s p q Reply.Absent h w = refl
looked_back script t s p q _ h w = absurd cc

dropped_again : (script : Script) (o : Option ℕ) → IsNamed script → is_dropped_query script o ≡ true → option_map (query_of script) (option_map (query_text script) o) ≡ o
dropped_again script None n w = refl
dropped_again script (Some q) n w = ap Some (known_query script q n (lt_from q (length script.queries) w)).back

kept_back : (script : Script) (t : ℕ) (s : Option ℕ) (p : Part) (a : Act) (r : Reply) → IsNamed script → is_kept script r ≡ true → Reply.Kept (option_map (query_of script) (word_in (look (codes "dropped") (found script (mk t s p a r))))) ≡ r
kept_back script t s p a (Reply.Kept q) n w = ap Reply.Kept (ap (option_map (query_of script)) (at_dropped script (mk t s p a (Reply.Kept q))) ∙ dropped_again script q n w)
kept_back script t s p a _ n w = absurd cc

miss_back : (script : Script) (t : ℕ) (s : Option ℕ) (p : Part) (a : Act) (m : Miss) → IsGood script (mk t s p a (Reply.Miss m)) → miss_of (found script (mk t s p a (Reply.Miss m))) (miss_word m) ≡ m
miss_back script t s p a Miss.Absent h = refl
miss_back script t s p a (Miss.Locked c) h = ap Miss.Locked (ap or_zero (at_holders script (mk t s p a (Reply.Miss (Miss.Locked c))) h))
miss_back script t s p a (Miss.Released u) h = ap Miss.Released (ap or_zero (at_released script (mk t s p a (Reply.Miss (Miss.Released u))) h))
miss_back script t s p a (Miss.Young u) h = ap Miss.Young (ap or_zero (at_stored script (mk t s p a (Reply.Miss (Miss.Young u))) h))

got_back : (script : Script) (t : ℕ) (s : Option ℕ) (p : Part) (k : Key) (u : ℕ) (r : Reply) → IsNamed script → IsGood script (mk t s p (Act.Get k u) r) → is_got r ≡ true → got_of (found script (mk t s p (Act.Get k u) r)) (reply_word r) ≡ r
got_back script t s p k u (Reply.Hit x) n h w =
    let e = mk t s p (Act.Get k u) (Reply.Hit x) in
    ap Reply.Hit (row_back script e x (entity_columns script.mapping k.entity) h (fine_cells script e n h.act h.reply) refl refl)
got_back script t s p k u (Reply.Miss m) n h w =
    let e = mk t s p (Act.Get k u) (Reply.Miss m) in
    ap Reply.Miss (ap (miss_of (found script e)) (at_cause script e) ∙ miss_back script t s p (Act.Get k u) m h)
got_back script t s p k u _ n h w = absurd cc

put_back : (script : Script) (t : ℕ) (s : Option ℕ) (p : Part) (a : Act) (r : Reply) → IsGood script (mk t s p a r) → is_stored r ≡ true → Reply.Put (put_of (found script (mk t s p a r)) (reply_word r)) ≡ r
put_back script t s p a (Reply.Put (Put.Stored i late)) h w =
    let e = mk t s p a (Reply.Put (Put.Stored i late)) in
    ap Reply.Put (ap₂ Put.Stored (at_evicted script e h) (at_late script e))
put_back script t s p a (Reply.Put (Put.Present v)) h w = ap Reply.Put (ap Put.Present (at_found script (mk t s p a (Reply.Put (Put.Present v))) h))
put_back script t s p a (Reply.Put (Put.Held c)) h w = ap Reply.Put (ap Put.Held (ap or_zero (at_holders script (mk t s p a (Reply.Put (Put.Held c))) h)))
put_back script t s p a (Reply.Put (Put.Early u)) h w = ap Reply.Put (ap Put.Early (ap or_zero (at_released script (mk t s p a (Reply.Put (Put.Early u))) h)))
put_back script t s p a (Reply.Put (Put.Old v)) h w = ap Reply.Put (ap Put.Old (ap or_zero (at_found script (mk t s p a (Reply.Put (Put.Old v))) h)))
put_back script t s p a (Reply.Put Put.Crowded) h w = refl
put_back script t s p a _ h w = absurd cc

locked_by : (i u : ℕ) (o : Option ℕ) (l : Locked) → i ≡ l.id → u ≡ l.until → o ≡ l.evicted → record { id = i; until = u; evicted = o } ≡ l
locked_by i u o l e1 e2 e3 = rw (e1, e2, e3) refl

locked_back : (script : Script) (t : ℕ) (s : Option ℕ) (p : Part) (k : Key) (v : Option ℕ) (f : ℕ) (r : Reply) → IsGood script (mk t s p (Act.Lock k v f) r) → is_locked r ≡ true → Reply.Locked (locked_of (found script (mk t s p (Act.Lock k v f) r))) ≡ r
locked_back script t s p k v f (Reply.Locked l) h w =
    let e = mk t s p (Act.Lock k v f) (Reply.Locked l) in
    ap Reply.Locked (locked_by _ _ _ l (ap or_zero (at_lock script e h)) (ap or_zero (at_until script e h)) (at_evicted script e h))
locked_back script t s p k v f _ h w = absurd cc

unlocked_back : (script : Script) (t : ℕ) (s : Option ℕ) (p : Part) (a : Act) (r : Reply) → IsGood script (mk t s p a r) → is_unlocked r ≡ true → Reply.Unlocked (unlocked_of (found script (mk t s p a r)) (reply_word r)) ≡ r
unlocked_back script t s p a (Reply.Unlocked (Unlocked.Released c)) h w = ap Reply.Unlocked (ap Unlocked.Released (ap or_zero (at_holders script (mk t s p a (Reply.Unlocked (Unlocked.Released c))) h)))
unlocked_back script t s p a (Reply.Unlocked Unlocked.Expired) h w = refl
unlocked_back script t s p a _ h w = absurd cc

inserted_back : (script : Script) (t : ℕ) (s : Option ℕ) (p : Part) (a : Act) (r : Reply) → IsGood script (mk t s p a r) → is_inserted r ≡ true → Reply.Inserted (inserted_of (found script (mk t s p a r)) (reply_word r)) ≡ r
inserted_back script t s p a (Reply.Inserted (Inserted.Stored i)) h w = ap Reply.Inserted (ap Inserted.Stored (at_evicted script (mk t s p a (Reply.Inserted (Inserted.Stored i))) h))
inserted_back script t s p a (Reply.Inserted Inserted.Present) h w = refl
inserted_back script t s p a (Reply.Inserted Inserted.Crowded) h w = refl
inserted_back script t s p a _ h w = absurd cc

updated_back : (script : Script) (t : ℕ) (s : Option ℕ) (p : Part) (a : Act) (r : Reply) → IsGood script (mk t s p a r) → is_updated r ≡ true → Reply.Updated (updated_of (found script (mk t s p a r)) (reply_word r)) ≡ r
updated_back script t s p a (Reply.Updated Updated.Stored) h w = refl
updated_back script t s p a (Reply.Updated (Updated.Shared c)) h w = ap Reply.Updated (ap Updated.Shared (ap or_zero (at_holders script (mk t s p a (Reply.Updated (Updated.Shared c))) h)))
updated_back script t s p a (Reply.Updated Updated.Expired) h w = refl
updated_back script t s p a _ h w = absurd cc

dropped_back : (r : Reply) → is_dropped r ≡ true → dropped_reply_of (reply_word r) ≡ r
dropped_back Reply.Dropped w = refl
dropped_back Reply.Absent w = refl
dropped_back _ w = absurd cc

evicted_back : (r : Reply) → is_evicted r ≡ true → Reply.Evicted (evicted_of (reply_word r)) ≡ r
evicted_back (Reply.Evicted e) w = ap Reply.Evicted (evicted_word_back e)
evicted_back _ w = absurd cc

pub reply_back : (script : Script) (t : ℕ) (s : Option ℕ) (p : Part) (a : Act) (r : Reply) → IsNamed script → IsGood script (mk t s p a r) → is_reply script a r ≡ true → reply_by script (found script (mk t s p a r)) a (reply_word r) ≡ r
reply_back script t s p Act.Begin r n h w = begun_back script t s p r h w
reply_back script t s p Act.End r n h w = ended_back r w
reply_back script t s p (Act.Kill q) r n h w = done_back r w
reply_back script t s p Act.Restart r n h w = done_back r w
reply_back script t s p (Act.Find k) r n h w = found_back script t s p k r n h w
reply_back script t s p (Act.Persist k x) r n h w = persisted_back r w
reply_back script t s p (Act.Set k xs) r n h w = changed_back r w
reply_back script t s p (Act.Remove k) r n h w = removed_back r w
reply_back script t s p Act.Clear r n h w = cleared_back r w
reply_back script t s p (Act.Load k) r n h w = loaded_back script t s p k r n h w
reply_back script t s p (Act.List q) r n h w = listed_back script t s p q r h w
reply_back script t s p (Act.Write c) r n h w = written_back r w
reply_back script t s p Act.Commit r n h w = committed_back script t s p r n h w
reply_back script t s p Act.Rollback r n h w = done_back r w
reply_back script t s p (Act.Pre ts) r n h w = stamped_back script t s p (Act.Pre ts) r h w
reply_back script t s p (Act.Stamp ts) r n h w = stamped_back script t s p (Act.Stamp ts) r h w
reply_back script t s p (Act.Check q u) r n h w = checked_back script t s p (Act.Check q u) r n h w
reply_back script t s p (Act.Look q) r n h w = looked_back script t s p q r h w
reply_back script t s p (Act.Keep q u l) r n h w = kept_back script t s p (Act.Keep q u l) r n w
reply_back script t s p (Act.Get k u) r n h w = got_back script t s p k u r n h w
reply_back script t s p (Act.Put k x u f) r n h w = put_back script t s p (Act.Put k x u f) r h w
reply_back script t s p (Act.Lock k v f) r n h w = locked_back script t s p k v f r h w
reply_back script t s p (Act.Unlock k i) r n h w = unlocked_back script t s p (Act.Unlock k i) r h w
reply_back script t s p (Act.AfterInsert k x f) r n h w = inserted_back script t s p (Act.AfterInsert k x f) r h w
reply_back script t s p (Act.AfterUpdate k i x) r n h w = updated_back script t s p (Act.AfterUpdate k i x) r h w
reply_back script t s p (Act.RegionRemove k) r n h w = dropped_back r w
reply_back script t s p (Act.Evict k) r n h w = evicted_back r w
