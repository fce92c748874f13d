-- Every reply that is well formed after its act is read again from its text.
use Rattle.std.proofs.Common.{◌≡◌, ℕ, List, [], ◌∷◌, ◌++◌, drop, Some, None, refl, ap, sym, ◌∙◌, true, codes}
use Rattle.std.specs.Fmt.{decimal}
use Rattle.std.proofs.lemmas.List.{append-nil}
use Rattle.hib_journal.specs.Types.{Row, Act, Reply, Script}
use Rattle.hib_report.specs.Lines.{reply_text}
use Rattle.hib_texts.specs.Texts.{list_text}
use Rattle.hib_entry_fields.specs.Fields.{piece, behind, next, after, number_of, cells_at}
use Rattle.hib_entry_fields.specs.Known.{is_tick, are_cells}
use Rattle.hib_entry_fields.proofs.PieceLaws.{and_left, and_right, piece_again, after_again, decimal_plain, number_again}
use Rattle.hib_entry_fields.proofs.CellLaws.{list_again}
use Rattle.hib_entry_fields.proofs.NameLaws.{IsNamed}
use Rattle.hib_entry_fields.proofs.FieldLaws.{tick_small, number_next, number_end, row_end}
use Rattle.hib_entry_fields.proofs.ListLaws.{cells_fit, row_fits}
use Rattle.hib_entry_texts.specs.Replies.{reply_of, outcome_of, read_of, persisted_of, changed_of, removed_of, listed_of, commit_of, checked_of, looked_of, dropped_of, got_of, put_reply_of, locked_of, unlocked_of, inserted_of, updated_of, dropped_reply_of, evicted_of}
use Rattle.hib_entry_texts.specs.WellFormed.{is_begun, is_ended, is_done, is_found, is_persisted, is_changed, is_removed, is_cleared, is_loaded, is_listed, is_written, is_committed, is_stamped, is_checked, is_looked, is_kept, is_got, is_stored, is_locked, is_unlocked, is_inserted, is_updated, is_dropped, is_evicted, is_reply}
use Rattle.hib_entry_texts.proofs.Pieces.{regroup4, label_at}
use Rattle.hib_entry_texts.proofs.AnswerLaws.{outcome_again, evicted_again, commit_again, checked_again, dropped_again, miss_again, put_again, locked_again, unlocked_again, inserted_again, updated_again}

begun_again : (script : Script) (r : Reply) → is_begun r ≡ true → Reply.Began (number_of (next (behind (reply_text script r)))) ≡ r
unfolding behind
begun_again script (Reply.Began f) w = ap Reply.Began (number_end f (tick_small f w))
begun_again script _ w = absurd cc

ended_again : (script : Script) (r : Reply) → is_ended r ≡ true → Reply.Ended (outcome_of (piece (reply_text script r))) ≡ r
ended_again script (Reply.Ended o) w = ap Reply.Ended (outcome_again o)
ended_again script _ w = absurd cc

done_again : (r : Reply) → is_done r ≡ true → Reply.Done ≡ r
done_again Reply.Done w = refl
done_again _ w = absurd cc

found_again : (script : Script) (r : Reply) → is_found r ≡ true → read_of (piece (reply_text script r)) (behind (reply_text script r)) ≡ r
unfolding piece behind
found_again script (Reply.Row None) w = refl
found_again script (Reply.Row (Some r)) w = ap (λ (x : Row). Reply.Row (Some x)) (row_end r (row_fits r w))
found_again script _ w = absurd cc

persisted_again : (script : Script) (r : Reply) → is_persisted r ≡ true → persisted_of (piece (reply_text script r)) ≡ r
unfolding piece
persisted_again script Reply.New w = refl
persisted_again script Reply.Known w = refl
persisted_again script _ w = absurd cc

changed_again : (script : Script) (r : Reply) → is_changed r ≡ true → changed_of (piece (reply_text script r)) ≡ r
unfolding piece
changed_again script Reply.Set w = refl
changed_again script Reply.Unknown w = refl
changed_again script Reply.ReadOnly w = refl
changed_again script _ w = absurd cc

removed_again : (script : Script) (r : Reply) → is_removed r ≡ true → removed_of (piece (reply_text script r)) ≡ r
unfolding piece
removed_again script Reply.Removed w = refl
removed_again script Reply.Unknown w = refl
removed_again script _ w = absurd cc

cleared_again : (r : Reply) → is_cleared r ≡ true → Reply.Cleared ≡ r
cleared_again Reply.Cleared w = refl
cleared_again _ w = absurd cc

loaded_again : (script : Script) (r : Reply) → is_loaded r ≡ true → read_of (piece (reply_text script r)) (behind (reply_text script r)) ≡ r
unfolding piece behind
loaded_again script (Reply.Row None) w = refl
loaded_again script (Reply.Row (Some r)) w = ap (λ (x : Row). Reply.Row (Some x)) (row_end r (row_fits r w))
loaded_again script Reply.Fault w = refl
loaded_again script _ w = absurd cc

listed_again : (script : Script) (r : Reply) → is_listed r ≡ true → listed_of (piece (reply_text script r)) (behind (reply_text script r)) ≡ r
unfolding piece behind
listed_again script (Reply.Listed l) w = ap Reply.Listed (list_again l (cells_fit l w))
listed_again script Reply.Fault w = refl
listed_again script _ w = absurd cc

written_again : (r : Reply) → is_written r ≡ true → Reply.Written ≡ r
written_again Reply.Written w = refl
written_again _ w = absurd cc

committed_again : (script : Script) (r : Reply) → IsNamed script → is_committed script r ≡ true → Reply.Commit (commit_of script (piece (reply_text script r)) (behind (reply_text script r))) ≡ r
committed_again script (Reply.Commit c) h w = ap Reply.Commit (commit_again script c h w)
committed_again script _ h w = absurd cc

stamped_again : (script : Script) (r : Reply) → is_stamped r ≡ true → Reply.Stamped (number_of (piece (reply_text script r))) ≡ r
stamped_again script (Reply.Stamped t) w =
    let lt = tick_small t w in
    ap (λ (x : List ℕ). Reply.Stamped (number_of (piece x))) (sym (append-nil (decimal t))) ∙ ap (λ (x : List ℕ). Reply.Stamped (number_of x)) (piece_again (decimal t) [] (decimal_plain t lt) tt) ∙ ap Reply.Stamped (number_again t lt)
stamped_again script _ w = absurd cc

check_reply_again : (script : Script) (r : Reply) → IsNamed script → is_checked script r ≡ true → Reply.Check (checked_of script (piece (reply_text script r)) (behind (reply_text script r))) ≡ r
check_reply_again script (Reply.Check c) h w = ap Reply.Check (checked_again script c h w)
check_reply_again script _ h w = absurd cc

looked_by : (b0 b1 b2 : List ℕ) (r : Reply) (t : ℕ) → after b0 ≡ b1 → number_of (next b1) ≡ t → after b1 ≡ b2 → Reply.Found t (cells_at (drop 1 b2)).0 ≡ r → looked_of (codes "found") b0 ≡ r
looked_by b0 b1 b2 r t e1 e2 e3 e4 = rw (e1, e2, e3) e4

looked_again : (script : Script) (r : Reply) → is_looked r ≡ true → looked_of (piece (reply_text script r)) (behind (reply_text script r)) ≡ r
unfolding piece behind
looked_again script (Reply.Found t l) w =
    let lt = tick_small t (and_left (is_tick t) (are_cells l) w) in
    let r2 : List ℕ = codes " " ++ list_text l in
    ap (λ (x : List ℕ). looked_of (piece x) (behind x)) (regroup4 (codes "found at ") (decimal t) (codes " ") (list_text l))
    ∙ looked_by (codes " at " ++ (decimal t ++ r2)) (32 ∷ (decimal t ++ r2)) r2 (Reply.Found t l) t (label_at (decimal t ++ r2)) (number_next t r2 lt refl) (after_again (decimal t) r2 (decimal_plain t lt) refl)
    (ap (Reply.Found t) (list_again l (cells_fit l (and_right (is_tick t) (are_cells l) w))))
looked_again script Reply.Absent w = refl
looked_again script _ w = absurd cc

kept_again : (script : Script) (r : Reply) → IsNamed script → is_kept script r ≡ true → Reply.Kept (dropped_of script (behind (reply_text script r))) ≡ r
unfolding behind
kept_again script (Reply.Kept None) h w = ap Reply.Kept (dropped_again script None h w)
kept_again script (Reply.Kept (Some q)) h w = ap Reply.Kept (dropped_again script (Some q) h w)
kept_again script _ h w = absurd cc

got_again : (script : Script) (r : Reply) → is_got r ≡ true → got_of (piece (reply_text script r)) (behind (reply_text script r)) ≡ r
unfolding piece behind
got_again script (Reply.Hit r) w = ap Reply.Hit (row_end r (row_fits r w))
got_again script (Reply.Miss m) w = ap Reply.Miss (miss_again m w)
got_again script _ w = absurd cc

stored_again : (script : Script) (r : Reply) → is_stored r ≡ true → Reply.Put (put_reply_of (piece (reply_text script r)) (behind (reply_text script r))) ≡ r
stored_again script (Reply.Put p) w = ap Reply.Put (put_again p w)
stored_again script _ w = absurd cc

lock_reply_again : (script : Script) (r : Reply) → is_locked r ≡ true → Reply.Locked (locked_of (behind (reply_text script r))) ≡ r
lock_reply_again script (Reply.Locked l) w = ap Reply.Locked (locked_again l w)
lock_reply_again script _ w = absurd cc

unlock_reply_again : (script : Script) (r : Reply) → is_unlocked r ≡ true → Reply.Unlocked (unlocked_of (piece (reply_text script r)) (behind (reply_text script r))) ≡ r
unlock_reply_again script (Reply.Unlocked u) w = ap Reply.Unlocked (unlocked_again u w)
unlock_reply_again script _ w = absurd cc

insert_reply_again : (script : Script) (r : Reply) → is_inserted r ≡ true → Reply.Inserted (inserted_of (piece (reply_text script r)) (behind (reply_text script r))) ≡ r
insert_reply_again script (Reply.Inserted i) w = ap Reply.Inserted (inserted_again i w)
insert_reply_again script _ w = absurd cc

update_reply_again : (script : Script) (r : Reply) → is_updated r ≡ true → Reply.Updated (updated_of (piece (reply_text script r)) (behind (reply_text script r))) ≡ r
update_reply_again script (Reply.Updated u) w = ap Reply.Updated (updated_again u w)
update_reply_again script _ w = absurd cc

dropped_reply_again : (script : Script) (r : Reply) → is_dropped r ≡ true → dropped_reply_of (piece (reply_text script r)) ≡ r
unfolding piece
dropped_reply_again script Reply.Dropped w = refl
dropped_reply_again script Reply.Absent w = refl
dropped_reply_again script _ w = absurd cc

evict_reply_again : (script : Script) (r : Reply) → is_evicted r ≡ true → Reply.Evicted (evicted_of (piece (reply_text script r))) ≡ r
evict_reply_again script (Reply.Evicted e) w = ap Reply.Evicted (evicted_again e)
evict_reply_again script _ w = absurd cc

pub reply_again : (script : Script) (act : Act) (r : Reply) → IsNamed script → is_reply script act r ≡ true → reply_of script act (reply_text script r) ≡ r
unfolding reply_of
reply_again script Act.Begin r h w = begun_again script r w
reply_again script Act.End r h w = ended_again script r w
reply_again script (Act.Kill s) r h w = done_again r w
reply_again script Act.Restart r h w = done_again r w
reply_again script (Act.Find k) r h w = found_again script r w
reply_again script (Act.Persist k x) r h w = persisted_again script r w
reply_again script (Act.Set k xs) r h w = changed_again script r w
reply_again script (Act.Remove k) r h w = removed_again script r w
reply_again script Act.Clear r h w = cleared_again r w
reply_again script (Act.Load k) r h w = loaded_again script r w
reply_again script (Act.List q) r h w = listed_again script r w
reply_again script (Act.Write c) r h w = written_again r w
reply_again script Act.Commit r h w = committed_again script r h w
reply_again script Act.Rollback r h w = done_again r w
reply_again script (Act.Pre ts) r h w = stamped_again script r w
reply_again script (Act.Stamp ts) r h w = stamped_again script r w
reply_again script (Act.Check q t) r h w = check_reply_again script r h w
reply_again script (Act.Look q) r h w = looked_again script r w
reply_again script (Act.Keep q t l) r h w = kept_again script r h w
reply_again script (Act.Get k t) r h w = got_again script r w
reply_again script (Act.Put k x t f) r h w = stored_again script r w
reply_again script (Act.Lock k v f) r h w = lock_reply_again script r w
reply_again script (Act.Unlock k i) r h w = unlock_reply_again script r w
reply_again script (Act.AfterInsert k x f) r h w = insert_reply_again script r w
reply_again script (Act.AfterUpdate k i x) r h w = update_reply_again script r w
reply_again script (Act.RegionRemove k) r h w = dropped_reply_again script r w
reply_again script (Act.Evict k) r h w = evict_reply_again script r w
