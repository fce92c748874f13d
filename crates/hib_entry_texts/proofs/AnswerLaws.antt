-- What replies hold is read again from its text.
use Rattle.std.proofs.Common.{◌≡◌, ℕ, ◌^◌, ◌<◌, List, [], ◌∷◌, ◌++◌, drop, Option, Some, None, refl, ap, sym, ◌∙◌, Bool, true, false, ◌&&◌, arith, codes, bytes_eq, length}
use Rattle.std.specs.Fmt.{decimal}
use Rattle.std.proofs.lemmas.List.{append-nil}
use Rattle.hib_journal.specs.Types.{Key, Commit, Checked, Miss, Put, Locked, Unlocked, Inserted, Updated, Evicted, Outcome, Script}
use Rattle.hib_report.specs.Lines.{outcome_text, found_text, commit_text, checked_text, reason_text, evicted_id_text, late_text, put_reply_text, locked_text, unlocked_text, inserted_text, updated_text, evicted_text, dropped_text}
use Rattle.hib_texts.specs.Texts.{entity_text, query_text, key_text, version_text}
use Rattle.hib_entry_fields.specs.Fields.{piece, behind, next, after, number_of, entity_of, query_of, key_at, after_key, small}
use Rattle.hib_entry_fields.specs.Known.{is_key, is_entity, is_tick, is_version}
use Rattle.hib_entry_fields.proofs.PieceLaws.{Stops, and_left, and_right, next_again, after_again, decimal_plain, number_again, lt_true}
use Rattle.hib_entry_fields.proofs.CellLaws.{IsVersion, version_plain, version_again}
use Rattle.hib_entry_fields.proofs.NameLaws.{IsNamed, known_entity, known_query}
use Rattle.hib_entry_fields.proofs.FieldLaws.{IsKey, lt_from, tick_small, identifier_small, name_next, name_end, number_next, number_end, version_end, known_key, key_again, after_key_again, key_end}
use Rattle.hib_entry_fields.proofs.ListLaws.{version_fits}
use Rattle.hib_entry_texts.specs.Replies.{outcome_of, found_of, commit_of, checked_of, dropped_of, miss_of, evicted_id_of, late_of, put_reply_of, locked_of, unlocked_of, inserted_of, updated_of, evicted_of}
use Rattle.hib_entry_texts.specs.WellFormed.{is_commit, is_check, is_dropped_query, is_count, is_miss, is_evicted_id, is_put, is_lock, is_unlock, is_insert, is_update}
use Rattle.hib_entry_texts.proofs.Pieces.{regroup4, regroup5, label_found, label_until}

pub outcome_again : (o : Outcome) → outcome_of (piece (outcome_text o)) ≡ o
unfolding piece
outcome_again Outcome.Committed = refl
outcome_again Outcome.RolledBack = refl
outcome_again Outcome.Stale = refl
outcome_again Outcome.Duplicate = refl
outcome_again Outcome.Fault = refl

pub evicted_again : (e : Evicted) → evicted_of (piece (evicted_text e)) ≡ e
unfolding piece
evicted_again Evicted.Gone = refl
evicted_again Evicted.Held = refl
evicted_again Evicted.Absent = refl

-- ---- commits

none_again : found_of (next (codes " none")) ≡ None
unfolding next piece
none_again = refl

found_end : (v : Option ℕ) → IsVersion v → found_of (next (32 ∷ found_text v)) ≡ v
found_end None h = none_again
found_end (Some v) h =
    ap (λ (t : List ℕ). found_of (next (32 ∷ t))) (sym (append-nil (version_text (Some v)))) ∙ ap found_of (next_again (version_text (Some v)) [] (version_plain (Some v) h) tt) ∙ version_again (Some v) h

stale_by : (script : Script) (b0 b1 b2 : List ℕ) (k : Key) (v : Option ℕ) → key_at script b0 ≡ k → after_key b0 ≡ b1 → after b1 ≡ b2 → found_of (next b2) ≡ v
    → commit_of script (codes "stale") b0 ≡ Commit.Stale k v
stale_by script b0 b1 b2 k v e1 e2 e3 e4 = rw (e1, e2, e3, e4) refl

stale_again : (script : Script) (k : Key) (v : Option ℕ) → IsKey script k → IsVersion v → commit_of script (piece (commit_text script (Commit.Stale k v))) (behind (commit_text script (Commit.Stale k v))) ≡ Commit.Stale k v
unfolding piece behind
stale_again script k v hk hv =
    let r1 : List ℕ = codes " found " ++ found_text v in
    ap (λ (t : List ℕ). commit_of script (piece t) (behind t)) (regroup4 (codes "stale ") (key_text script k) (codes " found ") (found_text v))
    ∙ stale_by script (32 ∷ (key_text script k ++ r1)) r1 (32 ∷ found_text v) k v (key_again script k r1 hk refl) (after_key_again script k r1 hk refl) (label_found (found_text v)) (found_end v hv)

pub commit_again : (script : Script) (c : Commit) → IsNamed script → is_commit script c ≡ true → commit_of script (piece (commit_text script c)) (behind (commit_text script c)) ≡ c
unfolding piece behind
commit_again script Commit.Committed h w = refl
commit_again script (Commit.Stale k v) h w = stale_again script k v (known_key script k h (and_left (is_key script k) (is_version v) w)) (version_fits v (and_right (is_key script k) (is_version v) w))
commit_again script (Commit.Duplicate k) h w = ap Commit.Duplicate (key_end script k (known_key script k h w))
commit_again script Commit.Fault h w = refl

-- ---- checks

checked_by : (script : Script) (b0 b1 : List ℕ) (n t : ℕ) → entity_of script (next b0) ≡ n → after b0 ≡ b1 → number_of (next b1) ≡ t → checked_of script (codes "stale") b0 ≡ Checked.Stale n t
checked_by script b0 b1 n t e1 e2 e3 = rw (e1, e2, e3) refl

pub checked_again : (script : Script) (c : Checked) → IsNamed script → is_check script c ≡ true → checked_of script (piece (checked_text script c)) (behind (checked_text script c)) ≡ c
unfolding piece behind
checked_again script Checked.Fresh h w = refl
checked_again script (Checked.Stale n t) h w =
    let name : List ℕ = entity_text script n in
    let r1 : List ℕ = 32 ∷ decimal t in
    let known = known_entity script n h (lt_from n (length script.mapping) (and_left (is_entity script n) (is_tick t) w)) in
    ap (λ (x : List ℕ). checked_of script (piece x) (behind x)) (regroup4 (codes "stale ") name (codes " ") (decimal t))
    ∙ checked_by script (32 ∷ (name ++ r1)) r1 n t (name_next (entity_of script) name n r1 known refl) (after_again name r1 known.plain refl) (number_end t (tick_small t (and_right (is_entity script n) (is_tick t) w)))

-- ---- dropped queries

pub dropped_again : (script : Script) (q : Option ℕ) → IsNamed script → is_dropped_query script q ≡ true → dropped_of script (dropped_text script q) ≡ q
unfolding piece behind next after
dropped_again script None h w = refl
dropped_again script (Some n) h w = ap (λ (x : ℕ). Some x) (name_end (query_of script) (query_text script n) n (known_query script n h (lt_from n (length script.queries) w)))

-- ---- misses

pub count_small : (n : ℕ) → is_count n ≡ true → n < 2 ^ 64
count_small n h = lt_from n (2 ^ 64) h

pub miss_again : (m : Miss) → is_miss m ≡ true → miss_of (32 ∷ reason_text m) ≡ m
unfolding piece behind next after
miss_again Miss.Absent w = refl
miss_again (Miss.Locked n) w = ap Miss.Locked (number_end n (count_small n w))
miss_again (Miss.Released t) w = ap Miss.Released (number_end t (tick_small t w))
miss_again (Miss.Young t) w = ap Miss.Young (number_end t (tick_small t w))

-- ---- who had to leave, and whether it was late

evicted_word : (rest : List ℕ) → next (codes " evicted " ++ rest) ≡ codes "evicted"
unfolding next piece
evicted_word rest = refl

evicted_rest : (rest : List ℕ) → after (codes " evicted " ++ rest) ≡ 32 ∷ rest
unfolding after behind
evicted_rest rest = refl

evicted_by : (b0 b1 : List ℕ) (i : ℕ) → next b0 ≡ codes "evicted" → after b0 ≡ b1 → number_of (next b1) ≡ i → evicted_id_of b0 ≡ Some i
evicted_by b0 b1 i e1 e2 e3 = rw (e1, e2, e3) refl

nothing_left : evicted_id_of [] ≡ None
unfolding next piece
nothing_left = refl

evicted_end : (o : Option ℕ) → is_evicted_id o ≡ true → evicted_id_of (evicted_id_text o) ≡ o
evicted_end None w = nothing_left
evicted_end (Some i) w = evicted_by (codes " evicted " ++ decimal i) (32 ∷ decimal i) i (evicted_word (decimal i)) (evicted_rest (decimal i)) (number_end i (identifier_small i w))

evicted_stops : (o : Option ℕ) → Stops (evicted_id_text o)
evicted_stops None = tt
evicted_stops (Some i) = refl

late_stops : (late : Bool) → Stops (late_text late)
late_stops true = refl
late_stops false = tt

late_end : (late : Bool) → bytes_eq (next (late_text late)) (codes "late") ≡ late
unfolding next piece
late_end true = refl
late_end false = refl

stored_by : (b0 b1 b2 : List ℕ) (i : ℕ) (late : Bool) → next b0 ≡ codes "evicted" → after b0 ≡ b1 → number_of (next b1) ≡ i → after b1 ≡ b2 → bytes_eq (next b2) (codes "late") ≡ late
    → Put.Stored (evicted_id_of b0) (late_of b0) ≡ Put.Stored (Some i) late
stored_by b0 b1 b2 i late e1 e2 e3 e4 e5 = rw (e1, e2, e3, e4, e5) refl

stored_again : (i : ℕ) (late : Bool) → i < 2 ^ 64 → put_reply_of (piece (put_reply_text (Put.Stored (Some i) late))) (behind (put_reply_text (Put.Stored (Some i) late))) ≡ Put.Stored (Some i) late
unfolding piece behind
stored_again i late lt =
    let rest : List ℕ = decimal i ++ late_text late in
    stored_by (codes " evicted " ++ rest) (32 ∷ rest) (late_text late) i late (evicted_word rest) (evicted_rest rest) (number_next i (late_text late) lt (late_stops late))
    (after_again (decimal i) (late_text late) (decimal_plain i lt) (late_stops late)) (late_end late)

kept_again : (late : Bool) → put_reply_of (piece (put_reply_text (Put.Stored None late))) (behind (put_reply_text (Put.Stored None late))) ≡ Put.Stored None late
unfolding piece behind next
kept_again true = refl
kept_again false = refl

old_by : (b : List ℕ) (n : ℕ) → number_of (drop 1 (next b)) ≡ n → n < 2 ^ 32 → Put.Old (small (2 ^ 32) (number_of (drop 1 (next b)))) ≡ Put.Old n
old_by b n e h = rw (e, lt_true n (2 ^ 32) h) refl

old_again : (v : ℕ) → v < 2 ^ 32 → put_reply_of (piece (put_reply_text (Put.Old v))) (behind (put_reply_text (Put.Old v))) ≡ Put.Old v
unfolding piece behind
old_again v h =
    let b : List ℕ = 32 ∷ (118 ∷ decimal v) in
    let first : next b ≡ 118 ∷ decimal v = ap (λ (t : List ℕ). next (32 ∷ t)) (sym (append-nil (version_text (Some v)))) ∙ next_again (version_text (Some v)) [] (version_plain (Some v) h) tt in
    old_by b v (ap (λ (p : List ℕ). number_of (drop 1 p)) first ∙ number_again v (omega (arith, h))) h

pub put_again : (p : Put) → is_put p ≡ true → put_reply_of (piece (put_reply_text p)) (behind (put_reply_text p)) ≡ p
unfolding piece behind
put_again (Put.Stored None late) w = kept_again late
put_again (Put.Stored (Some i) late) w = stored_again i late (identifier_small i w)
put_again (Put.Present v) w = ap Put.Present (version_end v (version_fits v w))
put_again (Put.Held n) w = ap Put.Held (number_end n (count_small n w))
put_again (Put.Early t) w = ap Put.Early (number_end t (tick_small t w))
put_again (Put.Old v) w = old_again v (lt_from v (2 ^ 32) w)
put_again Put.Crowded w = refl

-- ---- locks

locked_by : (b0 b1 b2 b3 : List ℕ) (i u : ℕ) (o : Option ℕ) → number_of (next b0) ≡ i → after b0 ≡ b1 → after b1 ≡ b2 → number_of (next b2) ≡ u → after b2 ≡ b3 → evicted_id_of b3 ≡ o
    → locked_of b0 ≡ record { id = i; until = u; evicted = o }
locked_by b0 b1 b2 b3 i u o e1 e2 e3 e4 e5 e6 = rw (e1, e2, e3, e4, e5, e6) refl

pub locked_again : (l : Locked) → is_lock l ≡ true → locked_of (behind (locked_text l)) ≡ l
unfolding piece behind
locked_again l w =
    let more = and_right (is_tick l.id) (is_tick l.until && is_evicted_id l.evicted) w in
    let hi = tick_small l.id (and_left (is_tick l.id) (is_tick l.until && is_evicted_id l.evicted) w) in
    let hu = tick_small l.until (and_left (is_tick l.until) (is_evicted_id l.evicted) more) in
    let ho = and_right (is_tick l.until) (is_evicted_id l.evicted) more in
    let r2 : List ℕ = evicted_id_text l.evicted in
    let r1 : List ℕ = codes " until " ++ (decimal l.until ++ r2) in
    ap (λ (t : List ℕ). locked_of (behind t)) (regroup5 (codes "lock ") (decimal l.id) (codes " until ") (decimal l.until) r2)
    ∙ locked_by (32 ∷ (decimal l.id ++ r1)) r1 (32 ∷ (decimal l.until ++ r2)) r2 l.id l.until l.evicted (number_next l.id r1 hi refl) (after_again (decimal l.id) r1 (decimal_plain l.id hi) refl) (label_until (decimal l.until ++ r2))
    (number_next l.until r2 hu (evicted_stops l.evicted)) (after_again (decimal l.until) r2 (decimal_plain l.until hu) (evicted_stops l.evicted)) (evicted_end l.evicted ho)

pub unlocked_again : (u : Unlocked) → is_unlock u ≡ true → unlocked_of (piece (unlocked_text u)) (behind (unlocked_text u)) ≡ u
unfolding piece behind
unlocked_again (Unlocked.Released n) w = ap Unlocked.Released (number_end n (count_small n w))
unlocked_again Unlocked.Expired w = refl

pub inserted_again : (i : Inserted) → is_insert i ≡ true → inserted_of (piece (inserted_text i)) (behind (inserted_text i)) ≡ i
unfolding piece behind
inserted_again (Inserted.Stored None) w = ap Inserted.Stored nothing_left
inserted_again (Inserted.Stored (Some i)) w = ap Inserted.Stored (evicted_end (Some i) w)
inserted_again Inserted.Present w = refl
inserted_again Inserted.Crowded w = refl

pub updated_again : (u : Updated) → is_update u ≡ true → updated_of (piece (updated_text u)) (behind (updated_text u)) ≡ u
unfolding piece behind
updated_again Updated.Stored w = refl
updated_again (Updated.Shared n) w = ap Updated.Shared (number_end n (count_small n w))
updated_again Updated.Expired w = refl
