-- The members of a well-formed entry can be written as they are: names have nothing to escape, numbers are small, cells are well formed.
use Rattle.std.proofs.Common.{◌≡◌, ℕ, suc, ◌≤◌, List, [], ◌∷◌, ◌++◌, map, Option, Some, None, refl, ap₂, Bool, true, not, ◌&&◌, arith, nat_lt, nat_le, length, option_map}
use Rattle.std.specs.Prelude.{slice_get}
use Rattle.std.specs.List.{list_all}
use Rattle.std.proofs.lemmas.Bool.Decides.{nat_tests}
use Rattle.json.specs.Print.{escape_byte}
use Rattle.json.proofs.Printed.Strings.{escape_byte_plain}
use Rattle.hib_base.specs.Words.{is_letter, is_word_byte, is_word, is_name, is_reserved, are_apart, are_names}
use Rattle.hib_base.specs.Fits.{columns_in, entity_columns, are_defaults}
use Rattle.hib_base.specs.Scripts.{is_type_below}
use Rattle.hib_base.specs.Valid.{are_columns, max_columns}
use Rattle.hib_base.proofs.Lists.{all_at}
use Rattle.hib_journal.specs.Types.{Key, Cell, Row, ColumnDef, EntityDef, Query, SessionDef, Part, Change, Act, Outcome, Commit, Checked, Miss, Put, Unlocked, Inserted, Updated, Evicted, Reply, Entry, Script}
use Rattle.hib_report.specs.Lines.{part_text, outcome_text}
use Rattle.hib_texts.specs.Texts.{entity_name, query_name, session_name, column_name, column_in, entity_text, query_text, session_text}
use Rattle.hib_entry_fields.specs.Known.{is_key, is_cell, are_cells, is_version, is_set, are_sets}
use Rattle.hib_entry_fields.proofs.PieceLaws.{and_left, and_right}
use Rattle.hib_entry_fields.proofs.NameLaws.{IsNamed}
use Rattle.hib_entry_texts.specs.WellFormed.{is_act}
use Rattle.hib_flat.specs.Words.{act_word, change_word, reply_word, cause_word, miss_word, read_word, commit_word, check_word, put_word, unlock_word, insert_word, update_word, evict_word}
use Rattle.hib_flat.specs.Parts as parts
use Rattle.hib_flat.specs.Members.{word, numbered, named, boolean, words, list, key_entity, key_id, members, cells, cells_of, cells_from, set_cells, row_cells}
use Rattle.hib_flat_law.proofs.Printed.{IsBare, AreBare, IsFineIf, AreFine, AreFineCells}
use Rattle.hib_flat_law.proofs.Facts as facts

-- ---- names

bare_byte : (b : ℕ) → is_word_byte b ≡ true → escape_byte b ≡ b ∷ []
bare_byte b h =
    let le : 32 ≤ b = grind (arith, nat_tests) in
    escape_byte_plain b (λ (q : b ≡ 34). grind (arith, nat_tests)) (λ (q : b ≡ 92). grind (arith, nat_tests)) le

bare_letter : (b : ℕ) → is_letter b ≡ true → escape_byte b ≡ b ∷ []
bare_letter b h =
    let le : 32 ≤ b = grind (arith, nat_tests) in
    escape_byte_plain b (λ (q : b ≡ 34). grind (arith, nat_tests)) (λ (q : b ≡ 92). grind (arith, nat_tests)) le

bare_bytes : (bs : List ℕ) → list_all is_word_byte bs ≡ true → IsBare bs
bare_bytes [] h = refl
bare_bytes (b ∷ bs) h = ap₂ (λ (x y : List ℕ). x ++ y) (bare_byte b (and_left (is_word_byte b) (list_all is_word_byte bs) h)) (bare_bytes bs (and_right (is_word_byte b) (list_all is_word_byte bs) h))

bare_word : (w : List ℕ) → is_word w ≡ true → IsBare w
bare_word [] h = absurd cc
bare_word (b ∷ bs) h =
    ap₂ (λ (x y : List ℕ). x ++ y) (bare_letter b (and_left (is_letter b) (nat_lt (length bs) 32 && list_all is_word_byte bs) h))
    (bare_bytes bs (and_right (nat_lt (length bs) 32) (list_all is_word_byte bs) (and_right (is_letter b) (nat_lt (length bs) 32 && list_all is_word_byte bs) h)))

bare_name : (w : List ℕ) → is_name w ≡ true → IsBare w
bare_name w h = bare_word w (and_left (is_word w) (not (is_reserved w)) h)

all_map : {X : Type 0} (f : X → List ℕ) (xs : List X) → list_all is_name (map f xs) ≡ true → list_all (λ x. is_name (f x)) xs ≡ true
all_map {X = X} f [] h = refl
all_map {X = X} f (x ∷ xs) h = rw (and_left (is_name (f x)) (list_all is_name (map f xs)) h) (all_map f xs (and_right (is_name (f x)) (list_all is_name (map f xs)) h))

name_in : {X : Type 0} (f : X → List ℕ) (xs : List X) (n : ℕ) (x : X) → are_names (map f xs) ≡ true → slice_get xs n ≡ Some x → IsBare (f x)
name_in {X = X} f xs n x h e = bare_name (f x) (all_at (λ x. is_name (f x)) xs n x (all_map f xs (and_left (list_all is_name (map f xs)) (are_apart (map f xs)) h)) e)

bare_entity_of : (script : Script) (n : ℕ) (o : Option EntityDef) → IsNamed script → slice_get script.mapping n ≡ o → IsBare (entity_name o)
bare_entity_of script n None h e = refl
bare_entity_of script n (Some d) h e = name_in (λ (d : EntityDef). d.name) script.mapping n d h.entities e

bare_entity : (script : Script) → IsNamed script → (n : ℕ) → IsBare (entity_text script n)
bare_entity script h n = bare_entity_of script n (slice_get script.mapping n) h refl

bare_query_of : (script : Script) (n : ℕ) (o : Option Query) → IsNamed script → slice_get script.queries n ≡ o → IsBare (query_name o)
bare_query_of script n None h e = refl
bare_query_of script n (Some d) h e = name_in (λ (d : Query). d.name) script.queries n d h.queries e

bare_query : (script : Script) → IsNamed script → (n : ℕ) → IsBare (query_text script n)
bare_query script h n = bare_query_of script n (slice_get script.queries n) h refl

bare_session_of : (script : Script) (n : ℕ) (o : Option SessionDef) → IsNamed script → slice_get script.sessions n ≡ o → IsBare (session_name o)
bare_session_of script n None h e = refl
bare_session_of script n (Some d) h e = name_in (λ (d : SessionDef). d.name) script.sessions n d h.sessions e

bare_session : (script : Script) → IsNamed script → (n : ℕ) → IsBare (session_text script n)
bare_session script h n = bare_session_of script n (slice_get script.sessions n) h refl

-- ---- columns

abbrev pub HasNames : List ColumnDef → Type 0
HasNames ds = are_names (map (λ (c : ColumnDef). c.name) ds) ≡ true

names_of_rules : (n : ℕ) (d : EntityDef) → are_columns n d ≡ true → HasNames d.columns
names_of_rules n d h =
    let names = are_names (map (λ (c : ColumnDef). c.name) d.columns) in
    let types = list_all (λ (c : ColumnDef). is_type_below n c.kind) d.columns in
    let defaults = are_defaults d.columns in
    and_left names defaults (and_right types (names && defaults) (and_right (nat_le (length d.columns) max_columns) (types && (names && defaults)) h))

columns_named_of : (script : Script) (n : ℕ) (o : Option EntityDef) → IsNamed script → slice_get script.mapping n ≡ o → HasNames (columns_in o)
columns_named_of script n None h e = refl
columns_named_of script n (Some d) h e = names_of_rules (length script.mapping) d (all_at (λ e. are_columns (length script.mapping) e) script.mapping n d h.columns e)

columns_named : (script : Script) (n : ℕ) → IsNamed script → HasNames (entity_columns script.mapping n)
columns_named script n h = columns_named_of script n (slice_get script.mapping n) h refl

bare_column_of : (ds : List ColumnDef) (n : ℕ) (o : Option ColumnDef) → HasNames ds → slice_get ds n ≡ o → IsBare (column_name o)
bare_column_of ds n None h e = refl
bare_column_of ds n (Some d) h e = name_in (λ (c : ColumnDef). c.name) ds n d h e

bare_column : (ds : List ColumnDef) (n : ℕ) → HasNames ds → IsBare (column_name (slice_get ds n))
bare_column ds n h = bare_column_of ds n (slice_get ds n) h refl

column_same : (o : Option EntityDef) (n : ℕ) → HasNames (columns_in o) → IsBare (column_in o n)
column_same None n h = refl
column_same (Some d) n h = bare_column d.columns n h

-- ---- cells

fine_from : (ds : List ColumnDef) (n : ℕ) (cs : List Cell) → HasNames ds → are_cells cs ≡ true → AreFineCells (cells_from ds n cs)
fine_from ds n [] h w = tt
fine_from ds n (c ∷ cs) h w = ((bare_column ds n h, and_left (is_cell c) (are_cells cs) w), fine_from ds (suc n) cs h (and_right (is_cell c) (are_cells cs) w))

fine_row : (script : Script) (k : Option Key) (r : Option Row) → IsNamed script → facts.RowIf r → AreFineCells (row_cells script k r)
fine_row script (Some k) (Some r) h w = fine_from (entity_columns script.mapping k.entity) 0 r.cells (columns_named script k.entity h) (and_right (is_version r.version) (are_cells r.cells) w)
fine_row script (Some k) None h w = tt
fine_row script None (Some r) h w = tt
fine_row script None None h w = tt

fine_sets : (script : Script) (entity : ℕ) (xs : List (ℕ × Cell)) → IsNamed script → list_all (λ x. is_set script entity x) xs ≡ true → AreFineCells (set_cells script entity xs)
fine_sets script entity [] h w = tt
fine_sets script entity (x ∷ xs) h w =
    let one : is_set script entity x ≡ true = and_left (is_set script entity x) (list_all (λ x. is_set script entity x) xs) w in (
      (column_same (slice_get script.mapping entity) x.0 (columns_named script entity h), and_right (nat_lt x.0 (length (entity_columns script.mapping entity))) (is_cell x.1) one),
      fine_sets script entity xs h (and_right (is_set script entity x) (list_all (λ x. is_set script entity x) xs) w),
    )

fine_cells_of : (script : Script) (a : Act) (k : Option Key) (r : Option Row) → IsNamed script → is_act script a ≡ true → facts.RowIf r → AreFineCells (cells_of script a k r)
fine_cells_of script (Act.Set q xs) k r h w f =
    fine_sets script q.entity xs h (and_right (nat_le 1 (length xs)) (list_all (λ x. is_set script q.entity x) xs) (and_right (is_key script q) (are_sets script q.entity xs) w))
fine_cells_of script a k r h w f = fine_row script k r h f

pub fine_cells : (script : Script) (e : Entry) → IsNamed script → is_act script e.act ≡ true → facts.good script e.reply ≡ true → AreFineCells (cells script e)
fine_cells script e h w g = fine_cells_of script e.act (parts.key_in e.act e.reply) (parts.row_in e.act e.reply) h w (facts.row_fine script e.act e.reply w g)

-- ---- words

bare_part : (p : Part) → IsBare (part_text p)
unfolding escape_byte
bare_part Part.Registry = refl
bare_part Part.Store = refl
bare_part Part.Stamps = refl
bare_part Part.Results = refl
bare_part (Part.Region n) = refl
bare_part (Part.Own s) = refl

-- letters and dashes alone
abbrev pub IsPlain : List ℕ → Type 0
IsPlain w = list_all is_word_byte w ≡ true

plain_change : (c : Change) → IsPlain (change_word c)
plain_change (Change.Insert k r) = refl
plain_change (Change.Update k v r) = refl
plain_change (Change.Delete k v) = refl

plain_act : (a : Act) → IsPlain (act_word a)
plain_act (Act.Write c) = plain_change c
plain_act _ = refl

plain_outcome : (o : Outcome) → IsPlain (outcome_text o)
plain_outcome Outcome.Committed = refl
plain_outcome Outcome.RolledBack = refl
plain_outcome Outcome.Stale = refl
plain_outcome Outcome.Duplicate = refl
plain_outcome Outcome.Fault = refl

plain_read : (r : Option Row) → IsPlain (read_word r)
plain_read None = refl
plain_read (Some r) = refl

plain_commit : (c : Commit) → IsPlain (commit_word c)
plain_commit Commit.Committed = refl
plain_commit (Commit.Stale k v) = refl
plain_commit (Commit.Duplicate k) = refl
plain_commit Commit.Fault = refl

plain_check : (c : Checked) → IsPlain (check_word c)
plain_check Checked.Fresh = refl
plain_check (Checked.Stale n t) = refl

plain_put : (p : Put) → IsPlain (put_word p)
plain_put (Put.Stored i late) = refl
plain_put (Put.Present v) = refl
plain_put (Put.Held n) = refl
plain_put (Put.Early t) = refl
plain_put (Put.Old v) = refl
plain_put Put.Crowded = refl

plain_unlock : (u : Unlocked) → IsPlain (unlock_word u)
plain_unlock (Unlocked.Released n) = refl
plain_unlock Unlocked.Expired = refl

plain_insert : (i : Inserted) → IsPlain (insert_word i)
plain_insert (Inserted.Stored i) = refl
plain_insert Inserted.Present = refl
plain_insert Inserted.Crowded = refl

plain_update : (u : Updated) → IsPlain (update_word u)
plain_update Updated.Stored = refl
plain_update (Updated.Shared n) = refl
plain_update Updated.Expired = refl

plain_evict : (e : Evicted) → IsPlain (evict_word e)
plain_evict Evicted.Gone = refl
plain_evict Evicted.Held = refl
plain_evict Evicted.Absent = refl

plain_reply : (r : Reply) → IsPlain (reply_word r)
plain_reply (Reply.Ended o) = plain_outcome o
plain_reply (Reply.Row r) = plain_read r
plain_reply (Reply.Commit c) = plain_commit c
plain_reply (Reply.Check c) = plain_check c
plain_reply (Reply.Put p) = plain_put p
plain_reply (Reply.Unlocked u) = plain_unlock u
plain_reply (Reply.Inserted i) = plain_insert i
plain_reply (Reply.Updated u) = plain_update u
plain_reply (Reply.Evicted e) = plain_evict e
plain_reply _ = refl

plain_miss : (m : Miss) → IsPlain (miss_word m)
plain_miss Miss.Absent = refl
plain_miss (Miss.Locked n) = refl
plain_miss (Miss.Released t) = refl
plain_miss (Miss.Young t) = refl

-- ---- values

fine_cause : (r : Reply) → IsFineIf (option_map word (cause_word r))
fine_cause (Reply.Miss m) = bare_bytes (miss_word m) (plain_miss m)
fine_cause _ = tt

fine_name : (name : ℕ → List ℕ) → ((n : ℕ) → IsBare (name n)) → (o : Option ℕ) → IsFineIf (named name o)
fine_name name h None = tt
fine_name name h (Some n) = h n

fine_number : (o : Option ℕ) → facts.SmallIf o → IsFineIf (numbered o)
fine_number None h = tt
fine_number (Some n) h = h

fine_list : (o : Option (List Cell)) → facts.ListIf o → IsFineIf (option_map list o)
fine_list None h = tt
fine_list (Some l) h = h

bare_names : (script : Script) (ts : List ℕ) → IsNamed script → AreBare (map (entity_text script) ts)
bare_names script [] h = tt
bare_names script (t ∷ ts) h = (bare_entity script h t, bare_names script ts h)

fine_tables : (script : Script) (o : Option (List ℕ)) → IsNamed script → IsFineIf (option_map (λ ts. words (map (entity_text script) ts)) o)
fine_tables script None h = tt
fine_tables script (Some ts) h = bare_names script ts h

fine_late : (o : Option Bool) → IsFineIf (option_map boolean o)
fine_late None = tt
fine_late (Some b) = tt

-- ---- members

pub fine_members : (script : Script) (e : Entry) → IsNamed script → is_act script e.act ≡ true → facts.good script e.reply ≡ true → AreFine (members script e)
unfolding escape_byte
fine_members script e h w g =
    let a = e.act in
    let r = e.reply in (
      (refl, fine_name (session_text script) (bare_session script h) e.session),
      (
        (refl, bare_part e.part),
        (
          (refl, bare_bytes (act_word a) (plain_act a)),
          (
            (refl, bare_bytes (reply_word r) (plain_reply r)),
            (
              (refl, fine_cause r),
              (
                (refl, fine_name (session_text script) (bare_session script h) (parts.killed_in a)),
                (
                  (refl, fine_name (entity_text script) (bare_entity script h) (key_entity (parts.key_in a r))),
                  (
                    (refl, fine_number (key_id (parts.key_in a r)) (facts.key_id_small script (parts.key_in a r) (facts.key_known script a r w g))),
                    (
                      (refl, fine_number (parts.version_in a r) (facts.version_in_small script a r w g)),
                      (
                        (refl, fine_number (parts.expected_in a) (facts.expected_small script a w)),
                        (
                          (refl, fine_number (parts.found_in r) (facts.found_small script r g)),
                          (
                            (refl, fine_name (query_text script) (bare_query script h) (parts.query_in a)),
                            (
                              (refl, fine_name (query_text script) (bare_query script h) (parts.dropped_in r)),
                              (
                                (refl, fine_list (parts.list_in a r) (facts.list_fine script a r w g)),
                                (
                                  (refl, fine_tables script (parts.tables_in a) h),
                                  (
                                    (refl, fine_name (entity_text script) (bare_entity script h) (parts.table_in r)),
                                    (
                                      (refl, fine_number (parts.stamp_in r) (facts.stamp_small script r g)),
                                      (
                                        (refl, fine_number (parts.time_in a r) (facts.time_small script a r w g)),
                                        (
                                          (refl, fine_number (parts.floor_in a r) (facts.floor_small script a r w g)),
                                          (
                                            (refl, fine_number (parts.lock_in a r) (facts.lock_small script a r w g)),
                                            (
                                              (refl, fine_number (parts.until_in r) (facts.until_small script r g)),
                                              (
                                                (refl, fine_number (parts.released_in r) (facts.released_small script r g)),
                                                (
                                                  (refl, fine_number (parts.stored_in r) (facts.stored_small script r g)),
                                                  (
                                                    (refl, fine_number (parts.holders_in r) (facts.holders_small script r g)),
                                                    (
                                                      (refl, fine_number (parts.evicted_in r) (facts.evicted_in_small script r g)),
                                                      (
                                                        (refl, fine_late (parts.late_in r)),
                                                        tt,
                                                      ),
                                                    ),
                                                  ),
                                                ),
                                              ),
                                            ),
                                          ),
                                        ),
                                      ),
                                    ),
                                  ),
                                ),
                              ),
                            ),
                          ),
                        ),
                      ),
                    ),
                  ),
                ),
              ),
            ),
          ),
        ),
      ),
    )
