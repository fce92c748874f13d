-- What the three writes leave.
use Rattle.std.proofs.Common.{◌≡◌, ◌≢◌, ◌⊎◌, inl, inr, ℕ, ℤ, pos, Bool, true, false, cond, List, [], ◌∷◌, ◌++◌, map, drop, Some, None, Option, Ok, Err, Result, unwrap_or, refl, sym, ◌∙◌, subst, ap}
use Rattle.std.specs.List.{list_all}
use Rattle.std.specs.List.Sorted.{IsPermutation}
use Rattle.std.proofs.lemmas.List.Sorted.{IsPermutation-sym}
use Rattle.sqlite_value.specs.declared.value.Value.{Value}
use Rattle.sqlite_value.specs.declared.value.Value.TheVariants.{Null, Int, Blob}
use Rattle.sqlite_value.specs.Order.{Row as SqlRow, column}
use Rattle.sqlite.specs.Values.{or_null}
use Rattle.sqlite.specs.Kind.TheVariants.{Integer}
use Rattle.sqlite.specs.Cast.{cast, cast_row}
use Rattle.sqlite.specs.Ops.{unary}
use Rattle.sqlite.specs.Edit.{edit_of, numbered, put_all, without_all, are_fresh, next_rowid, id_in}
use Rattle.sqlite.specs.Rowids.TheVariants.{Chosen, Given}
use Rattle.sqlite.specs.Tree.{Trees, put_row, rowid}
use Rattle.sqlite.specs.Term.{Env, holds, col}
use Rattle.sqlite.specs.Query.{Query, Output, output}
use Rattle.sqlite.specs.Does.{Tally, Does}
use Rattle.sqlite.specs.Rows.{Written}
use Rattle.sqlite.specs.Effect.{Database}
use Rattle.sqlite.specs.State.{State, Executes, Writes as Wrote, mode_of}
use Rattle.sqlite.specs.Command.TheVariants.{Insert, Update, Delete}
use Rattle.sqlite.specs.Source.TheVariants.{Values}
use Rattle.sqlite.specs.Listing.{understood}
use Rattle.sqlite.proofs.Callers.{statement_of, runs_as, one_step}
use Rattle.sqlite_rules.specs.Lists.{Has}
use Rattle.sqlite_rules.specs.Calls.{ids_of}
use Rattle.sqlite_rules.proofs.ListLemmas.{all_has, all_from}
use Rattle.sqlite_trees.proofs.ListLemmas.{all-permutation}
use Rattle.sqlite_sql.specs.Term.{Term}
use Rattle.hib_sqlite_rows.specs.Types.{Key, Row}
use Rattle.hib_sqlite_rows.specs.Body.{packed, IsPackable}
use Rattle.hib_sqlite_rows.proofs.Laws.{unpacked_packed}
use Rattle.hib_base.specs.Keys.{same_key}
use Rattle.hib_base.specs.Tables.{Tables, row_at, with_row, without_row}
use Rattle.hib_sqlite_rows.specs.Stored.{kept, kept_schema, key_in, row_in, stored, tables_of, IsKept, AreKept, version_in}
use Rattle.hib_sqlite_rows.specs.Shown.{shown, bound_key, bound_row, IsInRange}
use Rattle.hib_base.proofs.Tables.{same_key_eq, same_key_refl, row_at_without_same}
use Rattle.hib_sqlite_rows.specs.Ordered.{tables_in_order}
use Rattle.hib_sqlite_rows.proofs.Told.{told_none, found, with_without, Adds, Removes, added_kept, added_told, removed_kept, removed_told}
use Rattle.hib_sqlite_rows.proofs.Members.{removes, adds}
use Rattle.hib_sqlite_rows.proofs.Queries.{Answered, answered, matched, tests_key}
use Rattle.hib_sqlite_rows.specs.Texts.{insert_text, update_text, delete_text}
use Rattle.hib_sqlite_rows.proofs.Texts.{terms, has_entity, has_id, update_query, delete_query, insert_is, insert_plain, update_is, update_plain, delete_is, delete_plain}

-- ---- what an answer has

permuted_has : {X : Type 0} (xs ys : List X) → IsPermutation xs ys → (x : X) → Has ys x → Has xs x
permuted_has xs ys same x h = all_has (Has xs) ys x (all-permutation (Has xs) xs ys same (all_from (Has xs) xs (λ y k. k))) h

map_has : {A B : Type 0} (f : A → B) (xs : List A) (y : B) → Has (map f xs) y → (x : A) × Has xs x × (y ≡ f x)
map_has f [] y h = absurd h
map_has f (x ∷ xs) y (inl e) = (x, inl refl, e)
map_has f (x ∷ xs) y (inr h) = let it = map_has f xs y h in (it.0, inr it.1, it.2)

has_map : {A B : Type 0} (f : A → B) (xs : List A) (x : A) → Has xs x → Has (map f xs) (f x)
has_map f [] x h = absurd h
has_map f (y ∷ xs) x (inl e) = inl (ap f e)
has_map f (y ∷ xs) x (inr h) = inr (has_map f xs x h)

matched_has : (params : SqlRow) (fs : List Term) (rows : List SqlRow) (env : Env) → Has (matched params fs rows) env → (r : SqlRow) × Has rows r × (list_all (holds (params ∷ r ∷ [])) fs ≡ true) × (env ≡ params ∷ r ∷ [])
matched_has params fs [] env h = absurd h
matched_has params fs (r ∷ rows) env h = by (list_all (holds (params ∷ r ∷ [])) fs) refl h (matched_has params fs rows env)
  where
    by : (b : Bool) → list_all (holds (params ∷ r ∷ [])) fs ≡ b → Has (cond b ((params ∷ r ∷ []) ∷ []) [] ++ matched params fs rows) env
        → (Has (matched params fs rows) env → (s : SqlRow) × Has rows s × (list_all (holds (params ∷ s ∷ [])) fs ≡ true) × (env ≡ params ∷ s ∷ []))
        → (s : SqlRow) × Has (r ∷ rows) s × (list_all (holds (params ∷ s ∷ [])) fs ≡ true) × (env ≡ params ∷ s ∷ [])
    by true is (inl e) later = (r, inl refl, is, e)
    by true is (inr m) later = let it = later m in (it.0, inr it.1, it.2, it.3)
    by false is m later = let it = later m in (it.0, inr it.1, it.2, it.3)

has_matched : (params : SqlRow) (fs : List Term) (rows : List SqlRow) (r : SqlRow) → Has rows r → list_all (holds (params ∷ r ∷ [])) fs ≡ true → Has (matched params fs rows) (params ∷ r ∷ [])
has_matched params fs [] r h passes = absurd h
has_matched params fs (s ∷ rows) r (inl e) passes = subst (λ x. Has (matched params fs (x ∷ rows)) (params ∷ r ∷ [])) e (rw passes (inl refl))
has_matched params fs (s ∷ rows) r (inr h) passes = by (list_all (holds (params ∷ s ∷ [])) fs) (has_matched params fs rows r h passes)
  where
    by : (b : Bool) → Has (matched params fs rows) (params ∷ r ∷ []) → Has (cond b ((params ∷ s ∷ []) ∷ []) [] ++ matched params fs rows) (params ∷ r ∷ [])
    by true m = inr m
    by false m = m

module _ (q : Query) (fs : List Term) (rows : List SqlRow) (params : SqlRow) (answer : List SqlRow) (a : Answered q fs rows params answer) where
  answer_has : (x : SqlRow) → Has answer x → (r : SqlRow) × Has rows r × (list_all (holds (params ∷ r ∷ [])) fs ≡ true) × (x ≡ (output q (params ∷ r ∷ [])).1)
  answer_has x h =
      let one = map_has (λ (o : Output). o.1) a.ordered x (subst (λ l. Has l x) a.shown h) in
      let two = map_has (output q) (matched params fs rows) one.0 (permuted_has (map (output q) (matched params fs rows)) a.ordered a.same one.0 one.1) in
      let three = matched_has params fs rows two.0 two.1 in
      (three.0, three.1, three.2, one.2 ∙ ap (λ (o : Output). o.1) (two.2 ∙ ap (output q) three.3))

  has_answer : (r : SqlRow) → Has rows r → list_all (holds (params ∷ r ∷ [])) fs ≡ true → Has answer ((output q (params ∷ r ∷ [])).1)
  has_answer r h passes =
      let one = has_map (output q) (matched params fs rows) (params ∷ r ∷ []) (has_matched params fs rows r h passes) in
      let two = permuted_has a.ordered (map (output q) (matched params fs rows)) (IsPermutation-sym _ _ a.same) (output q (params ∷ r ∷ [])) one in
      subst (λ l. Has l ((output q (params ∷ r ∷ [])).1)) (sym a.shown) (has_map (λ (o : Output). o.1) a.ordered (output q (params ∷ r ∷ [])) two)

-- ---- what a column makes of a value

either : (b : Bool) (x : Value) → cond b x x ≡ x
either true x = refl
either false x = refl

cast_null : cast Integer Null ≡ Null
unfolding unary
cast_null = either _ Null

cast_int : (n : ℤ) → cast Integer (Int n) ≡ Int n
unfolding unary
cast_int n = either _ (Int n)

cast_version : (o : Option ℕ) → cast Integer (or_null (λ v. Int (pos v)) o) ≡ or_null (λ v. Int (pos v)) o
cast_version None = cast_null
cast_version (Some v) = cast_int (pos v)

pub row_in_stored : (n : ℤ) (k : Key) (r : Row) → IsPackable r.cells → row_in (stored n k r) ≡ r
row_in_stored n k r packable = λ i. record { version = at r.version i; cells = unwrap_or (unpacked_packed r.cells packable i) [] }
  where
    at : (o : Option ℕ) → version_in (or_null (λ v. Int (pos v)) o) ≡ o
    at None = refl
    at (Some v) = refl

pub stored_is_kept : (n : ℤ) (k : Key) (r : Row) → IsInRange k r → IsKept (stored n k r)
stored_is_kept n k r fits =
    record {
      shape = ap (stored n k) (sym (row_in_stored n k r fits.cells));
      range = subst (IsInRange k) (sym (row_in_stored n k r fits.cells)) fits;
    }

-- ---- the parts of a statement

-- a part that gave a value did not stop on the way
pub went : {B E R : Type 0} {b : B} {Stops : E → Type 0} → ((stop : E) × Stops stop × (Ok b ≡ Err stop)) ⊎ R → R
went (inl stopped) = absurd (let e = stopped.2 in cc)
went (inr on) = on

pub same_value : {B E : Type 0} {a b : B} → ◌≡◌ {A = Result B E} (Ok a) (Ok b) → a ≡ b
same_value e = cc

-- what a write leaves
pub record Left (new : State) (tables : Tables) : Type 0 where
  pub schema : new.now.schema ≡ kept_schema
  pub rows : AreKept (new.now.trees 0)
  pub now : tables_of (new.now.trees 0) ≡ tables

added : (new : State) (rows after : List SqlRow) (n : ℤ) (k : Key) (r : Row) → new.now.schema ≡ kept_schema → new.now.trees 0 ≡ after → AreKept rows → IsInRange k r → row_at (tables_of rows) k ≡ None
    → Adds rows after (stored n k r) → Left new (with_row (tables_of rows) k r)
added new rows after n k r schema is are fits none adds =
    let all : AreKept after = added_kept rows after (stored n k r) are (stored_is_kept n k r fits) adds none in
    record {
      schema = schema;
      rows = subst AreKept (sym is) all;
      now = ap tables_of is ∙ added_told rows after (stored n k r) are all adds ∙ ap (with_row (tables_of rows) k) (row_in_stored n k r fits.cells);
    }

-- ---- INSERT

put_is : (k : Key) (r : Row) (rows : List SqlRow) → numbered Chosen rows (map (λ s. cast_row kept s) ((Null ∷ bound_row k r.version (packed r.cells)) ∷ [])) ≡ stored (next_rowid rows) k r ∷ []
unfolding unary
put_is k r rows = rw cast_null (λ j. (Int (next_rowid rows) ∷ cast_int (pos k.entity) j ∷ cast_int (pos k.id) j ∷ cast_version r.version j ∷ Blob (packed r.cells) ∷ []) ∷ [])

pub inserts : (old new : State) (k : Key) (r : Row) (count : ℕ) → old.now.schema ≡ kept_schema → AreKept (old.now.trees 0) → IsInRange k r → row_at (tables_of (old.now.trees 0)) k ≡ None
    → Executes insert_text (bound_row k r.version (packed r.cells)) old new (Ok count) → (text : List ℕ) × Wrote old new None (Insert 0 (Values terms 5)) text (bound_row k r.version (packed r.cells)) count × Left new (with_row (tables_of (old.now.trees 0)) k r)
inserts old new k r count has are fits none h =
    let params = bound_row k r.version (packed r.cells) in
    let db = old.now.trees in
    let command = Insert 0 (Values terms 5) in
    let w = runs_as insert_text params old new kept_schema has command insert_is insert_plain count h in
    let text = statement_of insert_text (understood kept_schema insert_text) in
    let done = went (subst (λ s. Does old.step_limit (mode_of old) params (record old.now { schema = s }) text None command (Ok (w.tally, new.now))) has w.changed) in
    let now = ap (λ (p : Tally × Database). p.1) (same_value (went (went done.2).2).2) in
    let given = went done.1 in
    let wrote = went (went given.2).2 in
    let counted = went wrote.2 in
    let trees : done.0.trees ≡ wrote.0 = ap (λ (it : Written). it.trees) (same_value counted.2) ∙ same_value counted.1 in
    let step = one_step kept_schema _ db wrote.0 (edit_of db kept [] Chosen 0 given.0) refl wrote.1 in
    let new_row = stored (next_rowid (db 0)) k r in
    let news : numbered Chosen (db 0) (map (λ s. cast_row kept s) given.0) ≡ new_row ∷ [] = ap (λ all. numbered Chosen (db 0) (map (λ s. cast_row kept s) all)) given.1.1 ∙ put_is k r (db 0) in
    let fresh : are_fresh (db 0) (new_row ∷ []) ≡ true = subst (λ l. are_fresh (db 0) l ≡ true) news step.fresh in
    let is : new.now.trees 0 ≡ put_all (db 0) (new_row ∷ []) = ap (λ (d : Database). d.trees 0) now ∙ ap (λ (t : Trees). t 0) trees ∙ step.rows ∙ ap (put_all (db 0)) news in
    let more : Adds (db 0) (put_all (db 0) (new_row ∷ [])) new_row = adds (db 0) (new_row ∷ []) new_row are.table fresh (inl refl) (λ x m. elim m [ inl e ↦ e | inr none ↦ absurd none ]) in
    (text, w, added new (db 0) (put_all (db 0) (new_row ∷ [])) (next_rowid (db 0)) k r (ap (λ (d : Database). d.schema) now) is are fits none more)

-- ---- DELETE

-- the rows that the query of a write finds are those of the key
module _ (q : Query) (rows : List SqlRow) (k : Key) (more : SqlRow) (answer : List SqlRow) (a : Answered q (has_entity ∷ has_id ∷ []) rows ((Int (pos k.entity) ∷ Int (pos k.id) ∷ more)) answer) (are : AreKept rows)
    (first : (r : SqlRow) → rowid ((output q ((Int (pos k.entity) ∷ Int (pos k.id) ∷ more) ∷ r ∷ [])).1) ≡ rowid r) where
  goes : Removes rows (without_all rows (ids_of answer)) k
  goes = removes (ids_of answer) rows k are
      (λ id m.
      let one = map_has (λ (r : SqlRow). id_in (rowid r)) answer id m in
      let two = answer_has q (has_entity ∷ has_id ∷ []) rows (Int (pos k.entity) ∷ Int (pos k.id) ∷ more) answer a one.0 one.1 in
      (two.0, two.1, sym (tests_key two.0 k more (are.all two.0 two.1)) ∙ two.2, one.2 ∙ ap (λ (r : SqlRow). id_in (rowid r)) two.3 ∙ ap id_in (first two.0)))
      (λ r h same.
      let passes = tests_key r k more (are.all r h) ∙ same in
      let one = has_answer q (has_entity ∷ has_id ∷ []) rows (Int (pos k.entity) ∷ Int (pos k.id) ∷ more) answer a r h passes in
      subst (λ v. Has (ids_of answer) (id_in v)) (first r) (has_map (λ (x : SqlRow). id_in (rowid x)) answer ((output q ((Int (pos k.entity) ∷ Int (pos k.id) ∷ more) ∷ r ∷ [])).1) one))

pub deletes : (old new : State) (k : Key) (count : ℕ) → old.now.schema ≡ kept_schema → AreKept (old.now.trees 0)
    → Executes delete_text (bound_key k) old new (Ok count) → (text : List ℕ) × Wrote old new None (Delete 0 (record { lets = []; body = delete_query })) text (bound_key k) count × Left new (without_row (tables_of (old.now.trees 0)) k)
deletes old new k count has are h =
    let params = bound_key k in
    let db = old.now.trees in
    let command = Delete 0 (record { lets = []; body = delete_query }) in
    let w = runs_as delete_text params old new kept_schema has command delete_is delete_plain count h in
    let text = statement_of delete_text (understood kept_schema delete_text) in
    let done = went (subst (λ s. Does old.step_limit (mode_of old) params (record old.now { schema = s }) text None command (Ok (w.tally, new.now))) has w.changed) in
    let now = ap (λ (p : Tally × Database). p.1) (same_value (went (went done.2).2).2) in
    let given = went done.1 in
    let wrote = went given.2 in
    let trees : done.0.trees ≡ wrote.0 = ap (λ (it : Written). it.trees) (same_value wrote.2) in
    let step = one_step kept_schema _ db wrote.0 (edit_of db kept (ids_of given.0) Given 0 []) refl wrote.1 in
    let after = without_all (db 0) (ids_of given.0) in
    let is : new.now.trees 0 ≡ after = ap (λ (d : Database). d.trees 0) now ∙ ap (λ (t : Trees). t 0) trees ∙ step.rows in
    let a = answered (has_entity ∷ has_id ∷ []) (col 1 0 ∷ []) [] db params given.0 (given.1.answer Null) in
    let gone : Removes (db 0) after k = goes delete_query (db 0) k [] given.0 a are (λ r. refl) in (
      text,
      w,
      record {
        schema = ap (λ (d : Database). d.schema) now;
        rows = subst AreKept (sym is) (removed_kept (db 0) after k are gone);
        now = ap tables_of is ∙ removed_told (db 0) after k are gone;
      },
    )

-- ---- UPDATE

numbered_given : (rows news : List SqlRow) → numbered Given rows news ≡ news
numbered_given rows [] = refl
numbered_given rows (n ∷ news) = ap (λ l. n ∷ l) (numbered_given (put_row n rows) news)

-- what is written in the place of a row of the key
update_is_row : (k : Key) (r : Row) (x : SqlRow) → IsKept x → key_in x ≡ k
    → cast_row kept (drop 1 (output update_query (bound_row k r.version (packed r.cells) ∷ x ∷ [])).1) ≡ stored (id_in (rowid x)) k r
unfolding unary
update_is_row k r x is same =
    let put : SqlRow → SqlRow = λ y. cast_row kept (column y 0 ∷ column y 1 ∷ column y 2 ∷ shown r) in
    ap put is.shape ∙ (λ j. cast_int (id_in (rowid x)) j ∷ cast_int (pos (key_in x).entity) j ∷ cast_int (pos (key_in x).id) j ∷ cast_version r.version j ∷ Blob (packed r.cells) ∷ [])
    ∙ ap (λ (y : Key). stored (id_in (rowid x)) y r) same

pub updates : (old new : State) (k : Key) (r : Row) (count : ℕ) → old.now.schema ≡ kept_schema → AreKept (old.now.trees 0) → IsInRange k r → row_at (tables_of (old.now.trees 0)) k ≢ None
    → Executes update_text (bound_row k r.version (packed r.cells)) old new (Ok count)
    → (text : List ℕ) × Wrote old new None (Update 0 (record { lets = []; body = update_query })) text (bound_row k r.version (packed r.cells)) count × Left new (with_row (tables_of (old.now.trees 0)) k r)
updates old new k r count has are fits there h =
    let params = bound_row k r.version (packed r.cells) in
    let db = old.now.trees in
    let command = Update 0 (record { lets = []; body = update_query }) in
    let w = runs_as update_text params old new kept_schema has command update_is update_plain count h in
    let text = statement_of update_text (understood kept_schema update_text) in
    let done = went (subst (λ s. Does old.step_limit (mode_of old) params (record old.now { schema = s }) text None command (Ok (w.tally, new.now))) has w.changed) in
    let now = ap (λ (p : Tally × Database). p.1) (same_value (went (went done.2).2).2) in
    let given = went done.1 in
    let wrote = went given.2 in
    let trees : done.0.trees ≡ wrote.0 = ap (λ (it : Written). it.trees) (same_value wrote.2) in
    let step = one_step kept_schema _ db wrote.0 (edit_of db kept (ids_of given.0) Given 1 given.0) refl wrote.1 in
    let left = without_all (db 0) (ids_of given.0) in
    let news : List SqlRow = map (λ s. cast_row kept (drop 1 s)) given.0 in
    let same_news : numbered Given left news ≡ news = numbered_given left news in
    let fresh : are_fresh left news ≡ true = subst (λ l. are_fresh left l ≡ true) same_news step.fresh in
    let is : new.now.trees 0 ≡ put_all left news = ap (λ (d : Database). d.trees 0) now ∙ ap (λ (t : Trees). t 0) trees ∙ step.rows ∙ ap (put_all left) same_news in
    let a = answered (has_entity ∷ has_id ∷ []) (col 1 0 ∷ col 1 0 ∷ col 1 1 ∷ col 1 2 ∷ col 0 2 ∷ col 0 3 ∷ []) [] db params given.0 (given.1.answer Null) in
    let gone : Removes (db 0) left k = goes update_query (db 0) k (shown r) given.0 a are (λ x. refl) in
    let one = the_row (found (db 0) k) in
    let passes = tests_key one.0 k (shown r) (are.all one.0 one.1) ∙ subst (λ (j : Key). same_key j k ≡ true) (sym one.2) (same_key_refl k) in
    let came : Has news (stored (id_in (rowid one.0)) k r) =
    subst (Has news) (update_is_row k r one.0 (are.all one.0 one.1) one.2)
    (has_map (λ s. cast_row kept (drop 1 s)) given.0 ((output update_query (params ∷ one.0 ∷ [])).1) (has_answer update_query (has_entity ∷ has_id ∷ []) (db 0) params given.0 a one.0 one.1 passes)) in
    let only : (x : SqlRow) → Has news x → x ≡ stored (id_in (rowid one.0)) k r = λ x m.
    let p = map_has (λ (s : SqlRow). cast_row kept (drop 1 s)) given.0 x m in
    let q = answer_has update_query (has_entity ∷ has_id ∷ []) (db 0) params given.0 a p.0 p.1 in
    let key : key_in q.0 ≡ k = same_key_eq (key_in q.0) k (sym (tests_key q.0 k (shown r) (are.all q.0 q.1)) ∙ q.2) in
    let same : q.0 ≡ one.0 = are.keys q.0 one.0 q.1 one.1 (key ∙ sym one.2) in
    p.2 ∙ ap (λ (s : SqlRow). cast_row kept (drop 1 s)) q.3 ∙ update_is_row k r q.0 (are.all q.0 q.1) key ∙ ap (λ (y : SqlRow). stored (id_in (rowid y)) k r) same in
    let more : Adds left (put_all left news) (stored (id_in (rowid one.0)) k r) = adds left news (stored (id_in (rowid one.0)) k r) gone.table fresh came only in
    let without : tables_of left ≡ without_row (tables_of (db 0)) k = removed_told (db 0) left k are gone in
    let it = added new left (put_all left news) (id_in (rowid one.0)) k r (ap (λ (d : Database). d.schema) now) is (removed_kept (db 0) left k are gone) fits
    (ap (λ t. row_at t k) without ∙ row_at_without_same (tables_of (db 0)) k) more in (
      text,
      w,
      record {
        schema = it.schema;
        rows = it.rows;
        now = it.now ∙ ap (λ t. with_row t k r) without ∙ with_without (tables_of (db 0)) k r (tables_in_order (db 0));
      },
    )
  where
    the_row : ((x : SqlRow) × Has (old.now.trees 0) x × (key_in x ≡ k)) ⊎ ((x : SqlRow) → Has (old.now.trees 0) x → same_key (key_in x) k ≡ false) → (x : SqlRow) × Has (old.now.trees 0) x × (key_in x ≡ k)
    the_row (inl it) = it
    the_row (inr none) = absurd (there (told_none (old.now.trees 0) k none))
