-- The statements over a connection in memory.
use Rattle.std.proofs.Common.{◌≡◌, ◌≢◌, ℕ, pos, Bool, true, false, not, List, [], ◌∷◌, Some, None, Option, Ok, Err, Result, IfOk, IfErr, OnOk, OnErr, refl, sym, ◌∙◌, ap}
use Rattle.sqlite_value.specs.declared.value.Value.TheVariants.{Int, Blob}
use Rattle.sqlite_value.specs.declared.value.ValueRef.{ValueRef}
use Rattle.sqlite_value.specs.Value.{owned}
use Rattle.sqlite_value.specs.Order.{Row as SqlRow}
use Rattle.sqlite_trees.specs.declared.memory.MemStore.{MemStore}
use Rattle.sqlite.specs.Values.{bound, bound_value, or_null}
use Rattle.sqlite.specs.Tree.{Trees}
use Rattle.sqlite.specs.Held.{Held, state}
use Rattle.sqlite.specs.Steps.{over_memory}
use Rattle.sqlite.specs.Listing.{understood}
use Rattle.sqlite.specs.declared.error.Error.{Error}
use Rattle.sqlite.specs.State.{State, Executes, Survives, Shown, FailsToQuery}
use Rattle.sqlite.proofs.Callers.{IsPlain, memory_is_clean}
use Rattle.hib_base.specs.Tables.{row_at, with_row, without_row}
use Rattle.hib_sqlite_rows.specs.Types.{Key, Row}
use Rattle.hib_sqlite_rows.specs.Body.{packed}
use Rattle.hib_sqlite_rows.specs.Texts.{insert_text, update_text, delete_text, begin_text, commit_text, rollback_text, read_text, list_text}
use Rattle.hib_sqlite_rows.specs.Told.{Told, at_rest, LeavesOrUndoes}
use Rattle.hib_sqlite_rows.specs.Shown.{IsInRange, bound_key, bound_row, ShowsKey, ShowsEntity}
use Rattle.hib_sqlite_rows.specs.Stored.{kept_schema, tables_of, KeepsRows}
use Rattle.hib_sqlite_rows.proofs.Told.{packable_at, packable_in}
use Rattle.hib_sqlite_rows.proofs.Texts.{read_plain, list_plain}
use Rattle.hib_sqlite_rows.proofs.Queries.{reads_key, reads_entity}
use Rattle.hib_sqlite_rows.proofs.Writes.{inserts, updates, deletes}
use Rattle.hib_sqlite_rows.proofs.States.{told_by, back, undoes, within, stays_open, execute_err, query_err, query_ok, unchanged_told, unchanged_keeps, fails_keeps, fails_told, write_told, write_keeps, begins, commits, rolls_back, undone_told, undone_keeps}

abbrev pub st : Held MemStore → State
st h = state over_memory h

pub on_err : {T E : Type 0} {P : Type 0} (r : Result T E) → P → OnErr r P
on_err (Ok x) p = tt
on_err (Err e) p = p

-- ---- what is bound

version_is : (o : Option ℕ) → bound_value (or_null (λ v. Int (pos v)) o) ≡ or_null (λ v. Int (pos v)) o
version_is None = refl
version_is (Some v) = refl

pub bound_key_is : (k : Key) (a b : ValueRef) → owned a ≡ Int (pos k.entity) → owned b ≡ Int (pos k.id) → bound (a ∷ b ∷ []) ≡ bound_key k
bound_key_is k a b p q = λ i. bound_value (p i) ∷ bound_value (q i) ∷ []

pub bound_row_is : (k : Key) (version : Option ℕ) (body : List ℕ) (a b v d : ValueRef) → owned a ≡ Int (pos k.entity) → owned b ≡ Int (pos k.id) → owned v ≡ or_null (λ n. Int (pos n)) version → owned d ≡ Blob body
    → bound (a ∷ b ∷ v ∷ d ∷ []) ≡ bound_row k version body
bound_row_is k version body a b v d p q s t =
    let same : bound_value (owned v) ≡ or_null (λ n. Int (pos n)) version = ap bound_value s ∙ version_is version in
    λ i. bound_value (p i) ∷ bound_value (q i) ∷ same i ∷ bound_value (t i) ∷ []

-- ---- calls that fail

-- the connection keeps its rows, and tells this
abbrev pub Ends : Held MemStore → Told → Type 0
Ends new t = KeepsRows (st new) × (Some (told_by (st new)) ≡ Some t)

abbrev pub EndsUndone : Held MemStore → Held MemStore → Type 0
EndsUndone old new = KeepsRows (st new) × LeavesOrUndoes (Some (told_by (st old))) (Some (told_by (st new)))

pub call_err : (old new : Held MemStore) (sql : List ℕ) (params : SqlRow) (e : Error) (P : Trees → Type 0) → KeepsRows (st old) → Survives (st old) (st new) P → Executes sql params (st old) (st new) (Err e) → EndsUndone old new
call_err old new sql params e P keeps survives h =
    let is_open = stays_open (st old) (st new) P (memory_is_clean new) keeps.is_open refl refl survives in
    let undone = execute_err (st old) (st new) sql params e h in
    (fails_keeps (st old) (st new) is_open keeps undone, undoes _ _ (fails_told (st old) (st new) is_open undone))

-- ---- queries

abbrev pub Reads : {V : Type 0} → (V → Told → Type 0) → Held MemStore → Held MemStore → Result V Error → Type 0
Reads shows old new r =
    KeepsRows (st new) × IfOk r (λ v. shows v (told_by (st old))) × OnOk r (Some (told_by (st new)) ≡ Some (told_by (st old))) × OnErr r (LeavesOrUndoes (Some (told_by (st old))) (Some (told_by (st new))))

query_done : {V : Type 0} (items : V → List SqlRow) (shows : V → Told → Type 0) (old new : Held MemStore) (sql : List ℕ) (params : SqlRow) (P : Trees → Type 0) (r : Result V Error) → IsPlain (understood kept_schema sql)
    → KeepsRows (st old) → ((v : V) → Shown sql params (st old) (st new) (items v) → shows v (told_by (st old)))
    → IfOk r (λ v. Shown sql params (st old) (st new) (items v)) → IfErr r (FailsToQuery sql params (st old) (st new)) → Survives (st old) (st new) P → Reads shows old new r
query_done items shows old new sql params P (Ok v) plain keeps meaning ok err survives =
    let same = query_ok (st old) (st new) sql params (items v) keeps.schema plain ok in
    (unchanged_keeps (st old) (st new) keeps same, meaning v ok, ap (λ t. Some t) (unchanged_told (st old) (st new) same), tt)
query_done items shows old new sql params P (Err e) plain keeps meaning ok err survives =
    let is_open = stays_open (st old) (st new) P (memory_is_clean new) keeps.is_open refl refl survives in
    let undone = query_err (st old) (st new) sql params e err in
    (fails_keeps (st old) (st new) is_open keeps undone, tt, tt, undoes _ _ (fails_told (st old) (st new) is_open undone))

pub key_done : {V : Type 0} (items : V → List SqlRow) (old new : Held MemStore) (k : Key) (P : Trees → Type 0) (r : Result V Error) → KeepsRows (st old)
    → IfOk r (λ v. Shown read_text (bound_key k) (st old) (st new) (items v)) → IfErr r (FailsToQuery read_text (bound_key k) (st old) (st new)) → Survives (st old) (st new) P
    → Reads (λ v t. ShowsKey (items v) t.now k) old new r
key_done items old new k P r keeps =
    query_done items (λ v t. ShowsKey (items v) t.now k) old new read_text (bound_key k) P r read_plain keeps
    (λ v h. record { rows_are = reads_key (st old) (st new) k (items v) keeps.schema keeps.rows h; packable = packable_at ((st old).now.trees 0) k keeps.rows })

pub entity_done : {V : Type 0} (items : V → List SqlRow) (old new : Held MemStore) (n : ℕ) (P : Trees → Type 0) (r : Result V Error) → KeepsRows (st old)
    → IfOk r (λ v. Shown list_text (Int (pos n) ∷ []) (st old) (st new) (items v)) → IfErr r (FailsToQuery list_text (Int (pos n) ∷ []) (st old) (st new)) → Survives (st old) (st new) P
    → Reads (λ v t. ShowsEntity (items v) t.now n) old new r
entity_done items old new n P r keeps =
    query_done items (λ v t. ShowsEntity (items v) t.now n) old new list_text (Int (pos n) ∷ []) P r list_plain keeps
    (λ v h. record { rows_are = reads_entity (st old) (st new) n (items v) keeps.schema keeps.rows h; packable = packable_in ((st old).now.trees 0) n keeps.rows })

-- ---- writes

pub insert_done : (old new : Held MemStore) (k : Key) (r : Row) (count : ℕ) → KeepsRows (st old) → IsInRange k r → (told_by (st old)).in_transaction ≡ true → row_at (told_by (st old)).now k ≡ None
    → Executes insert_text (bound_row k r.version (packed r.cells)) (st old) (st new) (Ok count) → Ends new (record (told_by (st old)) { now = with_row (told_by (st old)).now k r })
insert_done old new k r count keeps fits inside none h =
    let it = inserts (st old) (st new) k r count keeps.schema keeps.rows fits none h in
    (write_keeps (st old) (st new) _ keeps it.1.shown it.2, ap (λ t. Some t) (write_told (st old) (st new) _ it.1.shown it.2 ∙ within (told_by (st old)) _ inside))

pub update_done : (old new : Held MemStore) (k : Key) (r : Row) (count : ℕ) → KeepsRows (st old) → IsInRange k r → (told_by (st old)).in_transaction ≡ true → row_at (told_by (st old)).now k ≢ None
    → Executes update_text (bound_row k r.version (packed r.cells)) (st old) (st new) (Ok count) → Ends new (record (told_by (st old)) { now = with_row (told_by (st old)).now k r })
update_done old new k r count keeps fits inside there h =
    let it = updates (st old) (st new) k r count keeps.schema keeps.rows fits there h in
    (write_keeps (st old) (st new) _ keeps it.1.shown it.2, ap (λ t. Some t) (write_told (st old) (st new) _ it.1.shown it.2 ∙ within (told_by (st old)) _ inside))

pub delete_done : (old new : Held MemStore) (k : Key) (count : ℕ) → KeepsRows (st old) → (told_by (st old)).in_transaction ≡ true
    → Executes delete_text (bound_key k) (st old) (st new) (Ok count) → Ends new (record (told_by (st old)) { now = without_row (told_by (st old)).now k })
delete_done old new k count keeps inside h =
    let it = deletes (st old) (st new) k count keeps.schema keeps.rows h in
    (write_keeps (st old) (st new) _ keeps it.1.shown it.2, ap (λ t. Some t) (write_told (st old) (st new) _ it.1.shown it.2 ∙ within (told_by (st old)) _ inside))

-- ---- a transaction

pub begin_done : (old new : Held MemStore) (count : ℕ) → KeepsRows (st old) → Executes begin_text [] (st old) (st new) (Ok count) → Ends new (record (told_by (st old)) { in_transaction = true })
begin_done old new count keeps h = let it = begins (st old) (st new) count keeps h in (it.1, ap (λ t. Some t) it.0)

pub commit_done : (old new : Held MemStore) (count : ℕ) → KeepsRows (st old) → Executes commit_text [] (st old) (st new) (Ok count) → Ends new (at_rest (told_by (st old)).now)
commit_done old new count keeps h = let it = commits (st old) (st new) count keeps h in (it.1, ap (λ t. Some t) it.0)

not_autocommit : (b r : Bool) → r ≡ not b → r ≡ false → b ≡ true
not_autocommit true r e h = refl
not_autocommit false r e h = sym h ∙ e

autocommit : (b r : Bool) → r ≡ not b → r ≡ true → b ≡ false
autocommit true r e h = sym h ∙ e
autocommit false r e h = refl

pub rollback_done : (old new : Held MemStore) (auto : Bool) (r : Result ℕ Error) (P : Trees → Type 0) → KeepsRows (st old) → auto ≡ not (st old).in_transaction → auto ≡ false
    → Survives (st old) (st new) P → Executes rollback_text [] (st old) (st new) r → Ends new (back (told_by (st old)))
rollback_done old new auto r P keeps value is survives h =
    let undone = rolls_back (st old) (st new) r keeps.schema (not_autocommit (st old).in_transaction auto value is) h in
    let is_open = stays_open (st old) (st new) P (memory_is_clean new) keeps.is_open refl refl survives in
    (undone_keeps (st old) (st new) is_open keeps undone, ap (λ t. Some t) (undone_told (st old) (st new) is_open undone))

pub nothing_to_undo : (old : Held MemStore) (auto : Bool) → KeepsRows (st old) → auto ≡ not (st old).in_transaction → auto ≡ true → Some (told_by (st old)) ≡ Some (back (told_by (st old)))
nothing_to_undo old auto keeps value is =
    let out = autocommit (st old).in_transaction auto value is in
    λ i. Some (record { now = tables_of ((keeps.settled out i).trees 0); before = tables_of ((st old).committed.trees 0); in_transaction = out i })
