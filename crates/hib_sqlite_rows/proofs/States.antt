-- What a statement leaves of the tables, and of what a rollback goes back to.
use Rattle.std.proofs.Common.{◌≡◌, ◌≢◌, ◌⊎◌, inl, inr, ◌≤◌, ◌^◌, ◌+◌, ◌-◌, min, ℕ, Bool, true, false, cond, List, [], length, Some, None, Option, Ok, Err, Result, IsTrue, refl, sym, ◌∙◌, subst, ap, true≢false, arith}
use Rattle.std.proofs.lemmas.Bool.{cases_Bool}
use Rattle.sqlite_value.specs.Order.{Row as SqlRow}
use Rattle.sqlite.specs.Effect.{Database}
use Rattle.sqlite.specs.Tree.{Trees}
use Rattle.sqlite_schema.specs.declared.command.Command.{Command}
use Rattle.sqlite.specs.Command.TheVariants.{Begin, Commit, Rollback, CreateTable, Release, RollbackTo}
use Rattle.sqlite_schema.specs.declared.schema.Schema.{Schema}
use Rattle.sqlite_schema.specs.declared.command.Returning.{Returning}
use Rattle.sqlite.specs.declared.error.Error.{Error}
use Rattle.sqlite.specs.Listing.{understood}
use Rattle.sqlite.specs.Clock.{timed}
use Rattle.sqlite_resolve.specs.declared.compiled.Compiled.{Compiled}
use Rattle.sqlite.specs.State.{State, Executes, Writes as Wrote, Shows, Shown, ShowsRows, FailsToQuery, FailsToShow, IsUnchanged, IsRolledBack, IsNotRun, IsNoStatement, IsMisplaced, RunsCommand, Survives, HasCleanDisk, shows_rows}
use Rattle.sqlite.proofs.Callers.{IsPlain, runs_as, command_of}
use Rattle.sqlite_tied.specs.Compute.{everything}
use Rattle.sqlite_resolve.specs.declared.error.CompileError.{CompileError}
use Rattle.hib_base.specs.Tables.{Tables}
use Rattle.hib_sqlite_rows.specs.Told.{Told, at_rest, LeavesOrUndoes}
use Rattle.hib_sqlite_rows.specs.Stored.{kept, kept_schema, no_schema, tables_of, AreKept, KeepsRows, held_by, told_of}
use Rattle.hib_sqlite_rows.proofs.Writes.{Left, went, same_value}
use Rattle.sqlite.specs.Change.{created, next_tree}
use Rattle.sqlite.specs.Does.{Tally, lacks_sequence}
use Rattle.hib_sqlite_rows.specs.Texts.{begin_text, commit_text, rollback_text, create_text}
use Rattle.hib_sqlite_rows.proofs.Texts.{begin_is, begin_plain, commit_is, commit_plain, rollback_is, rollback_plain, create_is, create_plain, created_is}

-- what a connection tells
abbrev pub told_by : State → Told
told_by s = told_of (held_by s)

-- after a rollback
abbrev pub back : Told → Told
back t = at_rest t.before

abbrev pub Undoes : Told → Told → Type 0
Undoes old new = (new ≡ old) ⊎ (new ≡ back old)

pub undoes : (old new : Told) → Undoes old new → LeavesOrUndoes (Some old) (Some new)
undoes old new (inl e) = inl (ap (λ t. Some t) e)
undoes old new (inr e) = inr (ap (λ t. Some t) e)

-- other tables, which outside a transaction are committed
abbrev pub written : Told → Tables → Told
written t tables = record { now = tables; before = cond t.in_transaction t.before tables; in_transaction = t.in_transaction }

pub within : (t : Told) (tables : Tables) → t.in_transaction ≡ true → written t tables ≡ record t { now = tables }
within t tables inside = ap (λ b. record { now = tables; before = cond b t.before tables; in_transaction = t.in_transaction }) inside

abbrev pub Undone : State → State → Type 0
Undone old new = IsUnchanged old new ⊎ IsRolledBack old new

command_err : (old new : State) (sql : List ℕ) (c : Compiled) (params : SqlRow) (e : Error) → RunsCommand old new sql c params (Err e) → Undone old new
command_err old new sql c params e (inl h) = inl h.1
command_err old new sql c params e (inr h) = inr h.3

pub not_run : (old new : State) (sql : List ℕ) (params : SqlRow) (e : Error) → IsNotRun old new sql params e → Undone old new
unfolding IsNotRun
not_run old new sql params e (inl h) = inl h.1
not_run old new sql params e (inr h) = inr h.3

pub execute_err : (old new : State) (sql : List ℕ) (params : SqlRow) (e : Error) → Executes sql params old new (Err e) → Undone old new
unfolding Rattle.sqlite.specs.State.ExecutesIn
execute_err old new sql params e (inl h) = not_run old new sql params e h
execute_err old new sql params e (inr h) = elim (cases_Bool (shows_rows false h.0)) [
  | inl shows ↦ inl (rw shows at h.2).1
  | inr runs ↦ command_err old new sql h.0 (timed params h.0.formats h.1.now) e (rw runs at h.2)
]

show_err : (old new : State) (sql : List ℕ) (c : Compiled) (params : SqlRow) (e : Error) (returning : Option Returning) → FailsToShow old new sql c params e returning → Undone old new
show_err old new sql c params e None h = inl h.3
show_err old new sql c params e (Some what) h = command_err old new sql c params e h

pub query_err : (old new : State) (sql : List ℕ) (params : SqlRow) (e : Error) → FailsToQuery sql params old new e → Undone old new
unfolding FailsToQuery
query_err old new sql params e (inl h) = not_run old new sql params e h
query_err old new sql params e (inr h) = show_err old new sql h.0 (timed params h.0.formats h.1.now) e h.0.returning h.2

-- a query changes nothing
pub query_ok : (old new : State) (sql : List ℕ) (params : SqlRow) (rows : List SqlRow) → old.now.schema ≡ kept_schema → IsPlain (understood kept_schema sql) → Shown sql params old new rows → IsUnchanged old new
unfolding Shown
query_ok old new sql params rows has plain h =
    let known : understood kept_schema sql ≡ Ok h.0 = sym (ap (λ s. understood s sql) has) ∙ h.1.is in
    let none = (subst IsPlain known plain).0 in
    let it = subst (ShowsRows old new sql h.0 (timed params h.0.formats h.1.now) rows) none h.2 in
    it.3

-- ---- what is kept

pub unchanged_told : (old new : State) → IsUnchanged old new → told_by new ≡ told_by old
unchanged_told old new h =
    λ i. record { now = tables_of ((h.0.now_is i).trees 0); before = tables_of ((h.0.committed_is i).trees 0); in_transaction = h.0.mode i }

pub unchanged_keeps : (old new : State) → KeepsRows old → IsUnchanged old new → KeepsRows new
unchanged_keeps old new keeps h = record {
  schema = ap (λ (d : Database). d.schema) h.0.now_is ∙ keeps.schema;
  schema_before = ap (λ (d : Database). d.schema) h.0.committed_is ∙ keeps.schema_before;
  rows = subst (λ (d : Database). AreKept (d.trees 0)) (sym h.0.now_is) keeps.rows;
  rows_before = subst (λ (d : Database). AreKept (d.trees 0)) (sym h.0.committed_is) keeps.rows_before;
  is_open = h.0.is_open;
  settled = λ none. h.0.now_is ∙ keeps.settled (sym h.0.mode ∙ none) ∙ sym h.0.committed_is;
}

pub undone_told : (old new : State) → IsTrue new.is_open → IsRolledBack old new → told_by new ≡ back (told_by old)
undone_told old new is_open h =
    let u = h.undone is_open in
    λ i. record { now = tables_of ((u.0 i).trees 0); before = tables_of ((u.1 i).trees 0); in_transaction = h.autocommit i }

pub undone_keeps : (old new : State) → IsTrue new.is_open → KeepsRows old → IsRolledBack old new → KeepsRows new
undone_keeps old new is_open keeps h =
    let u = h.undone is_open in record {
      schema = ap (λ (d : Database). d.schema) u.0 ∙ keeps.schema_before;
      schema_before = ap (λ (d : Database). d.schema) u.1 ∙ keeps.schema_before;
      rows = subst (λ (d : Database). AreKept (d.trees 0)) (sym u.0) keeps.rows_before;
      rows_before = subst (λ (d : Database). AreKept (d.trees 0)) (sym u.1) keeps.rows_before;
      is_open = is_open;
      settled = λ none. u.0 ∙ sym u.1;
    }

pub fails_keeps : (old new : State) → IsTrue new.is_open → KeepsRows old → Undone old new → KeepsRows new
fails_keeps old new is_open keeps (inl h) = unchanged_keeps old new keeps h
fails_keeps old new is_open keeps (inr h) = undone_keeps old new is_open keeps h

pub fails_told : (old new : State) → IsTrue new.is_open → Undone old new → Undoes (told_by old) (told_by new)
fails_told old new is_open (inl h) = inl (unchanged_told old new h)
fails_told old new is_open (inr h) = inr (undone_told old new is_open h)

-- memory has no fault, so it stays open
pub stays_open : (old new : State) (P : Trees → Type 0) → HasCleanDisk new → IsTrue old.is_open → old.faults ≡ 0 → new.faults ≡ 0 → Survives old new P → IsTrue new.is_open
stays_open old new P clean is_open none still h = elim (h.closes clean is_open) [
  | inl still_open ↦ still_open
  | inr more ↦ let m : min (old.faults + 1) (2 ^ 64 - 1) ≤ new.faults = more in absurd (omega arith)
]

written_by : (b : Bool) (tables : Tables) (old : State) (new : State) → old.in_transaction ≡ b → new.committed ≡ cond old.in_transaction old.committed new.now → tables_of (new.now.trees 0) ≡ tables
    → tables_of (new.committed.trees 0) ≡ cond old.in_transaction (tables_of (old.committed.trees 0)) tables
written_by true tables old new e committed now = let c : new.committed ≡ old.committed = rw e at committed in rw e (ap (λ (d : Database). tables_of (d.trees 0)) c)
written_by false tables old new e committed now = let c : new.committed ≡ new.now = rw e at committed in rw e (ap (λ (d : Database). tables_of (d.trees 0)) c ∙ now)

pub write_told : (old new : State) (tables : Tables) → Shows old new new.now (cond old.in_transaction old.committed new.now) old.in_transaction → Left new tables → told_by new ≡ written (told_by old) tables
write_told old new tables shown left =
    let before = written_by old.in_transaction tables old new refl shown.committed_is left.now in
    λ i. record { now = left.now i; before = before i; in_transaction = shown.mode i }

write_keeps_in : (b : Bool) (old new : State) (tables : Tables) → old.in_transaction ≡ b → KeepsRows old → Shows old new new.now (cond b old.committed new.now) old.in_transaction → Left new tables → KeepsRows new
write_keeps_in true old new tables e keeps shown left = record {
  schema = left.schema;
  schema_before = ap (λ (d : Database). d.schema) shown.committed_is ∙ keeps.schema_before;
  rows = left.rows;
  rows_before = subst (λ (d : Database). AreKept (d.trees 0)) (sym shown.committed_is) keeps.rows_before;
  is_open = shown.is_open;
  settled = λ none. absurd (true≢false (sym e ∙ sym shown.mode ∙ none));
}
write_keeps_in false old new tables e keeps shown left = record {
  schema = left.schema;
  schema_before = ap (λ (d : Database). d.schema) shown.committed_is ∙ left.schema;
  rows = left.rows;
  rows_before = subst (λ (d : Database). AreKept (d.trees 0)) (sym shown.committed_is) left.rows;
  is_open = shown.is_open;
  settled = λ none. sym shown.committed_is;
}

pub write_keeps : (old new : State) (tables : Tables) → KeepsRows old → Shows old new new.now (cond old.in_transaction old.committed new.now) old.in_transaction → Left new tables → KeepsRows new
write_keeps old new tables keeps shown left = write_keeps_in old.in_transaction old new tables refl keeps shown left

-- ---- a transaction

pub begins : (old new : State) (count : ℕ) → KeepsRows old → Executes begin_text [] old new (Ok count) → (told_by new ≡ record (told_by old) { in_transaction = true }) × KeepsRows new
begins old new count keeps h =
    let it = runs_as begin_text [] old new kept_schema keeps.schema Begin begin_is begin_plain count h in
    let s = it.1 in (
      λ i. record { now = tables_of ((s.now_is i).trees 0); before = tables_of ((s.committed_is i).trees 0); in_transaction = s.mode i },
      record {
        schema = ap (λ (d : Database). d.schema) s.now_is ∙ keeps.schema;
        schema_before = ap (λ (d : Database). d.schema) s.committed_is ∙ keeps.schema_before;
        rows = subst (λ (d : Database). AreKept (d.trees 0)) (sym s.now_is) keeps.rows;
        rows_before = subst (λ (d : Database). AreKept (d.trees 0)) (sym s.committed_is) keeps.rows_before;
        is_open = s.is_open;
        settled = λ none. absurd (true≢false (sym s.mode ∙ none));
      },
    )

pub commits : (old new : State) (count : ℕ) → KeepsRows old → Executes commit_text [] old new (Ok count)
    → (told_by new ≡ record { now = (told_by old).now; before = (told_by old).now; in_transaction = false }) × KeepsRows new
commits old new count keeps h =
    let it = runs_as commit_text [] old new kept_schema keeps.schema Commit commit_is commit_plain count h in
    let s = it.1 in (
      λ i. record { now = tables_of ((s.now_is i).trees 0); before = tables_of ((s.committed_is i).trees 0); in_transaction = s.mode i },
      record {
        schema = ap (λ (d : Database). d.schema) s.now_is ∙ keeps.schema;
        schema_before = ap (λ (d : Database). d.schema) s.committed_is ∙ keeps.schema;
        rows = subst (λ (d : Database). AreKept (d.trees 0)) (sym s.now_is) keeps.rows;
        rows_before = subst (λ (d : Database). AreKept (d.trees 0)) (sym s.committed_is) keeps.rows;
        is_open = s.is_open;
        settled = λ none. s.now_is ∙ sym s.committed_is;
      },
    )

-- ---- a rollback is made, or the transaction is undone by a failure

abbrev pub tail_of : Result Compiled CompileError → ℕ
tail_of (Ok c) = c.tail
tail_of (Err e) = 0

abbrev pub count_of : Result Compiled CompileError → ℕ
count_of (Ok c) = length c.names
count_of (Err e) = 0

rollback_whole : tail_of (understood kept_schema rollback_text) ≡ length rollback_text
unfolding understood everything
rollback_whole = refl

rollback_bare : count_of (understood kept_schema rollback_text) ≡ 0
unfolding understood everything
rollback_bare = refl

-- a text that is one statement without parameters isn't refused as none
pub is_statement : (sql : List ℕ) (schema : Schema) (s : State) (e : Error) → s.now.schema ≡ schema → IsPlain (understood schema sql) → tail_of (understood schema sql) ≡ length sql → count_of (understood schema sql) ≡ 0
    → IsNoStatement s sql [] e → ⊥
is_statement sql schema s e has plain whole bare (inl h) = subst IsPlain (sym (ap (λ t. understood t sql) has) ∙ h.1) plain
is_statement sql schema s e has plain whole bare (inr h) =
    let known : understood schema sql ≡ Ok h.0 = sym (ap (λ t. understood t sql) has) ∙ h.1 in
    let long : h.0.tail ≡ length sql = sym (ap tail_of known) ∙ whole in
    let none : length h.0.names ≡ 0 = sym (ap count_of known) ∙ bare in
    let formats = (subst IsPlain known plain).1 in
    elim h.2 [
      | inl part ↦ part.0 (omega (arith, long))
      | inr other ↦ elim other [ inl given ↦ given.0 (sym none) | inr timed ↦ timed.0 formats ]
    ]

-- a command that is none of those that begin or end a transaction has its place everywhere
pub is_placed : (s : State) (command : Command) (e : Error) → (command ≢ Begin) → (command ≢ Commit) → (command ≢ Rollback) → ((name : List ℕ) → command ≢ Release name) → ((name : List ℕ) → command ≢ RollbackTo name) → IsMisplaced s command e → ⊥
is_placed s command e b c r l t (inl state) = elim state.1 [
  | inl begin ↦ b begin.0
  | inr outside ↦ elim outside.0 [ inl commit ↦ c commit | inr rollback ↦ r rollback ]
]
is_placed s command e b c r l t (inr named) = elim named.2 [ inl release ↦ l named.1 release | inr undo ↦ t named.1 undo ]

rolls_back_err : (old new : State) (c : Compiled) (params : SqlRow) (e : Error) → IsTrue old.in_transaction → c.command ≡ Rollback → c.returning ≡ None → RunsCommand old new rollback_text c params (Err e) → IsRolledBack old new
rolls_back_err old new c params e inside is none (inr failed) = failed.3
rolls_back_err old new c params e inside is none (inl (inr does, same)) = elim does.0 [
  | inl write ↦ absurd (rw is at write)
  | inr some ↦ absurd (true≢false (sym (rw none at some)))
]
rolls_back_err old new c params e inside is none (inl (inl misplaced, same)) = elim misplaced [
  | inl state ↦ elim state.1 [
    | inl begin ↦ absurd (let bad : Begin ≡ Rollback = sym begin.0 ∙ is in cc)
    | inr outside ↦ absurd (true≢false (sym inside ∙ outside.1))
  ]
  | inr named ↦ absurd (no_name named.1 named.2)
]
  where
    no_name : (name : List ℕ) → (c.command ≡ Release name) ⊎ (c.command ≡ RollbackTo name) → ⊥
    no_name name (inl h) = let bad : Release name ≡ Rollback = sym h ∙ is in cc
    no_name name (inr h) = let bad : RollbackTo name ≡ Rollback = sym h ∙ is in cc

pub rolls_back : (old new : State) (r : Result ℕ Error) → old.now.schema ≡ kept_schema → IsTrue old.in_transaction → Executes rollback_text [] old new r → IsRolledBack old new
unfolding Rattle.sqlite.specs.State.ExecutesIn IsNotRun
rolls_back old new (Ok count) has inside h = (runs_as rollback_text [] old new kept_schema has Rollback rollback_is rollback_plain count h).1
rolls_back old new (Err e) has inside (inl (inl h)) = absurd (is_statement rollback_text kept_schema old e has rollback_plain rollback_whole rollback_bare h.0)
rolls_back old new (Err e) has inside (inl (inr failed)) = failed.3
rolls_back old new (Err e) has inside (inr h) =
    let known : understood kept_schema rollback_text ≡ Ok h.0 = sym (ap (λ t. understood t rollback_text) has) ∙ h.1.is in
    let plain = subst IsPlain known rollback_plain in
    let command : h.0.command ≡ Rollback = sym (ap command_of known) ∙ rollback_is in
    elim (cases_Bool (shows_rows false h.0)) [
      | inl shows ↦ absurd (true≢false (sym shows ∙ rw (command, plain.0) refl))
      | inr runs ↦ rolls_back_err old new h.0 (timed [] h.0.formats h.1.now) e inside command plain.0 (rw runs at h.2)
    ]

-- ---- the table is made

pub creates : (old new : State) (count : ℕ) → old.now.schema ≡ no_schema → old.in_transaction ≡ false → Executes create_text [] old new (Ok count)
    → (told_by new ≡ record { now = []; before = []; in_transaction = false }) × KeepsRows new
creates old new count has auto h =
    let w = subst (λ t. Wrote old new None CreateTable t [] count) create_is.1 (runs_as create_text [] old new no_schema has CreateTable create_is.0 create_plain count h) in
    let all = went w.changed in
    let first = went all.1 in
    let made = first.1 in
    let both : Ok made.table ≡ Ok kept = sym made.defined ∙ create_is.2 in
    let same : made.table ≡ kept = cc in
    let schema : first.0.schema ≡ kept_schema = made.is ∙ ap (λ s. created s made.table) has ∙ ap (created no_schema) same ∙ created_is in
    let plain : lacks_sequence first.0.schema ≡ false = ap lacks_sequence schema in
    let now : new.now ≡ first.0 = ap (λ (p : Tally × Database). p.1) (same_value all.2) ∙ same_value (rw plain at first.2) in
    let empty : new.now.trees 0 ≡ [] = ap (λ (d : Database). d.trees 0) now ∙ subst (λ s. first.0.trees (next_tree s) ≡ []) has made.empty in
    let committed : new.committed ≡ new.now = rw auto at w.shown.committed_is in
    let none : AreKept [] = record { all = λ r m. absurd m; keys = λ r s m n e. absurd m; table = tt } in (
      λ i. record { now = tables_of (empty i); before = tables_of ((ap (λ (d : Database). d.trees 0) committed ∙ empty) i); in_transaction = (w.shown.mode ∙ auto) i },
      record {
        schema = ap (λ (d : Database). d.schema) now ∙ schema;
        schema_before = ap (λ (d : Database). d.schema) (committed ∙ now) ∙ schema;
        rows = subst AreKept (sym empty) none;
        rows_before = subst AreKept (sym (ap (λ (d : Database). d.trees 0) committed ∙ empty)) none;
        is_open = w.shown.is_open;
        settled = λ out. sym committed;
      },
    )

pub settled_told : (s : State) → KeepsRows s → s.in_transaction ≡ false → told_by s ≡ record { now = (told_by s).now; before = (told_by s).now; in_transaction = false }
settled_told s keeps out = λ i. record { now = tables_of (s.now.trees 0); before = tables_of ((sym (keeps.settled out) i).trees 0); in_transaction = out i }
