-- Over an empty schema in memory the table is made, unless memory runs out.
use Rattle.std.proofs.Common.{◌≡◌, ◌⊎◌, inl, inr, ℕ, ◌+◌, ◌-◌, ◌*◌, ◌^◌, ◌≤◌, min, true, false, List, [], ◌∷◌, length, codes, Some, None, Option, Ok, Err, IsTrue, IsUtf8, refl, sym, ◌∙◌, ap, subst, true≢false, arith}
use Rattle.std.proofs.lemmas.Bool.{cases_Bool, le-leb, false≢true}
use Rattle.sqlite_value.specs.Order.{Row as SqlRow}
use Rattle.sqlite_value.specs.declared.value.Value.TheVariants.{Text}
use Rattle.sqlite_trees.specs.declared.error.StoreError.{StoreError}
use Rattle.sqlite_schema.specs.declared.schema.Index.{Index}
use Rattle.sqlite_schema.specs.Rules.{table_reals, index_reals}
use Rattle.sqlite_rules.specs.Lists.{Has}
use Rattle.sqlite_catalog.specs.declared.error.Refusal.{Refusal}
use Rattle.sqlite_catalog.specs.Calls.{RefusesTable, IsLongTable}
use Rattle.sqlite_catalog.specs.Change.{is_used, next_tree, automatics}
use Rattle.sqlite_catalog.specs.Listing.{is_fit}
use Rattle.sqlite_resolve.specs.declared.compiled.Compiled.{Compiled}
use Rattle.sqlite_tied.specs.Compute.{everything}
use Rattle.sqlite.specs.Change.{created}
use Rattle.sqlite.specs.Clock.{timed}
use Rattle.sqlite.specs.Command.TheVariants.{CreateTable}
use Rattle.sqlite.specs.Does.{Does, MakesTable, MakesSequence, lacks_sequence}
use Rattle.sqlite.specs.Effect.{Database}
use Rattle.sqlite.specs.Listing.{understood}
use Rattle.sqlite.specs.State.{State, Executes, Fails, HasCause, IsNotRun, RunsCommand, mode_of, shows_rows, store_error, text_of}
use Rattle.sqlite.specs.Table.{Table}
use Rattle.sqlite.specs.Compile.{table_defined_by}
use Rattle.sqlite.specs.declared.error.Error.{Error}
use Rattle.sqlite.specs.declared.error.Error.TheVariants.{SqliteFailure}
use Rattle.sqlite.specs.declared.error.ErrorCode.TheVariants as code
use Rattle.sqlite.proofs.Callers.{IsPlain, command_of, statement_of}
use Rattle.hib_sqlite_rows.specs.Stored.{kept, kept_schema, no_schema}
use Rattle.hib_sqlite_rows.specs.Texts.{create_text}
use Rattle.hib_sqlite_rows.proofs.States.{tail_of, count_of, is_statement, is_placed}
use Rattle.hib_sqlite_rows.proofs.Texts.{create_is, create_plain, created_is}

-- ---- the text is one statement
create_whole : tail_of (understood no_schema create_text) ≡ length create_text
unfolding understood everything
create_whole = refl

create_bare : count_of (understood no_schema create_text) ≡ 0
unfolding understood everything
create_bare = refl

text_utf8 : IsUtf8 create_text
unfolding lib.Utf8.encode
text_utf8 = (create_text, (refl, refl))

name_utf8 : IsUtf8 kept.name
unfolding lib.Utf8.encode
name_utf8 = (kept.name, (refl, refl))

-- ---- the table that it says may be made
is_kept : (table : Table) → table_defined_by create_text ≡ Ok table → table ≡ kept
is_kept table is = let both : Ok table ≡ Ok kept = sym is ∙ create_is.2 in cc

named_free : (table : Table) → table ≡ kept → (is_used no_schema table.name ≡ true) ⊎ ((index : Index) × Has (automatics table 0 0 table.uniques) index × (is_used no_schema index.name ≡ true)) → ⊥
named_free table is (inl used) = absurd (false≢true used)
named_free table is (inr index) = absurd (false≢true index.2)

key_of : (key : List ℕ) → Has kept.uniques key → key ≡ 1 ∷ 2 ∷ []
key_of key (inl is) = is
key_of key (inr none) = absurd none

small : (65536 ≤ next_tree no_schema + length kept.uniques) ⊎ ((2 ^ 64 ≤ table_reals kept) ⊎ ((key : List ℕ) × Has kept.uniques key × (2 ^ 64 ≤ index_reals (table_reals kept) key))) → ⊥
small (inl trees) = absurd (false≢true (le-leb 65536 (next_tree no_schema + length kept.uniques) trees))
small (inr (inl reals)) = absurd (false≢true (le-leb (2 ^ 64) (table_reals kept) reals))
small (inr (inr keys)) =
    let reals : 2 ^ 64 ≤ index_reals (table_reals kept) (1 ∷ 2 ∷ []) = subst (λ k. 2 ^ 64 ≤ index_reals (table_reals kept) k) (key_of keys.0 keys.1) keys.2 in
    absurd (false≢true (le-leb (2 ^ 64) (index_reals (table_reals kept) (1 ∷ 2 ∷ [])) reals))

-- the row of sqlite_schema that lists it may be kept
listable : is_fit (Text (codes "table")) (Text kept.name) (Text kept.name) (Text create_text) ≡ true
unfolding
    Rattle.sqlite_value.specs.Order.value_cmp lib.Ieee.is_nan lib.Ieee.lt
    Rattle.sqlite_trees.specs.Sound.fits_kind Rattle.sqlite_trees.specs.Sound.is_free_name Rattle.sqlite_trees.specs.Sound.begins Rattle.sqlite_trees.specs.Sound.same_name
listable = refl

refuses_none : (why : Refusal) → RefusesTable no_schema create_text why → ⊥
unfolding everything
refuses_none (Refusal.Invalid e) h = let both : Err e ≡ Ok kept = sym h ∙ create_is.2 in cc
refuses_none Refusal.NameTaken h = named_free h.0 (is_kept h.0 h.1) h.2
refuses_none Refusal.BadName h = elim (rw (is_kept h.0 h.1) at h.2) [ inl none ↦ none name_utf8 | inr own ↦ absurd (false≢true own.0) ]
refuses_none Refusal.TooBig h = small (rw (is_kept h.0 h.1) at h.2)
refuses_none Refusal.BadKey h = let formed = rw (is_kept h.0 h.1) at h.2 in absurd (true≢false formed)
refuses_none Refusal.BadText h = let fit = rw (is_kept h.0 h.1) at h.2 in absurd (true≢false (sym listable ∙ fit))
refuses_none (Refusal.Violates rule) h = h

is_short : IsLongTable create_text → ⊥
is_short h =
    let long : 10 ^ 9 ≤ 2 * length kept.name + length create_text + 200 = rw (is_kept h.0 h.1) at h.2 in
    absurd (false≢true (le-leb (10 ^ 9) (2 * length kept.name + length create_text + 200) long))

makes_table : (db : Database) (stop : Option Error) → db.schema ≡ no_schema → MakesTable create_text db (Err stop) → ⊥
makes_table db None has h = is_short h
makes_table db (Some e) has (inl none) = none.0 text_utf8
makes_table db (Some e) has (inr h) = refuses_none h.0 (subst (λ s. RefusesTable s create_text h.0) has h.1)

makes_sequence : (db after : Database) (stop : Option Error) → db.schema ≡ no_schema → MakesTable create_text db (Ok after) → MakesSequence after (Err stop) → ⊥
makes_sequence db after stop has made h =
    let schema : after.schema ≡ kept_schema = made.is ∙ ap (λ s. created s made.table) has ∙ ap (created no_schema) (is_kept made.table made.defined) ∙ created_is in
    let plain : lacks_sequence after.schema ≡ false = ap lacks_sequence schema in
    let given = rw plain at h in cc

does : (old : State) (params : SqlRow) (stop : Option Error) → old.now.schema ≡ no_schema → Does old.step_limit (mode_of old) params old.now create_text None CreateTable (Err stop) → ⊥
does old params stop has (inr went) = let bad = went.2 in cc
does old params stop has (inl (s, inl table, same)) = makes_table old.now table.0 has table.1
does old params stop has (inl (s, inr sequence, same)) = makes_sequence old.now sequence.0 s has sequence.1 sequence.2

-- ---- memory alone may fail
fails_for : (old new : State) (P : Type 0) (e : Error) → (P → ⊥) → IsTrue old.is_open → old.faults ≡ 0 → new.faults ≡ 0 → Fails old new P e → e ≡ SqliteFailure code.OutOfMemory
fails_for old new P e none opened first last h = by h.0 h.1 h.2
  where
    no_more : min (old.faults + 1) (2 ^ 64 - 1) ≤ new.faults → ⊥
    no_more more = absurd (omega (arith, first, last, more))

    by : (cause : StoreError) → e ≡ store_error cause → HasCause old new P cause → e ≡ SqliteFailure code.OutOfMemory
    by StoreError.OutOfMemory is cause = is
    by StoreError.Io is cause = absurd (no_more cause)
    by StoreError.Corrupt is cause = absurd (no_more cause)
    by StoreError.Full is cause = absurd (no_more cause)
    by StoreError.Broken is cause = absurd (true≢false (sym opened ∙ cause))
    by StoreError.Unstorable is cause = absurd (none cause)

runs_err : (old new : State) (c : Compiled) (params : SqlRow) (e : Error) → old.now.schema ≡ no_schema → IsTrue old.is_open → old.faults ≡ 0 → new.faults ≡ 0 → c.command ≡ CreateTable → c.returning ≡ None
    → text_of create_text c ≡ create_text → RunsCommand old new create_text c params (Err e) → e ≡ SqliteFailure code.OutOfMemory
runs_err old new c params e has opened first last command plain text (inr failed) =
    fails_for old new (Does old.step_limit (mode_of old) params old.now (text_of create_text c) c.returning c.command (Err None)) e (λ d. does old params None has (rw (text, plain, command) at d)) opened first last failed
runs_err old new c params e has opened first last command plain text (inl (inr wrong, same)) = absurd (does old params (Some e) has (rw (text, plain, command) at wrong.1))
runs_err old new c params e has opened first last command plain text (inl (inl misplaced, same)) =
    absurd (is_placed old CreateTable e (λ p. cc) (λ p. cc) (λ p. cc) (λ n p. cc) (λ n p. cc) (rw command at misplaced))

-- the statement that makes the table fails for want of memory alone
pub create_err : (old new : State) (e : Error) → old.now.schema ≡ no_schema → IsTrue old.is_open → old.faults ≡ 0 → new.faults ≡ 0 → Executes create_text [] old new (Err e) → e ≡ SqliteFailure code.OutOfMemory
unfolding Rattle.sqlite.specs.State.ExecutesIn IsNotRun
create_err old new e has opened first last (inl (inl none)) = absurd (is_statement create_text no_schema old e has create_plain create_whole create_bare none.0)
create_err old new e has opened first last (inl (inr failed)) = fails_for old new ⊥ e (λ x. x) opened first last failed
create_err old new e has opened first last (inr h) =
    let known : understood no_schema create_text ≡ Ok h.0 = sym (ap (λ s. understood s create_text) has) ∙ h.1.is in
    let plain = (subst IsPlain known create_plain).0 in
    let command : h.0.command ≡ CreateTable = sym (ap command_of known) ∙ create_is.0 in
    let text : text_of create_text h.0 ≡ create_text = sym (ap (statement_of create_text) known) ∙ create_is.1 in
    elim (cases_Bool (shows_rows false h.0)) [
      | inl shows ↦ absurd (true≢false (sym shows ∙ rw (command, plain) refl))
      | inr runs ↦ runs_err old new h.0 (timed [] h.0.formats h.1.now) e has opened first last command plain text (rw runs at h.2)
    ]
