-- Entities and their columns, read back from their lines.
use Rattle.std.proofs.Common.{◌≡◌, ℕ, ◌+◌, ◌≤◌, ◌<◌, Bool, true, false, not, cond, ◌&&◌, ◌||◌, nat_le, List, [], ◌∷◌, ◌++◌, length, map, slice_get, codes, bytes_eq, Some, None, Option, Ok, option_and_then, option_map, refl, sym, ap, subst, ◌∙◌, length-append, inl, inr, arith, eqb-true}
use Rattle.std.specs.Prelude.{unwrap_or, is_some}
use Rattle.std.specs.List.{list_all, list_any}
use Rattle.std.proofs.lemmas.Bool.{and_parts, or_from, true≢false, lt-ltb, lt-leb, ltb-true, cases_lt}
use Rattle.hib_base.specs.Scripts.{is_type_below}
use Rattle.hib_base.specs.declared.scripts.Strategy.{Strategy}
use Rattle.hib_base.specs.declared.scripts.ColumnType.{ColumnType}
use Rattle.hib_base.specs.declared.scripts.ColumnDef.{ColumnDef}
use Rattle.hib_base.specs.declared.scripts.EntityDef.{EntityDef}
use Rattle.hib_base.specs.declared.scripts.Script.{Script}
use Rattle.hib_base.specs.declared.refusals.Kind.{Kind}
use Rattle.hib_base.specs.declared.rows.Cell.{Cell}
use Rattle.hib_base.specs.Fits.{has_default, is_default, ends_in_defaults, are_defaults}
use Rattle.hib_base.specs.Valid.{is_capacity}
use Rattle.hib_mapping.specs.Cells.{cell_of}
use Rattle.hib_base.specs.Words.{is_reserved, are_apart, are_names}
use Rattle.hib_lex.specs.declared.lexer.Token.{Token}
use Rattle.hib_mapping.specs.Declarations as declarations
use Rattle.hib_base.proofs.Lists.{all_at, get_more}
use Rattle.hib_base.proofs.Names.{differ}
use Rattle.hib_mapping.specs.Parts.{small, entity_at, column_at, number_up_to}
use Rattle.hib_script.specs.Lines.{more_columns}
use Rattle.hib_print.specs.Lines.{natural, strategy_text, versioning_text, type_tokens, cell_token, default_tokens, column_line, entity_line}
use Rattle.hib_texts.specs.Texts.{entity_name, entity_text}
use Rattle.hib_reads_back.proofs.Cells.{cell_formed, cell_back, default_back}
use Rattle.hib_reads_back.proofs.Named.{got, got_middle, named_at, name_at, name_free, name_same, names_apart, apart_front, new_name, not_found, none_at}

-- ---- an entity's line
strategy_back : (s : Strategy) → declarations.strategy_of (Token.Word (strategy_text s)) ≡ Some s
strategy_back Strategy.Uncached = refl
strategy_back Strategy.ReadOnly = refl
strategy_back Strategy.Nonstrict = refl
strategy_back Strategy.ReadWrite = refl

versioning_back : (v : Bool) → declarations.is_versioned (Token.Word (versioning_text v)) ≡ v
versioning_back true = refl
versioning_back false = refl

versioning_said : (v : Bool) → declarations.is_versioning (Token.Word (versioning_text v)) ≡ true
versioning_said true = refl
versioning_said false = refl

-- a capacity is read as it is printed
record Roomy (s : Strategy) (n : ℕ) : Type 0 where
  allowed : declarations.is_capacity s (natural n) ≡ true
  read : number_up_to 100000 (natural n) ≡ n

cached_roomy : (n : ℕ) → (nat_le 1 n && nat_le n 100000) ≡ true → ((nat_le 1 n && nat_le n 100000) ≡ true) × (number_up_to 100000 (natural n) ≡ n)
cached_roomy n h = (h, rw (and_parts (nat_le 1 n) (nat_le n 100000) h).1 refl)

roomy : (s : Strategy) (n : ℕ) → is_capacity s n ≡ true → Roomy s n
roomy Strategy.Uncached n h =
    let e : n ≡ 0 = eqb-true n 0 h in
    subst (λ k. Roomy Strategy.Uncached k) (sym e) (record { allowed = refl; read = refl })
roomy Strategy.ReadOnly n h = let r = cached_roomy n h in record { allowed = r.0; read = r.1 }
roomy Strategy.Nonstrict n h = let r = cached_roomy n h in record { allowed = r.0; read = r.1 }
roomy Strategy.ReadWrite n h = let r = cached_roomy n h in record { allowed = r.0; read = r.1 }

-- an entity without its columns
abbrev pub bare : EntityDef → EntityDef
bare e = record e { columns = [] }

-- the entities of a mapping: those before one, it, and those behind it
pub record Among (script : Script) (done : List EntityDef) (e : EntityDef) (rest : List EntityDef) : Type 0 where
  pub whole : script.mapping ≡ done ++ e ∷ rest
  pub few : length script.mapping ≤ 64
  pub names : are_names (map (λ x. x.name) script.mapping) ≡ true

apart : {script : Script} {done : List EntityDef} {e : EntityDef} {rest : List EntityDef} → Among script done e rest → are_apart (map (λ x. x.name) (done ++ e ∷ rest)) ≡ true
apart {script} {done} {e} {rest} a = subst (λ m. are_apart (map (λ x. x.name) m) ≡ true) a.whole (names_apart (map (λ x. x.name) script.mapping) a.names)

done_few : {script : Script} {done : List EntityDef} {e : EntityDef} {rest : List EntityDef} → Among script done e rest → length done < 64
done_few {script} {done} {e} {rest} a =
    let size : length script.mapping ≡ length (done ++ e ∷ rest) = ap (λ m. length m) a.whole in
    let few : length script.mapping ≤ 64 = a.few in
    omega (arith, length-append done (e ∷ rest))

pub entity_ruled : (script : Script) (done : List EntityDef) (e : EntityDef) (rest : List EntityDef) → Among script done e rest → is_capacity e.strategy e.capacity ≡ true →
    declarations.entity_kind done true (entity_line e) ≡ None
entity_ruled script done e rest a c =
    let few : length done < 64 = done_few a in
    let none : entity_at done e.name ≡ None = ap (λ p. option_and_then small p) (not_found (λ x. bytes_eq x.name e.name) done (new_name (λ x. x.name) done e rest (apart a))) in
    rw (lt-leb 64 (length done) few, none, strategy_back e.strategy, (roomy e.strategy e.capacity c).allowed) refl

pub entity_formed : (e : EntityDef) → declarations.is_entity_line (entity_line e) ≡ true
entity_formed e = rw (versioning_said e.versioned) refl

pub entity_declared : (e : EntityDef) → is_capacity e.strategy e.capacity ≡ true → declarations.entity_of (entity_line e) ≡ Some (bare e)
entity_declared e c = rw (strategy_back e.strategy, versioning_back e.versioned, (roomy e.strategy e.capacity c).read) refl

-- ---- references
target_before : (script : Script) (done : List EntityDef) (e : EntityDef) (rest : List EntityDef) (n : ℕ) → Among script done e rest → n < length done →
    declarations.target_of done e (Token.Word (entity_text script n)) ≡ Some n
target_before script done e rest n a h =
    let few : length done < 64 = done_few a in
    let g = got done n h in
    let there : slice_get script.mapping n ≡ Some g.value = ap (λ m. slice_get m n) a.whole ∙ get_more done (e ∷ rest) n g.value g.there in
    let named : entity_text script n ≡ g.value.name = ap (λ o. entity_name o) there in
    let other : bytes_eq g.value.name e.name ≡ false = none_at (λ x. bytes_eq x.name e.name) done n g.value (new_name (λ x. x.name) done e rest (apart a)) g.there in
    let found : entity_at done g.value.name ≡ Some n =
    ap (λ p. option_and_then small p) (named_at (λ x. x.name) done n g.value (apart_front (λ x. x.name) done (e ∷ rest) (apart a)) g.there) ∙ rw (lt-ltb n 65536 (omega arith)) refl in
    ap (λ w. declarations.target_of done e (Token.Word w)) named
    ∙ (ap (λ b. cond b (small (length done)) (entity_at done g.value.name)) (differ g.value.name e.name other) ∙ found)

target_own : (script : Script) (done : List EntityDef) (e : EntityDef) (rest : List EntityDef) → Among script done e rest →
    declarations.target_of done e (Token.Word (entity_text script (length done))) ≡ Some (length done)
target_own script done e rest a =
    let few : length done < 64 = done_few a in
    let there : slice_get script.mapping (length done) ≡ Some e = ap (λ m. slice_get m (length done)) a.whole ∙ got_middle done e rest in
    ap (λ o. declarations.target_of done e (Token.Word (entity_name o))) there
    ∙ (ap (λ b. cond b (small (length done)) (entity_at done e.name)) (name_same e.name) ∙ rw (lt-ltb (length done) 65536 (omega arith)) refl)

target_back : (script : Script) (done : List EntityDef) (e : EntityDef) (rest : List EntityDef) (n : ℕ) → Among script done e rest → n ≤ length done →
    declarations.target_of done e (Token.Word (entity_text script n)) ≡ Some n
target_back script done e rest n a h =
    elim (cases_lt n (length done)) as (λ v. declarations.target_of done e (Token.Word (entity_text script n)) ≡ Some n) [
      | inl c ↦ target_before script done e rest n a c
      | inr c ↦ let same : length done ≡ n = omega arith in subst (λ k. declarations.target_of done e (Token.Word (entity_text script k)) ≡ Some k) same (target_own script done e rest a)
    ]

-- ---- columns
-- with some of its columns
abbrev pub with_columns : EntityDef → List ColumnDef → EntityDef
with_columns e ds = record e { columns = ds }

column_formed : (script : Script) (d : ColumnDef) → declarations.is_column_line (column_line script d) ≡ true
column_formed script d = of_kind d.kind d.default
  where
    of_kind : (k : ColumnType) (o : Option Cell) → declarations.is_column_line (Token.Word (codes "column") ∷ Token.Word d.name ∷ type_tokens script k ++ default_tokens o) ≡ true
    of_kind ColumnType.Int None = refl
    of_kind ColumnType.Text None = refl
    of_kind ColumnType.Bool None = refl
    of_kind (ColumnType.Ref n) None = refl
    of_kind ColumnType.Int (Some c) = cell_formed c
    of_kind ColumnType.Text (Some c) = cell_formed c
    of_kind ColumnType.Bool (Some c) = cell_formed c
    of_kind (ColumnType.Ref n) (Some c) = cell_formed c

-- what stands after a column's name, taken apart
record TakenApart (script : Script) (k : ColumnType) (o : Option Cell) : Type 0 where
  type : declarations.type_in (type_tokens script k ++ default_tokens o) ≡ type_tokens script k
  default : declarations.default_in (type_tokens script k ++ default_tokens o) ≡ option_map cell_token o

taken_apart : (script : Script) (k : ColumnType) (o : Option Cell) → TakenApart script k o
taken_apart script ColumnType.Int None = record { type = refl; default = refl }
taken_apart script ColumnType.Text None = record { type = refl; default = refl }
taken_apart script ColumnType.Bool None = record { type = refl; default = refl }
taken_apart script (ColumnType.Ref n) None = record { type = refl; default = refl }
taken_apart script ColumnType.Int (Some c) = record { type = refl; default = refl }
taken_apart script ColumnType.Text (Some c) = record { type = refl; default = refl }
taken_apart script ColumnType.Bool (Some c) = record { type = refl; default = refl }
taken_apart script (ColumnType.Ref n) (Some c) = record { type = refl; default = refl }

-- a column without a default stands after none that has one
none_before : (ds : List ColumnDef) (d : ColumnDef) (es : List ColumnDef) → ends_in_defaults (ds ++ d ∷ es) ≡ true → has_default d ≡ false → list_any has_default ds ≡ false
none_before [] d es h n = refl
none_before (x ∷ ds) d es h n =
    let both : ((not (has_default x) || list_all has_default (ds ++ d ∷ es)) ≡ true) × (ends_in_defaults (ds ++ d ∷ es) ≡ true) =
    and_parts (not (has_default x) || list_all has_default (ds ++ d ∷ es)) (ends_in_defaults (ds ++ d ∷ es)) h in
    or_from (has_default x) (list_any has_default ds) (by_first (has_default x) both.0) (none_before ds d es both.1 n)
  where
    by_mid : (ys : List ColumnDef) → list_all has_default (ys ++ d ∷ es) ≡ true → has_default d ≡ true
    by_mid [] g = (and_parts (has_default d) (list_all has_default es) g).0
    by_mid (y ∷ ys) g = by_mid ys (and_parts (has_default y) (list_all has_default (ys ++ d ∷ es)) g).1

    by_first : (b : Bool) → (not b || list_all has_default (ds ++ d ∷ es)) ≡ true → b ≡ false
    by_first true g = absurd (true≢false (sym (by_mid ds g) ∙ n))
    by_first false g = refl

-- the default of a column is read back
record Defaulted (ds : List ColumnDef) (k : ColumnType) (o : Option Cell) : Type 0 where
  right : declarations.default_kind ds k (option_map cell_token o) ≡ None
  read : option_and_then cell_of (option_map cell_token o) ≡ o

defaulted : (ds : List ColumnDef) (d : ColumnDef) (es : List ColumnDef) → are_defaults (ds ++ d ∷ es) ≡ true → Defaulted ds d.kind d.default
defaulted ds d es h = of_default d.default refl (all_at (λ (x : ColumnDef). is_default x.kind x.default) (ds ++ d ∷ es) (length ds) d both.0 (got_middle ds d es))
  where
    both : (list_all (λ (x : ColumnDef). is_default x.kind x.default) (ds ++ d ∷ es) ≡ true) × (ends_in_defaults (ds ++ d ∷ es) ≡ true)
    both = and_parts (list_all (λ (x : ColumnDef). is_default x.kind x.default) (ds ++ d ∷ es)) (ends_in_defaults (ds ++ d ∷ es)) h

    of_default : (o : Option Cell) → d.default ≡ o → is_default d.kind o ≡ true → Defaulted ds d.kind o
    of_default None e t = record { right = rw (none_before ds d es both.1 (ap (λ o. is_some o) e)) refl; read = refl }
    of_default (Some c) e t = record { right = rw (default_back d.kind c t) refl; read = cell_back c }

-- the type of a column is read back
record Typed (script : Script) (done : List EntityDef) (e : EntityDef) (k : ColumnType) : Type 0 where
  right : declarations.type_kind done e (type_tokens script k) ≡ None
  read : declarations.type_from done e (type_tokens script k) ≡ k

typed : (script : Script) (done : List EntityDef) (e : EntityDef) (rest : List EntityDef) (ds : List ColumnDef) (k : ColumnType) → Among script done e rest → is_type_below (length done + 1) k ≡ true →
    Typed script done (with_columns e ds) k
typed script done e rest ds ColumnType.Int a h = record { right = refl; read = refl }
typed script done e rest ds ColumnType.Text a h = record { right = refl; read = refl }
typed script done e rest ds ColumnType.Bool a h = record { right = refl; read = refl }
typed script done e rest ds (ColumnType.Ref n) a h =
    let there : declarations.target_of done e (Token.Word (entity_text script n)) ≡ Some n = target_back script done e rest n a (let low : n < length done + 1 = ltb-true n (length done + 1) h in omega (arith, low)) in
    record {
      right = ap (λ o. declarations.kind_unless Kind.RefUnknown o) there;
      read = ap (λ o. ColumnType.Ref (unwrap_or o 0)) there;
    }

pub column_read : (script : Script) (done : List EntityDef) (e : EntityDef) (rest : List EntityDef) (ds : List ColumnDef) (d : ColumnDef) (es : List ColumnDef) → Among script done e rest → is_type_below (length done + 1) d.kind ≡ true →
    length (ds ++ d ∷ es) ≤ 16 → are_names (map (λ x. x.name) (ds ++ d ∷ es)) ≡ true → are_defaults (ds ++ d ∷ es) ≡ true →
    more_columns done (with_columns e ds) (column_line script d) ≡ Ok (with_columns e (ds ++ d ∷ []))
column_read script done e rest ds d es a leads size names defaults =
    let p : TakenApart script d.kind d.default = taken_apart script d.kind d.default in
    let q : Defaulted ds d.kind d.default = defaulted ds d es defaults in
    let t : Typed script done (with_columns e ds) d.kind = typed script done e rest ds d.kind a leads in
    let few : length ds < 16 = omega (arith, length-append ds (d ∷ es)) in
    let none : column_at ds d.name ≡ None = ap (λ p. option_and_then small p) (not_found (λ x. bytes_eq x.name d.name) ds (new_name (λ x. x.name) ds d es (names_apart (map (λ x. x.name) (ds ++ d ∷ es)) names))) in
    let free : is_reserved d.name ≡ false = name_free d.name (name_at (λ x. x.name) (ds ++ d ∷ es) (length ds) d names (got_middle ds d es)) in
    rw (column_formed script d, lt-leb 16 (length ds) few, none, p.type, p.default, t.right, t.read, q.right, free, p.type, p.default, t.read, q.read) refl
