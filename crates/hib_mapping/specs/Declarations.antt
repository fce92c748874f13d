-- The entity and column lines: their forms, the first thing that is wrong with one, and what it declares.
use Rattle.std.specs.Prelude.{ℕ, Bool, false, if◌then◌else◌, not, ◌&&◌, ◌||◌, nat_le, List, [], ◌∷◌, ◌++◌, length, Option, Some, None, is_some, unwrap_or, option_and_then, codes, bytes_eq}
use Rattle.std.specs.List.{list_any}
use Rattle.hib_base.specs.declared.refusals.Kind.{Kind}
use Rattle.hib_base.specs.declared.scripts.ColumnDef.{ColumnDef}
use Rattle.hib_base.specs.declared.scripts.ColumnType.{ColumnType}
use Rattle.hib_base.specs.declared.scripts.EntityDef.{EntityDef}
use Rattle.hib_base.specs.declared.scripts.Strategy.{Strategy}
use Rattle.hib_base.specs.Fits.{has_default}
use Rattle.hib_base.specs.Valid.{max_capacity, max_columns, max_entities}
use Rattle.hib_lex.specs.Words.{is_the_word}
use Rattle.hib_lex.specs.declared.lexer.Token.{Token}
use Rattle.hib_mapping.specs.Cells.{cell_of, is_a_cell, is_cell_of}
use Rattle.hib_mapping.specs.Parts.{is_a_word, is_a_number, word_of, is_within, number_up_to, small, entity_at, column_at}

-- ---- entity NAME STRATEGY VERSIONING CAPACITY
abbrev pub is_versioned : Token → Bool
is_versioned t = is_the_word (codes "versioned") t

abbrev pub is_versioning : Token → Bool
is_versioning t = is_versioned t || is_the_word (codes "plain") t

abbrev pub is_entity_line : List Token → Bool
is_entity_line (first ∷ name ∷ strategy ∷ versioning ∷ capacity ∷ []) =
    is_a_word name && (is_a_word strategy && (is_versioning versioning && is_a_number capacity))
is_entity_line _ = false

abbrev pub strategy_of : Token → Option Strategy
strategy_of t =
    if is_the_word (codes "none") t then Some Strategy.Uncached
    else (if is_the_word (codes "read-only") t then Some Strategy.ReadOnly
    else (if is_the_word (codes "nonstrict") t then Some Strategy.Nonstrict
    else (if is_the_word (codes "read-write") t then Some Strategy.ReadWrite else None)))

-- nothing is kept of an uncached entity
abbrev pub is_capacity : Strategy → Token → Bool
is_capacity Strategy.Uncached t = is_within 0 0 t
is_capacity _ t = is_within 1 max_capacity t

abbrev pub strategy_kind : Option Strategy → Token → Option Kind
strategy_kind None capacity = Some Kind.Strategy
strategy_kind (Some s) capacity = if is_capacity s capacity then None else Some Kind.Capacity

abbrev pub or_no_columns : Bool → Option Kind → Option Kind
or_no_columns followed (Some k) = Some k
or_no_columns followed None = if followed then None else Some Kind.NoColumns

abbrev pub parts_kind : List EntityDef → Bool → Token → Token → Token → Option Kind
parts_kind m followed name strategy capacity =
    if nat_le max_entities (length m) then Some Kind.ManyEntities
    else (if is_some (entity_at m (word_of name)) then Some Kind.EntityTaken
    else or_no_columns followed (strategy_kind (strategy_of strategy) capacity))

-- what is wrong with an entity line of this form after the entities m, if anything; followed: the next line is a column's
abbrev pub entity_kind : List EntityDef → Bool → List Token → Option Kind
entity_kind m followed (first ∷ name ∷ strategy ∷ versioning ∷ capacity ∷ []) = parts_kind m followed name strategy capacity
entity_kind m followed _ = None

-- the entity of a line with which nothing is wrong, without its columns
abbrev pub entity_of : List Token → Option EntityDef
entity_of (first ∷ name ∷ strategy ∷ versioning ∷ capacity ∷ []) =
    Some (record {
      name = word_of name;
      strategy = unwrap_or (strategy_of strategy) Strategy.Uncached;
      versioned = is_versioned versioning;
      capacity = number_up_to max_capacity capacity;
      columns = [];
    })
entity_of _ = None

-- ---- column NAME TYPE, where TYPE is a word, or `ref` and an entity's name; after it `default` and a cell, if it has a default
abbrev pub is_plain : Token → Bool
is_plain kind = is_a_word kind && not (is_the_word (codes "ref") kind)

abbrev pub is_reference : Token → Token → Bool
is_reference kind target = is_the_word (codes "ref") kind && is_a_word target

abbrev pub is_default : Token → Token → Bool
is_default word cell = is_the_word (codes "default") word && is_a_cell cell

-- what stands after the name
abbrev pub is_described : List Token → Bool
is_described (kind ∷ []) = is_plain kind
is_described (kind ∷ target ∷ []) = is_reference kind target
is_described (kind ∷ word ∷ cell ∷ []) = is_plain kind && is_default word cell
is_described (kind ∷ target ∷ word ∷ cell ∷ []) = is_reference kind target && is_default word cell
is_described _ = false

abbrev pub is_column_line : List Token → Bool
is_column_line (first ∷ name ∷ ts) = is_a_word name && is_described ts
is_column_line _ = false

-- of the tokens after a column's name, those of its type
abbrev pub type_in : List Token → List Token
type_in (kind ∷ word ∷ cell ∷ []) = kind ∷ []
type_in (kind ∷ target ∷ word ∷ cell ∷ []) = kind ∷ target ∷ []
type_in ts = ts

-- and the one that is its default, if it has one
abbrev pub default_in : List Token → Option Token
default_in (kind ∷ word ∷ cell ∷ []) = Some cell
default_in (kind ∷ target ∷ word ∷ cell ∷ []) = Some cell
default_in _ = None

abbrev pub type_of : Token → Option ColumnType
type_of t =
    if is_the_word (codes "int") t then Some ColumnType.Int
    else (if is_the_word (codes "text") t then Some ColumnType.Text
    else (if is_the_word (codes "bool") t then Some ColumnType.Bool else None))

-- the entity that a reference of entity e leads to: e itself, or one that was declared before
abbrev pub target_of : List EntityDef → EntityDef → Token → Option ℕ
target_of m e t = if bytes_eq e.name (word_of t) then small (length m) else entity_at m (word_of t)

abbrev pub kind_unless : {A : Type 0} → Kind → Option A → Option Kind
kind_unless k None = Some k
kind_unless k (Some x) = None

abbrev pub type_kind : List EntityDef → EntityDef → List Token → Option Kind
type_kind m e (kind ∷ []) = kind_unless Kind.ColumnType (type_of kind)
type_kind m e (kind ∷ target ∷ []) = kind_unless Kind.RefUnknown (target_of m e target)
type_kind m e _ = None

abbrev pub type_from : List EntityDef → EntityDef → List Token → ColumnType
type_from m e (kind ∷ []) = unwrap_or (type_of kind) ColumnType.Int
type_from m e (kind ∷ target ∷ []) = ColumnType.Ref (unwrap_or (target_of m e target) 0)
type_from m e _ = ColumnType.Int

abbrev pub default_unless : Bool → Option Kind
default_unless fine = if fine then None else Some Kind.Default

-- a default is a cell of its column's type; a column without one stands after none that has one
abbrev pub default_kind : List ColumnDef → ColumnType → Option Token → Option Kind
default_kind ds k None = default_unless (not (list_any has_default ds))
default_kind ds k (Some t) = default_unless (is_cell_of k t)

abbrev pub or_kind : Option Kind → Option Kind → Option Kind
or_kind (Some k) other = Some k
or_kind None other = other

-- what is wrong with the type, or else with the default
abbrev pub rest_kind : List EntityDef → EntityDef → List Token → Option Kind
rest_kind m e ts = or_kind (type_kind m e (type_in ts)) (default_kind e.columns (type_from m e (type_in ts)) (default_in ts))

-- what is wrong with a column line of this form after the entities m and the entity e, if anything
abbrev pub column_kind : List EntityDef → EntityDef → List Token → Option Kind
column_kind m e (first ∷ name ∷ ts) =
    if nat_le max_columns (length e.columns) then Some Kind.ManyColumns
    else (if is_some (column_at e.columns (word_of name)) then Some Kind.ColumnTaken else rest_kind m e ts)
column_kind m e _ = None

abbrev pub column_of : List EntityDef → EntityDef → Token → List Token → ColumnDef
column_of m e name ts =
    record { name = word_of name; kind = type_from m e (type_in ts); default = option_and_then cell_of (default_in ts) }

-- the entity with the column of a line with which nothing is wrong
abbrev pub with_column : List EntityDef → EntityDef → List Token → EntityDef
with_column m e (first ∷ name ∷ ts) = record e { columns = e.columns ++ column_of m e name ts ∷ [] }
with_column m e _ = e
