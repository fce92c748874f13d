-- The section lines of bulk changes: update NAME ENTITY set COL CELL .. where COND, and delete NAME ENTITY where COND. The condition may be left out.
use Rattle.std.specs.Prelude.{ℕ, ◌+◌, Bool, true, false, if◌then◌else◌, not, ◌&&◌, ◌||◌, nat_le, nat_lt, List, [], ◌∷◌, length, take, drop, codes, bytes_eq, position, Option, Some, None, option_map, Result, Ok, Err}
use Rattle.std.specs.List.{list_all, list_any}
use Rattle.std.specs.Option.{option_map_or}
use Rattle.hib_base.specs.Queries.{parts_in}
use Rattle.hib_base.specs.declared.refusals.Kind.{Kind}
use Rattle.hib_base.specs.declared.scripts.EntityDef.{EntityDef}
use Rattle.hib_base.specs.declared.scripts.Node.{Node}
use Rattle.hib_base.specs.declared.scripts.Path.{Path}
use Rattle.hib_base.specs.declared.scripts.SessionDef.{SessionDef}
use Rattle.hib_lex.specs.Words.{is_the_word}
use Rattle.hib_lex.specs.declared.lexer.Token.{Token}
use Rattle.hib_mapping.specs.Parts.{is_a_word, word_of, entity_at}
use Rattle.hib_columns.specs.Columns.{columns_of}
use Rattle.hib_criteria.specs.Alone.{condition_of}
use Rattle.hib_statements.specs.Parts.{pairs_of}
use Rattle.hib_statements.specs.declared.parts.Pairs.{Pairs}
use Rattle.hib_bulk_law.specs.declared.bulks.BulkChange.{BulkChange}
use Rattle.hib_bulk_law.specs.declared.bulks.BulkDef.{BulkDef}
use Rattle.hib_bulk_law.specs.Types.{max_lines}
use Rattle.hib_sections.specs.declared.bulk_lines.Behind.{Behind}
use Rattle.hib_sections.specs.declared.bulk_lines.Changing.{Changing}

-- what a bulk line says, with its condition as its parts
pub record BulkSaid : Type 0 where
  pub name : List ℕ
  pub entity : ℕ
  pub parts : List Node
  pub change : BulkChange

abbrev pub said_of : BulkDef → BulkSaid
said_of d = record { name = d.name; entity = d.entity; parts = parts_in d.condition; change = d.change }

-- ---- what stands before a `where`, and what behind it
abbrev pub where_at : List Token → Option ℕ
where_at ts = position (λ t. is_the_word (codes "where") t) ts

abbrev pub before_where : List Token → List Token
before_where ts = option_map_or (λ n. take n ts) (where_at ts) ts

abbrev pub condition_at : List EntityDef → Option ℕ → List Token → Option ℕ → Result (List Node) Kind
condition_at m e ts None = Ok []
condition_at m e ts (Some n) = condition_of m e (drop (n + 1) ts)

-- the parts of the condition, or the first thing that is wrong with it
abbrev pub condition_in : List EntityDef → Option ℕ → List Token → Result (List Node) Kind
condition_in m e ts = condition_at m e ts (where_at ts)

abbrev pub parts_or : Behind → Result (List Node) Kind
parts_or (Behind.Condition c) = Ok (parts_in c)
parts_or (Behind.Fault k) = Err k

abbrev pub is_words : Result (List Node) Kind → Bool
is_words (Err Kind.Words) = true
is_words _ = false

abbrev pub is_unknown : Result (List Node) Kind → Bool
is_unknown (Err Kind.Unknown) = true
is_unknown _ = false

abbrev pub is_mistyped : Result (List Node) Kind → Bool
is_mistyped (Err Kind.CellType) = true
is_mistyped _ = false

-- a part steps to an entity of the mapping, if it steps to one
abbrev pub is_step_within : ℕ → Path → Bool
is_step_within n p = option_map_or (λ t. nat_lt t.entity n) p.target true

abbrev pub is_within : ℕ → Node → Bool
is_within n (Node.Test op p c) = is_step_within n p
is_within n (Node.Among p cs) = is_step_within n p
is_within n _ = true

-- ---- what is done with each row, by the tokens behind the entity's name
abbrev pub set_by : Pairs → Changing
set_by p = record { change = BulkChange.Set p.sets; is_taken = p.taken; is_unknown = p.unknown; is_mistyped = p.mistyped }

abbrev pub set_in : List EntityDef → Option ℕ → List Token → Option Changing
set_in m e [] = None
set_in m e (first ∷ ts) = if is_the_word (codes "set") first then option_map set_by (pairs_of (columns_of m e) ts) else None

abbrev pub deletion : Changing
deletion = record { change = BulkChange.Delete; is_taken = false; is_unknown = false; is_mistyped = false }

abbrev pub delete_in : List Token → Option Changing
delete_in [] = Some deletion
delete_in (t ∷ ts) = None

abbrev pub changing_in : Bool → List EntityDef → Option ℕ → List Token → Option Changing
changing_in true m e ts = set_in m e ts
changing_in false m e ts = delete_in ts

-- ---- a line of this name, after so many others
abbrev pub has_name : List ℕ → List SessionDef → Bool
has_name w named = list_any (λ s. bytes_eq s.name w) named

abbrev pub with_parts : List EntityDef → ℕ → List ℕ → ℕ → BulkChange → Result (List Node) Kind → Result BulkSaid Kind
with_parts m count name e change (Err k) = Err k
with_parts m count name e change (Ok ns) =
    if not (list_all (is_within (length m)) ns) then Err Kind.Unknown
    else if nat_le max_lines count then Err Kind.Many
    else Ok (record { name = name; entity = e; parts = ns; change = change })

abbrev pub of_entity : List EntityDef → ℕ → List ℕ → ℕ → Changing → Result (List Node) Kind → Result BulkSaid Kind
of_entity m count name e x condition =
    if x.is_unknown || is_unknown condition then Err Kind.Unknown
    else if x.is_mistyped || is_mistyped condition then Err Kind.CellType
    else with_parts m count name e x.change condition

abbrev pub if_known : List EntityDef → ℕ → List ℕ → Option ℕ → Changing → Result (List Node) Kind → Result BulkSaid Kind
if_known m count name None x condition = Err Kind.Unknown
if_known m count name (Some e) x condition = of_entity m count name e x condition

-- a session or a line has this name, or a column stands twice
abbrev pub is_taken : List SessionDef → List ℕ → Changing → Bool
is_taken named name x = has_name name named || x.is_taken

abbrev pub if_new : List EntityDef → List SessionDef → ℕ → List ℕ → Option ℕ → Changing → Result (List Node) Kind → Result BulkSaid Kind
if_new m named count name e x condition = if is_taken named name x then Err Kind.Taken else if_known m count name e x condition

abbrev pub if_changing : List EntityDef → List SessionDef → ℕ → List ℕ → Option ℕ → Option Changing → Result (List Node) Kind → Result BulkSaid Kind
if_changing m named count name e None condition = Err Kind.Words
if_changing m named count name e (Some x) condition = if is_words condition then Err Kind.Words else if_new m named count name e x condition

abbrev pub with_condition : Bool → List EntityDef → List SessionDef → ℕ → List ℕ → Option ℕ → List Token → Result (List Node) Kind → Result BulkSaid Kind
with_condition sets m named count name e ts condition = if_changing m named count name e (changing_in sets m e (before_where ts)) condition

abbrev pub of_words : Bool → List EntityDef → List SessionDef → ℕ → List ℕ → Option ℕ → List Token → Result BulkSaid Kind
of_words sets m named count name e ts = with_condition sets m named count name e ts (condition_in m e ts)

-- the bulk line that begins with `update` or `delete`, after so many lines and with these names taken; or the first thing that is wrong with it
abbrev pub bulk_of : Bool → List EntityDef → List SessionDef → ℕ → List Token → Result BulkSaid Kind
bulk_of sets m named count (first ∷ name ∷ entity ∷ ts) =
    if is_a_word name && is_a_word entity then of_words sets m named count (word_of name) (entity_at m (word_of entity)) ts else Err Kind.Words
bulk_of sets m named count _ = Err Kind.Words
