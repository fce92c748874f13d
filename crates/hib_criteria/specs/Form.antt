-- The form of a query line, token by token:
-- query NAME [cached] from ENTITY [where COND] [order COL [desc] ..] [offset N] [limit N] select ids|count|COL
use Rattle.std.specs.Prelude.{ℕ, Bool, true, false, if◌then◌else◌, not, ◌&&◌, ◌||◌, nat_le, nat_lt, List, [], ◌∷◌, ◌++◌, length, Option, Some, None, is_some, is_none, codes}
use Rattle.hib_base.specs.declared.rows.Cell.{Cell}
use Rattle.hib_base.specs.declared.scripts.EntityDef.{EntityDef}
use Rattle.hib_base.specs.declared.scripts.Op.{Op}
use Rattle.hib_base.specs.declared.scripts.Select.{Select}
use Rattle.hib_lex.specs.Words.{is_the_word}
use Rattle.hib_lex.specs.declared.lexer.Token.{Token}
use Rattle.hib_mapping.specs.Parts.{is_a_word, is_a_number, word_of, is_within, number_up_to, entity_at}
use Rattle.hib_columns.specs.Columns.{columns_of, plain_column, column_of, is_path, path_or_first, place_or_first, is_typed, is_comparable}
use Rattle.hib_mapping.specs.Cells.{cell_of}
use Rattle.hib_columns.specs.declared.columns.Column.{Column}
use Rattle.hib_columns.specs.declared.columns.Found.{Found}
use Rattle.hib_criteria.specs.declared.forms.Draft.{Draft}
use Rattle.hib_criteria.specs.declared.forms.Form.{Form}
use Rattle.hib_criteria.specs.declared.forms.Frame.{Frame}
use Rattle.hib_base.specs.declared.scripts.Node.{Node}
use Rattle.hib_base.specs.Valid.{max_cells, max_depth, max_limit, max_offset}
use Rattle.hib_criteria.specs.declared.forms.Place.{Place}
use Rattle.hib_criteria.specs.declared.forms.Test.{Test}

abbrev pub at : Form → List Frame → Place → Option Draft
at f fs p = Some (record { form = f; frames = fs; place = p })

-- ---- what is noted of a form
abbrev pub known : Form → Bool → Form
known f missing = record f { unknown = f.unknown || missing }

abbrev pub chosen : Form → Option ℕ → Form
chosen f e = record f { entity = e; unknown = f.unknown || is_none e }

-- the outermost condition has depth 1
abbrev pub deeper : Form → List Frame → Form
deeper f fs = record f { deep = f.deep || nat_le max_depth (length fs) }

abbrev pub with_node : Form → Node → Form
with_node f n = record f { nodes = f.nodes ++ n ∷ [] }

abbrev pub with_test : Form → Op → Option Column → Cell → Form
with_test f op c x =
    record f {
      nodes = f.nodes ++ Node.Test op (path_or_first c) x ∷ [];
      mistyped = f.mistyped || not (is_typed c x && is_comparable op c);
    }

abbrev pub with_among : Form → Option Column → List Cell → Form
with_among f c xs =
    record f { nodes = f.nodes ++ Node.Among (path_or_first c) xs ∷ []; deep = f.deep || nat_lt max_cells (length xs) }

abbrev pub with_sort : Form → ℕ → Bool → Form
with_sort f c desc = record f { order = f.order ++ record { column = c; desc = desc } ∷ [] }

abbrev pub has_pages : Form → Bool
has_pages f = is_some f.offset || is_some f.limit

-- ---- the head of the line
abbrev pub step_start : Form → List Frame → Token → Option Draft
step_start f fs t = if is_the_word (codes "query") t then at f fs Place.Name else None

abbrev pub step_name : Form → List Frame → Token → Option Draft
step_name f fs t = if is_a_word t then at (record f { name = word_of t }) fs Place.Named else None

abbrev pub step_cached : Form → List Frame → Token → Option Draft
step_cached f fs t = if is_the_word (codes "from") t then at f fs Place.From else None

abbrev pub step_named : Form → List Frame → Token → Option Draft
step_named f fs t =
    if is_the_word (codes "cached") t then at (record f { cached = true }) fs Place.Cached else step_cached f fs t

abbrev pub step_from : List EntityDef → Form → List Frame → Token → Option Draft
step_from m f fs t = if is_a_word t then at (chosen f (entity_at m (word_of t))) fs Place.Chosen else None

-- ---- conditions; frames: what each open parenthesis still awaits, the innermost first
abbrev pub behind : List Frame → Place
behind [] = Place.Clauses
behind (x ∷ fs) = Place.Condition

abbrev pub opened : Form → List Frame → Option Draft
opened f [] = at (deeper f []) [] Place.Operator
opened f (Frame.Two ∷ fs) = at (deeper f (Frame.Two ∷ fs)) (Frame.One ∷ fs) Place.Operator
opened f (Frame.One ∷ fs) = at (deeper f (Frame.One ∷ fs)) (Frame.Closing ∷ fs) Place.Operator
opened f (Frame.Closing ∷ fs) = None

abbrev pub closed : Form → List Frame → Option Draft
closed f [] = None
closed f (Frame.Closing ∷ fs) = at f fs (behind fs)
closed f (x ∷ fs) = None

abbrev pub step_condition : Form → List Frame → Token → Option Draft
step_condition f fs Token.Left = opened f fs
step_condition f fs Token.Right = closed f fs
step_condition f fs _ = None

abbrev pub op_of : Token → Option Op
op_of t =
    if is_the_word (codes "eq") t then Some Op.Eq
    else (if is_the_word (codes "ne") t then Some Op.Ne
    else (if is_the_word (codes "lt") t then Some Op.Lt
    else (if is_the_word (codes "le") t then Some Op.Le
    else (if is_the_word (codes "gt") t then Some Op.Gt
    else (if is_the_word (codes "ge") t then Some Op.Ge else None)))))

abbrev pub compared : Form → List Frame → Option Op → Option Draft
compared f fs None = None
compared f fs (Some op) = at f fs (Place.Subject (Test.Compare op))

abbrev pub step_operator : Form → List Frame → Token → Option Draft
step_operator f fs t =
    if is_the_word (codes "and") t then at (with_node f Node.And) (Frame.Two ∷ fs) Place.Condition
    else (if is_the_word (codes "or") t then at (with_node f Node.Or) (Frame.Two ∷ fs) Place.Condition
    else (if is_the_word (codes "not") t then at (with_node f Node.Not) (Frame.One ∷ fs) Place.Condition
    else (if is_the_word (codes "in") t then at f fs (Place.Subject Test.Among) else compared f fs (op_of t))))

abbrev pub subject : Form → List Frame → Test → Option Column → Option Draft
subject f fs (Test.Compare op) c = at (known f (is_none c)) fs (Place.Operand op c)
subject f fs Test.Among c = at (known f (is_none c)) fs (Place.Operands c [])

abbrev pub step_subject : List EntityDef → Form → List Frame → Test → Token → Option Draft
step_subject m f fs test t = if is_path t then subject f fs test (column_of m (columns_of m f.entity) t) else None

abbrev pub operand : Form → List Frame → Op → Option Column → Option Cell → Option Draft
operand f fs op c None = None
operand f fs op c (Some x) = at (with_test f op c x) (Frame.Closing ∷ fs) Place.Condition

abbrev pub step_operand : Form → List Frame → Op → Option Column → Token → Option Draft
step_operand f fs op c t = operand f fs op c (cell_of t)

abbrev pub is_empty : List Cell → Bool
is_empty [] = true
is_empty (x ∷ xs) = false

-- `in` has one cell or more
abbrev pub among : Form → List Frame → Option Column → List Cell → Option Draft
among f fs c xs = if is_empty xs then None else at (with_among f c xs) fs (behind fs)

abbrev pub with_operand : Form → List Frame → Option Column → List Cell → Cell → Option Draft
with_operand f fs c xs x =
    at (record f { mistyped = f.mistyped || not (is_typed c x) }) fs (Place.Operands c (xs ++ x ∷ []))

abbrev pub one_more : Form → List Frame → Option Column → List Cell → Option Cell → Option Draft
one_more f fs c xs None = None
one_more f fs c xs (Some x) = with_operand f fs c xs x

abbrev pub step_operands : Form → List Frame → Option Column → List Cell → Token → Option Draft
step_operands f fs c xs Token.Right = among f fs c xs
step_operands f fs c xs t = one_more f fs c xs (cell_of t)

-- ---- order, offset, limit, select
abbrev pub unless : Bool → Option Draft → Option Draft
unless b d = if b then None else d

abbrev pub step_clauses : Form → List Frame → Token → Option Draft
step_clauses f fs t =
    if is_the_word (codes "order") t then unless (has_pages f) (at f fs Place.Order)
    else (if is_the_word (codes "offset") t then unless (has_pages f) (at f fs Place.Offset)
    else (if is_the_word (codes "limit") t then unless (is_some f.limit) (at f fs Place.Limit)
    else (if is_the_word (codes "select") t then at f fs Place.Select else None)))

abbrev pub step_chosen : Form → List Frame → Token → Option Draft
step_chosen f fs t = if is_the_word (codes "where") t then at f fs Place.Condition else step_clauses f fs t

abbrev pub is_clause : Token → Bool
is_clause t = is_the_word (codes "offset") t || (is_the_word (codes "limit") t || is_the_word (codes "select") t)

abbrev pub sorted : Form → List Frame → Option Found → Option Draft
sorted f fs c = at (known f (is_none c)) fs (Place.Sorted (place_or_first c))

-- each word that begins no clause is a column
abbrev pub step_order : List EntityDef → Form → List Frame → Token → Option Draft
step_order m f fs t = if is_a_word t && not (is_clause t) then sorted f fs (plain_column (columns_of m f.entity) (word_of t)) else None

abbrev pub step_sorting : List EntityDef → Form → List Frame → Token → Option Draft
step_sorting m f fs t = if is_clause t then step_clauses f fs t else step_order m f fs t

-- a `desc` after a column belongs to it
abbrev pub step_sorted : List EntityDef → Form → List Frame → ℕ → Token → Option Draft
step_sorted m f fs c t =
    if is_the_word (codes "desc") t then at (with_sort f c true) fs Place.Sorting else step_sorting m (with_sort f c false) fs t

abbrev pub step_offset : Form → List Frame → Token → Option Draft
step_offset f fs t =
    if is_a_number t
    then at (record f { offset = Some (number_up_to max_offset t); bad_number = f.bad_number || not (is_within 0 max_offset t) }) fs Place.Clauses else None

abbrev pub step_limit : Form → List Frame → Token → Option Draft
step_limit f fs t =
    if is_a_number t
    then at (record f { limit = Some (number_up_to max_limit t); bad_number = f.bad_number || not (is_within 1 max_limit t) }) fs Place.Clauses else None

abbrev pub select_column : Form → List Frame → Option Found → Option Draft
select_column f fs c = at (record f { unknown = f.unknown || is_none c; select = Select.Column (place_or_first c) }) fs Place.Over

abbrev pub is_sorted : Form → Bool
is_sorted f = nat_lt 0 (length f.order)

-- with `count` there is no order, offset or limit
abbrev pub step_select : List EntityDef → Form → List Frame → Token → Option Draft
step_select m f fs t =
    if is_the_word (codes "ids") t then at (record f { select = Select.Ids }) fs Place.Over
    else (if is_the_word (codes "count") t then unless (has_pages f || is_sorted f) (at (record f { select = Select.Count }) fs Place.Over)
    else (if is_a_word t then select_column f fs (plain_column (columns_of m f.entity) (word_of t)) else None))

-- ---- the line
abbrev pub step_at : List EntityDef → Form → List Frame → Place → Token → Option Draft
step_at m f fs Place.Start t = step_start f fs t
step_at m f fs Place.Name t = step_name f fs t
step_at m f fs Place.Named t = step_named f fs t
step_at m f fs Place.Cached t = step_cached f fs t
step_at m f fs Place.From t = step_from m f fs t
step_at m f fs Place.Chosen t = step_chosen f fs t
step_at m f fs Place.Condition t = step_condition f fs t
step_at m f fs Place.Operator t = step_operator f fs t
step_at m f fs (Place.Subject test) t = step_subject m f fs test t
step_at m f fs (Place.Operand op c) t = step_operand f fs op c t
step_at m f fs (Place.Operands c xs) t = step_operands f fs c xs t
step_at m f fs Place.Clauses t = step_clauses f fs t
step_at m f fs Place.Order t = step_order m f fs t
step_at m f fs (Place.Sorted c) t = step_sorted m f fs c t
step_at m f fs Place.Sorting t = step_sorting m f fs t
step_at m f fs Place.Offset t = step_offset f fs t
step_at m f fs Place.Limit t = step_limit f fs t
step_at m f fs Place.Select t = step_select m f fs t
step_at m f fs Place.Over t = None

abbrev pub step : List EntityDef → Draft → Token → Option Draft
step m d t = step_at m d.form d.frames d.place t

abbrev pub ended_at : Form → Place → Option Form
ended_at f Place.Over = Some f
ended_at f _ = None

abbrev pub form_from : List EntityDef → Option Draft → List Token → Option Form
form_from m None ts = None
form_from m (Some d) [] = ended_at d.form d.place
form_from m (Some d) (t ∷ ts) = form_from m (step m d t) ts

abbrev pub empty : Form
empty = record {
  name = [];
  cached = false;
  entity = None;
  nodes = [];
  order = [];
  offset = None;
  limit = None;
  select = Select.Ids;
  unknown = false;
  bad_number = false;
  mistyped = false;
  deep = false;
}

-- the form of a query line, or none if the line hasn't it
abbrev pub form_of : List EntityDef → List Token → Option Form
form_of m ts = form_from m (at empty [] Place.Start) ts
