-- A query that a line is reads declared tables alone.
use Rattle.std.proofs.Common.{◌≡◌, ℕ, Bool, true, false, not, cond, ◌&&◌, ◌||◌, nat_lt, List, [], ◌∷◌, ◌++◌, length, Option, Some, None, codes, Err, refl, sym, ◌∙◌, ◌+◌}
use Rattle.std.specs.Prelude.{slice_get, option_and_then, is_none, is_some, unwrap_or, bytes_eq}
use Rattle.std.specs.List.{list_all}
use Rattle.std.proofs.lemmas.Bool.{and_parts, and_from, or_parts, true≢false, false≢true}
use Rattle.hib_base.specs.declared.refusals.Kind.{Kind}
use Rattle.hib_base.specs.declared.rows.Cell.{Cell}
use Rattle.hib_base.specs.declared.scripts.ColumnDef.{ColumnDef}
use Rattle.hib_base.specs.declared.scripts.ColumnType.{ColumnType}
use Rattle.hib_base.specs.declared.scripts.Cond.{Cond}
use Rattle.hib_base.specs.declared.scripts.EntityDef.{EntityDef}
use Rattle.hib_base.specs.declared.scripts.Node.{Node}
use Rattle.hib_base.specs.declared.scripts.Op.{Op}
use Rattle.hib_base.specs.declared.scripts.Select.{Select}
use Rattle.hib_base.specs.declared.scripts.Target.{Target}
use Rattle.hib_base.specs.Queries.{Said, parts_of, parts_in}
use Rattle.hib_base.specs.Scripts.{is_type_below, is_target_below, are_targets_below, are_targets_in}
use Rattle.hib_base.proofs.Gives.{Gives, gives_cond, Then, then_cond}
use Rattle.hib_base.proofs.Lists.{all_at, all_more, all_weaker, some_none}
use Rattle.hib_lex.specs.Words.{is_the_word}
use Rattle.hib_lex.specs.declared.lexer.Token.{Token}
use Rattle.hib_base.specs.Words.{is_reserved}
use Rattle.hib_mapping.specs.Parts.{is_a_word, is_a_number, word_of, is_within, number_up_to, entity_at, column_at}
use Rattle.hib_base.proofs.Columns.{lt_more}
use Rattle.hib_mapping.proofs.Places.{placed}
use Rattle.hib_columns.specs.Columns as columns
use Rattle.hib_columns.specs.Columns.{columns_in, entity_columns, columns_of, found_at, at_place, plain_column, own, led_to, through_type, through, column_of, path_or_first, is_path}
use Rattle.hib_mapping.specs.Cells.{cell_of}
use Rattle.hib_criteria.specs.Form as lines
use Rattle.hib_criteria.specs.Query.{are_whole, kind_of, unless_kind, read, query_of}
use Rattle.hib_columns.specs.declared.columns.Column.{Column}
use Rattle.hib_columns.specs.declared.columns.Found.{Found}
use Rattle.hib_criteria.specs.declared.forms.Draft.{Draft}
use Rattle.hib_criteria.specs.declared.forms.Form.{Form}
use Rattle.hib_criteria.specs.declared.forms.Frame.{Frame}
use Rattle.hib_criteria.specs.declared.forms.Place.{Place}
use Rattle.hib_criteria.specs.declared.forms.Test.{Test}

-- ---- what a part, or a query as it is said, reads is one of the first n entities
abbrev pub is_node_below : ℕ → Node → Bool
is_node_below n (Node.Test op p c) = is_target_below n p.target
is_node_below n (Node.Among p cs) = is_target_below n p.target
is_node_below n _ = true

abbrev pub are_nodes_below : ℕ → List Node → Bool
are_nodes_below n ns = list_all (λ x. is_node_below n x) ns

abbrev pub is_said_below : ℕ → Said → Bool
is_said_below n q = nat_lt q.entity n && are_nodes_below n q.parts

-- the references of some columns lead there
abbrev pub are_types_below : ℕ → List ColumnDef → Bool
are_types_below n ds = list_all (λ d. is_type_below n d.kind) ds

-- ---- a condition of such parts
both_below : (n : ℕ) (xs ys : List Node) → are_nodes_below n (xs ++ ys) ≡ true → (are_nodes_below n xs ≡ true) × (are_nodes_below n ys ≡ true)
both_below n [] ys h = (refl, h)
both_below n (x ∷ xs) ys h =
    let here : (is_node_below n x ≡ true) × (are_nodes_below n (xs ++ ys) ≡ true) = and_parts (is_node_below n x) (are_nodes_below n (xs ++ ys)) h in
    let rest : (are_nodes_below n xs ≡ true) × (are_nodes_below n ys ≡ true) = both_below n xs ys here.1 in
    (and_from (is_node_below n x) (are_nodes_below n xs) here.0 rest.0, rest.1)

alone_below : (b : Bool) → (b && true) ≡ true → b ≡ true
alone_below true h = refl
alone_below false h = h

parts_below : (n : ℕ) (c : Cond) → are_nodes_below n (parts_of c) ≡ true → are_targets_below n c ≡ true
parts_below n (Cond.And' p a q b) h =
    let both : (are_nodes_below n (parts_of a) ≡ true) × (are_nodes_below n (parts_of b) ≡ true) = both_below n (parts_of a) (parts_of b) h in
    and_from (are_targets_below n a) (are_targets_below n b) (parts_below n a both.0) (parts_below n b both.1)
parts_below n (Cond.Or' p a q b) h =
    let both : (are_nodes_below n (parts_of a) ≡ true) × (are_nodes_below n (parts_of b) ≡ true) = both_below n (parts_of a) (parts_of b) h in
    and_from (are_targets_below n a) (are_targets_below n b) (parts_below n a both.0) (parts_below n b both.1)
parts_below n (Cond.Not' p a) h = parts_below n a h
parts_below n (Cond.Test op p c) h = alone_below (is_target_below n p.target) h
parts_below n (Cond.Among p cs) h = alone_below (is_target_below n p.target) h

pub targets_below : (n : ℕ) (o : Option Cond) → are_nodes_below n (parts_in o) ≡ true → are_targets_in n o ≡ true
targets_below n None h = refl
targets_below n (Some c) h = parts_below n c h

-- ---- more entities
target_more : (n m : ℕ) (o : Option Target) → is_target_below n o ≡ true → is_target_below (n + m) o ≡ true
target_more n m None h = refl
target_more n m (Some g) h = lt_more g.entity n m h

node_more : (n m : ℕ) (x : Node) → is_node_below n x ≡ true → is_node_below (n + m) x ≡ true
node_more n m (Node.Test op p c) h = target_more n m p.target h
node_more n m (Node.Among p cs) h = target_more n m p.target h
node_more n m Node.And h = refl
node_more n m Node.Or h = refl
node_more n m Node.Not h = refl

pub said_more : (n m : ℕ) (q : Said) → is_said_below n q ≡ true → is_said_below (n + m) q ≡ true
said_more n m q h =
    let both : (nat_lt q.entity n ≡ true) × (are_nodes_below n q.parts ≡ true) = and_parts (nat_lt q.entity n) (are_nodes_below n q.parts) h in
    and_from (nat_lt q.entity (n + m)) (are_nodes_below (n + m) q.parts) (lt_more q.entity n m both.0)
    (all_weaker (λ x. is_node_below n x) (λ x. is_node_below (n + m) x) q.parts (λ x e. node_more n m x e) both.1)

-- ---- the columns that words name
abbrev is_found_below : ℕ → Option Found → Bool
is_found_below n None = true
is_found_below n (Some d) = is_type_below n d.kind

abbrev is_column_below : ℕ → Option Column → Bool
is_column_below n None = true
is_column_below n (Some c) = is_target_below n c.path.target

found_below : (n : ℕ) (ds : List ColumnDef) (c : ℕ) → are_types_below n ds ≡ true → is_found_below n (at_place ds c) ≡ true
found_below n ds c h = by_slot (slice_get ds c) refl
  where
    by_slot : (o : Option ColumnDef) → slice_get ds c ≡ o → is_found_below n (found_at c o) ≡ true
    by_slot None e = refl
    by_slot (Some d) e = all_at (λ d. is_type_below n d.kind) ds c d h e

placed_below : (n : ℕ) (ds : List ColumnDef) (c : Option ℕ) → are_types_below n ds ≡ true → is_found_below n (option_and_then (λ c. at_place ds c) c) ≡ true
placed_below n ds None h = refl
placed_below n ds (Some c) h = found_below n ds c h

plain_below : (n : ℕ) (ds : List ColumnDef) (w : List ℕ) → are_types_below n ds ≡ true → is_found_below n (plain_column ds w) ≡ true
plain_below n ds w h = placed_below n ds (column_at ds w) h

own_below : (n : ℕ) (o : Option Found) → is_column_below n (own o) ≡ true
own_below n None = refl
own_below n (Some d) = refl

led_below : (n c e : ℕ) (o : Option Found) → nat_lt e n ≡ true → is_column_below n (led_to c e o) ≡ true
led_below n c e None h = refl
led_below n c e (Some d) h = h

type_below : (n : ℕ) (m : List EntityDef) (c : ℕ) (k : ColumnType) (w : List ℕ) → is_type_below n k ≡ true → is_column_below n (through_type m c k w) ≡ true
type_below n m c (ColumnType.Ref e) w h = led_below n c e (plain_column (entity_columns m e) w) h
type_below n m c ColumnType.Int w h = refl
type_below n m c ColumnType.Text w h = refl
type_below n m c ColumnType.Bool w h = refl

through_below : (n : ℕ) (m : List EntityDef) (o : Option Found) (w : List ℕ) → is_found_below n o ≡ true → is_column_below n (through m o w) ≡ true
through_below n m None w h = refl
through_below n m (Some r) w h = type_below n m r.place r.kind w h

column_below : (n : ℕ) (m : List EntityDef) (ds : List ColumnDef) (t : Token) → are_types_below n ds ≡ true → is_column_below n (column_of m ds t) ≡ true
column_below n m ds (Token.Word w) h = own_below n (plain_column ds w)
column_below n m ds (Token.Path v w) h = through_below n m (plain_column ds v) w (plain_below n ds v h)
column_below n m ds _ h = refl

path_below : (n : ℕ) (o : Option Column) → is_column_below n o ≡ true → is_target_below n (path_or_first o).target ≡ true
path_below n None h = refl
path_below n (Some c) h = h

-- ---- the columns of an entity of a mapping whose references lead to its own entities
abbrev pub are_linked : List EntityDef → Bool
are_linked m = list_all (λ e. are_types_below (length m) e.columns) m

entity_linked : (m : List EntityDef) (e : ℕ) → are_linked m ≡ true → are_types_below (length m) (entity_columns m e) ≡ true
entity_linked m e h = by_slot (slice_get m e) refl
  where
    by_slot : (o : Option EntityDef) → slice_get m e ≡ o → are_types_below (length m) (columns_in o) ≡ true
    by_slot None p = refl
    by_slot (Some d) p = all_at (λ e. are_types_below (length m) e.columns) m e d h p

linked : (m : List EntityDef) (o : Option ℕ) → are_linked m ≡ true → are_types_below (length m) (columns_of m o) ≡ true
linked m None h = refl
linked m (Some e) h = entity_linked m e h

-- an entity of a name is one of the mapping's
abbrev pub is_there : ℕ → Option ℕ → Bool
is_there n None = false
is_there n (Some e) = nat_lt e n

there_from : (n : ℕ) (o : Option ℕ) → Then o (λ e. nat_lt e n ≡ true) → is_none o ≡ false → is_there n o ≡ true
there_from n None h e = absurd (true≢false e)
there_from n (Some i) h e = h

entity_there : (m : List EntityDef) (w : List ℕ) → is_none (entity_at m w) ≡ false → is_there (length m) (entity_at m w) ≡ true
entity_there m w h = there_from (length m) (entity_at m w) (placed (λ e. bytes_eq e.name w) m) h

-- ---- what a form keeps, token by token
then_if : {A : Type 0} (b : Bool) (x y : Option A) (P : A → Type 0) → Then x P → Then y P → Then (cond b x y) P
then_if b x y P f g = then_cond b x y P (λ _. f) (λ _. g)

abbrev is_place_below : ℕ → Place → Bool
is_place_below n (Place.Operand op c) = is_column_below n c
is_place_below n (Place.Operands c xs) = is_column_below n c
is_place_below n _ = true

-- before an entity is chosen
abbrev is_head : Place → Bool
is_head Place.Start = true
is_head Place.Name = true
is_head Place.Named = true
is_head Place.Cached = true
is_head Place.From = true
is_head _ = false

-- before there is a name
abbrev is_nameless : Place → Bool
is_nameless Place.Start = true
is_nameless Place.Name = true
is_nameless _ = false

-- w is the name, and all that is noted of entities is of one of the first n
record Below (n : ℕ) (w : List ℕ) (v : List ℕ) (ns : List Node) (u : Bool) (e : Option ℕ) (p : Place) : Type 0 where
  late : is_nameless p ≡ false
  name : v ≡ w
  nodes : are_nodes_below n ns ≡ true
  place : is_place_below n p ≡ true
  entity : is_head p ≡ false → u ≡ false → is_there n e ≡ true

abbrev In : ℕ → List ℕ → Form → Place → Type 0
In n w f p = Below n w f.name f.nodes f.unknown f.entity p

abbrev Holds : ℕ → List ℕ → Draft → Type 0
Holds n w d = In n w d.form d.place

-- at another place before an entity is chosen
still : (n : ℕ) (w v : List ℕ) (ns : List Node) (u : Bool) (e : Option ℕ) (p q : Place) → Below n w v ns u e p → is_nameless q ≡ false → is_place_below n q ≡ true → is_head q ≡ true → Below n w v ns u e q
still n w v ns u e p q b l h t = record { late = l; name = b.name; nodes = b.nodes; place = h; entity = λ f g. absurd (true≢false (sym t ∙ f)) }

-- after it
moved : (n : ℕ) (w v : List ℕ) (ns : List Node) (u : Bool) (e : Option ℕ) (p q : Place) → Below n w v ns u e p → is_head p ≡ false → is_nameless q ≡ false → is_place_below n q ≡ true → Below n w v ns u e q
moved n w v ns u e p q b t l h = record { late = l; name = b.name; nodes = b.nodes; place = h; entity = λ f g. b.entity t g }

-- if something may be unknown
noted : (n : ℕ) (w v : List ℕ) (ns : List Node) (u missing : Bool) (e : Option ℕ) (p q : Place) → Below n w v ns u e p → is_head p ≡ false → is_nameless q ≡ false → is_place_below n q ≡ true → Below n w v ns (u || missing) e q
noted n w v ns u missing e p q b t l h =
    record { late = l; name = b.name; nodes = b.nodes; place = h; entity = λ f g. let both : (u ≡ false) × (missing ≡ false) = or_parts u missing g in b.entity t both.0 }

-- with one part more
joined : (n : ℕ) (w v : List ℕ) (ns : List Node) (x : Node) (u : Bool) (e : Option ℕ) (p q : Place) → Below n w v ns u e p → is_node_below n x ≡ true → is_head p ≡ false → is_nameless q ≡ false → is_place_below n q ≡ true → Below n w v (ns ++ x ∷ []) u e q
joined n w v ns x u e p q b i t l h =
    record { late = l; name = b.name; nodes = all_more (λ y. is_node_below n y) ns x b.nodes i; place = h; entity = λ f g. b.entity t g }

-- the head of the line
cached_below : (n : ℕ) (w : List ℕ) (f : Form) (fs : List Frame) (p : Place) (t : Token) → In n w f p → Then (lines.step_cached f fs t) (Holds n w)
cached_below n w f fs p t b = then_if (is_the_word (codes "from") t) (lines.at f fs Place.From) None (Holds n w) (still n w f.name f.nodes f.unknown f.entity p Place.From b refl refl refl) tt

named_below : (n : ℕ) (w : List ℕ) (f : Form) (fs : List Frame) (t : Token) → In n w f Place.Named → Then (lines.step_named f fs t) (Holds n w)
named_below n w f fs t b =
    then_if (is_the_word (codes "cached") t) (lines.at (record f { cached = true }) fs Place.Cached) (lines.step_cached f fs t) (Holds n w)
    (still n w f.name f.nodes f.unknown f.entity Place.Named Place.Cached b refl refl refl) (cached_below n w f fs Place.Named t b)

from_below : (m : List EntityDef) (w : List ℕ) (f : Form) (fs : List Frame) (t : Token) → In (length m) w f Place.From → Then (lines.step_from m f fs t) (Holds (length m) w)
from_below m w f fs t b =
    let e : Option ℕ = entity_at m (word_of t) in
    then_if (is_a_word t) (lines.at (lines.chosen f e) fs Place.Chosen) None (Holds (length m) w)
    (record {
      late = refl;
      name = b.name;
      nodes = b.nodes;
      place = refl;
      entity = λ _ g. let both : (f.unknown ≡ false) × (is_none e ≡ false) = or_parts f.unknown (is_none e) g in entity_there m (word_of t) both.1;
    })
    tt

-- clauses
clauses_below : (n : ℕ) (w : List ℕ) (f : Form) (fs : List Frame) (p : Place) (t : Token) → In n w f p → is_head p ≡ false → Then (lines.step_clauses f fs t) (Holds n w)
clauses_below n w f fs p t b h =
    let to_select : Option Draft = cond (is_the_word (codes "select") t) (lines.at f fs Place.Select) None in
    let to_limit : Option Draft = cond (is_the_word (codes "limit") t) (lines.unless (is_some f.limit) (lines.at f fs Place.Limit)) to_select in
    let to_offset : Option Draft = cond (is_the_word (codes "offset") t) (lines.unless (lines.has_pages f) (lines.at f fs Place.Offset)) to_limit in
    then_if (is_the_word (codes "order") t) (lines.unless (lines.has_pages f) (lines.at f fs Place.Order)) to_offset (Holds n w)
    (then_if (lines.has_pages f) None (lines.at f fs Place.Order) (Holds n w) tt (moved n w f.name f.nodes f.unknown f.entity p Place.Order b h refl refl))
    (then_if (is_the_word (codes "offset") t) (lines.unless (lines.has_pages f) (lines.at f fs Place.Offset)) to_limit (Holds n w)
    (then_if (lines.has_pages f) None (lines.at f fs Place.Offset) (Holds n w) tt (moved n w f.name f.nodes f.unknown f.entity p Place.Offset b h refl refl))
    (then_if (is_the_word (codes "limit") t) (lines.unless (is_some f.limit) (lines.at f fs Place.Limit)) to_select (Holds n w)
    (then_if (is_some f.limit) None (lines.at f fs Place.Limit) (Holds n w) tt (moved n w f.name f.nodes f.unknown f.entity p Place.Limit b h refl refl))
    (then_if (is_the_word (codes "select") t) (lines.at f fs Place.Select) None (Holds n w) (moved n w f.name f.nodes f.unknown f.entity p Place.Select b h refl refl) tt)))

chosen_below : (n : ℕ) (w : List ℕ) (f : Form) (fs : List Frame) (t : Token) → In n w f Place.Chosen → Then (lines.step_chosen f fs t) (Holds n w)
chosen_below n w f fs t b =
    then_if (is_the_word (codes "where") t) (lines.at f fs Place.Condition) (lines.step_clauses f fs t) (Holds n w)
    (moved n w f.name f.nodes f.unknown f.entity Place.Chosen Place.Condition b refl refl refl) (clauses_below n w f fs Place.Chosen t b refl)

-- conditions
behind_late : (fs : List Frame) → is_nameless (lines.behind fs) ≡ false
behind_late [] = refl
behind_late (x ∷ fs) = refl

behind_below : (n : ℕ) (fs : List Frame) → is_place_below n (lines.behind fs) ≡ true
behind_below n [] = refl
behind_below n (x ∷ fs) = refl

opened_below : (n : ℕ) (w : List ℕ) (f : Form) (fs : List Frame) → In n w f Place.Condition → Then (lines.opened f fs) (Holds n w)
opened_below n w f [] b = moved n w f.name f.nodes f.unknown f.entity Place.Condition Place.Operator b refl refl refl
opened_below n w f (Frame.Two ∷ fs) b = moved n w f.name f.nodes f.unknown f.entity Place.Condition Place.Operator b refl refl refl
opened_below n w f (Frame.One ∷ fs) b = moved n w f.name f.nodes f.unknown f.entity Place.Condition Place.Operator b refl refl refl
opened_below n w f (Frame.Closing ∷ fs) b = tt

closed_below : (n : ℕ) (w : List ℕ) (f : Form) (fs : List Frame) → In n w f Place.Condition → Then (lines.closed f fs) (Holds n w)
closed_below n w f [] b = tt
closed_below n w f (Frame.Closing ∷ fs) b = moved n w f.name f.nodes f.unknown f.entity Place.Condition (lines.behind fs) b refl (behind_late fs) (behind_below n fs)
closed_below n w f (Frame.Two ∷ fs) b = tt
closed_below n w f (Frame.One ∷ fs) b = tt

condition_below : (n : ℕ) (w : List ℕ) (f : Form) (fs : List Frame) (t : Token) → In n w f Place.Condition → Then (lines.step_condition f fs t) (Holds n w)
condition_below n w f fs Token.Left b = opened_below n w f fs b
condition_below n w f fs Token.Right b = closed_below n w f fs b
condition_below n w f fs _ b = tt

compared_below : (n : ℕ) (w : List ℕ) (f : Form) (fs : List Frame) (op : Option Op) → In n w f Place.Operator → Then (lines.compared f fs op) (Holds n w)
compared_below n w f fs None b = tt
compared_below n w f fs (Some op) b = moved n w f.name f.nodes f.unknown f.entity Place.Operator (Place.Subject (Test.Compare op)) b refl refl refl

operator_below : (n : ℕ) (w : List ℕ) (f : Form) (fs : List Frame) (t : Token) → In n w f Place.Operator → Then (lines.step_operator f fs t) (Holds n w)
operator_below n w f fs t b =
    let to_in : Option Draft = cond (is_the_word (codes "in") t) (lines.at f fs (Place.Subject Test.Among)) (lines.compared f fs (lines.op_of t)) in
    let to_not : Option Draft = cond (is_the_word (codes "not") t) (lines.at (lines.with_node f Node.Not) (Frame.One ∷ fs) Place.Condition) to_in in
    let to_or : Option Draft = cond (is_the_word (codes "or") t) (lines.at (lines.with_node f Node.Or) (Frame.Two ∷ fs) Place.Condition) to_not in
    then_if (is_the_word (codes "and") t) (lines.at (lines.with_node f Node.And) (Frame.Two ∷ fs) Place.Condition) to_or (Holds n w)
    (joined n w f.name f.nodes Node.And f.unknown f.entity Place.Operator Place.Condition b refl refl refl refl)
    (then_if (is_the_word (codes "or") t) (lines.at (lines.with_node f Node.Or) (Frame.Two ∷ fs) Place.Condition) to_not (Holds n w)
    (joined n w f.name f.nodes Node.Or f.unknown f.entity Place.Operator Place.Condition b refl refl refl refl)
    (then_if (is_the_word (codes "not") t) (lines.at (lines.with_node f Node.Not) (Frame.One ∷ fs) Place.Condition) to_in (Holds n w)
    (joined n w f.name f.nodes Node.Not f.unknown f.entity Place.Operator Place.Condition b refl refl refl refl)
    (then_if (is_the_word (codes "in") t) (lines.at f fs (Place.Subject Test.Among)) (lines.compared f fs (lines.op_of t)) (Holds n w)
    (moved n w f.name f.nodes f.unknown f.entity Place.Operator (Place.Subject Test.Among) b refl refl refl)
    (compared_below n w f fs (lines.op_of t) b))))

subject_in : (n : ℕ) (w : List ℕ) (f : Form) (fs : List Frame) (test : Test) (c : Option Column) → In n w f (Place.Subject test) → is_column_below n c ≡ true → Then (lines.subject f fs test c) (Holds n w)
subject_in n w f fs (Test.Compare op) c b h = noted n w f.name f.nodes f.unknown (is_none c) f.entity (Place.Subject (Test.Compare op)) (Place.Operand op c) b refl refl h
subject_in n w f fs Test.Among c b h = noted n w f.name f.nodes f.unknown (is_none c) f.entity (Place.Subject Test.Among) (Place.Operands c []) b refl refl h

subject_below : (m : List EntityDef) (w : List ℕ) (f : Form) (fs : List Frame) (test : Test) (t : Token) → are_linked m ≡ true → In (length m) w f (Place.Subject test) → Then (lines.step_subject m f fs test t) (Holds (length m) w)
subject_below m w f fs test t l b =
    let c : Option Column = column_of m (columns_of m f.entity) t in
    then_if (is_path t) (lines.subject f fs test c) None (Holds (length m) w)
    (subject_in (length m) w f fs test c b (column_below (length m) m (columns_of m f.entity) t (linked m f.entity l))) tt

operand_below : (n : ℕ) (w : List ℕ) (f : Form) (fs : List Frame) (op : Op) (c : Option Column) (x : Option Cell) → In n w f (Place.Operand op c) → Then (lines.operand f fs op c x) (Holds n w)
operand_below n w f fs op c None b = tt
operand_below n w f fs op c (Some x) b =
    joined n w f.name f.nodes (Node.Test op (path_or_first c) x) f.unknown f.entity (Place.Operand op c) Place.Condition b (path_below n c b.place) refl refl refl

among_below : (n : ℕ) (w : List ℕ) (f : Form) (fs : List Frame) (c : Option Column) (xs : List Cell) → In n w f (Place.Operands c xs) → Then (lines.among f fs c xs) (Holds n w)
among_below n w f fs c xs b =
    then_if (lines.is_empty xs) None (lines.at (lines.with_among f c xs) fs (lines.behind fs)) (Holds n w) tt
    (joined n w f.name f.nodes (Node.Among (path_or_first c) xs) f.unknown f.entity (Place.Operands c xs) (lines.behind fs) b (path_below n c b.place) refl (behind_late fs) (behind_below n fs))

more_below : (n : ℕ) (w : List ℕ) (f : Form) (fs : List Frame) (c : Option Column) (xs : List Cell) (x : Option Cell) → In n w f (Place.Operands c xs) → Then (lines.one_more f fs c xs x) (Holds n w)
more_below n w f fs c xs None b = tt
more_below n w f fs c xs (Some x) b = moved n w f.name f.nodes f.unknown f.entity (Place.Operands c xs) (Place.Operands c (xs ++ x ∷ [])) b refl refl b.place

operands_below : (n : ℕ) (w : List ℕ) (f : Form) (fs : List Frame) (c : Option Column) (xs : List Cell) (t : Token) → In n w f (Place.Operands c xs) → Then (lines.step_operands f fs c xs t) (Holds n w)
operands_below n w f fs c xs Token.Right b = among_below n w f fs c xs b
operands_below n w f fs c xs t b = more_below n w f fs c xs (cell_of t) b

-- order, offset, limit, select
order_below : (n : ℕ) (w : List ℕ) (m : List EntityDef) (f : Form) (fs : List Frame) (p : Place) (t : Token) → In n w f p → is_head p ≡ false → Then (lines.step_order m f fs t) (Holds n w)
order_below n w m f fs p t b h =
    let c : Option Found = plain_column (columns_of m f.entity) (word_of t) in
    then_if (is_a_word t && not (lines.is_clause t)) (lines.sorted f fs c) None (Holds n w)
    (noted n w f.name f.nodes f.unknown (is_none c) f.entity p (Place.Sorted (columns.place_or_first c)) b h refl refl) tt

sorting_below : (n : ℕ) (w : List ℕ) (m : List EntityDef) (f : Form) (fs : List Frame) (p : Place) (t : Token) → In n w f p → is_head p ≡ false → Then (lines.step_sorting m f fs t) (Holds n w)
sorting_below n w m f fs p t b h =
    then_if (lines.is_clause t) (lines.step_clauses f fs t) (lines.step_order m f fs t) (Holds n w) (clauses_below n w f fs p t b h) (order_below n w m f fs p t b h)

sorted_below : (n : ℕ) (w : List ℕ) (m : List EntityDef) (f : Form) (fs : List Frame) (c : ℕ) (t : Token) → In n w f (Place.Sorted c) → Then (lines.step_sorted m f fs c t) (Holds n w)
sorted_below n w m f fs c t b =
    then_if (is_the_word (codes "desc") t) (lines.at (lines.with_sort f c true) fs Place.Sorting) (lines.step_sorting m (lines.with_sort f c false) fs t) (Holds n w)
    (moved n w f.name f.nodes f.unknown f.entity (Place.Sorted c) Place.Sorting b refl refl refl)
    (sorting_below n w m (lines.with_sort f c false) fs (Place.Sorted c) t b refl)

select_below : (n : ℕ) (w : List ℕ) (m : List EntityDef) (f : Form) (fs : List Frame) (t : Token) → In n w f Place.Select → Then (lines.step_select m f fs t) (Holds n w)
select_below n w m f fs t b =
    let c : Option Found = plain_column (columns_of m f.entity) (word_of t) in
    let to_column : Option Draft = cond (is_a_word t) (lines.select_column f fs c) None in
    let counted : Option Draft = lines.at (record f { select = Select.Count }) fs Place.Over in
    let over : In n w f Place.Over = moved n w f.name f.nodes f.unknown f.entity Place.Select Place.Over b refl refl refl in
    then_if (is_the_word (codes "ids") t) (lines.at (record f { select = Select.Ids }) fs Place.Over)
    (cond (is_the_word (codes "count") t) (lines.unless (lines.has_pages f || lines.is_sorted f) counted) to_column) (Holds n w) over
    (then_if (is_the_word (codes "count") t) (lines.unless (lines.has_pages f || lines.is_sorted f) counted) to_column (Holds n w)
    (then_if (lines.has_pages f || lines.is_sorted f) None counted (Holds n w) tt over)
    (then_if (is_a_word t) (lines.select_column f fs c) None (Holds n w)
    (noted n w f.name f.nodes f.unknown (is_none c) f.entity Place.Select Place.Over b refl refl refl) tt))

nameless : {A : Type 0} → true ≡ false → A
nameless e = absurd (true≢false e)

step_below : (m : List EntityDef) (w : List ℕ) (f : Form) (fs : List Frame) (p : Place) (t : Token) → are_linked m ≡ true → In (length m) w f p → Then (lines.step_at m f fs p t) (Holds (length m) w)
step_below m w f fs Place.Start t l b = nameless b.late
step_below m w f fs Place.Name t l b = nameless b.late
step_below m w f fs Place.Named t l b = named_below (length m) w f fs t b
step_below m w f fs Place.Cached t l b = cached_below (length m) w f fs Place.Cached t b
step_below m w f fs Place.From t l b = from_below m w f fs t b
step_below m w f fs Place.Chosen t l b = chosen_below (length m) w f fs t b
step_below m w f fs Place.Condition t l b = condition_below (length m) w f fs t b
step_below m w f fs Place.Operator t l b = operator_below (length m) w f fs t b
step_below m w f fs (Place.Subject test) t l b = subject_below m w f fs test t l b
step_below m w f fs (Place.Operand op c) t l b = operand_below (length m) w f fs op c (cell_of t) b
step_below m w f fs (Place.Operands c xs) t l b = operands_below (length m) w f fs c xs t b
step_below m w f fs Place.Clauses t l b = clauses_below (length m) w f fs Place.Clauses t b refl
step_below m w f fs Place.Order t l b = order_below (length m) w m f fs Place.Order t b refl
step_below m w f fs (Place.Sorted c) t l b = sorted_below (length m) w m f fs c t b
step_below m w f fs Place.Sorting t l b = sorting_below (length m) w m f fs Place.Sorting t b refl
step_below m w f fs Place.Offset t l b =
    then_if (is_a_number t) (lines.at (record f { offset = Some (number_up_to 1000000 t); bad_number = f.bad_number || not (is_within 0 1000000 t) }) fs Place.Clauses) None (Holds (length m) w)
    (moved (length m) w f.name f.nodes f.unknown f.entity Place.Offset Place.Clauses b refl refl refl) tt
step_below m w f fs Place.Limit t l b =
    then_if (is_a_number t) (lines.at (record f { limit = Some (number_up_to 200 t); bad_number = f.bad_number || not (is_within 1 200 t) }) fs Place.Clauses) None (Holds (length m) w)
    (moved (length m) w f.name f.nodes f.unknown f.entity Place.Limit Place.Clauses b refl refl refl) tt
step_below m w f fs Place.Select t l b = select_below (length m) w m f fs t b
step_below m w f fs Place.Over t l b = tt

ended_below : (n : ℕ) (w : List ℕ) (f : Form) (p : Place) → In n w f p → Then (lines.ended_at f p) (λ g. In n w g Place.Over)
ended_below n w f Place.Over b = b
ended_below n w f _ b = tt

tokens_below : (m : List EntityDef) (w : List ℕ) (o : Option Draft) (ts : List Token) → are_linked m ≡ true → Then o (Holds (length m) w) → Then (lines.form_from m o ts) (λ g. In (length m) w g Place.Over)
tokens_below m w None ts l b = tt
tokens_below m w (Some d) [] l b = ended_below (length m) w d.form d.place b
tokens_below m w (Some d) (t ∷ ts) l b = tokens_below m w (lines.step m d t) ts l (step_below m w d.form d.frames d.place t l b)

-- ---- the query of a line: its name is the second token, which is a word, and it reads declared tables alone
pub record IsLineOf (m : List EntityDef) (ts : List Token) (q : Said) : Type 0 where
  pub first : Token
  pub name : Token
  pub rest : List Token
  pub line : ts ≡ first ∷ name ∷ rest
  pub word : is_a_word name ≡ true
  pub named : q.name ≡ word_of name
  pub free : is_reserved q.name ≡ false
  pub below : is_said_below (length m) q ≡ true

-- nothing is wrong with a form: its name isn't reserved, and nothing of it is unknown
fine_by : (r u x y z : Bool) → cond r (Some Kind.Reserved) (cond u (Some Kind.Unknown) (cond x (Some Kind.Number) (cond y (Some Kind.CellType) (cond z (Some Kind.Depth) None)))) ≡ None → (r ≡ false) × (u ≡ false)
fine_by true u x y z h = absurd (some_none Kind.Reserved h)
fine_by false true x y z h = absurd (some_none Kind.Unknown h)
fine_by false false x y z h = (refl, refl)

there_below : (n : ℕ) (o : Option ℕ) → is_there n o ≡ true → nat_lt (unwrap_or o 0) n ≡ true
there_below n None h = absurd (false≢true h)
there_below n (Some e) h = h

unless_below : (m : List EntityDef) (a b : Token) (ts : List Token) (f : Form) (k : Option Kind) → kind_of f ≡ k → is_a_word b ≡ true → In (length m) (word_of b) f Place.Over →
    Gives (unless_kind f k) (IsLineOf m (a ∷ b ∷ ts))
unless_below m a b ts f (Some k) e h i = tt
unless_below m a b ts f None e h i =
    let fine : (is_reserved f.name ≡ false) × (f.unknown ≡ false) = fine_by (is_reserved f.name) f.unknown f.bad_number f.mistyped f.deep e in
    record {
      first = a;
      name = b;
      rest = ts;
      line = refl;
      word = h;
      named = i.name;
      free = fine.0;
      below = and_from (nat_lt (unwrap_or f.entity 0) (length m)) (are_nodes_below (length m) f.nodes) (there_below (length m) f.entity (i.entity refl fine.1)) i.nodes;
    }

read_below : (m : List EntityDef) (a b : Token) (ts : List Token) (o : Option Form) → is_a_word b ≡ true → Then o (λ f. In (length m) (word_of b) f Place.Over) → Gives (read o) (IsLineOf m (a ∷ b ∷ ts))
read_below m a b ts None h i = tt
read_below m a b ts (Some f) h i =
    gives_cond (are_whole f.nodes) (unless_kind f (kind_of f)) (Err Kind.Words) (IsLineOf m (a ∷ b ∷ ts)) (λ _. unless_below m a b ts f (kind_of f) refl h i) (λ _. tt)

-- the first two tokens
second_below : (m : List EntityDef) (a b : Token) (ts : List Token) (w : Bool) → is_a_word b ≡ w → are_linked m ≡ true →
    Gives (read (lines.form_from m (cond w (lines.at (record lines.empty { name = word_of b }) [] Place.Named) None) ts)) (IsLineOf m (a ∷ b ∷ ts))
second_below m a b ts false e l = none_read m a b ts ts
  where
    none_read : (m : List EntityDef) (a b : Token) (ts us : List Token) → Gives (read (lines.form_from m None us)) (IsLineOf m (a ∷ b ∷ ts))
    none_read m a b ts us = tt
second_below m a b ts true e l =
    read_below m a b ts (lines.form_from m (lines.at (record lines.empty { name = word_of b }) [] Place.Named) ts) e
    (tokens_below m (word_of b) (lines.at (record lines.empty { name = word_of b }) [] Place.Named) ts l
    (record { late = refl; name = refl; nodes = refl; place = refl; entity = λ h _. nameless h }))

first_below : (m : List EntityDef) (a b : Token) (ts : List Token) (q : Bool) → are_linked m ≡ true →
    Gives (read (lines.form_from m (cond q (lines.at lines.empty [] Place.Name) None) (b ∷ ts))) (IsLineOf m (a ∷ b ∷ ts))
first_below m a b ts false l = tt
first_below m a b ts true l = second_below m a b ts (is_a_word b) refl l

alone_read : (m : List EntityDef) (a : Token) (q : Bool) → Gives (read (lines.form_from m (cond q (lines.at lines.empty [] Place.Name) None) [])) (IsLineOf m (a ∷ []))
alone_read m a false = tt
alone_read m a true = tt

pub line_of : (m : List EntityDef) (ts : List Token) → are_linked m ≡ true → Gives (query_of m ts) (IsLineOf m ts)
line_of m [] l = tt
line_of m (a ∷ []) l = alone_read m a (is_the_word (codes "query") a)
line_of m (a ∷ b ∷ ts) l = first_below m a b ts (is_the_word (codes "query") a) l
