-- Conditions, read back from their tokens.
use Rattle.std.proofs.Common.{◌≡◌, ℕ, zero, suc, ◌+◌, ◌≤◌, ◌<◌, Bool, true, false, not, cond, ◌&&◌, ◌==◌, nat_le, List, [], ◌∷◌, ◌++◌, length, slice_get, codes, Some, None, Option, option_and_then, refl, sym, ap, subst, ◌∙◌, append_assoc, arith, eqb-true}
use Rattle.std.specs.List.{list_all}
use Rattle.std.proofs.lemmas.Bool.{and_parts, and_from, le-ltb, lt-leb, leb-true}
use Rattle.std.proofs.lemmas.List.{append-nil}
use Rattle.hib_base.specs.declared.rows.Cell.{Cell}
use Rattle.hib_base.specs.declared.scripts.ColumnType.{ColumnType}
use Rattle.hib_base.specs.declared.scripts.ColumnDef.{ColumnDef}
use Rattle.hib_base.specs.declared.scripts.EntityDef.{EntityDef}
use Rattle.hib_base.specs.declared.scripts.Op.{Op}
use Rattle.hib_base.specs.declared.scripts.Path.{Path}
use Rattle.hib_base.specs.declared.scripts.Target.{Target}
use Rattle.hib_base.specs.declared.scripts.Cond.{Cond}
use Rattle.hib_base.specs.declared.scripts.Select.{Select}
use Rattle.hib_base.specs.declared.scripts.Script.{Script}
use Rattle.hib_base.specs.declared.scripts.Node.{Node}
use Rattle.hib_base.specs.Fits.{columns_in, entity_columns, kind_in, type_at, is_of_type, is_of_type_in, type_through, type_led, type_of_path, is_comparable, fits_part}
use Rattle.hib_base.specs.Queries.{parts_of}
use Rattle.hib_base.specs.Valid.{is_nested, is_short}
use Rattle.hib_lex.specs.declared.lexer.Token.{Token}
use Rattle.hib_columns.specs.Columns as columns
use Rattle.hib_mapping.specs.Cells.{has_type}
use Rattle.hib_columns.specs.declared.columns.Column.{Column}
use Rattle.hib_criteria.specs.Form.{at, behind, subject, operand, form_from}
use Rattle.hib_criteria.specs.declared.forms.Form.{Form}
use Rattle.hib_criteria.specs.declared.forms.Frame.{Frame}
use Rattle.hib_criteria.specs.declared.forms.Place.{Place}
use Rattle.hib_criteria.specs.declared.forms.Test.{Test}
use Rattle.hib_print.specs.Lines as lines
use Rattle.hib_texts.specs.Texts.{column_name, column_in, column_text}
use Rattle.hib_reads_back.proofs.Named.{some_same, none_some}
use Rattle.hib_reads_back.proofs.Cells.{cell_back, type_back, Mapped, column_found}

-- ---- the form of a query so far, with which nothing is wrong
pub record Head : Type 0 where
  pub name : List ℕ
  pub cached : Bool
  pub entity : ℕ

abbrev pub form : Head → List Node → Form
form h ns = record {
  name = h.name;
  cached = h.cached;
  entity = Some h.entity;
  nodes = ns;
  order = [];
  offset = None;
  limit = None;
  select = Select.Ids;
  unknown = false;
  bad_number = false;
  mistyped = false;
  deep = false;
}

-- ---- columns
-- the column of a place, by its name
pub column_there : (m : List EntityDef) (e : ℕ) (c : ℕ) (k : ColumnType) → Mapped m → type_at (entity_columns m e) c ≡ Some k →
    columns.plain_column (entity_columns m e) (column_name (slice_get (entity_columns m e) c)) ≡ Some (record { place = c; kind = k })
column_there m e c k w h = in_entity (slice_get m e) refl h
  where
    in_column : (d : EntityDef) → slice_get m e ≡ Some d → (o : Option ColumnDef) → slice_get d.columns c ≡ o → kind_in o ≡ Some k →
        columns.plain_column d.columns (column_name (slice_get d.columns c)) ≡ Some (record { place = c; kind = k })
    in_column d there None e h = absurd (none_some k h)
    in_column d there (Some x) e h =
        ap (λ o. columns.plain_column d.columns (column_name o)) e
        ∙ (ap (λ p. option_and_then (λ i. columns.at_place d.columns i) p) (column_found d.columns c x (w.columns _ d there) (w.column_names _ d there) e)
        ∙ (ap (λ o. columns.found_at c o) e ∙ ap (λ z. Some (record { place = c; kind = z })) (some_same x.kind k h)))

    in_entity : (o : Option EntityDef) → slice_get m e ≡ o → type_at (columns_in o) c ≡ Some k →
        columns.plain_column (columns_in (slice_get m e)) (column_name (slice_get (columns_in (slice_get m e)) c)) ≡ Some (record { place = c; kind = k })
    in_entity None there h = absurd (none_some k h)
    in_entity (Some d) there h = ap (λ o. columns.plain_column (columns_in o) (column_name (slice_get (columns_in o) c))) there ∙ in_column d there (slice_get d.columns c) refl h

shown_in : (o : Option EntityDef) (c : ℕ) → column_in o c ≡ column_name (slice_get (columns_in o) c)
shown_in None c = refl
shown_in (Some d) c = refl

pub column_shown : (script : Script) (e c : ℕ) → column_text script e c ≡ column_name (slice_get (entity_columns script.mapping e) c)
column_shown script e c = shown_in (slice_get script.mapping e) c

pub column_back : (script : Script) (e c : ℕ) (k : ColumnType) → Mapped script.mapping → type_at (entity_columns script.mapping e) c ≡ Some k →
    columns.plain_column (entity_columns script.mapping e) (column_text script e c) ≡ Some (record { place = c; kind = k })
column_back script e c k w h = ap (λ x. columns.plain_column (entity_columns script.mapping e) x) (column_shown script e c) ∙ column_there script.mapping e c k w h

-- ---- paths
abbrev pub column_for : Path → ColumnType → Column
column_for p k = record { path = p; kind = k }

-- what a test lets through
pub passed : {A : Type 0} (b : Bool) (x : Option A) (k : A) → cond b x None ≡ Some k → (b ≡ true) × (x ≡ Some k)
passed true x k h = (refl, h)
passed false x k h = absurd (none_some k h)

targeted : (script : Script) (e c : ℕ) (g : Target) (x k : ColumnType) → Mapped script.mapping → type_at (entity_columns script.mapping e) c ≡ Some x → type_through script.mapping g x ≡ Some k →
    columns.column_of script.mapping (entity_columns script.mapping e) (lines.path_token script e c (Some g)) ≡ Some (column_for (record { column = c; target = Some g }) k)
targeted script e c g ColumnType.Int k w there h = absurd (none_some k h)
targeted script e c g ColumnType.Text k w there h = absurd (none_some k h)
targeted script e c g ColumnType.Bool k w there h = absurd (none_some k h)
targeted script e c g (ColumnType.Ref n) k w there h =
    let m : List EntityDef = script.mapping in
    let name : List ℕ = column_text script g.entity g.column in
    let parts : ((n == g.entity) ≡ true) × (type_at (entity_columns m n) g.column ≡ Some k) = passed (n == g.entity) (type_at (entity_columns m n) g.column) k h in
    let same : n ≡ g.entity = eqb-true n g.entity parts.0 in
    let kind : type_at (entity_columns m g.entity) g.column ≡ Some k = subst (λ i. type_at (entity_columns m i) g.column ≡ Some k) same parts.1 in
    ap (λ f. columns.through m f name) (column_back script e c (ColumnType.Ref n) w there)
    ∙ (ap (λ i. columns.led_to c i (columns.plain_column (entity_columns m i) name)) same ∙ ap (λ f. columns.led_to c g.entity f) (column_back script g.entity g.column k w kind))

-- a path whose column is there, by its first column
led : (script : Script) (e c : ℕ) (g : Option Target) (o : Option ColumnType) (k : ColumnType) → Mapped script.mapping → type_at (entity_columns script.mapping e) c ≡ o →
    option_and_then (λ x. type_led script.mapping g x) o ≡ Some k →
    columns.column_of script.mapping (entity_columns script.mapping e) (lines.path_token script e c g) ≡ Some (column_for (record { column = c; target = g }) k)
led script e c g None k w there h = absurd (none_some k h)
led script e c None (Some x) k w there h =
    ap (λ f. columns.own f) (column_back script e c x w there) ∙ ap (λ z. Some (column_for (record { column = c; target = None }) z)) (some_same x k h)
led script e c (Some g) (Some x) k w there h = targeted script e c g x k w there h

pub path_back : (script : Script) (e : ℕ) (p : Path) (k : ColumnType) → Mapped script.mapping → type_of_path script.mapping e p ≡ Some k →
    columns.column_of script.mapping (entity_columns script.mapping e) (lines.subject script e p) ≡ Some (column_for p k)
path_back script e p k w h = led script e p.column p.target (type_at (entity_columns script.mapping e) p.column) k w refl h

subject_path : (script : Script) (e c : ℕ) (g : Option Target) → columns.is_path (lines.path_token script e c g) ≡ true
subject_path script e c None = refl
subject_path script e c (Some g) = refl

-- ---- steps of the reader
-- the word of a comparison
op_read : (m : List EntityDef) (h : Head) (ns : List Node) (fs : List Frame) (op : Op) (rest : List Token) →
    form_from m (at (form h ns) fs Place.Operator) (Token.Word (lines.op_text op) ∷ rest) ≡ form_from m (at (form h ns) fs (Place.Subject (Test.Compare op))) rest
op_read m h ns fs Op.Eq rest = refl
op_read m h ns fs Op.Ne rest = refl
op_read m h ns fs Op.Lt rest = refl
op_read m h ns fs Op.Le rest = refl
op_read m h ns fs Op.Gt rest = refl
op_read m h ns fs Op.Ge rest = refl

subject_read : (script : Script) (h : Head) (ns : List Node) (fs : List Frame) (test : Test) (p : Path) (k : ColumnType) (rest : List Token) → Mapped script.mapping → type_of_path script.mapping h.entity p ≡ Some k →
    form_from script.mapping (at (form h ns) fs (Place.Subject test)) (lines.subject script h.entity p ∷ rest) ≡
    form_from script.mapping (subject (form h ns) fs test (Some (column_for p k))) rest
subject_read script h ns fs test p k rest w t =
    ap (λ b. form_from script.mapping (cond b (subject (form h ns) fs test (columns.column_of script.mapping (entity_columns script.mapping h.entity) (lines.subject script h.entity p))) None) rest)
    (subject_path script h.entity p.column p.target)
    ∙ ap (λ c. form_from script.mapping (subject (form h ns) fs test c) rest) (path_back script h.entity p k w t)

typed_as : (k : ColumnType) (c : Cell) → is_of_type k c ≡ true → has_type k c ≡ true
typed_as k c h = type_back k c h

closing_read : (m : List EntityDef) (h : Head) (ns : List Node) (fs : List Frame) (rest : List Token) →
    form_from m (at (form h ns) (Frame.Closing ∷ fs) Place.Condition) (Token.Right ∷ rest) ≡ form_from m (at (form h ns) fs (behind fs)) rest
closing_read m h ns fs rest = refl

operand_read : (m : List EntityDef) (h : Head) (ns : List Node) (fs : List Frame) (op : Op) (p : Path) (k : ColumnType) (x : Cell) (rest : List Token) → is_of_type k x ≡ true → is_comparable op (Some k) ≡ true →
    form_from m (at (form h ns) fs (Place.Operand op (Some (column_for p k)))) (lines.cell_token x ∷ rest) ≡
    form_from m (at (form h (ns ++ Node.Test op p x ∷ [])) (Frame.Closing ∷ fs) Place.Condition) rest
operand_read m h ns fs op p k x rest t c =
    ap (λ o. form_from m (operand (form h ns) fs op (Some (column_for p k)) o) rest) (cell_back x)
    ∙ ap (λ b. form_from m (at (record (form h (ns ++ Node.Test op p x ∷ [])) { mistyped = not b }) (Frame.Closing ∷ fs) Place.Condition) rest)
    (and_from (has_type k x) (is_comparable op (Some k)) (type_back k x t) c)

-- a test is read whole
test_read : (script : Script) (h : Head) (ns : List Node) (fs : List Frame) (op : Op) (p : Path) (x : Cell) (k : ColumnType) (rest : List Token) → Mapped script.mapping →
    type_of_path script.mapping h.entity p ≡ Some k → is_of_type k x ≡ true → is_comparable op (Some k) ≡ true →
    form_from script.mapping (at (form h ns) fs Place.Operator) (Token.Word (lines.op_text op) ∷ lines.subject script h.entity p ∷ lines.cell_token x ∷ Token.Right ∷ rest) ≡
    form_from script.mapping (at (form h (ns ++ Node.Test op p x ∷ [])) fs (behind fs)) rest
test_read script h ns fs op p x k rest w t y c =
    op_read script.mapping h ns fs op (lines.subject script h.entity p ∷ lines.cell_token x ∷ Token.Right ∷ rest)
    ∙ (subject_read script h ns fs (Test.Compare op) p k (lines.cell_token x ∷ Token.Right ∷ rest) w t
    ∙ operand_read script.mapping h ns fs op p k x (Token.Right ∷ rest) y c)

-- ---- in
cell_read : (m : List EntityDef) (h : Head) (ns : List Node) (fs : List Frame) (p : Path) (k : ColumnType) (xs : List Cell) (x : Cell) (rest : List Token) → is_of_type k x ≡ true →
    form_from m (at (form h ns) fs (Place.Operands (Some (column_for p k)) xs)) (lines.cell_token x ∷ rest) ≡ form_from m (at (form h ns) fs (Place.Operands (Some (column_for p k)) (xs ++ x ∷ []))) rest
cell_read m h ns fs p k xs (Cell.Int n) rest t = rw (type_back k (Cell.Int n) t) refl
cell_read m h ns fs p k xs (Cell.Text n) rest t = rw (type_back k (Cell.Text n) t) refl
cell_read m h ns fs p k xs (Cell.Bool true) rest t = rw (type_back k (Cell.Bool true) t) refl
cell_read m h ns fs p k xs (Cell.Bool false) rest t = rw (type_back k (Cell.Bool false) t) refl

cells_read : (m : List EntityDef) (h : Head) (ns : List Node) (fs : List Frame) (p : Path) (k : ColumnType) (xs ys : List Cell) (rest : List Token) → list_all (λ y. is_of_type k y) ys ≡ true →
    form_from m (at (form h ns) fs (Place.Operands (Some (column_for p k)) xs)) (lines.cell_tokens ys ++ rest) ≡ form_from m (at (form h ns) fs (Place.Operands (Some (column_for p k)) (xs ++ ys))) rest
cells_read m h ns fs p k xs [] rest t = ap (λ z. form_from m (at (form h ns) fs (Place.Operands (Some (column_for p k)) z)) rest) (sym (append-nil xs))
cells_read m h ns fs p k xs (y ∷ ys) rest t =
    let parts : (is_of_type k y ≡ true) × (list_all (λ z. is_of_type k z) ys ≡ true) = and_parts (is_of_type k y) (list_all (λ z. is_of_type k z) ys) t in
    cell_read m h ns fs p k xs y (lines.cell_tokens ys ++ rest) parts.0
    ∙ (cells_read m h ns fs p k (xs ++ y ∷ []) ys rest parts.1 ∙ ap (λ z. form_from m (at (form h ns) fs (Place.Operands (Some (column_for p k)) z)) rest) (append_assoc xs (y ∷ []) ys))

among_closed : (m : List EntityDef) (h : Head) (ns : List Node) (fs : List Frame) (p : Path) (k : ColumnType) (xs : List Cell) (rest : List Token) → 1 ≤ length xs → length xs ≤ 64 →
    form_from m (at (form h ns) fs (Place.Operands (Some (column_for p k)) xs)) (Token.Right ∷ rest) ≡ form_from m (at (form h (ns ++ Node.Among p xs ∷ [])) fs (behind fs)) rest
among_closed m h ns fs p k [] rest a b = absurd (omega (arith, a))
among_closed m h ns fs p k (x ∷ xs) rest a b = rw (le-ltb 64 (length (x ∷ xs)) b) refl

among_read : (script : Script) (h : Head) (ns : List Node) (fs : List Frame) (p : Path) (xs : List Cell) (k : ColumnType) (rest : List Token) → Mapped script.mapping →
    type_of_path script.mapping h.entity p ≡ Some k → list_all (λ x. is_of_type k x) xs ≡ true → 1 ≤ length xs → length xs ≤ 64 →
    form_from script.mapping (at (form h ns) fs Place.Operator) (Token.Word (codes "in") ∷ lines.subject script h.entity p ∷ (lines.cell_tokens xs ++ Token.Right ∷ rest)) ≡
    form_from script.mapping (at (form h (ns ++ Node.Among p xs ∷ [])) fs (behind fs)) rest
among_read script h ns fs p xs k rest w t y a b =
    subject_read script h ns fs Test.Among p k (lines.cell_tokens xs ++ Token.Right ∷ rest) w t
    ∙ (cells_read script.mapping h ns fs p k [] xs (Token.Right ∷ rest) y ∙ among_closed script.mapping h ns fs p k xs rest a b)

-- ---- a condition after its opening parenthesis
abbrev inner : Script → ℕ → Cond → List Token
inner script e (Cond.And' p a q b) = Token.Word (codes "and") ∷ lines.condition_tokens script e a ++ lines.condition_tokens script e b ++ Token.Right ∷ []
inner script e (Cond.Or' p a q b) = Token.Word (codes "or") ∷ lines.condition_tokens script e a ++ lines.condition_tokens script e b ++ Token.Right ∷ []
inner script e (Cond.Not' p a) = Token.Word (codes "not") ∷ lines.condition_tokens script e a ++ Token.Right ∷ []
inner script e (Cond.Test op p c) = Token.Word (lines.op_text op) ∷ lines.subject script e p ∷ lines.cell_token c ∷ Token.Right ∷ []
inner script e (Cond.Among p cs) = Token.Word (codes "in") ∷ lines.subject script e p ∷ lines.cell_tokens cs ++ Token.Right ∷ []

pub opens : (script : Script) (e : ℕ) (c : Cond) → lines.condition_tokens script e c ≡ Token.Left ∷ inner script e c
opens script e (Cond.And' p a q b) = refl
opens script e (Cond.Or' p a q b) = refl
opens script e (Cond.Not' p a) = refl
opens script e (Cond.Test op p c) = refl
opens script e (Cond.Among p cs) = refl

-- the rules of a condition's parts
pub record Fitting (m : List EntityDef) (e : ℕ) (c : Cond) : Type 0 where
  pub fit : list_all (λ x. fits_part m e x) (parts_of c) ≡ true
  pub short : list_all is_short (parts_of c) ≡ true

fit_both : (p : Node → Bool) (xs ys : List Node) → list_all p (xs ++ ys) ≡ true → (list_all p xs ≡ true) × (list_all p ys ≡ true)
fit_both p [] ys h = (refl, h)
fit_both p (x ∷ xs) ys h =
    let parts : (p x ≡ true) × (list_all p (xs ++ ys) ≡ true) = and_parts (p x) (list_all p (xs ++ ys)) h in
    let rest : (list_all p xs ≡ true) × (list_all p ys ≡ true) = fit_both p xs ys parts.1 in
    (and_from (p x) (list_all p xs) parts.0 rest.0, rest.1)

pub first_of_two : (m : List EntityDef) (e : ℕ) (a b : Cond) → list_all (λ x. fits_part m e x) (parts_of a ++ parts_of b) ≡ true → list_all is_short (parts_of a ++ parts_of b) ≡ true → Fitting m e a
first_of_two m e a b f g = record { fit = (fit_both (λ x. fits_part m e x) (parts_of a) (parts_of b) f).0; short = (fit_both is_short (parts_of a) (parts_of b) g).0 }

pub second_of_two : (m : List EntityDef) (e : ℕ) (a b : Cond) → list_all (λ x. fits_part m e x) (parts_of a ++ parts_of b) ≡ true → list_all is_short (parts_of a ++ parts_of b) ≡ true → Fitting m e b
second_of_two m e a b f g = record { fit = (fit_both (λ x. fits_part m e x) (parts_of a) (parts_of b) f).1; short = (fit_both is_short (parts_of a) (parts_of b) g).1 }

some_depth : (n : ℕ) (c : Cond) → is_nested n c ≡ true → 1 ≤ n
some_depth zero c h = absurd (cc)
some_depth (suc n) c h = omega arith

-- an opening parenthesis where a condition is awaited
left_two : (m : List EntityDef) (h : Head) (ns : List Node) (fs : List Frame) (rest : List Token) → length fs < 15 →
    form_from m (at (form h ns) (Frame.Two ∷ fs) Place.Condition) (Token.Left ∷ rest) ≡ form_from m (at (form h ns) (Frame.One ∷ fs) Place.Operator) rest
left_two m h ns fs rest l = rw (lt-leb 16 (suc (length fs)) (omega (arith, l))) refl

left_one : (m : List EntityDef) (h : Head) (ns : List Node) (fs : List Frame) (rest : List Token) → length fs < 15 →
    form_from m (at (form h ns) (Frame.One ∷ fs) Place.Condition) (Token.Left ∷ rest) ≡ form_from m (at (form h ns) (Frame.Closing ∷ fs) Place.Operator) rest
left_one m h ns fs rest l = rw (lt-leb 16 (suc (length fs)) (omega (arith, l))) refl

left_none : (m : List EntityDef) (h : Head) (ns : List Node) (rest : List Token) →
    form_from m (at (form h ns) [] Place.Condition) (Token.Left ∷ rest) ≡ form_from m (at (form h ns) [] Place.Operator) rest
left_none m h ns rest = refl

-- what it is to read a condition after its opening parenthesis
abbrev IsRead : Script → Head → Cond → Type 0
IsRead script h c = (ns : List Node) (fs : List Frame) (rest : List Token) (n : ℕ) → is_nested n c ≡ true → length fs + n ≤ 16 →
    form_from script.mapping (at (form h ns) fs Place.Operator) (inner script h.entity c ++ rest) ≡ form_from script.mapping (at (form h (ns ++ parts_of c)) fs (behind fs)) rest

pub typed_path : (m : List EntityDef) (e : ℕ) (op : Op) (p : Path) (x : Cell) (o : Option ColumnType) → type_of_path m e p ≡ o → (is_of_type_in o x && is_comparable op o) ≡ true →
    (k : ColumnType) × ((type_of_path m e p ≡ Some k) × ((is_of_type k x ≡ true) × (is_comparable op (Some k) ≡ true)))
typed_path m e op p x None t h = absurd (cc)
typed_path m e op p x (Some k) t h = (k, (t, and_parts (is_of_type k x) (is_comparable op (Some k)) h))

pub typed_cells : (m : List EntityDef) (e : ℕ) (p : Path) (xs : List Cell) (o : Option ColumnType) → type_of_path m e p ≡ o → 1 ≤ length xs → list_all (λ x. is_of_type_in o x) xs ≡ true →
    (k : ColumnType) × ((type_of_path m e p ≡ Some k) × (list_all (λ x. is_of_type k x) xs ≡ true))
typed_cells m e p [] o t l h = absurd (omega (arith, l))
typed_cells m e p (x ∷ xs) None t l h = absurd (cc)
typed_cells m e p (x ∷ xs) (Some k) t l h = (k, (t, h))

-- a condition where the second of two, or the only one, is awaited
last_read : (script : Script) (h : Head) (b : Cond) (ns : List Node) (fs : List Frame) (rest : List Token) (n : ℕ) → IsRead script h b → is_nested n b ≡ true → length fs + suc n ≤ 16 →
    form_from script.mapping (at (form h ns) (Frame.One ∷ fs) Place.Condition) (lines.condition_tokens script h.entity b ++ Token.Right ∷ rest) ≡ form_from script.mapping (at (form h (ns ++ parts_of b)) fs (behind fs)) rest
last_read script h b ns fs rest n r d l =
    let deep : 1 ≤ n = some_depth n b d in
    ap (λ ts. form_from script.mapping (at (form h ns) (Frame.One ∷ fs) Place.Condition) (ts ++ Token.Right ∷ rest)) (opens script h.entity b)
    ∙ (left_one script.mapping h ns fs (inner script h.entity b ++ Token.Right ∷ rest) (omega arith)
    ∙ (r ns (Frame.Closing ∷ fs) (Token.Right ∷ rest) n d (omega arith) ∙ closing_read script.mapping h (ns ++ parts_of b) fs rest))

two_read : (script : Script) (h : Head) (a b : Cond) (node : Node) (ns : List Node) (fs : List Frame) (rest : List Token) (n : ℕ) → IsRead script h a → IsRead script h b → is_nested n a ≡ true → is_nested n b ≡ true →
    length fs + suc n ≤ 16 →
    form_from script.mapping (at (form h (ns ++ node ∷ [])) (Frame.Two ∷ fs) Place.Condition)
    (((lines.condition_tokens script h.entity a ++ lines.condition_tokens script h.entity b) ++ Token.Right ∷ []) ++ rest) ≡
    form_from script.mapping (at (form h (ns ++ node ∷ (parts_of a ++ parts_of b))) fs (behind fs)) rest
two_read script h a b node ns fs rest n r s d g l =
    let m : List EntityDef = script.mapping in
    let ta : List Token = lines.condition_tokens script h.entity a in
    let tb : List Token = lines.condition_tokens script h.entity b in
    let front : List Node = ns ++ node ∷ [] in
    let deep : 1 ≤ n = some_depth n a d in
    let arranged : ((ta ++ tb) ++ Token.Right ∷ []) ++ rest ≡ ta ++ (tb ++ Token.Right ∷ rest) = append_assoc (ta ++ tb) (Token.Right ∷ []) rest ∙ append_assoc ta tb (Token.Right ∷ rest) in
    let nodes : (front ++ parts_of a) ++ parts_of b ≡ ns ++ node ∷ (parts_of a ++ parts_of b) = append_assoc front (parts_of a) (parts_of b) ∙ append_assoc ns (node ∷ []) (parts_of a ++ parts_of b) in
    ap (λ ts. form_from m (at (form h front) (Frame.Two ∷ fs) Place.Condition) ts) arranged
    ∙ (ap (λ ts. form_from m (at (form h front) (Frame.Two ∷ fs) Place.Condition) (ts ++ (tb ++ Token.Right ∷ rest))) (opens script h.entity a)
    ∙ (left_two m h front fs (inner script h.entity a ++ (tb ++ Token.Right ∷ rest)) (omega arith)
    ∙ (r front (Frame.One ∷ fs) (tb ++ Token.Right ∷ rest) n d (omega arith)
    ∙ (last_read script h b (front ++ parts_of a) fs rest n s g l ∙ ap (λ z. form_from m (at (form h z) fs (behind fs)) rest) nodes))))

only_read : (script : Script) (h : Head) (a : Cond) (ns : List Node) (fs : List Frame) (rest : List Token) (n : ℕ) → IsRead script h a → is_nested n a ≡ true → length fs + suc n ≤ 16 →
    form_from script.mapping (at (form h (ns ++ Node.Not ∷ [])) (Frame.One ∷ fs) Place.Condition) ((lines.condition_tokens script h.entity a ++ Token.Right ∷ []) ++ rest) ≡
    form_from script.mapping (at (form h (ns ++ Node.Not ∷ parts_of a)) fs (behind fs)) rest
only_read script h a ns fs rest n r d l =
    let m : List EntityDef = script.mapping in
    ap (λ ts. form_from m (at (form h (ns ++ Node.Not ∷ [])) (Frame.One ∷ fs) Place.Condition) ts) (append_assoc (lines.condition_tokens script h.entity a) (Token.Right ∷ []) rest)
    ∙ (last_read script h a (ns ++ Node.Not ∷ []) fs rest n r d l ∙ ap (λ z. form_from m (at (form h z) fs (behind fs)) rest) (append_assoc ns (Node.Not ∷ []) (parts_of a)))

pub condition_read : (script : Script) (h : Head) → Mapped script.mapping → (c : Cond) → Fitting script.mapping h.entity c → IsRead script h c
condition_read script h w (Cond.And' p a q b) f ns fs rest zero d l = absurd (cc)
condition_read script h w (Cond.And' p a q b) f ns fs rest (suc n) d l =
    let both : (is_nested n a ≡ true) × (is_nested n b ≡ true) = and_parts (is_nested n a) (is_nested n b) d in
    two_read script h a b Node.And ns fs rest n (condition_read script h w a (first_of_two script.mapping h.entity a b f.fit f.short))
    (condition_read script h w b (second_of_two script.mapping h.entity a b f.fit f.short)) both.0 both.1 l
condition_read script h w (Cond.Or' p a q b) f ns fs rest zero d l = absurd (cc)
condition_read script h w (Cond.Or' p a q b) f ns fs rest (suc n) d l =
    let both : (is_nested n a ≡ true) × (is_nested n b ≡ true) = and_parts (is_nested n a) (is_nested n b) d in
    two_read script h a b Node.Or ns fs rest n (condition_read script h w a (first_of_two script.mapping h.entity a b f.fit f.short))
    (condition_read script h w b (second_of_two script.mapping h.entity a b f.fit f.short)) both.0 both.1 l
condition_read script h w (Cond.Not' p a) f ns fs rest zero d l = absurd (cc)
condition_read script h w (Cond.Not' p a) f ns fs rest (suc n) d l =
    only_read script h a ns fs rest n (condition_read script h w a (record { fit = f.fit; short = f.short })) d l
condition_read script h w (Cond.Test op p x) f ns fs rest n d l =
    let o : Option ColumnType = type_of_path script.mapping h.entity p in
    let fit : (is_of_type_in o x && is_comparable op o) ≡ true = (and_parts (is_of_type_in o x && is_comparable op o) true f.fit).0 in
    let t = typed_path script.mapping h.entity op p x o refl fit in
    test_read script h ns fs op p x t.0 rest w t.1.0 t.1.1.0 t.1.1.1
condition_read script h w (Cond.Among p xs) f ns fs rest n d l =
    let o : Option ColumnType = type_of_path script.mapping h.entity p in
    let fit : list_all (λ x. is_of_type_in o x) xs ≡ true = (and_parts (list_all (λ x. is_of_type_in o x) xs) true f.fit).0 in
    let short : (nat_le 1 (length xs) && nat_le (length xs) 64) ≡ true = (and_parts (nat_le 1 (length xs) && nat_le (length xs) 64) true f.short).0 in
    let size : (nat_le 1 (length xs) ≡ true) × (nat_le (length xs) 64 ≡ true) = and_parts (nat_le 1 (length xs)) (nat_le (length xs) 64) short in
    let t = typed_cells script.mapping h.entity p xs o refl (leb-true 1 (length xs) size.0) fit in
    ap (λ ts. form_from script.mapping (at (form h ns) fs Place.Operator) (Token.Word (codes "in") ∷ lines.subject script h.entity p ∷ ts)) (append_assoc (lines.cell_tokens xs) (Token.Right ∷ []) rest)
    ∙ among_read script h ns fs p xs t.0 rest w t.1.0 t.1.1 (leb-true 1 (length xs) size.0) (leb-true (length xs) 64 size.1)
