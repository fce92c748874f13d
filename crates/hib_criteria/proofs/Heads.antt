-- The head of a query line and its conditions keep what a query has to keep.
use Rattle.std.proofs.Common.{◌≡◌, ℕ, suc, Bool, true, false, not, cond, ◌&&◌, ◌||◌, nat_lt, nat_le, List, [], ◌∷◌, ◌++◌, length, Option, Some, None, codes, refl, sym, ◌∙◌, subst, arith}
use Rattle.std.specs.Prelude.{is_none, is_some, unwrap_or}
use Rattle.std.specs.List.{list_all}
use Rattle.std.proofs.lemmas.Bool.{and_parts, and_from, or_parts, le-leb, true≢false, false≢true}
use Rattle.std.proofs.lemmas.Bool.Decides.{nat_tests}
use Rattle.hib_base.specs.Fits.{is_of_type_in, type_of_path, fits_part, fits_sort, fits_select}
use Rattle.hib_base.specs.Fits as fits
use Rattle.hib_base.specs.Valid.{is_short}
use Rattle.hib_base.specs.declared.rows.Cell.{Cell}
use Rattle.hib_base.specs.declared.scripts.ColumnType.{ColumnType}
use Rattle.hib_base.specs.declared.scripts.EntityDef.{EntityDef}
use Rattle.hib_base.specs.declared.scripts.Node.{Node}
use Rattle.hib_base.specs.declared.scripts.Op.{Op}
use Rattle.hib_base.specs.declared.scripts.Select.{Select}
use Rattle.hib_base.specs.declared.scripts.Sort.{Sort}
use Rattle.hib_base.proofs.Gives.{Then, then_cond}
use Rattle.hib_base.proofs.Lists.{all_more}
use Rattle.hib_lex.specs.Words.{is_the_word}
use Rattle.hib_lex.specs.declared.lexer.Token.{Token}
use Rattle.hib_lex.proofs.Lexed.{is_lexed}
use Rattle.hib_mapping.specs.Parts.{is_a_word, word_of, entity_at}
use Rattle.hib_columns.specs.Columns.{columns_of, column_of, path_or_first, is_path, is_typed, is_comparable}
use Rattle.hib_mapping.specs.Cells.{cell_of}
use Rattle.hib_columns.specs.declared.columns.Column.{Column}
use Rattle.hib_mapping.proofs.TypedCells.{is_cell, cell_sound, typed_one}
use Rattle.hib_columns.proofs.Typed.{IsLed, column_led}
use Rattle.hib_criteria.specs.Form as lines
use Rattle.hib_criteria.specs.Query.{arity}
use Rattle.hib_criteria.specs.declared.forms.Draft.{Draft}
use Rattle.hib_criteria.specs.declared.forms.Form.{Form}
use Rattle.hib_criteria.specs.declared.forms.Frame.{Frame}
use Rattle.hib_criteria.specs.declared.forms.Place.{Place}
use Rattle.hib_criteria.specs.declared.forms.Test.{Test}
use Rattle.hib_criteria.proofs.Depth.{rid, used}
use Rattle.hib_criteria.proofs.Marks.{counts, counts_length, is_due, Nested, noted, deeper, opened, is_head, is_over, columns, IsNamed, IsAt, Typed, fitted, missed, parted, plain_part, Limited, kept, longer, plain_longer}

-- ---- all of it
abbrev pub Sound : List EntityDef → Form → List Frame → Place → Type 0
Sound m f fs p =
    Nested f.nodes f.deep fs (is_due p) × Typed m f.nodes f.unknown f.mistyped f.entity f.order f.select p × Limited f.nodes f.deep f.bad_number f.offset f.limit f.order f.select p

abbrev pub Holds : List EntityDef → Draft → Type 0
Holds m d = Sound m d.form d.frames d.place

pub then_if : {A : Type 0} (b : Bool) (x y : Option A) (P : A → Type 0) → Then x P → Then y P → Then (cond b x y) P
then_if b x y P f g = then_cond b x y P (λ _. f) (λ _. g)

-- from one place to another, neither of them after an open parenthesis
pub moved : (m : List EntityDef) (f : Form) (fs : List Frame) (p q : Place) → Sound m f fs p → is_due p ≡ is_due q → is_over p ≡ false → (is_head q ≡ true → is_head p ≡ true) →
    IsAt m f.entity f.unknown f.mistyped q → Sound m f fs q
moved m f fs p q b w o h i = (
  subst (λ v. Nested f.nodes f.deep fs v) w b.0,
  fitted m f.nodes f.unknown f.mistyped f.entity f.order f.select p q b.1 h i,
  kept f.nodes f.deep f.bad_number f.offset f.limit f.order f.select p q b.2 o,
)

-- ---- the head of the line
pub cached_sound : (m : List EntityDef) (f : Form) (fs : List Frame) (p : Place) (t : Token) → is_due p ≡ false → is_over p ≡ false → is_head p ≡ true → Sound m f fs p → Then (lines.step_cached f fs t) (Holds m)
cached_sound m f fs p t w o h b = then_if (is_the_word (codes "from") t) (lines.at f fs Place.From) None (Holds m) (moved m f fs p Place.From b w o (λ _. h) tt) tt

pub named_sound : (m : List EntityDef) (f : Form) (fs : List Frame) (t : Token) → Sound m f fs Place.Named → Then (lines.step_named f fs t) (Holds m)
named_sound m f fs t b =
    then_if (is_the_word (codes "cached") t) (lines.at (record f { cached = true }) fs Place.Cached) (lines.step_cached f fs t) (Holds m)
    (moved m f fs Place.Named Place.Cached b refl refl (λ _. refl) tt) (cached_sound m f fs Place.Named t refl refl refl b)

pub from_sound : (m : List EntityDef) (f : Form) (fs : List Frame) (t : Token) → Sound m f fs Place.From → Then (lines.step_from m f fs t) (Holds m)
from_sound m f fs t b =
    let e : Option ℕ = entity_at m (word_of t) in
    let none : (f.nodes ≡ []) × (f.order ≡ []) × (f.select ≡ Select.Ids) = b.1.head refl in
    then_if (is_a_word t) (lines.at (lines.chosen f e) fs Place.Chosen) None (Holds m) (
      b.0,
      record {
        parts = λ _ _. subst (λ (ns : List Node). list_all (λ x. fits_part m (unwrap_or e 0) x) ns ≡ true) (sym none.0) refl;
        sorts = λ _. subst (λ (ss : List Sort). list_all (λ s. fits_sort (columns m e) s) ss ≡ true) (sym none.1) refl;
        selects = λ _. subst (λ (s : Select). fits_select (columns m e) s ≡ true) (sym none.2) refl;
        head = λ g. absurd (false≢true g);
        at = tt;
      },
      kept f.nodes f.deep f.bad_number f.offset f.limit f.order f.select Place.From Place.Chosen b.2 refl,
    )
    tt

-- ---- clauses
pub clauses_sound : (m : List EntityDef) (f : Form) (fs : List Frame) (p : Place) (t : Token) → is_due p ≡ false → is_over p ≡ false → is_head p ≡ false → Sound m f fs p → Then (lines.step_clauses f fs t) (Holds m)
clauses_sound m f fs p t w o h b =
    let to_select : Option Draft = cond (is_the_word (codes "select") t) (lines.at f fs Place.Select) None in
    let to_limit : Option Draft = cond (is_the_word (codes "limit") t) (lines.unless (is_some f.limit) (lines.at f fs Place.Limit)) to_select in
    let to_offset : Option Draft = cond (is_the_word (codes "offset") t) (lines.unless (lines.has_pages f) (lines.at f fs Place.Offset)) to_limit in
    then_if (is_the_word (codes "order") t) (lines.unless (lines.has_pages f) (lines.at f fs Place.Order)) to_offset (Holds m)
    (then_if (lines.has_pages f) None (lines.at f fs Place.Order) (Holds m) tt (moved m f fs p Place.Order b w o (λ g. absurd (false≢true g)) tt))
    (then_if (is_the_word (codes "offset") t) (lines.unless (lines.has_pages f) (lines.at f fs Place.Offset)) to_limit (Holds m)
    (then_if (lines.has_pages f) None (lines.at f fs Place.Offset) (Holds m) tt (moved m f fs p Place.Offset b w o (λ g. absurd (false≢true g)) tt))
    (then_if (is_the_word (codes "limit") t) (lines.unless (is_some f.limit) (lines.at f fs Place.Limit)) to_select (Holds m)
    (then_if (is_some f.limit) None (lines.at f fs Place.Limit) (Holds m) tt (moved m f fs p Place.Limit b w o (λ g. absurd (false≢true g)) tt))
    (then_if (is_the_word (codes "select") t) (lines.at f fs Place.Select) None (Holds m) (moved m f fs p Place.Select b w o (λ g. absurd (false≢true g)) tt) tt)))

pub chosen_sound : (m : List EntityDef) (f : Form) (fs : List Frame) (t : Token) → Sound m f fs Place.Chosen → Then (lines.step_chosen f fs t) (Holds m)
chosen_sound m f fs t b =
    then_if (is_the_word (codes "where") t) (lines.at f fs Place.Condition) (lines.step_clauses f fs t) (Holds m)
    (moved m f fs Place.Chosen Place.Condition b refl refl (λ g. g) tt) (clauses_sound m f fs Place.Chosen t refl refl refl b)

-- ---- conditions
-- the limits and types where a flag may rise
may_deepen : (m : List EntityDef) (f : Form) (fs gs : List Frame) → Sound m f fs Place.Condition → used (counts fs) ≡ counts gs → length (rid (counts fs)) ≡ length fs → Sound m (lines.deeper f fs) gs Place.Operator
may_deepen m f fs gs b e l = (
  opened f.nodes f.deep fs gs b.0 e l,
  fitted m f.nodes f.unknown f.mistyped f.entity f.order f.select Place.Condition Place.Operator b.1 (λ g. g) tt,
  record {
    short = λ h. b.2.short (or_parts f.deep (nat_le 16 (length fs)) h).0;
    offsets = b.2.offsets;
    limits = b.2.limits;
    low = b.2.low;
    early = λ _. b.2.early refl;
    count = b.2.count;
  },
)

opened_sound : (m : List EntityDef) (f : Form) (fs : List Frame) → Sound m f fs Place.Condition → Then (lines.opened f fs) (Holds m)
opened_sound m f [] b = may_deepen m f [] [] b refl refl
opened_sound m f (Frame.Two ∷ fs) b = may_deepen m f (Frame.Two ∷ fs) (Frame.One ∷ fs) b refl (rw (counts_length fs) refl)
opened_sound m f (Frame.One ∷ fs) b = may_deepen m f (Frame.One ∷ fs) (Frame.Closing ∷ fs) b refl (rw (counts_length fs) refl)
opened_sound m f (Frame.Closing ∷ fs) b = tt

record IsBehind (p : Place) : Type 0 where
  within : is_due p ≡ false
  over : is_over p ≡ false
  pub head : is_head p ≡ false
  pub at : (m : List EntityDef) (e : Option ℕ) (u y : Bool) → IsAt m e u y p

behind_so : (fs : List Frame) → IsBehind (lines.behind fs)
behind_so [] = record { within = refl; over = refl; head = refl; at = λ m e u y. tt }
behind_so (x ∷ fs) = record { within = refl; over = refl; head = refl; at = λ m e u y. tt }

not_head : (p : Place) → is_head p ≡ false → is_head p ≡ true → false ≡ true
not_head p h g = sym h ∙ g

closed_sound : (m : List EntityDef) (f : Form) (fs : List Frame) → Sound m f fs Place.Condition → Then (lines.closed f fs) (Holds m)
closed_sound m f [] b = tt
closed_sound m f (Frame.Closing ∷ fs) b =
    let q : Place = lines.behind fs in
    let i : IsBehind q = behind_so fs in (
      subst (λ v. Nested f.nodes f.deep fs v) (sym i.within) (record { shallow = b.0.shallow; state = b.0.state }),
      fitted m f.nodes f.unknown f.mistyped f.entity f.order f.select Place.Condition q b.1 (not_head q i.head) (i.at m f.entity f.unknown f.mistyped),
      kept f.nodes f.deep f.bad_number f.offset f.limit f.order f.select Place.Condition q b.2 refl,
    )
closed_sound m f (Frame.Two ∷ fs) b = tt
closed_sound m f (Frame.One ∷ fs) b = tt

pub condition_sound : (m : List EntityDef) (f : Form) (fs : List Frame) (t : Token) → Sound m f fs Place.Condition → Then (lines.step_condition f fs t) (Holds m)
condition_sound m f fs Token.Left b = opened_sound m f fs b
condition_sound m f fs Token.Right b = closed_sound m f fs b
condition_sound m f fs _ b = tt

compared_sound : (m : List EntityDef) (f : Form) (fs : List Frame) (op : Option Op) → Sound m f fs Place.Operator → Then (lines.compared f fs op) (Holds m)
compared_sound m f fs None b = tt
compared_sound m f fs (Some op) b = moved m f fs Place.Operator (Place.Subject (Test.Compare op)) b refl refl (λ g. g) tt

-- a joint of conditions
joint_sound : (m : List EntityDef) (f : Form) (fs : List Frame) (g : Frame) (x : Node) → Sound m f fs Place.Operator → rid (arity x ∷ counts fs) ≡ rid (counts (g ∷ fs)) → is_short x ≡ true → fits_part m (unwrap_or f.entity 0) x ≡ true →
    Sound m (lines.with_node f x) (g ∷ fs) Place.Condition
joint_sound m f fs g x b e s i = (
  noted f.nodes f.deep fs (g ∷ fs) x b.0 e,
  plain_part m f.nodes x f.unknown f.mistyped f.entity f.order f.select Place.Operator Place.Condition b.1 (λ _ _. i) refl tt,
  plain_longer f.nodes x f.deep f.bad_number f.offset f.limit f.order f.select Place.Operator Place.Condition b.2 refl s,
)

pub operator_sound : (m : List EntityDef) (f : Form) (fs : List Frame) (t : Token) → Sound m f fs Place.Operator → Then (lines.step_operator f fs t) (Holds m)
operator_sound m f fs t b =
    let to_in : Option Draft = cond (is_the_word (codes "in") t) (lines.at f fs (Place.Subject Test.Among)) (lines.compared f fs (lines.op_of t)) in
    let to_not : Option Draft = cond (is_the_word (codes "not") t) (lines.at (lines.with_node f Node.Not) (Frame.One ∷ fs) Place.Condition) to_in in
    let to_or : Option Draft = cond (is_the_word (codes "or") t) (lines.at (lines.with_node f Node.Or) (Frame.Two ∷ fs) Place.Condition) to_not in
    then_if (is_the_word (codes "and") t) (lines.at (lines.with_node f Node.And) (Frame.Two ∷ fs) Place.Condition) to_or (Holds m)
    (joint_sound m f fs Frame.Two Node.And b refl refl refl)
    (then_if (is_the_word (codes "or") t) (lines.at (lines.with_node f Node.Or) (Frame.Two ∷ fs) Place.Condition) to_not (Holds m)
    (joint_sound m f fs Frame.Two Node.Or b refl refl refl)
    (then_if (is_the_word (codes "not") t) (lines.at (lines.with_node f Node.Not) (Frame.One ∷ fs) Place.Condition) to_in (Holds m)
    (joint_sound m f fs Frame.One Node.Not b refl refl refl)
    (then_if (is_the_word (codes "in") t) (lines.at f fs (Place.Subject Test.Among)) (lines.compared f fs (lines.op_of t)) (Holds m)
    (moved m f fs Place.Operator (Place.Subject Test.Among) b refl refl (λ g. g) tt)
    (compared_sound m f fs (lines.op_of t) b))))

-- a column that words name
named_so : (m : List EntityDef) (e : Option ℕ) (u : Bool) (c : Option Column) → Then c (IsLed m (unwrap_or e 0)) → IsNamed m e (u || is_none c) c
named_so m e u c h = (λ g. (or_parts u (is_none c) g).1, h)

subject_in : (m : List EntityDef) (f : Form) (fs : List Frame) (test : Test) (c : Option Column) → Then c (IsLed m (unwrap_or f.entity 0)) → Sound m f fs (Place.Subject test) → Then (lines.subject f fs test c) (Holds m)
subject_in m f fs (Test.Compare op) c h b = (
  b.0,
  missed m f.nodes f.unknown f.mistyped (is_none c) f.entity f.order f.select (Place.Subject (Test.Compare op)) (Place.Operand op c) b.1 refl (named_so m f.entity f.unknown c h),
  kept f.nodes f.deep f.bad_number f.offset f.limit f.order f.select (Place.Subject (Test.Compare op)) (Place.Operand op c) b.2 refl,
)
subject_in m f fs Test.Among c h b = (
  b.0,
  missed m f.nodes f.unknown f.mistyped (is_none c) f.entity f.order f.select (Place.Subject Test.Among) (Place.Operands c []) b.1 refl (named_so m f.entity f.unknown c h, λ _ _. refl),
  kept f.nodes f.deep f.bad_number f.offset f.limit f.order f.select (Place.Subject Test.Among) (Place.Operands c []) b.2 refl,
)

pub subject_sound : (m : List EntityDef) (f : Form) (fs : List Frame) (test : Test) (t : Token) → Sound m f fs (Place.Subject test) → Then (lines.step_subject m f fs test t) (Holds m)
subject_sound m f fs test t b =
    then_if (is_path t) (lines.subject f fs test (column_of m (columns_of m f.entity) t)) None (Holds m)
    (subject_in m f fs test (column_of m (columns_of m f.entity) t) (column_led m f.entity t) b) tt

-- a cell of the column's type
typed_so : (m : List EntityDef) (e : ℕ) (c : Option Column) (x : Cell) → is_none c ≡ false → Then c (IsLed m e) → is_typed c x ≡ true → is_cell x ≡ true → is_of_type_in (type_of_path m e (path_or_first c)) x ≡ true
typed_so m e None x n l h i = absurd (true≢false n)
typed_so m e (Some c) x n l h i = subst (λ (o : Option ColumnType). is_of_type_in o x ≡ true) (sym l) (typed_one c.kind x h i)

comparable_so : (m : List EntityDef) (e : ℕ) (op : Op) (c : Option Column) → is_none c ≡ false → Then c (IsLed m e) → is_comparable op c ≡ true → fits.is_comparable op (type_of_path m e (path_or_first c)) ≡ true
comparable_so m e op None n l h = absurd (true≢false n)
comparable_so m e op (Some c) n l h = subst (λ (o : Option ColumnType). fits.is_comparable op o ≡ true) (sym l) h

pub not_false : (b : Bool) → not b ≡ false → b ≡ true
not_false true h = refl
not_false false h = absurd (true≢false h)

test_fits : (m : List EntityDef) (e : Option ℕ) (u y : Bool) (op : Op) (c : Option Column) (x : Cell) → IsNamed m e u c → is_cell x ≡ true → u ≡ false → (y || not (is_typed c x && is_comparable op c)) ≡ false →
    fits_part m (unwrap_or e 0) (Node.Test op (path_or_first c) x) ≡ true
test_fits m e u y op c x n i f g =
    let fine : (is_typed c x && is_comparable op c) ≡ true = not_false (is_typed c x && is_comparable op c) (or_parts y (not (is_typed c x && is_comparable op c)) g).1 in
    let both : (is_typed c x ≡ true) × (is_comparable op c ≡ true) = and_parts (is_typed c x) (is_comparable op c) fine in
    and_from (is_of_type_in (type_of_path m (unwrap_or e 0) (path_or_first c)) x) (fits.is_comparable op (type_of_path m (unwrap_or e 0) (path_or_first c)))
    (typed_so m (unwrap_or e 0) c x (n.0 f) n.1 both.0 i) (comparable_so m (unwrap_or e 0) op c (n.0 f) n.1 both.1)

pub operand_sound : (m : List EntityDef) (f : Form) (fs : List Frame) (op : Op) (c : Option Column) (x : Option Cell) → Then x (λ x. is_cell x ≡ true) → Sound m f fs (Place.Operand op c) → Then (lines.operand f fs op c x) (Holds m)
operand_sound m f fs op c None i b = tt
operand_sound m f fs op c (Some x) i b =
    let node : Node = Node.Test op (path_or_first c) x in
    let bad : Bool = not (is_typed c x && is_comparable op c) in (
      noted f.nodes f.deep fs (Frame.Closing ∷ fs) node b.0 refl,
      parted m f.nodes node f.unknown f.mistyped bad f.entity f.order f.select (Place.Operand op c) Place.Condition b.1 (λ g h. test_fits m f.entity f.unknown f.mistyped op c x b.1.at i g h) refl tt,
      plain_longer f.nodes node f.deep f.bad_number f.offset f.limit f.order f.select (Place.Operand op c) Place.Condition b.2 refl refl,
    )

cells_short : (xs : List Cell) → lines.is_empty xs ≡ false → nat_lt 64 (length xs) ≡ false → (nat_le 1 (length xs) && nat_le (length xs) 64) ≡ true
cells_short [] h l = absurd (true≢false h)
cells_short (x ∷ xs) h l = and_from (nat_le 1 (length (x ∷ xs))) (nat_le (length (x ∷ xs)) 64) (le-leb 1 (suc (length xs)) (omega arith)) (le-leb (length (x ∷ xs)) 64 (grind (arith, nat_tests)))

among_sound : (m : List EntityDef) (f : Form) (fs : List Frame) (c : Option Column) (xs : List Cell) → Sound m f fs (Place.Operands c xs) → Then (lines.among f fs c xs) (Holds m)
among_sound m f fs c xs b =
    let node : Node = Node.Among (path_or_first c) xs in
    let q : Place = lines.behind fs in
    let i : IsBehind q = behind_so fs in
    then_cond (lines.is_empty xs) None (lines.at (lines.with_among f c xs) fs q) (Holds m) (λ _. tt)
    (λ e. (
      subst (λ v. Nested (f.nodes ++ node ∷ []) (f.deep || nat_lt 64 (length xs)) fs v) (sym i.within) (deeper (f.nodes ++ node ∷ []) f.deep (nat_lt 64 (length xs)) fs (noted f.nodes f.deep fs fs node b.0 refl)),
      plain_part m f.nodes node f.unknown f.mistyped f.entity f.order f.select (Place.Operands c xs) q b.1 (λ g h. b.1.at.1 g h) i.head (i.at m f.entity f.unknown f.mistyped),
      longer f.nodes node f.deep (nat_lt 64 (length xs)) f.bad_number f.offset f.limit f.order f.select (Place.Operands c xs) q b.2 refl (λ h. cells_short xs e h),
    ))

operand_more : (m : List EntityDef) (f : Form) (fs : List Frame) (c : Option Column) (xs : List Cell) (x : Option Cell) → Then x (λ x. is_cell x ≡ true) → Sound m f fs (Place.Operands c xs) → Then (lines.one_more f fs c xs x) (Holds m)
operand_more m f fs c xs None i b = tt
operand_more m f fs c xs (Some x) i b =
    let bad : Bool = not (is_typed c x) in
    let n : IsNamed m f.entity f.unknown c = b.1.at.0 in (
      b.0,
      record {
        parts = λ g h. b.1.parts g (or_parts f.mistyped bad h).0;
        sorts = b.1.sorts;
        selects = b.1.selects;
        head = λ g. absurd (false≢true g);
        at = (
          n,
          λ g h. all_more (λ x. is_of_type_in (type_of_path m (unwrap_or f.entity 0) (path_or_first c)) x) xs x (b.1.at.1 g (or_parts f.mistyped bad h).0)
              (typed_so m (unwrap_or f.entity 0) c x (n.0 g) n.1 (not_false (is_typed c x) (or_parts f.mistyped bad h).1) i),
        );
      },
      kept f.nodes f.deep f.bad_number f.offset f.limit f.order f.select (Place.Operands c xs) (Place.Operands c (xs ++ x ∷ [])) b.2 refl,
    )

pub operands_sound : (m : List EntityDef) (f : Form) (fs : List Frame) (c : Option Column) (xs : List Cell) (t : Token) → is_lexed t ≡ true → Sound m f fs (Place.Operands c xs) → Then (lines.step_operands f fs c xs t) (Holds m)
operands_sound m f fs c xs Token.Right i b = among_sound m f fs c xs b
operands_sound m f fs c xs t i b = operand_more m f fs c xs (cell_of t) (cell_sound t i) b
