-- The references of an entity's columns lead to the entities before it and to itself, and it has no more columns than it may.
use Rattle.std.proofs.Common.{◌≡◌, ◌≢◌, ◌⊎◌, inl, inr, ℕ, zero, suc, ℤ, pos, ◌==◌, ◌+◌, ◌≤◌, Bool, true, false, not, cond, ◌&&◌, ◌||◌, nat_lt, nat_le, List, [], ◌∷◌, ◌++◌, length, take, Option, Some, None, codes, refl, sym, ◌∙◌, subst, arith, length-append}
use Rattle.std.specs.Prelude.{unwrap_or, bytes_eq, is_some, option_and_then}
use Rattle.std.specs.List.{list_any}
use Rattle.std.proofs.lemmas.Bool.{and_parts, and_from, lt-ltb, le-leb, leb-true, true≢false, false≢true}
use Rattle.std.proofs.lemmas.Bool.Decides.{nat_tests}
use Rattle.hib_base.specs.declared.refusals.Kind.{Kind}
use Rattle.hib_base.specs.declared.scripts.ColumnDef.{ColumnDef}
use Rattle.hib_base.specs.declared.scripts.ColumnType.{ColumnType}
use Rattle.hib_base.specs.declared.scripts.EntityDef.{EntityDef}
use Rattle.hib_base.specs.declared.rows.Cell.{Cell}
use Rattle.hib_base.specs.Fits.{is_wide, is_of_type, has_default, is_default}
use Rattle.hib_base.specs.Scripts.{is_type_below}
use Rattle.hib_base.specs.Valid as rooms
use Rattle.hib_base.specs.Valid.{are_columns, is_entity}
use Rattle.hib_base.specs.declared.scripts.Strategy.{Strategy}
use Rattle.hib_base.proofs.Gives.{Then}
use Rattle.hib_base.proofs.Columns.{lt_more, HasColumns, columns_of, columns_from}
use Rattle.hib_base.proofs.Defaults.{defaults_more}
use Rattle.hib_base.proofs.Lists.{all_at, all_more, some_none}
use Rattle.hib_base.proofs.Names.{named_more}
use Rattle.hib_base.specs.Words.{is_word, is_reserved, is_name}
use Rattle.hib_lex.proofs.Lexed.{is_lexed, are_lexed}
use Rattle.hib_lex.specs.Words.{is_the_word}
use Rattle.hib_lex.specs.declared.lexer.Token.{Token}
use Rattle.hib_mapping.specs.Cells.{cell_of, is_truth, is_quoted, is_cell_of}
use Rattle.hib_mapping.specs.Declarations.{is_entity_line, is_versioning, is_capacity, strategy_of, strategy_kind, or_no_columns, entity_kind, is_described, is_column_line, entity_of, type_of, target_of, kind_unless, type_kind, type_in, default_in, type_from, default_unless, default_kind, or_kind, rest_kind, column_kind, column_of, with_column}
use Rattle.hib_mapping.specs.Parts.{is_a_word, is_a_number, word_of, name_in, number_up_to, small, entity_at, column_at}
use Rattle.hib_mapping.proofs.Places.{placed, unplaced}

-- ---- a new entity has no columns
pub new_columns : (n : ℕ) (ts : List Token) → Then (entity_of ts) (λ e. are_columns n e ≡ true)
new_columns n (first ∷ name ∷ strategy ∷ versioning ∷ capacity ∷ []) = refl
new_columns n _ = tt

-- ---- one column more
plain_below : (n : ℕ) (t : Token) → is_type_below n (unwrap_or (type_of t) ColumnType.Int) ≡ true
plain_below n t = by_tests (is_the_word (codes "int") t) (is_the_word (codes "text") t) (is_the_word (codes "bool") t)
  where
    by_tests : (i x b : Bool) → is_type_below n (unwrap_or (cond i (Some ColumnType.Int) (cond x (Some ColumnType.Text) (cond b (Some ColumnType.Bool) None))) ColumnType.Int) ≡ true
    by_tests true x b = refl
    by_tests false true b = refl
    by_tests false false true = refl
    by_tests false false false = refl

own_below : (n : ℕ) → Then (small n) (λ i. nat_lt i (n + 1) ≡ true)
own_below n = by_test (nat_lt n 65536)
  where
    by_test : (b : Bool) → Then (cond b (Some n) None) (λ i. nat_lt i (n + 1) ≡ true)
    by_test true = lt-ltb n (n + 1) (omega arith)
    by_test false = tt

other_below : (n : ℕ) (o : Option ℕ) → Then o (λ i. nat_lt i n ≡ true) → Then o (λ i. nat_lt i (n + 1) ≡ true)
other_below n None h = tt
other_below n (Some i) h = lt_more i n 1 h

target_below : (m : List EntityDef) (e : EntityDef) (t : Token) → Then (target_of m e t) (λ i. nat_lt i (length m + 1) ≡ true)
target_below m e t = by_test (bytes_eq e.name (word_of t))
  where
    by_test : (b : Bool) → Then (cond b (small (length m)) (entity_at m (word_of t))) (λ i. nat_lt i (length m + 1) ≡ true)
    by_test true = own_below (length m)
    by_test false = other_below (length m) (entity_at m (word_of t)) (placed (λ e. bytes_eq e.name (word_of t)) m)

led_below : (n : ℕ) (o : Option ℕ) → Then o (λ i. nat_lt i n ≡ true) → kind_unless Kind.RefUnknown o ≡ None → nat_lt (unwrap_or o 0) n ≡ true
led_below n None h e = absurd (some_none Kind.RefUnknown e)
led_below n (Some i) h e = h

type_below : (m : List EntityDef) (e : EntityDef) (ts : List Token) → type_kind m e ts ≡ None → is_type_below (length m + 1) (type_from m e ts) ≡ true
type_below m e (kind ∷ []) h = plain_below (length m + 1) kind
type_below m e (kind ∷ target ∷ []) h = led_below (length m + 1) (target_of m e target) (target_below m e target) h
type_below m e [] h = refl
type_below m e (a ∷ b ∷ c ∷ ts) h = refl

-- what isn't wrong with a column's line
record Fine (m : List EntityDef) (e : EntityDef) (w : List ℕ) (ts : List Token) : Type 0 where
  room : nat_le 16 (length e.columns) ≡ false
  fresh : is_some (column_at e.columns w) ≡ false
  typed : type_kind m e (type_in ts) ≡ None
  default : default_kind e.columns (type_from m e (type_in ts)) (default_in ts) ≡ None

no_kinds : (a b : Option Kind) → or_kind a b ≡ None → (a ≡ None) × (b ≡ None)
no_kinds (Some k) b h = absurd (some_none k h)
no_kinds None b h = (refl, h)

fine_by : (many taken : Bool) (k : Option Kind) → cond many (Some Kind.ManyColumns) (cond taken (Some Kind.ColumnTaken) k) ≡ None → (many ≡ false) × (taken ≡ false) × (k ≡ None)
fine_by true taken k h = absurd (some_none Kind.ManyColumns h)
fine_by false true k h = absurd (some_none Kind.ColumnTaken h)
fine_by false false k h = (refl, refl, h)

fine : (m : List EntityDef) (e : EntityDef) (a name : Token) (ts : List Token) → column_kind m e (a ∷ name ∷ ts) ≡ None → Fine m e (word_of name) ts
fine m e a name ts h =
    let parts : (nat_le 16 (length e.columns) ≡ false) × (is_some (column_at e.columns (word_of name)) ≡ false) × (rest_kind m e ts ≡ None) =
    fine_by (nat_le 16 (length e.columns)) (is_some (column_at e.columns (word_of name))) (rest_kind m e ts) h in
    let kinds : (type_kind m e (type_in ts) ≡ None) × (default_kind e.columns (type_from m e (type_in ts)) (default_in ts) ≡ None) =
    no_kinds (type_kind m e (type_in ts)) (default_kind e.columns (type_from m e (type_in ts)) (default_in ts)) parts.2 in
    record { room = parts.0; fresh = parts.1; typed = kinds.0; default = kinds.1 }

room_below : (n : ℕ) → nat_le 16 n ≡ false → nat_le (n + 1) 16 ≡ true
room_below n h = le-leb (n + 1) 16 (grind (arith, nat_tests))

none_there : (o : Option ℕ) → is_some o ≡ false → o ≡ None
none_there None h = refl
none_there (Some i) h = absurd (true≢false h)

-- ---- defaults
-- the tokens of a type, by how many stand after a column's name
pub type_of_three : (ts : List Token) → length ts ≡ 3 → type_in ts ≡ take 1 ts
type_of_three (a ∷ b ∷ c ∷ []) h = refl
type_of_three [] h = absurd (omega arith)
type_of_three (a ∷ []) h = absurd (omega arith)
type_of_three (a ∷ b ∷ []) h = absurd (omega arith)
type_of_three (a ∷ b ∷ c ∷ d ∷ ts) h = absurd (omega arith)

pub type_of_four : (ts : List Token) → length ts ≡ 4 → type_in ts ≡ take 2 ts
type_of_four (a ∷ b ∷ c ∷ d ∷ []) h = refl
type_of_four [] h = absurd (omega arith)
type_of_four (a ∷ []) h = absurd (omega arith)
type_of_four (a ∷ b ∷ []) h = absurd (omega arith)
type_of_four (a ∷ b ∷ c ∷ []) h = absurd (omega arith)
type_of_four (a ∷ b ∷ c ∷ d ∷ e ∷ ts) h = absurd (omega arith)

pub type_of_others : (ts : List Token) → length ts ≢ 3 → length ts ≢ 4 → type_in ts ≡ ts
type_of_others [] h g = refl
type_of_others (a ∷ []) h g = refl
type_of_others (a ∷ b ∷ []) h g = refl
type_of_others (a ∷ b ∷ c ∷ []) h g = absurd (h refl)
type_of_others (a ∷ b ∷ c ∷ d ∷ []) h g = absurd (g refl)
type_of_others (a ∷ b ∷ c ∷ d ∷ e ∷ ts) h g = refl

fine_default : (b : Bool) → default_unless b ≡ None → b ≡ true
fine_default true h = refl
fine_default false h = absurd (some_none Kind.Default h)

not_any : (b : Bool) → not b ≡ true → b ≡ false
not_any true h = absurd (false≢true h)
not_any false h = refl

truth_there : (a b : Bool) → (a || b) ≡ true → is_some (cond a (Some (Cell.Bool true)) (cond b (Some (Cell.Bool false)) None)) ≡ true
truth_there true b h = refl
truth_there false true h = refl
truth_there false false h = absurd (false≢true h)

truth_typed : (a b : Bool) → is_default ColumnType.Bool (cond a (Some (Cell.Bool true)) (cond b (Some (Cell.Bool false)) None)) ≡ true
truth_typed true b = refl
truth_typed false true = refl
truth_typed false false = refl

number_there : (t : Token) → is_a_number t ≡ true → is_some (cell_of t) ≡ true
number_there (Token.Number n) h = refl
number_there _ h = absurd (false≢true h)

quoted_there : (t : Token) → is_quoted t ≡ true → is_some (cell_of t) ≡ true
quoted_there (Token.Quoted s) h = refl
quoted_there _ h = absurd (false≢true h)

word_there : (t : Token) → is_truth t ≡ true → is_some (cell_of t) ≡ true
word_there (Token.Word w) h = truth_there (is_the_word (codes "true") (Token.Word w)) (is_the_word (codes "false") (Token.Word w)) h
word_there (Token.Number n) h = refl
word_there (Token.Quoted s) h = refl
word_there _ h = absurd (false≢true h)

-- a token that is a cell of the type is one
cell_there : (k : ColumnType) (t : Token) → is_cell_of k t ≡ true → is_some (cell_of t) ≡ true
cell_there ColumnType.Int t h = number_there t h
cell_there (ColumnType.Ref e) t h = number_there t h
cell_there ColumnType.Text t h = quoted_there t h
cell_there ColumnType.Bool t h = word_there t h

number_typed : (t : Token) (k : ColumnType) → ((n : ℤ) → is_of_type k (Cell.Int n) ≡ is_wide n) → is_a_number t ≡ true → is_lexed t ≡ true → is_default k (cell_of t) ≡ true
number_typed (Token.Number n) k same h l = same n ∙ l
number_typed _ k same h l = absurd (false≢true h)

quoted_typed : (t : Token) → is_quoted t ≡ true → is_lexed t ≡ true → is_default ColumnType.Text (cell_of t) ≡ true
quoted_typed (Token.Quoted s) h l = l
quoted_typed _ h l = absurd (false≢true h)

word_typed : (t : Token) → is_truth t ≡ true → is_default ColumnType.Bool (cell_of t) ≡ true
word_typed (Token.Word w) h = truth_typed (is_the_word (codes "true") (Token.Word w)) (is_the_word (codes "false") (Token.Word w))
word_typed _ h = absurd (false≢true h)

-- and of the type
cell_typed : (k : ColumnType) (t : Token) → is_cell_of k t ≡ true → is_lexed t ≡ true → is_default k (cell_of t) ≡ true
cell_typed ColumnType.Int t h l = number_typed t ColumnType.Int (λ n. refl) h l
cell_typed (ColumnType.Ref e) t h l = number_typed t (ColumnType.Ref e) (λ n. refl) h l
cell_typed ColumnType.Text t h l = quoted_typed t h l
cell_typed ColumnType.Bool t h l = word_typed t h

default_lexed : (ts : List Token) → are_lexed ts ≡ true → Then (default_in ts) (λ t. is_lexed t ≡ true)
default_lexed [] h = tt
default_lexed (a ∷ []) h = tt
default_lexed (a ∷ b ∷ []) h = tt
default_lexed (a ∷ b ∷ c ∷ []) h = all_at (λ (t : Token). is_lexed t) (a ∷ b ∷ c ∷ []) 2 c h refl
default_lexed (a ∷ b ∷ c ∷ d ∷ []) h = all_at (λ (t : Token). is_lexed t) (a ∷ b ∷ c ∷ d ∷ []) 3 d h refl
default_lexed (a ∷ b ∷ c ∷ d ∷ e ∷ ts) h = tt

-- the default of a column's line is of its type
default_typed : (ds : List ColumnDef) (k : ColumnType) (o : Option Token) → Then o (λ t. is_lexed t ≡ true) → default_kind ds k o ≡ None → is_default k (option_and_then cell_of o) ≡ true
default_typed ds k None l h = refl
default_typed ds k (Some t) l h = cell_typed k t (fine_default (is_cell_of k t) h) l

-- and there, unless no column before it has one
default_there : (ds : List ColumnDef) (k : ColumnType) (o : Option Token) → default_kind ds k o ≡ None → (is_some (option_and_then cell_of o) ≡ true) ⊎ (list_any has_default ds ≡ false)
default_there ds k None h = inr (not_any (list_any has_default ds) (fine_default (not (list_any has_default ds)) h))
default_there ds k (Some t) h = inl (cell_there k t (fine_default (is_cell_of k t) h))

pub column_more : (m : List EntityDef) (e : EntityDef) (ts : List Token) → are_columns (length m + 1) e ≡ true → are_lexed ts ≡ true → is_name (name_in ts) ≡ true → column_kind m e ts ≡ None →
    are_columns (length m + 1) (with_column m e ts) ≡ true
column_more m e [] h l i k = h
column_more m e (a ∷ []) h l i k = h
column_more m e (a ∷ name ∷ ts) h l i k =
    let w : List ℕ = word_of name in
    let f : Fine m e w ts = fine m e a name ts k in
    let c : HasColumns (length m + 1) e.columns = columns_of (length m + 1) e h in
    let d : ColumnDef = column_of m e name ts in
    let rest : are_lexed ts ≡ true = (and_parts (is_lexed name) (are_lexed ts) (and_parts (is_lexed a) (are_lexed (name ∷ ts)) l).1).1 in
    columns_from (length m + 1) (record e { columns = e.columns ++ d ∷ [] }) (record {
      few = subst (λ n. nat_le n 16 ≡ true) (sym (length-append e.columns (d ∷ []))) (room_below (length e.columns) f.room);
      below = all_more (λ (d : ColumnDef). is_type_below (length m + 1) d.kind) e.columns d c.below (type_below m e (type_in ts) f.typed);
      named = named_more (λ (d : ColumnDef). d.name) e.columns d c.named i
          (unplaced (λ (d : ColumnDef). bytes_eq d.name w) e.columns (let l : length e.columns ≤ 16 = leb-true (length e.columns) 16 c.few in omega (arith, l)) (none_there (column_at e.columns w) f.fresh));
      defaults = defaults_more e.columns d c.defaults (default_typed e.columns d.kind (default_in ts) (default_lexed ts rest) f.default) (default_there e.columns d.kind (default_in ts) f.default);
    })

-- ---- the names of lines
word_named : (t : Token) → is_a_word t ≡ true → is_lexed t ≡ true → is_word (word_of t) ≡ true
word_named (Token.Word w) h i = i
word_named _ h i = absurd (false≢true h)

-- of a word that isn't reserved
pub name_from : (t : Token) → is_a_word t ≡ true → is_lexed t ≡ true → is_reserved (word_of t) ≡ false → is_name (word_of t) ≡ true
name_from t h i f = and_from (is_word (word_of t)) (not (is_reserved (word_of t))) (word_named t h i) (subst (λ b. not b ≡ true) (sym f) refl)

pub second_lexed : (a b : Token) (ts : List Token) → are_lexed (a ∷ b ∷ ts) ≡ true → is_lexed b ≡ true
second_lexed a b ts h = (and_parts (is_lexed b) (are_lexed ts) (and_parts (is_lexed a) (are_lexed (b ∷ ts)) h).1).0

pub entity_named : (ts : List Token) → is_entity_line ts ≡ true → are_lexed ts ≡ true → is_reserved (name_in ts) ≡ false → is_name (name_in ts) ≡ true
entity_named (first ∷ name ∷ strategy ∷ versioning ∷ capacity ∷ []) h i f =
    name_from name (and_parts (is_a_word name) (is_a_word strategy && (is_versioning versioning && is_a_number capacity)) h).0 (second_lexed first name (strategy ∷ versioning ∷ capacity ∷ []) i) f
entity_named _ h i f = absurd (false≢true h)

pub column_named : (ts : List Token) → is_column_line ts ≡ true → are_lexed ts ≡ true → is_reserved (name_in ts) ≡ false → is_name (name_in ts) ≡ true
column_named (first ∷ name ∷ ts) h i f = name_from name (and_parts (is_a_word name) (is_described ts) h).0 (second_lexed first name ts i) f
column_named [] h i f = absurd (false≢true h)
column_named (a ∷ []) h i f = absurd (false≢true h)

-- ---- a new entity's name is none of those before it
fresh_by : (many taken : Bool) (k : Option Kind) → cond many (Some Kind.ManyEntities) (cond taken (Some Kind.EntityTaken) k) ≡ None → taken ≡ false
fresh_by true taken k h = absurd (some_none Kind.ManyEntities h)
fresh_by false true k h = absurd (some_none Kind.EntityTaken h)
fresh_by false false k h = refl

pub entity_fresh : (m : List EntityDef) (followed : Bool) (ts : List Token) → length m ≤ 64 → is_name (name_in ts) ≡ true → entity_kind m followed ts ≡ None →
    Then (entity_of ts) (λ e. (is_name e.name ≡ true) × (list_any (λ d. bytes_eq d.name e.name) m ≡ false))
entity_fresh m followed (first ∷ name ∷ strategy ∷ versioning ∷ capacity ∷ []) few i k = (
  i,
  unplaced (λ (d : EntityDef). bytes_eq d.name (word_of name)) m few
      (none_there (entity_at m (word_of name)) (fresh_by (nat_le 64 (length m)) (is_some (entity_at m (word_of name))) (or_no_columns followed (strategy_kind (strategy_of strategy) capacity)) k)),
)
entity_fresh m followed _ few i k = tt

pub same_name : (m : List EntityDef) (e : EntityDef) (ts : List Token) → (with_column m e ts).name ≡ e.name
same_name m e [] = refl
same_name m e (a ∷ []) = refl
same_name m e (a ∷ b ∷ ts) = refl

-- ---- a region's room, and that an entity has a column
room_from : (n most : ℕ) → (nat_le 1 n && nat_le n most) ≡ true → (nat_le 1 (cond (nat_le n most) n 0) && nat_le (cond (nat_le n most) n 0) most) ≡ true
room_from n most h =
    let both : (nat_le 1 n ≡ true) × (nat_le n most ≡ true) = and_parts (nat_le 1 n) (nat_le n most) h in
    subst (λ b. (nat_le 1 (cond b n 0) && nat_le (cond b n 0) most) ≡ true) (sym both.1) h

none_from : (n : ℕ) → (nat_le 0 n && nat_le n 0) ≡ true → (cond (nat_le n 100000) n 0 == 0) ≡ true
none_from zero h = refl
none_from (suc n) h = let both : (nat_le 0 (suc n) ≡ true) × (nat_le (suc n) 0 ≡ true) = and_parts (nat_le 0 (suc n)) (nat_le (suc n) 0) h in let l : suc n ≤ 0 = leb-true (suc n) 0 both.1 in absurd (omega (arith, l))

room : (s : Strategy) (t : Token) → is_capacity s t ≡ true → rooms.is_capacity s (number_up_to 100000 t) ≡ true
room Strategy.Uncached (Token.Number (pos n)) h = none_from n h
room Strategy.ReadOnly (Token.Number (pos n)) h = room_from n 100000 h
room Strategy.Nonstrict (Token.Number (pos n)) h = room_from n 100000 h
room Strategy.ReadWrite (Token.Number (pos n)) h = room_from n 100000 h
room Strategy.Uncached _ h = absurd (false≢true h)
room Strategy.ReadOnly _ h = absurd (false≢true h)
room Strategy.Nonstrict _ h = absurd (false≢true h)
room Strategy.ReadWrite _ h = absurd (false≢true h)

unless_capacity : (b : Bool) → cond b None (Some Kind.Capacity) ≡ None → b ≡ true
unless_capacity true h = refl
unless_capacity false h = absurd (some_none Kind.Capacity h)

strategy_room : (o : Option Strategy) (t : Token) → strategy_kind o t ≡ None → rooms.is_capacity (unwrap_or o Strategy.Uncached) (number_up_to 100000 t) ≡ true
strategy_room None t h = absurd (some_none Kind.Strategy h)
strategy_room (Some s) t h = room s t (unless_capacity (is_capacity s t) h)

no_kind : (followed : Bool) (o : Option Kind) → or_no_columns followed o ≡ None → (o ≡ None) × (followed ≡ true)
no_kind followed (Some k) h = absurd (some_none k h)
no_kind true None h = (refl, refl)
no_kind false None h = absurd (some_none Kind.NoColumns h)

last_kind : (many taken : Bool) (k : Option Kind) → cond many (Some Kind.ManyEntities) (cond taken (Some Kind.EntityTaken) k) ≡ None → k ≡ None
last_kind true taken k h = absurd (some_none Kind.ManyEntities h)
last_kind false true k h = absurd (some_none Kind.EntityTaken h)
last_kind false false k h = h

-- a new entity has the room that it may have, and a column follows it
pub entity_room : (m : List EntityDef) (followed : Bool) (ts : List Token) → entity_kind m followed ts ≡ None →
    Then (entity_of ts) (λ e. (rooms.is_capacity e.strategy e.capacity ≡ true) × (followed ≡ true))
entity_room m followed (first ∷ name ∷ strategy ∷ versioning ∷ capacity ∷ []) h =
    let both : (strategy_kind (strategy_of strategy) capacity ≡ None) × (followed ≡ true) =
    no_kind followed (strategy_kind (strategy_of strategy) capacity)
    (last_kind (nat_le 64 (length m)) (is_some (entity_at m (word_of name))) (or_no_columns followed (strategy_kind (strategy_of strategy) capacity)) h) in
    (strategy_room (strategy_of strategy) capacity both.0, both.1)
entity_room m followed _ h = tt

pub column_filled : (m : List EntityDef) (e : EntityDef) (ts : List Token) → is_column_line ts ≡ true → nat_le 1 (length (with_column m e ts).columns) ≡ true
column_filled m e (a ∷ b ∷ ts) i = le-leb 1 _ (rw (length-append) (omega arith))
column_filled m e [] i = absurd (false≢true i)
column_filled m e (a ∷ []) i = absurd (false≢true i)

-- and a column more leaves its room, and is one
pub column_room : (m : List EntityDef) (e : EntityDef) (ts : List Token) → rooms.is_capacity e.strategy e.capacity ≡ true → is_column_line ts ≡ true → is_entity (with_column m e ts) ≡ true
column_room m e (a ∷ b ∷ ts) h i = and_from (rooms.is_capacity e.strategy e.capacity) _ h (column_filled m e (a ∷ b ∷ ts) i)
column_room m e [] h i = absurd (false≢true i)
column_room m e (a ∷ []) h i = absurd (false≢true i)
