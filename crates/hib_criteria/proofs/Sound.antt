-- A query that a line is fits its mapping and keeps the limits of queries, token by token.
use Rattle.std.proofs.Common.{◌≡◌, ℕ, suc, Bool, true, false, not, cond, ◌&&◌, ◌||◌, ◌==◌, nat_lt, nat_le, List, [], ◌∷◌, length, pos, Option, Some, None, codes, Err, refl, sym, ◌∙◌, subst, arith, eq-eqb}
use Rattle.std.specs.Prelude.{is_none, is_some, unwrap_or}
use Rattle.std.specs.List.{list_all}
use Rattle.std.proofs.lemmas.Bool.{and_parts, and_from, or_parts, lt-ltb, le-leb, true≢false, false≢true}
use Rattle.hib_base.specs.Fits.{entity_columns, fits_part, fits_sort, fits_select, fits_query}
use Rattle.hib_base.specs.Queries.{Said}
use Rattle.hib_base.specs.Valid.{is_short, is_cut, counts_all}
use Rattle.hib_base.specs.Words.{is_reserved}
use Rattle.hib_base.specs.declared.refusals.Kind.{Kind}
use Rattle.hib_base.specs.declared.scripts.ColumnDef.{ColumnDef}
use Rattle.hib_base.specs.declared.scripts.EntityDef.{EntityDef}
use Rattle.hib_base.specs.declared.scripts.Select.{Select}
use Rattle.hib_base.specs.declared.scripts.Sort.{Sort}
use Rattle.hib_base.proofs.Gives.{Gives, gives_cond, Then, then_cond}
use Rattle.hib_base.proofs.Lists.{all_more, some_none}
use Rattle.hib_lex.specs.Words.{is_the_word}
use Rattle.hib_lex.specs.declared.lexer.Token.{Token}
use Rattle.hib_lex.proofs.Lexed.{is_lexed, are_lexed}
use Rattle.hib_mapping.specs.Parts.{is_a_word, is_a_number, word_of, is_within, number_up_to}
use Rattle.hib_columns.specs.Columns.{columns_of, plain_column, place_or_first}
use Rattle.hib_mapping.specs.Cells.{cell_of}
use Rattle.hib_columns.specs.declared.columns.Found.{Found}
use Rattle.hib_mapping.proofs.TypedCells.{cell_sound}
use Rattle.hib_columns.proofs.Typed.{IsColumn, plain_typed}
use Rattle.hib_criteria.specs.Form as lines
use Rattle.hib_criteria.specs.Query.{are_whole, kind_of, said_by, unless_kind, read, query_of}
use Rattle.hib_criteria.specs.declared.forms.Draft.{Draft}
use Rattle.hib_criteria.specs.declared.forms.Form.{Form}
use Rattle.hib_criteria.specs.declared.forms.Frame.{Frame}
use Rattle.hib_criteria.specs.declared.forms.Place.{Place}
use Rattle.hib_criteria.proofs.Depth.{are_shallow}
use Rattle.hib_criteria.proofs.Marks.{is_due, Nested, is_head, is_over, columns, fitted, missed, is_count, kept, no_count}
use Rattle.hib_criteria.proofs.Heads.{Sound, Holds, then_if, moved, cached_sound, named_sound, from_sound, clauses_sound, chosen_sound, condition_sound, operator_sound, subject_sound, not_false, operand_sound, operands_sound}

-- ---- order, offset, limit, select
found_in : (m : List EntityDef) (e : Option ℕ) (w : List ℕ) → Then (plain_column (columns_of m e) w) (λ d. nat_lt d.place (length (columns m e)) ≡ true)
found_in m None w = tt
found_in m (Some e) w = of_entity (plain_column (entity_columns m e) w) (plain_typed (entity_columns m e) w)
  where
    of_entity : (o : Option Found) → Then o (λ d. IsColumn (entity_columns m e) d.place d.kind) → Then o (λ d. nat_lt d.place (length (entity_columns m e)) ≡ true)
    of_entity None h = tt
    of_entity (Some d) h = h.there

place_in : (n : ℕ) (u : Bool) (o : Option Found) → Then o (λ d. nat_lt d.place n ≡ true) → (u || is_none o) ≡ false → nat_lt (place_or_first o) n ≡ true
place_in n u None h g = absurd (true≢false (or_parts u true g).1)
place_in n u (Some d) h g = h

order_sound : (m : List EntityDef) (f : Form) (fs : List Frame) (p : Place) (t : Token) → is_due p ≡ false → is_over p ≡ false → Sound m f fs p → Then (lines.step_order m f fs t) (Holds m)
order_sound m f fs p t w o b =
    let c : Option Found = plain_column (columns_of m f.entity) (word_of t) in
    let q : Place = Place.Sorted (place_or_first c) in
    then_if (is_a_word t && not (lines.is_clause t)) (lines.sorted f fs c) None (Holds m) (
      subst (λ v. Nested f.nodes f.deep fs v) w b.0,
      missed m f.nodes f.unknown f.mistyped (is_none c) f.entity f.order f.select p q b.1 refl (λ g. place_in (length (columns m f.entity)) f.unknown c (found_in m f.entity (word_of t)) g),
      kept f.nodes f.deep f.bad_number f.offset f.limit f.order f.select p q b.2 o,
    )
    tt

sorting_sound : (m : List EntityDef) (f : Form) (fs : List Frame) (p : Place) (t : Token) → is_due p ≡ false → is_over p ≡ false → is_head p ≡ false → Sound m f fs p → Then (lines.step_sorting m f fs t) (Holds m)
sorting_sound m f fs p t w o h b =
    then_if (lines.is_clause t) (lines.step_clauses f fs t) (lines.step_order m f fs t) (Holds m) (clauses_sound m f fs p t w o h b) (order_sound m f fs p t w o b)

-- a column of the order more
with_sort : (m : List EntityDef) (f : Form) (fs : List Frame) (c : ℕ) (desc : Bool) → Sound m f fs (Place.Sorted c) → Sound m (lines.with_sort f c desc) fs Place.Sorting
with_sort m f fs c desc b =
    let s : Sort = record { column = c; desc = desc } in (
      b.0,
      record {
        parts = b.1.parts;
        sorts = λ g. all_more (λ s. fits_sort (columns m f.entity) s) f.order s (b.1.sorts g) (b.1.at g);
        selects = b.1.selects;
        head = λ g. absurd (false≢true g);
        at = tt;
      },
      record {
        short = b.2.short;
        offsets = b.2.offsets;
        limits = b.2.limits;
        low = b.2.low;
        early = λ _. b.2.early refl;
        count = λ g. absurd (no_count f.select (b.2.early refl) g);
      },
    )

sorted_sound : (m : List EntityDef) (f : Form) (fs : List Frame) (c : ℕ) (t : Token) → Sound m f fs (Place.Sorted c) → Then (lines.step_sorted m f fs c t) (Holds m)
sorted_sound m f fs c t b =
    then_if (is_the_word (codes "desc") t) (lines.at (lines.with_sort f c true) fs Place.Sorting) (lines.step_sorting m (lines.with_sort f c false) fs t) (Holds m)
    (with_sort m f fs c true b)
    (sorting_sound m (lines.with_sort f c false) fs Place.Sorting t refl refl refl (with_sort m f fs c false b))

capped : (most : ℕ) (t : Token) → nat_le (number_up_to most t) most ≡ true
capped most (Token.Number (pos n)) = by_test (nat_le n most) refl
  where
    by_test : (b : Bool) → nat_le n most ≡ b → nat_le (cond b n 0) most ≡ true
    by_test true h = h
    by_test false h = le-leb 0 most (omega arith)
capped most _ = le-leb 0 most (omega arith)

from_one : (most : ℕ) (t : Token) → is_within 1 most t ≡ true → nat_le 1 (number_up_to most t) ≡ true
from_one most (Token.Number (pos n)) h =
    let both : (nat_le 1 n ≡ true) × (nat_le n most ≡ true) = and_parts (nat_le 1 n) (nat_le n most) h in
    subst (λ b. nat_le 1 (cond b n 0) ≡ true) (sym both.1) both.0
from_one most _ h = absurd (false≢true h)

offset_sound : (m : List EntityDef) (f : Form) (fs : List Frame) (t : Token) → Sound m f fs Place.Offset → Then (lines.step_offset f fs t) (Holds m)
offset_sound m f fs t b =
    let g : Form = record f { offset = Some (number_up_to 1000000 t); bad_number = f.bad_number || not (is_within 0 1000000 t) } in
    then_if (is_a_number t) (lines.at g fs Place.Clauses) None (Holds m) (
      b.0,
      fitted m f.nodes f.unknown f.mistyped f.entity f.order f.select Place.Offset Place.Clauses b.1 (λ h. h) tt,
      record {
        short = b.2.short;
        offsets = capped 1000000 t;
        limits = b.2.limits;
        low = λ h. b.2.low (or_parts f.bad_number (not (is_within 0 1000000 t)) h).0;
        early = λ _. b.2.early refl;
        count = λ h. absurd (no_count f.select (b.2.early refl) h);
      },
    )
    tt

limit_sound : (m : List EntityDef) (f : Form) (fs : List Frame) (t : Token) → Sound m f fs Place.Limit → Then (lines.step_limit f fs t) (Holds m)
limit_sound m f fs t b =
    let g : Form = record f { limit = Some (number_up_to 200 t); bad_number = f.bad_number || not (is_within 1 200 t) } in
    then_if (is_a_number t) (lines.at g fs Place.Clauses) None (Holds m) (
      b.0,
      fitted m f.nodes f.unknown f.mistyped f.entity f.order f.select Place.Limit Place.Clauses b.1 (λ h. h) tt,
      record {
        short = b.2.short;
        offsets = b.2.offsets;
        limits = capped 200 t;
        low = λ h. from_one 200 t (not_false (is_within 1 200 t) (or_parts f.bad_number (not (is_within 1 200 t)) h).1);
        early = λ _. b.2.early refl;
        count = λ h. absurd (no_count f.select (b.2.early refl) h);
      },
    )
    tt

-- what is selected; a count only if nothing is ordered or cut
selected : (m : List EntityDef) (f : Form) (fs : List Frame) (missing : Bool) (s : Select) → Sound m f fs Place.Select → ((f.unknown || missing) ≡ false → fits_select (columns m f.entity) s ≡ true) →
    (is_count s ≡ true → (lines.has_pages f || lines.is_sorted f) ≡ false) → Sound m (record f { unknown = f.unknown || missing; select = s }) fs Place.Over
selected m f fs missing s b h c = (
  b.0,
  record {
    parts = λ g k. b.1.parts (or_parts f.unknown missing g).0 k;
    sorts = λ g. b.1.sorts (or_parts f.unknown missing g).0;
    selects = h;
    head = λ g. absurd (false≢true g);
    at = tt;
  },
  record { short = b.2.short; offsets = b.2.offsets; limits = b.2.limits; low = b.2.low; early = λ g. absurd (true≢false g); count = c },
)

-- if nothing more is unknown
plain_selected : (m : List EntityDef) (f : Form) (fs : List Frame) (s : Select) → Sound m f fs Place.Select → fits_select (columns m f.entity) s ≡ true →
    (is_count s ≡ true → (lines.has_pages f || lines.is_sorted f) ≡ false) → Sound m (record f { select = s }) fs Place.Over
plain_selected m f fs s b h c = (
  b.0,
  record { parts = b.1.parts; sorts = b.1.sorts; selects = λ _. h; head = λ g. absurd (false≢true g); at = tt },
  record { short = b.2.short; offsets = b.2.offsets; limits = b.2.limits; low = b.2.low; early = λ g. absurd (true≢false g); count = c },
)

select_fits : (ds : List ColumnDef) (u : Bool) (o : Option Found) → Then o (λ d. nat_lt d.place (length ds) ≡ true) → (u || is_none o) ≡ false → fits_select ds (Select.Column (place_or_first o)) ≡ true
select_fits ds u o h g = place_in (length ds) u o h g

select_sound : (m : List EntityDef) (f : Form) (fs : List Frame) (t : Token) → Sound m f fs Place.Select → Then (lines.step_select m f fs t) (Holds m)
select_sound m f fs t b =
    let c : Option Found = plain_column (columns_of m f.entity) (word_of t) in
    let to_column : Option Draft = cond (is_a_word t) (lines.select_column f fs c) None in
    let counted : Option Draft = lines.at (record f { select = Select.Count }) fs Place.Over in
    let cut : Bool = lines.has_pages f || lines.is_sorted f in
    then_if (is_the_word (codes "ids") t) (lines.at (record f { select = Select.Ids }) fs Place.Over) (cond (is_the_word (codes "count") t) (lines.unless cut counted) to_column) (Holds m)
    (plain_selected m f fs Select.Ids b refl (λ g. absurd (false≢true g)))
    (then_if (is_the_word (codes "count") t) (lines.unless cut counted) to_column (Holds m)
    (then_cond cut None counted (Holds m) (λ _. tt) (λ h. plain_selected m f fs Select.Count b refl (λ _. h)))
    (then_if (is_a_word t) (lines.select_column f fs c) None (Holds m)
    (selected m f fs (is_none c) (Select.Column (place_or_first c)) b (λ g. select_fits (columns m f.entity) f.unknown c (found_in m f.entity (word_of t)) g) (λ g. absurd (false≢true g)))
    tt))

-- ---- each token
start_sound : (m : List EntityDef) (f : Form) (fs : List Frame) (t : Token) → Sound m f fs Place.Start → Then (lines.step_start f fs t) (Holds m)
start_sound m f fs t b = then_if (is_the_word (codes "query") t) (lines.at f fs Place.Name) None (Holds m) (moved m f fs Place.Start Place.Name b refl refl (λ g. g) tt) tt

name_sound : (m : List EntityDef) (f : Form) (fs : List Frame) (t : Token) → Sound m f fs Place.Name → Then (lines.step_name f fs t) (Holds m)
name_sound m f fs t b = then_if (is_a_word t) (lines.at (record f { name = word_of t }) fs Place.Named) None (Holds m) (moved m f fs Place.Name Place.Named b refl refl (λ g. g) tt) tt

step_sound : (m : List EntityDef) (f : Form) (fs : List Frame) (p : Place) (t : Token) → is_lexed t ≡ true → Sound m f fs p → Then (lines.step_at m f fs p t) (Holds m)
step_sound m f fs Place.Start t i b = start_sound m f fs t b
step_sound m f fs Place.Name t i b = name_sound m f fs t b
step_sound m f fs Place.Named t i b = named_sound m f fs t b
step_sound m f fs Place.Cached t i b = cached_sound m f fs Place.Cached t refl refl refl b
step_sound m f fs Place.From t i b = from_sound m f fs t b
step_sound m f fs Place.Chosen t i b = chosen_sound m f fs t b
step_sound m f fs Place.Condition t i b = condition_sound m f fs t b
step_sound m f fs Place.Operator t i b = operator_sound m f fs t b
step_sound m f fs (Place.Subject test) t i b = subject_sound m f fs test t b
step_sound m f fs (Place.Operand op c) t i b = operand_sound m f fs op c (cell_of t) (cell_sound t i) b
step_sound m f fs (Place.Operands c xs) t i b = operands_sound m f fs c xs t i b
step_sound m f fs Place.Clauses t i b = clauses_sound m f fs Place.Clauses t refl refl refl b
step_sound m f fs Place.Order t i b = order_sound m f fs Place.Order t refl refl b
step_sound m f fs (Place.Sorted c) t i b = sorted_sound m f fs c t b
step_sound m f fs Place.Sorting t i b = sorting_sound m f fs Place.Sorting t refl refl refl b
step_sound m f fs Place.Offset t i b = offset_sound m f fs t b
step_sound m f fs Place.Limit t i b = limit_sound m f fs t b
step_sound m f fs Place.Select t i b = select_sound m f fs t b
step_sound m f fs Place.Over t i b = tt

ended_sound : (m : List EntityDef) (f : Form) (fs : List Frame) (p : Place) → Sound m f fs p → Then (lines.ended_at f p) (λ g. Sound m g fs Place.Over)
ended_sound m f fs Place.Over b = b
ended_sound m f fs _ b = tt

record Ended (m : List EntityDef) (f : Form) : Type 0 where
  frames : List Frame
  sound : Sound m f frames Place.Over

ended_so : (m : List EntityDef) (fs : List Frame) (o : Option Form) → Then o (λ g. Sound m g fs Place.Over) → Then o (Ended m)
ended_so m fs None h = tt
ended_so m fs (Some g) h = record { frames = fs; sound = h }

tokens_sound : (m : List EntityDef) (o : Option Draft) (ts : List Token) → are_lexed ts ≡ true → Then o (Holds m) → Then (lines.form_from m o ts) (Ended m)
tokens_sound m None ts l b = tt
tokens_sound m (Some d) [] l b = ended_so m d.frames (lines.ended_at d.form d.place) (ended_sound m d.form d.frames d.place b)
tokens_sound m (Some d) (t ∷ ts) l b =
    let both : (is_lexed t ≡ true) × (are_lexed ts ≡ true) = and_parts (is_lexed t) (are_lexed ts) l in
    tokens_sound m (lines.step m d t) ts both.1 (step_sound m d.form d.frames d.place t both.0 b)

-- ---- the query
-- what a query that a line is keeps
pub record Keeps (m : List EntityDef) (q : Said) : Type 0 where
  pub shallow : are_shallow [] q.parts ≡ true
  pub short : list_all is_short q.parts ≡ true
  pub cut : is_cut q ≡ true
  pub fit : fits_query m q ≡ true

-- nothing is wrong with a form
fine_by : (r u x y z : Bool) → cond r (Some Kind.Reserved) (cond u (Some Kind.Unknown) (cond x (Some Kind.Number) (cond y (Some Kind.CellType) (cond z (Some Kind.Depth) None)))) ≡ None →
    (u ≡ false) × (x ≡ false) × (y ≡ false) × (z ≡ false)
fine_by true u x y z h = absurd (some_none Kind.Reserved h)
fine_by false true x y z h = absurd (some_none Kind.Unknown h)
fine_by false false true y z h = absurd (some_none Kind.Number h)
fine_by false false false true z h = absurd (some_none Kind.CellType h)
fine_by false false false false true h = absurd (some_none Kind.Depth h)
fine_by false false false false false h = (refl, refl, refl, refl)

at_most : (o : Option ℕ) (n most : ℕ) → Then o (λ n. nat_le n most ≡ true) → nat_le n most ≡ true → nat_le (unwrap_or o n) most ≡ true
at_most None n most h i = i
at_most (Some k) n most h i = h

at_least : (o : Option ℕ) (n : ℕ) → Then o (λ n. nat_le 1 n ≡ true) → nat_le 1 n ≡ true → nat_le 1 (unwrap_or o n) ≡ true
at_least None n h i = i
at_least (Some k) n h i = h

given : (o : Option ℕ) (n : ℕ) → is_some o ≡ false → (unwrap_or o n == n) ≡ true
given None n h = eq-eqb n n refl
given (Some k) n h = absurd (true≢false h)

unsorted : (ss : List Sort) → nat_lt 0 (length ss) ≡ false → (length ss == 0) ≡ true
unsorted [] h = refl
unsorted (s ∷ ss) h = absurd (true≢false (sym (lt-ltb 0 (suc (length ss)) (omega arith)) ∙ h))

all_counted : (f : Form) (s : Select) → (is_count s ≡ true → (lines.has_pages f || lines.is_sorted f) ≡ false) → counts_all (said_by f) s ≡ true
all_counted f Select.Count h =
    let both : (lines.has_pages f ≡ false) × (lines.is_sorted f ≡ false) = or_parts (lines.has_pages f) (lines.is_sorted f) (h refl) in
    let pages : (is_some f.offset ≡ false) × (is_some f.limit ≡ false) = or_parts (is_some f.offset) (is_some f.limit) both.0 in
    and_from (length f.order == 0) ((unwrap_or f.offset 0 == 0) && (unwrap_or f.limit 200 == 200)) (unsorted f.order both.1)
    (and_from (unwrap_or f.offset 0 == 0) (unwrap_or f.limit 200 == 200) (given f.offset 0 pages.0) (given f.limit 200 pages.1))
all_counted f Select.Ids h = refl
all_counted f (Select.Column c) h = refl

form_keeps : (m : List EntityDef) (f : Form) → kind_of f ≡ None → Ended m f → Keeps m (said_by f)
form_keeps m f e d =
    let fine : (f.unknown ≡ false) × (f.bad_number ≡ false) × (f.mistyped ≡ false) × (f.deep ≡ false) = fine_by (is_reserved f.name) f.unknown f.bad_number f.mistyped f.deep e in
    let b : Sound m f d.frames Place.Over = d.sound in
    let q : Said = said_by f in
    record {
      shallow = b.0.shallow fine.3;
      short = b.2.short fine.3;
      cut = and_from (nat_le q.offset 1000000) (nat_le 1 q.limit && (nat_le q.limit 200 && counts_all q q.select)) (at_most f.offset 0 1000000 b.2.offsets (le-leb 0 1000000 (omega arith)))
          (and_from (nat_le 1 q.limit) (nat_le q.limit 200 && counts_all q q.select) (at_least f.limit 200 (b.2.low fine.1) (le-leb 1 200 (omega arith)))
          (and_from (nat_le q.limit 200) (counts_all q q.select) (at_most f.limit 200 200 b.2.limits (le-leb 200 200 (omega arith))) (all_counted f f.select b.2.count)));
      fit = and_from (list_all (λ x. fits_part m q.entity x) q.parts) (list_all (λ s. fits_sort (columns m f.entity) s) q.order && fits_select (columns m f.entity) q.select) (b.1.parts fine.0 fine.2)
          (and_from (list_all (λ s. fits_sort (columns m f.entity) s) q.order) (fits_select (columns m f.entity) q.select) (b.1.sorts fine.0) (b.1.selects fine.0));
    }

unless_keeps : (m : List EntityDef) (f : Form) (k : Option Kind) → kind_of f ≡ k → Ended m f → Gives (unless_kind f k) (Keeps m)
unless_keeps m f (Some k) e d = tt
unless_keeps m f None e d = form_keeps m f e d

read_keeps : (m : List EntityDef) (o : Option Form) → Then o (Ended m) → Gives (read o) (Keeps m)
read_keeps m None d = tt
read_keeps m (Some f) d = gives_cond (are_whole f.nodes) (unless_kind f (kind_of f)) (Err Kind.Words) (Keeps m) (λ _. unless_keeps m f (kind_of f) refl d) (λ _. tt)

start_of : (m : List EntityDef) → Sound m lines.empty [] Place.Start
start_of m = (
  record { shallow = λ _. refl; state = refl },
  record { parts = λ _ _. refl; sorts = λ _. refl; selects = λ _. refl; head = λ _. (refl, refl, refl); at = tt },
  record { short = λ _. refl; offsets = tt; limits = tt; low = λ _. tt; early = λ _. refl; count = λ g. absurd (false≢true g) },
)

pub line_keeps : (m : List EntityDef) (ts : List Token) → are_lexed ts ≡ true → Gives (query_of m ts) (Keeps m)
line_keeps m ts l = read_keeps m (lines.form_of m ts) (tokens_sound m (lines.at lines.empty [] Place.Start) ts l (start_of m))
