-- The words and texts of printed queries, rows, statements and orders are those of the format.
use Rattle.std.proofs.Common.{◌≡◌, ℕ, ◌<◌, Bool, true, false, ◌&&◌, ◌==◌, nat_le, nat_lt, List, [], ◌∷◌, ◌++◌, length, map, flat_map, slice_get, codes, Some, None, Option, option_and_then, refl, ap, subst, eqb-true}
use Rattle.std.specs.Fmt.{decimal}
use Rattle.std.specs.List.{list_all}
use Rattle.std.proofs.lemmas.Bool.{and_parts, and_from, leb-true, ltb-true}
use Rattle.hib_base.specs.declared.numbers.Key.{Key}
use Rattle.hib_base.specs.declared.rows.Cell.{Cell}
use Rattle.hib_base.specs.declared.rows.Row.{Row}
use Rattle.hib_base.specs.declared.scripts.ColumnType.{ColumnType}
use Rattle.hib_base.specs.declared.scripts.ColumnDef.{ColumnDef}
use Rattle.hib_base.specs.declared.scripts.EntityDef.{EntityDef}
use Rattle.hib_base.specs.declared.scripts.Op.{Op}
use Rattle.hib_base.specs.declared.scripts.Path.{Path}
use Rattle.hib_base.specs.declared.scripts.Target.{Target}
use Rattle.hib_base.specs.declared.scripts.Cond.{Cond}
use Rattle.hib_base.specs.declared.scripts.Sort.{Sort}
use Rattle.hib_base.specs.declared.scripts.Select.{Select}
use Rattle.hib_base.specs.declared.scripts.Query.{Query}
use Rattle.hib_base.specs.declared.scripts.Mode.{Mode}
use Rattle.hib_base.specs.declared.scripts.Statement.{Statement}
use Rattle.hib_base.specs.declared.scripts.Order.{Order}
use Rattle.hib_base.specs.declared.scripts.Script.{Script}
use Rattle.hib_base.specs.Fits.{are_of_types, is_of_type_in, entity_columns, kind_in, type_at, type_through, type_led, type_of_path, is_key_in, is_set, are_sets, is_identifier, is_version, fits_entity, fits_statement, is_comparable, fits_part, fits_sort, fits_select}
use Rattle.hib_base.specs.Queries.{parts_in}
use Rattle.hib_base.specs.Scripts.{is_known, evicts_cached}
use Rattle.hib_base.specs.Valid.{is_order_in, is_given_version, is_short}
use Rattle.hib_base.specs.Words.{is_word, is_name, are_names}
use Rattle.hib_base.specs.Apart.{are_apart_by}
use Rattle.hib_lex.specs.declared.lexer.Token.{Token}
use Rattle.hib_print.specs.Lines as lines
use Rattle.hib_texts.specs.Texts.{entity_text, column_text}
use Rattle.hib_reads_back.proofs.Named.{none_some, got, name_word}
use Rattle.hib_reads_back.proofs.Cells.{Mapped}
use Rattle.hib_reads_back.proofs.Conditions.{Fitting, passed, typed_path, typed_cells, first_of_two, second_of_two}
use Rattle.hib_reads_back.proofs.Orders.{cached_there}
use Rattle.hib_reads_back.proofs.Queries.{Asked, sort_column}
use Rattle.hib_reads_back.proofs.Scanned.{all_joined}
use Rattle.hib_reads_back.proofs.Spelt.{is_worded, are_worded, is_worded_line, entity_word, column_word, query_word, session_word, version_is_word, cell_worded, cells_worded, row_cells_worded, key_worded}

-- ---- paths and conditions
target_worded : (s : Script) (e c : ℕ) (g : Target) (x k : ColumnType) → Mapped s.mapping → type_at (entity_columns s.mapping e) c ≡ Some x → type_through s.mapping g x ≡ Some k →
    is_worded (lines.path_token s e c (Some g)) ≡ true
target_worded s e c g ColumnType.Int k w t h = absurd (none_some k h)
target_worded s e c g ColumnType.Text k w t h = absurd (none_some k h)
target_worded s e c g ColumnType.Bool k w t h = absurd (none_some k h)
target_worded s e c g (ColumnType.Ref n) k w t h =
    let parts : ((n == g.entity) ≡ true) × (type_at (entity_columns s.mapping n) g.column ≡ Some k) = passed (n == g.entity) (type_at (entity_columns s.mapping n) g.column) k h in
    let kind : type_at (entity_columns s.mapping g.entity) g.column ≡ Some k = subst (λ i. type_at (entity_columns s.mapping i) g.column ≡ Some k) (eqb-true n g.entity parts.0) parts.1 in
    and_from (is_word (column_text s e c)) (is_word (column_text s g.entity g.column)) (column_word s e c (ColumnType.Ref n) w t) (column_word s g.entity g.column k w kind)

path_worded_by : (s : Script) (e c : ℕ) (g : Option Target) (o : Option ColumnType) (k : ColumnType) → Mapped s.mapping → type_at (entity_columns s.mapping e) c ≡ o → option_and_then (λ x. type_led s.mapping g x) o ≡ Some k →
    is_worded (lines.path_token s e c g) ≡ true
path_worded_by s e c g None k w t h = absurd (none_some k h)
path_worded_by s e c None (Some x) k w t h = column_word s e c x w t
path_worded_by s e c (Some g) (Some x) k w t h = target_worded s e c g x k w t h

path_worded : (s : Script) (e : ℕ) (p : Path) (k : ColumnType) → Mapped s.mapping → type_of_path s.mapping e p ≡ Some k → is_worded (lines.subject s e p) ≡ true
path_worded s e p k w h = path_worded_by s e p.column p.target (type_at (entity_columns s.mapping e) p.column) k w refl h

op_worded : (op : Op) → is_word (lines.op_text op) ≡ true
op_worded Op.Eq = refl
op_worded Op.Ne = refl
op_worded Op.Lt = refl
op_worded Op.Le = refl
op_worded Op.Gt = refl
op_worded Op.Ge = refl

condition_worded : (s : Script) (e : ℕ) (c : Cond) → Mapped s.mapping → Fitting s.mapping e c → are_worded (lines.condition_tokens s e c) ≡ true
condition_worded s e (Cond.And' p a q b) w f =
    let ta : List Token = lines.condition_tokens s e a in
    let tb : List Token = lines.condition_tokens s e b in
    all_joined is_worded (ta ++ tb) (Token.Right ∷ [])
    (all_joined is_worded ta tb (condition_worded s e a w (first_of_two s.mapping e a b f.fit f.short)) (condition_worded s e b w (second_of_two s.mapping e a b f.fit f.short))) refl
condition_worded s e (Cond.Or' p a q b) w f =
    let ta : List Token = lines.condition_tokens s e a in
    let tb : List Token = lines.condition_tokens s e b in
    all_joined is_worded (ta ++ tb) (Token.Right ∷ [])
    (all_joined is_worded ta tb (condition_worded s e a w (first_of_two s.mapping e a b f.fit f.short)) (condition_worded s e b w (second_of_two s.mapping e a b f.fit f.short))) refl
condition_worded s e (Cond.Not' p a) w f = all_joined is_worded (lines.condition_tokens s e a) (Token.Right ∷ []) (condition_worded s e a w (record { fit = f.fit; short = f.short })) refl
condition_worded s e (Cond.Test op p x) w f =
    let o : Option ColumnType = type_of_path s.mapping e p in
    let fit : (is_of_type_in o x && is_comparable op o) ≡ true = (and_parts (is_of_type_in o x && is_comparable op o) true f.fit).0 in
    let t = typed_path s.mapping e op p x o refl fit in
    let rest : is_worded (lines.cell_token x) ≡ true = cell_worded t.0 x t.1.1.0 in
    and_from (is_word (lines.op_text op)) (is_worded (lines.subject s e p) && (is_worded (lines.cell_token x) && true)) (op_worded op)
    (and_from (is_worded (lines.subject s e p)) (is_worded (lines.cell_token x) && true) (path_worded s e p t.0 w t.1.0) (and_from (is_worded (lines.cell_token x)) true rest refl))
condition_worded s e (Cond.Among p xs) w f =
    let o : Option ColumnType = type_of_path s.mapping e p in
    let fit : list_all (λ x. is_of_type_in o x) xs ≡ true = (and_parts (list_all (λ x. is_of_type_in o x) xs) true f.fit).0 in
    let short : (nat_le 1 (length xs) && nat_le (length xs) 64) ≡ true = (and_parts (nat_le 1 (length xs) && nat_le (length xs) 64) true f.short).0 in
    let size : (nat_le 1 (length xs) ≡ true) × (nat_le (length xs) 64 ≡ true) = and_parts (nat_le 1 (length xs)) (nat_le (length xs) 64) short in
    let t = typed_cells s.mapping e p xs o refl (leb-true 1 (length xs) size.0) fit in
    and_from (is_worded (lines.subject s e p)) (are_worded (lines.cell_tokens xs ++ Token.Right ∷ [])) (path_worded s e p t.0 w t.1.0)
    (all_joined is_worded (lines.cell_tokens xs) (Token.Right ∷ []) (cells_worded t.0 xs t.1.1) refl)

-- ---- queries
where_worded : (s : Script) (e : ℕ) (c : Option Cond) → Mapped s.mapping → ((x : Cond) → c ≡ Some x → Fitting s.mapping e x) → are_worded (lines.where_tokens s e c) ≡ true
where_worded s e None w f = refl
where_worded s e (Some c) w f = condition_worded s e c w (f c refl)

desc_worded : (d : Bool) → are_worded (lines.desc_tokens d) ≡ true
desc_worded true = refl
desc_worded false = refl

sorts_worded : (s : Script) (e : ℕ) (ss : List Sort) → Mapped s.mapping → list_all (λ x. fits_sort (entity_columns s.mapping e) x) ss ≡ true → are_worded (flat_map (λ x. lines.sort_tokens s e x) ss) ≡ true
sorts_worded s e [] w h = refl
sorts_worded s e (x ∷ xs) w h =
    let parts : (fits_sort (entity_columns s.mapping e) x ≡ true) × (list_all (λ y. fits_sort (entity_columns s.mapping e) y) xs ≡ true) =
    and_parts (fits_sort (entity_columns s.mapping e) x) (list_all (λ y. fits_sort (entity_columns s.mapping e) y) xs) h in
    let k = sort_column s e x parts.0 in
    all_joined is_worded (lines.sort_tokens s e x) (flat_map (λ y. lines.sort_tokens s e y) xs)
    (and_from (is_word (column_text s e x.column)) (are_worded (lines.desc_tokens x.desc)) (column_word s e x.column k.0 w k.1) (desc_worded x.desc)) (sorts_worded s e xs w parts.1)

order_worded : (s : Script) (e : ℕ) (ss : List Sort) → Mapped s.mapping → list_all (λ x. fits_sort (entity_columns s.mapping e) x) ss ≡ true → are_worded (lines.order_tokens s e ss) ≡ true
order_worded s e [] w h = refl
order_worded s e (x ∷ xs) w h = sorts_worded s e (x ∷ xs) w h

pages_worded : (t : Select) (a b : ℕ) → are_worded (lines.page_tokens t a b) ≡ true
pages_worded Select.Ids a b = refl
pages_worded Select.Count a b = refl
pages_worded (Select.Column c) a b = refl

select_worded : (s : Script) (e : ℕ) (t : Select) → Mapped s.mapping → fits_select (entity_columns s.mapping e) t ≡ true → are_worded (lines.select_tokens s e t) ≡ true
select_worded s e Select.Ids w h = refl
select_worded s e Select.Count w h = refl
select_worded s e (Select.Column c) w h =
    let g = got (entity_columns s.mapping e) c (ltb-true c (length (entity_columns s.mapping e)) h) in
    and_from (is_word (column_text s e c)) true (column_word s e c g.value.kind w (ap (λ o. kind_in o) g.there)) refl

cached_worded : (b : Bool) → are_worded (lines.cached_tokens b) ≡ true
cached_worded true = refl
cached_worded false = refl

pub query_worded : (s : Script) (q : Query) → Mapped s.mapping → Asked s q → is_name q.name ≡ true → is_worded_line (lines.query_line s q) ≡ true
query_worded s q w a h =
    let m : List EntityDef = s.mapping in
    let fit : (list_all (λ x. fits_part m q.entity x) (parts_in q.condition) ≡ true) ×
    ((list_all (λ x. fits_sort (entity_columns m q.entity) x) q.order && fits_select (entity_columns m q.entity) q.select) ≡ true) =
    and_parts (list_all (λ x. fits_part m q.entity x) (parts_in q.condition)) (list_all (λ x. fits_sort (entity_columns m q.entity) x) q.order && fits_select (entity_columns m q.entity) q.select) a.fit in
    let rest : (list_all (λ x. fits_sort (entity_columns m q.entity) x) q.order ≡ true) × (fits_select (entity_columns m q.entity) q.select ≡ true) =
    and_parts (list_all (λ x. fits_sort (entity_columns m q.entity) x) q.order) (fits_select (entity_columns m q.entity) q.select) fit.1 in
    let fitting : (x : Cond) → q.condition ≡ Some x → Fitting m q.entity x = λ (x : Cond) (e : q.condition ≡ Some x). record {
      fit = subst (λ o. list_all (λ y. fits_part m q.entity y) (parts_in o) ≡ true) e fit.0;
      short = subst (λ o. list_all is_short (parts_in o) ≡ true) e a.short;
    } in
    let t1 : List Token = Token.Word q.name ∷ lines.cached_tokens q.cached in
    let t2 : List Token = lines.from_tokens s q.entity in
    let t3 : List Token = lines.where_tokens s q.entity q.condition in
    let t4 : List Token = lines.order_tokens s q.entity q.order in
    let t5 : List Token = lines.page_tokens q.select q.offset q.limit in
    let t6 : List Token = lines.select_tokens s q.entity q.select in
    all_joined is_worded ((((t1 ++ t2) ++ t3) ++ t4) ++ t5) t6
    (all_joined is_worded (((t1 ++ t2) ++ t3) ++ t4) t5
    (all_joined is_worded ((t1 ++ t2) ++ t3) t4
    (all_joined is_worded (t1 ++ t2) t3
    (all_joined is_worded t1 t2
    (and_from (is_word q.name) (are_worded (lines.cached_tokens q.cached)) (name_word q.name h) (cached_worded q.cached)) (and_from (is_word (entity_text s q.entity)) true (entity_word s q.entity w a.declared) refl))
    (where_worded s q.entity q.condition w fitting)) (order_worded s q.entity q.order w rest.0)) (pages_worded q.select q.offset q.limit)) (select_worded s q.entity q.select w rest.1)

-- ---- rows
versions_worded : (v : Option ℕ) → is_given_version v ≡ true → are_worded (lines.version_tokens v) ≡ true
versions_worded None h = refl
versions_worded (Some v) h = and_from (is_word (codes "v" ++ decimal v)) true (version_is_word v (leb-true v 1000000 h)) refl

pub row_worded : (s : Script) (x : Key × Row) → Mapped s.mapping → x.0.entity < length s.mapping → fits_entity (slice_get s.mapping x.0.entity) x.0 x.1 ≡ true → is_given_version x.1.version ≡ true →
    is_worded_line (lines.row_line s x) ≡ true
row_worded s x w low fit given =
    let g = got s.mapping x.0.entity low in
    let d : EntityDef = g.value in
    let fits : fits_entity (Some d) x.0 x.1 ≡ true = subst (λ o. fits_entity o x.0 x.1 ≡ true) g.there fit in
    let parts : (is_identifier x.0.id ≡ true) × ((is_version d.versioned x.1.version && are_of_types d.columns x.1.cells) ≡ true) =
    and_parts (is_identifier x.0.id) (is_version d.versioned x.1.version && are_of_types d.columns x.1.cells) fits in
    let rest : (is_version d.versioned x.1.version ≡ true) × (are_of_types d.columns x.1.cells ≡ true) = and_parts (is_version d.versioned x.1.version) (are_of_types d.columns x.1.cells) parts.1 in
    all_joined is_worded (lines.key_tokens s x.0 ++ lines.version_tokens x.1.version) (lines.cell_tokens x.1.cells)
    (all_joined is_worded (lines.key_tokens s x.0) (lines.version_tokens x.1.version) (key_worded s x.0 w low) (versions_worded x.1.version given)) (row_cells_worded d.columns x.1.cells rest.1)

-- ---- statements
key_there : (s : Script) (k : Key) → Mapped s.mapping → is_key_in s.mapping k ≡ true → are_worded (lines.key_tokens s k) ≡ true
key_there s k w h = key_worded s k w (ltb-true k.entity (length s.mapping) (and_parts (nat_lt k.entity (length s.mapping)) (is_identifier k.id) h).0)

entity_cells_worded : (s : Script) (e : ℕ) (cs : List Cell) → are_of_types (entity_columns s.mapping e) cs ≡ true → are_worded (lines.cell_tokens cs) ≡ true
entity_cells_worded s e cs h = row_cells_worded (entity_columns s.mapping e) cs h

set_worded : (s : Script) (e : ℕ) (x : ℕ × Cell) → Mapped s.mapping → is_set (entity_columns s.mapping e) x ≡ true → are_worded (lines.set_tokens s e x) ≡ true
set_worded s e x w h = by_type (type_at (entity_columns s.mapping e) x.0) refl h
  where
    by_type : (o : Option ColumnType) → type_at (entity_columns s.mapping e) x.0 ≡ o → is_of_type_in o x.1 ≡ true → are_worded (lines.set_tokens s e x) ≡ true
    by_type None t h = absurd (cc)
    by_type (Some k) t h =
        and_from (is_word (column_text s e x.0)) (is_worded (lines.cell_token x.1) && true) (column_word s e x.0 k w t) (and_from (is_worded (lines.cell_token x.1)) true (cell_worded k x.1 h) refl)

sets_worded : (s : Script) (e : ℕ) (xs : List (ℕ × Cell)) → Mapped s.mapping → list_all (λ x. is_set (entity_columns s.mapping e) x) xs ≡ true → are_worded (flat_map (λ x. lines.set_tokens s e x) xs) ≡ true
sets_worded s e [] w h = refl
sets_worded s e (x ∷ xs) w h =
    let parts : (is_set (entity_columns s.mapping e) x ≡ true) × (list_all (λ y. is_set (entity_columns s.mapping e) y) xs ≡ true) =
    and_parts (is_set (entity_columns s.mapping e) x) (list_all (λ y. is_set (entity_columns s.mapping e) y) xs) h in
    all_joined is_worded (lines.set_tokens s e x) (flat_map (λ y. lines.set_tokens s e y) xs) (set_worded s e x w parts.0) (sets_worded s e xs w parts.1)

mode_worded : (m : Mode) → is_word (lines.mode_text m) ≡ true
mode_worded Mode.Normal = refl
mode_worded Mode.Ignore = refl
mode_worded Mode.Get = refl
mode_worded Mode.Put = refl

pub statement_worded : (s : Script) (t : Statement) → Mapped s.mapping → are_names (map (λ q. q.name) s.queries) ≡ true → fits_statement s.mapping t ≡ true → is_known (length s.queries) t ≡ true →
    is_worded_line (lines.statement_line s t) ≡ true
statement_worded s (Statement.Find k) w names h g = key_there s k w h
statement_worded s (Statement.Persist k cs) w names h g =
    let parts : (is_key_in s.mapping k ≡ true) × (are_of_types (entity_columns s.mapping k.entity) cs ≡ true) = and_parts (is_key_in s.mapping k) (are_of_types (entity_columns s.mapping k.entity) cs) h in
    all_joined is_worded (lines.key_tokens s k) (lines.cell_tokens cs) (key_there s k w parts.0) (entity_cells_worded s k.entity cs parts.1)
statement_worded s (Statement.Set k xs) w names h g =
    let columns : List ColumnDef = entity_columns s.mapping k.entity in
    let parts : (is_key_in s.mapping k ≡ true) × (are_sets columns xs ≡ true) = and_parts (is_key_in s.mapping k) (are_sets columns xs) h in
    let some : (nat_le 1 (length xs) ≡ true) × ((list_all (λ x. is_set columns x) xs && are_apart_by (λ c d. c == d) (map (λ x. x.0) xs)) ≡ true) =
    and_parts (nat_le 1 (length xs)) (list_all (λ x. is_set columns x) xs && are_apart_by (λ c d. c == d) (map (λ x. x.0) xs)) parts.1 in
    let sets : list_all (λ x. is_set columns x) xs ≡ true = (and_parts (list_all (λ x. is_set columns x) xs) (are_apart_by (λ c d. c == d) (map (λ x. x.0) xs)) some.1).0 in
    all_joined is_worded (lines.key_tokens s k) (flat_map (λ x. lines.set_tokens s k.entity x) xs) (key_there s k w parts.0) (sets_worded s k.entity xs w sets)
statement_worded s (Statement.Remove k) w names h g = key_there s k w h
statement_worded s (Statement.List q) w names h g = rw (query_word s q names (ltb-true q (length s.queries) g)) refl
statement_worded s Statement.Flush w names h g = refl
statement_worded s Statement.Clear w names h g = refl
statement_worded s (Statement.Mode m) w names h g = rw (mode_worded m) refl
statement_worded s Statement.Commit w names h g = refl
statement_worded s Statement.Rollback w names h g = refl

-- ---- orders
pub order_line_worded : (s : Script) (o : Order) → Mapped s.mapping → are_names (map (λ d. d.name) s.sessions) ≡ true → is_order_in (length s.sessions) o ≡ true → evicts_cached s.mapping o ≡ true →
    is_worded_line (lines.order_line s o) ≡ true
order_line_worded s (Order.Run n k) w names h c =
    rw (session_word s n names (ltb-true n (length s.sessions) (and_parts (nat_lt n (length s.sessions)) (nat_le 1 k && nat_le k 1000000) h).0)) refl
order_line_worded s (Order.Kill n) w names h c = rw (session_word s n names (ltb-true n (length s.sessions) h)) refl
order_line_worded s (Order.Evict k) w names h c = key_worded s k w (cached_there s.mapping k.entity c)
order_line_worded s Order.Restart w names h c = refl
