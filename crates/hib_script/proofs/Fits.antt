-- What is read of rows, queries, statements and orders fits the mapping that was read so far, and keeps its limits.
use Rattle.std.proofs.Common.{◌≡◌, ℕ, ◌+◌, ◌<◌, arith, Bool, true, false, cond, ◌&&◌, ◌==◌, nat_lt, nat_le, List, [], ◌∷◌, ◌++◌, length, map, Option, Some, None, refl, sym, ◌∙◌, subst, eq-eqb, length-append}
use Rattle.std.specs.Prelude.{slice_get, option_and_then}
use Rattle.std.specs.List.{list_all, list_any}
use Rattle.std.proofs.lemmas.Bool.{and_parts, and_from, or_parts, or_from, eqb-true, ltb-true, false≢true, false_from_ne_true}
use Rattle.hib_base.specs.Apart.{are_apart_by}
use Rattle.hib_base.specs.Fits.{is_identifier, is_of_type_in, are_of_types, columns_in, entity_columns, type_at, is_key_in, are_sets, fits_statement, type_led, type_of_path, is_comparable, fits_part, fits_sort, fits_select, fits_query}
use Rattle.hib_base.specs.Keys.{same_key}
use Rattle.hib_base.specs.Queries.{Said}
use Rattle.hib_base.specs.Valid.{is_given, is_short, is_cut, is_order_in}
use Rattle.hib_base.specs.declared.numbers.Key.{Key}
use Rattle.hib_base.specs.declared.rows.Cell.{Cell}
use Rattle.hib_base.specs.declared.rows.Row.{Row}
use Rattle.hib_base.specs.declared.scripts.ColumnDef.{ColumnDef}
use Rattle.hib_base.specs.declared.scripts.ColumnType.{ColumnType}
use Rattle.hib_base.specs.declared.scripts.EntityDef.{EntityDef}
use Rattle.hib_base.specs.declared.scripts.Node.{Node}
use Rattle.hib_base.specs.declared.scripts.Order.{Order}
use Rattle.hib_base.specs.declared.scripts.Path.{Path}
use Rattle.hib_base.specs.declared.scripts.Select.{Select}
use Rattle.hib_base.specs.declared.scripts.SessionDef.{SessionDef}
use Rattle.hib_base.specs.declared.scripts.Statement.{Statement}
use Rattle.hib_base.specs.declared.scripts.Target.{Target}
use Rattle.hib_base.proofs.Lists.{all_more, all_weaker, some_none, get_more}
use Rattle.hib_base.proofs.Names.{apart_by_more}
use Rattle.hib_criteria.proofs.Depth.{are_shallow}
use Rattle.hib_criteria.proofs.Sound as sound
use Rattle.hib_base.proofs.Columns.{lt_more}
use Rattle.hib_script.specs.Lines.{with_open}
use Rattle.hib_script.specs.declared.places.Place.{Place}
use Rattle.hib_statements.specs.Rows.{has_key}
use Rattle.hib_statements.proofs.Fitting.{absent}

-- ---- what is kept
abbrev pub fit_statements : List EntityDef → List Statement → Bool
fit_statements m ts = list_all (λ t. fits_statement m t) ts

abbrev pub open_fits : List EntityDef → Place → Bool
open_fits m (Place.Session s) = fit_statements m s.statements
open_fits m _ = true

abbrev pub IsRows : List (Key × Row) → Type 0
IsRows rows = (list_all is_given rows ≡ true) × (are_apart_by same_key (map (λ x. x.0) rows) ≡ true)

pub record IsQueries (m : List EntityDef) (qs : List Said) : Type 0 where
  pub shallow : list_all (λ q. are_shallow [] q.parts) qs ≡ true
  pub short : list_all (λ q. list_all is_short q.parts) qs ≡ true
  pub cut : list_all is_cut qs ≡ true
  pub fit : list_all (λ q. fits_query m q) qs ≡ true

pub record Fitting (m : List EntityDef) (rows : List (Key × Row)) (qs : List Said) (ss : List SessionDef) (p : Place) (os : List Order) : Type 0 where
  pub rows_so : IsRows rows
  pub queries : IsQueries m qs
  pub statements : list_all (λ d. fit_statements m d.statements) ss ≡ true
  pub opened : open_fits m p ≡ true
  pub orders : list_all (λ o. is_order_in (length ss) o) os ≡ true

-- at another place
pub fitting_at : (m : List EntityDef) (rows : List (Key × Row)) (qs : List Said) (ss : List SessionDef) (p q : Place) (os : List Order) → Fitting m rows qs ss p os → open_fits m q ≡ true → Fitting m rows qs ss q os
fitting_at m rows qs ss p q os k h = record { rows_so = k.rows_so; queries = k.queries; statements = k.statements; opened = h; orders = k.orders }

-- ---- one entity more
slot_more : (m : List EntityDef) (d : EntityDef) (e c : ℕ) (k : ColumnType) → type_at (entity_columns m e) c ≡ Some k → type_at (entity_columns (m ++ d ∷ []) e) c ≡ Some k
slot_more m d e c k h = by_slot (slice_get m e) refl h
  where
    by_slot : (o : Option EntityDef) → slice_get m e ≡ o → type_at (columns_in o) c ≡ Some k → type_at (entity_columns (m ++ d ∷ []) e) c ≡ Some k
    by_slot None f g = absurd (some_none k (sym g))
    by_slot (Some x) f g = subst (λ o. type_at (columns_in o) c ≡ Some k) (sym (get_more m (d ∷ []) e x f)) g

led_more : (m : List EntityDef) (d : EntityDef) (g : Option Target) (j k : ColumnType) → type_led m g j ≡ Some k → type_led (m ++ d ∷ []) g j ≡ Some k
led_more m d None j k h = h
led_more m d (Some g) (ColumnType.Ref n) k h = by_test (n == g.entity) h
  where
    by_test : (b : Bool) → cond b (type_at (entity_columns m n) g.column) None ≡ Some k → cond b (type_at (entity_columns (m ++ d ∷ []) n) g.column) None ≡ Some k
    by_test true f = slot_more m d n g.column k f
    by_test false f = absurd (some_none k (sym f))
led_more m d (Some g) ColumnType.Int k h = absurd (some_none k (sym h))
led_more m d (Some g) ColumnType.Text k h = absurd (some_none k (sym h))
led_more m d (Some g) ColumnType.Bool k h = absurd (some_none k (sym h))

path_more : (m : List EntityDef) (d : EntityDef) (e : ℕ) (p : Path) (k : ColumnType) → type_of_path m e p ≡ Some k → type_of_path (m ++ d ∷ []) e p ≡ Some k
path_more m d e p k h = by_first (type_at (entity_columns m e) p.column) refl h
  where
    by_first : (o : Option ColumnType) → type_at (entity_columns m e) p.column ≡ o → option_and_then (λ j. type_led m p.target j) o ≡ Some k → type_of_path (m ++ d ∷ []) e p ≡ Some k
    by_first None f g = absurd (some_none k (sym g))
    by_first (Some j) f g = subst (λ o. option_and_then (λ j. type_led (m ++ d ∷ []) p.target j) o ≡ Some k) (sym (slot_more m d e p.column j f)) (led_more m d p.target j k g)

typed_more : (m : List EntityDef) (d : EntityDef) (e : ℕ) (p : Path) (c : Cell) → is_of_type_in (type_of_path m e p) c ≡ true → is_of_type_in (type_of_path (m ++ d ∷ []) e p) c ≡ true
typed_more m d e p c h = by_type (type_of_path m e p) refl h
  where
    by_type : (o : Option ColumnType) → type_of_path m e p ≡ o → is_of_type_in o c ≡ true → is_of_type_in (type_of_path (m ++ d ∷ []) e p) c ≡ true
    by_type None f g = absurd (false≢true g)
    by_type (Some k) f g = subst (λ o. is_of_type_in o c ≡ true) (sym (path_more m d e p k f)) g

part_more : (m : List EntityDef) (d : EntityDef) (e : ℕ) (x : Node) → fits_part m e x ≡ true → fits_part (m ++ d ∷ []) e x ≡ true
part_more m d e (Node.Test op p c) h = by_type (type_of_path m e p) refl h
  where
    by_type : (o : Option ColumnType) → type_of_path m e p ≡ o → (is_of_type_in o c && is_comparable op o) ≡ true →
        (is_of_type_in (type_of_path (m ++ d ∷ []) e p) c && is_comparable op (type_of_path (m ++ d ∷ []) e p)) ≡ true
    by_type None f g = absurd (false≢true g)
    by_type (Some k) f g = subst (λ o. (is_of_type_in o c && is_comparable op o) ≡ true) (sym (path_more m d e p k f)) g
part_more m d e (Node.Among p cs) h =
    all_weaker (λ c. is_of_type_in (type_of_path m e p) c) (λ c. is_of_type_in (type_of_path (m ++ d ∷ []) e p) c) cs (λ c g. typed_more m d e p c g) h
part_more m d e Node.And h = refl
part_more m d e Node.Or h = refl
part_more m d e Node.Not h = refl

below_more : (m : List EntityDef) (d : EntityDef) (e c : ℕ) → nat_lt c (length (entity_columns m e)) ≡ true → nat_lt c (length (entity_columns (m ++ d ∷ []) e)) ≡ true
below_more m d e c h = by_slot (slice_get m e) refl h
  where
    by_slot : (o : Option EntityDef) → slice_get m e ≡ o → nat_lt c (length (columns_in o)) ≡ true → nat_lt c (length (entity_columns (m ++ d ∷ []) e)) ≡ true
    by_slot None f g = let l : c < 0 = ltb-true c 0 g in absurd (omega (arith, l))
    by_slot (Some x) f g = subst (λ o. nat_lt c (length (columns_in o)) ≡ true) (sym (get_more m (d ∷ []) e x f)) g

select_more : (m : List EntityDef) (d : EntityDef) (e : ℕ) (s : Select) → fits_select (entity_columns m e) s ≡ true → fits_select (entity_columns (m ++ d ∷ []) e) s ≡ true
select_more m d e (Select.Column c) h = below_more m d e c h
select_more m d e Select.Ids h = refl
select_more m d e Select.Count h = refl

query_more : (m : List EntityDef) (d : EntityDef) (q : Said) → fits_query m q ≡ true → fits_query (m ++ d ∷ []) q ≡ true
query_more m d q h =
    let e : ℕ = q.entity in
    let n : List EntityDef = m ++ d ∷ [] in
    let a : (list_all (λ x. fits_part m e x) q.parts ≡ true) × ((list_all (λ s. fits_sort (entity_columns m e) s) q.order && fits_select (entity_columns m e) q.select) ≡ true) =
    and_parts (list_all (λ x. fits_part m e x) q.parts) (list_all (λ s. fits_sort (entity_columns m e) s) q.order && fits_select (entity_columns m e) q.select) h in
    let b : (list_all (λ s. fits_sort (entity_columns m e) s) q.order ≡ true) × (fits_select (entity_columns m e) q.select ≡ true) =
    and_parts (list_all (λ s. fits_sort (entity_columns m e) s) q.order) (fits_select (entity_columns m e) q.select) a.1 in
    and_from (list_all (λ x. fits_part n e x) q.parts) (list_all (λ s. fits_sort (entity_columns n e) s) q.order && fits_select (entity_columns n e) q.select)
    (all_weaker (λ x. fits_part m e x) (λ x. fits_part n e x) q.parts (λ x g. part_more m d e x g) a.0)
    (and_from (list_all (λ s. fits_sort (entity_columns n e) s) q.order) (fits_select (entity_columns n e) q.select)
    (all_weaker (λ s. fits_sort (entity_columns m e) s) (λ s. fits_sort (entity_columns n e) s) q.order (λ s g. below_more m d e s.column g) b.0)
    (select_more m d e q.select b.1))

key_more : (m : List EntityDef) (d : EntityDef) (k : Key) → is_key_in m k ≡ true → is_key_in (m ++ d ∷ []) k ≡ true
key_more m d k h =
    let both : (nat_lt k.entity (length m) ≡ true) × (is_identifier k.id ≡ true) = and_parts (nat_lt k.entity (length m)) (is_identifier k.id) h in
    and_from (nat_lt k.entity (length (m ++ d ∷ []))) (is_identifier k.id) (subst (λ n. nat_lt k.entity n ≡ true) (sym (length-append m (d ∷ []))) (lt_more k.entity (length m) 1 both.0)) both.1

-- the columns of an entity that is there
columns_more : (m : List EntityDef) (d : EntityDef) (k : Key) → is_key_in m k ≡ true → entity_columns (m ++ d ∷ []) k.entity ≡ entity_columns m k.entity
columns_more m d k h = by_slot (slice_get m k.entity) refl
  where
    below : nat_lt k.entity (length m) ≡ true
    below = (and_parts (nat_lt k.entity (length m)) (is_identifier k.id) h).0

    by_slot : (o : Option EntityDef) → slice_get m k.entity ≡ o → entity_columns (m ++ d ∷ []) k.entity ≡ columns_in o
    by_slot None f = absurd (absent m k.entity below f)
    by_slot (Some x) f = subst (λ o. columns_in o ≡ x.columns) (sym (get_more m (d ∷ []) k.entity x f)) refl

statement_fits_more : (m : List EntityDef) (d : EntityDef) (t : Statement) → fits_statement m t ≡ true → fits_statement (m ++ d ∷ []) t ≡ true
statement_fits_more m d (Statement.Find k) h = key_more m d k h
statement_fits_more m d (Statement.Persist k cs) h =
    let both : (is_key_in m k ≡ true) × (are_of_types (entity_columns m k.entity) cs ≡ true) = and_parts (is_key_in m k) (are_of_types (entity_columns m k.entity) cs) h in
    and_from (is_key_in (m ++ d ∷ []) k) (are_of_types (entity_columns (m ++ d ∷ []) k.entity) cs) (key_more m d k both.0) (subst (λ (ds : List ColumnDef). are_of_types ds cs ≡ true) (sym (columns_more m d k both.0)) both.1)
statement_fits_more m d (Statement.Set k xs) h =
    let both : (is_key_in m k ≡ true) × (are_sets (entity_columns m k.entity) xs ≡ true) = and_parts (is_key_in m k) (are_sets (entity_columns m k.entity) xs) h in
    and_from (is_key_in (m ++ d ∷ []) k) (are_sets (entity_columns (m ++ d ∷ []) k.entity) xs) (key_more m d k both.0) (subst (λ (ds : List ColumnDef). are_sets ds xs ≡ true) (sym (columns_more m d k both.0)) both.1)
statement_fits_more m d (Statement.Remove k) h = key_more m d k h
statement_fits_more m d (Statement.List q) h = refl
statement_fits_more m d Statement.Flush h = refl
statement_fits_more m d Statement.Clear h = refl
statement_fits_more m d (Statement.Mode x) h = refl
statement_fits_more m d Statement.Commit h = refl
statement_fits_more m d Statement.Rollback h = refl

all_fit_more : (m : List EntityDef) (d : EntityDef) (ts : List Statement) → fit_statements m ts ≡ true → fit_statements (m ++ d ∷ []) ts ≡ true
all_fit_more m d ts h = all_weaker (λ t. fits_statement m t) (λ t. fits_statement (m ++ d ∷ []) t) ts (λ t g. statement_fits_more m d t g) h

open_fits_more : (m : List EntityDef) (d : EntityDef) (p : Place) → open_fits m p ≡ true → open_fits (m ++ d ∷ []) p ≡ true
open_fits_more m d (Place.Session s) h = all_fit_more m d s.statements h
open_fits_more m d Place.Start h = refl
open_fits_more m d (Place.Behind p) h = refl
open_fits_more m d Place.Schedule h = refl

pub fitting_closed : (m : List EntityDef) (e : Option EntityDef) (rows : List (Key × Row)) (qs : List Said) (ss : List SessionDef) (p : Place) (os : List Order) → Fitting m rows qs ss p os → Fitting (with_open m e) rows qs ss p os
fitting_closed m None rows qs ss p os k = k
fitting_closed m (Some d) rows qs ss p os k = record {
  rows_so = k.rows_so;
  queries = record {
    shallow = k.queries.shallow;
    short = k.queries.short;
    cut = k.queries.cut;
    fit = all_weaker (λ q. fits_query m q) (λ q. fits_query (m ++ d ∷ []) q) qs (λ q h. query_more m d q h) k.queries.fit;
  };
  statements = all_weaker (λ (s : SessionDef). fit_statements m s.statements) (λ (s : SessionDef). fit_statements (m ++ d ∷ []) s.statements) ss (λ s h. all_fit_more m d s.statements h) k.statements;
  opened = open_fits_more m d p k.opened;
  orders = k.orders;
}

-- ---- one row, query, statement, session or order more
same : (n : ℕ) → (n == n) ≡ true
same n = eq-eqb n n refl

map_more : (rows : List (Key × Row)) (x : Key × Row) → map (λ x. x.0) (rows ++ x ∷ []) ≡ map (λ x. x.0) rows ++ x.0 ∷ []
map_more [] x = refl
map_more (r ∷ rows) x = rw (map_more rows x) refl

none_mapped : (rows : List (Key × Row)) (k : Key) → has_key rows k ≡ false → list_any (λ j. same_key j k) (map (λ x. x.0) rows) ≡ false
none_mapped [] k h = refl
none_mapped (r ∷ rows) k h =
    let both : (same_key r.0 k ≡ false) × (has_key rows k ≡ false) = or_parts (same_key r.0 k) (has_key rows k) h in
    or_from (same_key r.0 k) (list_any (λ j. same_key j k) (map (λ x. x.0) rows)) both.0 (none_mapped rows k both.1)

turned : (j k : Key) → same_key j k ≡ false → same_key k j ≡ false
turned j k h = false_from_ne_true (same_key k j) (λ e.
    let both : ((k.entity == j.entity) ≡ true) × ((k.id == j.id) ≡ true) = and_parts (k.entity == j.entity) (k.id == j.id) e in
    let a : k.entity ≡ j.entity = eqb-true k.entity j.entity both.0 in
    let b : k.id ≡ j.id = eqb-true k.id j.id both.1 in
    false≢true (sym h ∙ subst (λ n. ((j.entity == n) && (j.id == k.id)) ≡ true) (sym a) (subst (λ n. ((j.entity == j.entity) && (j.id == n)) ≡ true) (sym b) (and_from (j.entity == j.entity) (j.id == j.id) (same j.entity) (same j.id)))))

pub rows_more : (rows : List (Key × Row)) (x : Key × Row) → IsRows rows → is_given x ≡ true → has_key rows x.0 ≡ false → IsRows (rows ++ x ∷ [])
rows_more rows x k g f = (
  all_more is_given rows x k.0 g,
  subst (λ (ks : List Key). are_apart_by same_key ks ≡ true) (sym (map_more rows x)) (apart_by_more same_key (map (λ x. x.0) rows) x.0 turned k.1 (none_mapped rows x.0 f)),
)

pub queries_more : (m : List EntityDef) (qs : List Said) (q : Said) → IsQueries m qs → sound.Keeps m q → IsQueries m (qs ++ q ∷ [])
queries_more m qs q k s = record {
  shallow = all_more (λ (q : Said). are_shallow [] q.parts) qs q k.shallow s.shallow;
  short = all_more (λ (q : Said). list_all is_short q.parts) qs q k.short s.short;
  cut = all_more is_cut qs q k.cut s.cut;
  fit = all_more (λ q. fits_query m q) qs q k.fit s.fit;
}

-- one session more
order_more : (n : ℕ) (o : Order) → is_order_in n o ≡ true → is_order_in (n + 1) o ≡ true
order_more n (Order.Run s steps) h =
    let both : (nat_lt s n ≡ true) × ((nat_le 1 steps && nat_le steps 1000000) ≡ true) = and_parts (nat_lt s n) (nat_le 1 steps && nat_le steps 1000000) h in
    and_from (nat_lt s (n + 1)) (nat_le 1 steps && nat_le steps 1000000) (lt_more s n 1 both.0) both.1
order_more n (Order.Kill s) h = lt_more s n 1 h
order_more n (Order.Evict k) h = h
order_more n Order.Restart h = refl

pub session_fitting : (m : List EntityDef) (rows : List (Key × Row)) (qs : List Said) (ss : List SessionDef) (s : SessionDef) (q : Place) (os : List Order) →
    Fitting m rows qs ss (Place.Session s) os → open_fits m q ≡ true → Fitting m rows qs (ss ++ s ∷ []) q os
session_fitting m rows qs ss s q os k h = record {
  rows_so = k.rows_so;
  queries = k.queries;
  statements = all_more (λ (d : SessionDef). fit_statements m d.statements) ss s k.statements k.opened;
  opened = h;
  orders = subst (λ n. list_all (λ o. is_order_in n o) os ≡ true) (sym (length-append ss (s ∷ []))) (all_weaker (λ o. is_order_in (length ss) o) (λ o. is_order_in (length ss + 1) o) os (λ o g. order_more (length ss) o g) k.orders);
}
