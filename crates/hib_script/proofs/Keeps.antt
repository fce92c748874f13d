-- What is kept of a script as far as it was read, part by part.
use Rattle.std.proofs.Common.{◌≡◌, ℕ, ◌+◌, ◌≤◌, Bool, true, false, List, [], ◌∷◌, ◌++◌, length, map, nat_le, bytes_eq, Option, Some, None, refl, sym, ◌∙◌, ap, subst, length-append}
use Rattle.std.specs.Prelude.{slice_get}
use Rattle.std.specs.List.{list_all, list_any}
use Rattle.std.proofs.lemmas.Bool.{and_parts, and_from, ltb-true, false≢true}
use Rattle.hib_base.specs.declared.numbers.Key.{Key}
use Rattle.hib_base.specs.declared.rows.Row.{Row}
use Rattle.hib_base.specs.declared.scripts.EntityDef.{EntityDef}
use Rattle.hib_base.specs.declared.scripts.Order.{Order}
use Rattle.hib_base.specs.declared.scripts.SessionDef.{SessionDef}
use Rattle.hib_base.specs.declared.scripts.Statement.{Statement}
use Rattle.hib_base.specs.Fits.{fits_entity, fits}
use Rattle.hib_base.specs.Words.{is_reserved, is_name, has_name, are_names}
use Rattle.hib_base.specs.Scripts.{is_row_below, strategy_in, is_cached_by, is_over, statement_count, is_known, lists_known, evicts_cached}
use Rattle.hib_base.specs.Valid.{max_entities, max_rows, max_queries, max_sessions, max_statements, max_orders, are_columns, have_columns, is_capacity, is_entity}
use Rattle.hib_base.proofs.Gives.{Then}
use Rattle.hib_base.proofs.Lists.{all_more, all_weaker, get_more, get_below}
use Rattle.hib_base.proofs.Names.{named_more, has_mapped}
use Rattle.hib_criteria.specs.Query.{Said}
use Rattle.hib_lex.specs.declared.lexer.Token.{Token}
use Rattle.hib_lex.proofs.Lexed.{are_lexed}
use Rattle.hib_mapping.specs.Parts.{word_of, name_in}
use Rattle.hib_script.specs.Outline.{query_names}
use Rattle.hib_criteria.proofs.Declared.{IsLineOf, is_said_below, said_more, are_types_below, are_linked}
use Rattle.hib_base.proofs.Columns.{columns_of, all_columns, one_more_columns, lt_more}
use Rattle.hib_mapping.proofs.Columns.{name_from, second_lexed}
use Rattle.hib_script.specs.Lines.{with_open}
use Rattle.hib_script.specs.Lines.{Reader}
use Rattle.hib_script.specs.declared.places.Place.{Place}
use Rattle.hib_script.proofs.Fits.{Fitting}

-- ---- the parts
-- a number from 1 on
abbrev pub IsLimit : ℕ → ℕ → Type 0
IsLimit most n = (1 ≤ n) × (n ≤ most)

-- the entities that are finished, and the one whose columns are read
pub record HasEntities (m : List EntityDef) (e : Option EntityDef) : Type 0 where
  pub few : length (with_open m e) ≤ max_entities
  pub closed : have_columns 0 m ≡ true
  pub opened : Then e (λ d. are_columns (length m + 1) d ≡ true)
  pub bounded : list_all is_entity m ≡ true
  pub roomy : Then e (λ d. is_capacity d.strategy d.capacity ≡ true)
  pub names : are_names (map (λ d. d.name) m) ≡ true
  pub named : Then e (λ d. (is_name d.name ≡ true) × (list_any (λ x. bytes_eq x.name d.name) m ≡ false))

pub record HasRows (m : List EntityDef) (rows : List (Key × Row)) : Type 0 where
  pub few : length rows ≤ max_rows
  pub below : list_all (λ x. is_row_below (length m) x) rows ≡ true
  pub fit : fits m rows ≡ true

pub record HasQueries (m : List EntityDef) (qs : List Said) : Type 0 where
  pub few : length qs ≤ max_queries
  pub below : list_all (λ q. is_said_below (length m) q) qs ≡ true
  pub names : are_names (map (λ q. q.name) qs) ≡ true

-- the session that is read, if there is one
abbrev pub open_sessions : Place → ℕ
open_sessions (Place.Session s) = 1
open_sessions _ = 0

abbrev pub open_statements : Place → ℕ
open_statements (Place.Session s) = length s.statements
open_statements _ = 0

abbrev pub open_lists : ℕ → Place → Bool
open_lists n (Place.Session s) = lists_known n s
open_lists n _ = true

abbrev pub OpenNamed : List SessionDef → Place → Type 0
OpenNamed ss (Place.Session s) = (is_name s.name ≡ true) × (list_any (λ x. bytes_eq x.name s.name) ss ≡ false)
OpenNamed ss _ = Unit {0}

-- n queries are there, and this many statements were counted
pub record HasSessions (n : ℕ) (ss : List SessionDef) (p : Place) (count : ℕ) : Type 0 where
  pub few : length ss + open_sessions p ≤ max_sessions
  pub counted : statement_count ss + open_statements p ≤ count
  pub statements : count ≤ max_statements
  pub over : list_all is_over ss ≡ true
  pub known : list_all (λ d. lists_known n d) ss ≡ true
  pub opened : open_lists n p ≡ true
  pub names : are_names (map (λ d. d.name) ss) ≡ true
  pub named : OpenNamed ss p

pub record HasOrders (m : List EntityDef) (os : List Order) : Type 0 where
  pub few : length os ≤ max_orders
  pub cached : list_all (λ o. evicts_cached m o) os ≡ true

-- what a reader keeps
pub record Keeps (r : Reader) : Type 0 where
  pub timeout : IsLimit 1000000 r.outline.timeout
  pub results : IsLimit 100000 r.outline.results
  pub entities : HasEntities r.outline.mapping r.entity
  pub rows : HasRows r.outline.mapping r.outline.rows
  pub queries : HasQueries r.outline.mapping r.outline.queries
  pub sessions : HasSessions (length r.outline.queries) r.outline.sessions r.place r.statements
  pub orders : HasOrders r.outline.mapping r.outline.schedule
  pub fitting : Fitting r.outline.mapping r.outline.rows r.outline.queries r.outline.sessions r.place r.outline.schedule

-- ---- one entity more
pub one_more_length : {A : Type 0} (xs : List A) (x : A) → length (xs ++ x ∷ []) ≡ length xs + 1
one_more_length xs x = length-append xs (x ∷ [])

-- the references of a mapping lead to its own entities
pub linked : (m : List EntityDef) → have_columns 0 m ≡ true → are_linked m ≡ true
linked m h = all_weaker (λ (d : EntityDef). are_columns (length m) d) (λ (d : EntityDef). are_types_below (length m) d.columns) m (λ d w. (columns_of (length m) d w).below) (all_columns m h)

-- an entity has a column
abbrev pub IsFilled : Option EntityDef → Type 0
IsFilled e = Then e (λ d. nat_le 1 (length d.columns) ≡ true)

pub entities_closed : (m : List EntityDef) (e : Option EntityDef) → HasEntities m e → IsFilled e → HasEntities (with_open m e) None
entities_closed m None k f = record { few = k.few; closed = k.closed; opened = tt; bounded = k.bounded; roomy = tt; names = k.names; named = tt }
entities_closed m (Some d) k f = record {
  few = k.few;
  closed = one_more_columns m d k.closed k.opened;
  opened = tt;
  bounded = all_more is_entity m d k.bounded (and_from (is_capacity d.strategy d.capacity) (nat_le 1 (length d.columns)) k.roomy f);
  roomy = tt;
  names = named_more (λ (e : EntityDef). e.name) m d k.names k.named.0 k.named.1;
  named = tt;
}

-- an entity more changes nothing of the others
fit_more : (m : List EntityDef) (d : EntityDef) (rows : List (Key × Row)) → list_all (λ x. is_row_below (length m) x) rows ≡ true → fits m rows ≡ true → fits (m ++ d ∷ []) rows ≡ true
fit_more m d [] b h = refl
fit_more m d (x ∷ rows) b h =
    let below : (is_row_below (length m) x ≡ true) × (list_all (λ (x : Key × Row). is_row_below (length m) x) rows ≡ true) =
    and_parts (is_row_below (length m) x) (list_all (λ (x : Key × Row). is_row_below (length m) x) rows) b in
    let fit : (fits_entity (slice_get m x.0.entity) x.0 x.1 ≡ true) × (fits m rows ≡ true) = and_parts (fits_entity (slice_get m x.0.entity) x.0 x.1) (fits m rows) h in
    and_from (fits_entity (slice_get (m ++ d ∷ []) x.0.entity) x.0 x.1) (fits (m ++ d ∷ []) rows)
    (subst (λ o. fits_entity o x.0 x.1 ≡ true) (sym (get_below m (d ∷ []) x.0.entity (ltb-true x.0.entity (length m) below.0))) fit.0) (fit_more m d rows below.1 fit.1)

pub rows_closed : (m : List EntityDef) (e : Option EntityDef) (rows : List (Key × Row)) → HasRows m rows → HasRows (with_open m e) rows
rows_closed m None rows k = k
rows_closed m (Some d) rows k = record {
  few = k.few;
  below = subst (λ n. list_all (λ (x : Key × Row). is_row_below n x) rows ≡ true) (sym (one_more_length m d))
      (all_weaker (λ (x : Key × Row). is_row_below (length m) x) (λ (x : Key × Row). is_row_below (length m + 1) x) rows (λ x w. lt_more x.0.entity (length m) 1 w) k.below);
  fit = fit_more m d rows k.below k.fit;
}

pub queries_closed : (m : List EntityDef) (e : Option EntityDef) (qs : List Said) → HasQueries m qs → HasQueries (with_open m e) qs
queries_closed m None qs k = k
queries_closed m (Some d) qs k = record {
  few = k.few;
  below = subst (λ n. list_all (λ (q : Said). is_said_below n q) qs ≡ true) (sym (one_more_length m d))
      (all_weaker (λ (q : Said). is_said_below (length m) q) (λ (q : Said). is_said_below (length m + 1) q) qs (λ q w. said_more (length m) 1 q w) k.below);
  names = k.names;
}

cached_more : (m : List EntityDef) (d : EntityDef) (n : ℕ) → is_cached_by (strategy_in (slice_get m n)) ≡ true → is_cached_by (strategy_in (slice_get (m ++ d ∷ []) n)) ≡ true
cached_more m d n h = by_slot (slice_get m n) refl h
  where
    by_slot : (o : Option EntityDef) → slice_get m n ≡ o → is_cached_by (strategy_in o) ≡ true → is_cached_by (strategy_in (slice_get (m ++ d ∷ []) n)) ≡ true
    by_slot None e w = absurd (false≢true w)
    by_slot (Some x) e w = subst (λ o. is_cached_by (strategy_in o) ≡ true) (sym (get_more m (d ∷ []) n x e)) w

order_more : (m : List EntityDef) (d : EntityDef) (o : Order) → evicts_cached m o ≡ true → evicts_cached (m ++ d ∷ []) o ≡ true
order_more m d (Order.Evict k) h = cached_more m d k.entity h
order_more m d (Order.Run s n) h = refl
order_more m d (Order.Kill s) h = refl
order_more m d Order.Restart h = refl

pub orders_closed : (m : List EntityDef) (e : Option EntityDef) (os : List Order) → HasOrders m os → HasOrders (with_open m e) os
orders_closed m None os k = k
orders_closed m (Some d) os k = record {
  few = k.few;
  cached = all_weaker (λ (o : Order). evicts_cached m o) (λ (o : Order). evicts_cached (m ++ d ∷ []) o) os (λ o w. order_more m d o w) k.cached;
}

-- ---- one query more
statement_more : (n : ℕ) (t : Statement) → is_known n t ≡ true → is_known (n + 1) t ≡ true
statement_more n (Statement.List q) h = lt_more q n 1 h
statement_more n (Statement.Find k) h = refl
statement_more n (Statement.Persist k c) h = refl
statement_more n (Statement.Set k c) h = refl
statement_more n (Statement.Remove k) h = refl
statement_more n Statement.Flush h = refl
statement_more n Statement.Clear h = refl
statement_more n (Statement.Mode x) h = refl
statement_more n Statement.Commit h = refl
statement_more n Statement.Rollback h = refl

lists_more : (n : ℕ) (s : SessionDef) → lists_known n s ≡ true → lists_known (n + 1) s ≡ true
lists_more n s h = all_weaker (λ (t : Statement). is_known n t) (λ (t : Statement). is_known (n + 1) t) s.statements (λ t w. statement_more n t w) h

open_more : (n : ℕ) (p : Place) → open_lists n p ≡ true → open_lists (n + 1) p ≡ true
open_more n (Place.Session s) h = lists_more n s h
open_more n Place.Start h = refl
open_more n (Place.Behind p) h = refl
open_more n Place.Schedule h = refl

sessions_one : (n : ℕ) (ss : List SessionDef) (p : Place) (count : ℕ) → HasSessions n ss p count → HasSessions (n + 1) ss p count
sessions_one n ss p count k = record {
  few = k.few;
  counted = k.counted;
  statements = k.statements;
  over = k.over;
  known = all_weaker (λ (d : SessionDef). lists_known n d) (λ (d : SessionDef). lists_known (n + 1) d) ss (λ d w. lists_more n d w) k.known;
  opened = open_more n p k.opened;
  names = k.names;
  named = k.named;
}

pub sessions_more : (qs : List Said) (q : Said) (ss : List SessionDef) (p : Place) (count : ℕ) → HasSessions (length qs) ss p count → HasSessions (length (qs ++ q ∷ [])) ss p count
sessions_more qs q ss p count k = subst (λ n. HasSessions n ss p count) (sym (one_more_length qs q)) (sessions_one (length qs) ss p count k)

-- the name of a query that is read, which none has that was read before
pub query_named : (m : List EntityDef) (qs : List Said) (ts : List Token) (q : Said) → IsLineOf m ts q → are_lexed ts ≡ true → has_name (query_names qs) (name_in ts) ≡ false →
    (is_name q.name ≡ true) × (list_any (λ p. bytes_eq p.name q.name) qs ≡ false)
query_named m qs ts q x l h =
    let all : are_lexed (x.first ∷ x.name ∷ x.rest) ≡ true = subst (λ us. are_lexed us ≡ true) x.line l in
    let w : name_in ts ≡ q.name = ap name_in x.line ∙ sym x.named in
    let free : is_reserved (word_of x.name) ≡ false = subst (λ v. is_reserved v ≡ false) x.named x.free in
    let named : is_name (word_of x.name) ≡ true = name_from x.name x.word (second_lexed x.first x.name x.rest all) free in (
      subst (λ v. is_name v ≡ true) (sym x.named) named,
      sym (has_mapped (λ (p : Said). p.name) qs q.name) ∙ subst (λ v. has_name (query_names qs) v ≡ false) w h,
    )
