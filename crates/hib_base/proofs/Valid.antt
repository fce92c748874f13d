-- The rules of a script, one by one.
use Rattle.std.proofs.Common.{◌≡◌, ◌≤◌, Bool, true, List, [], ◌∷◌, length, map, refl}
use Rattle.std.specs.List.{list_all}
use Rattle.std.proofs.lemmas.Bool.{and_parts, and_from, leb-true, le-leb}
use Rattle.hib_base.specs.Types.{Script}
use Rattle.hib_base.specs.Apart.{are_apart_by}
use Rattle.hib_base.specs.Keys.{same_key}
use Rattle.hib_base.specs.Fits.{fits, fits_statement, fits_query}
use Rattle.hib_base.specs.Queries.{said}
use Rattle.hib_base.specs.Words.{are_names}
use Rattle.hib_base.specs.Scripts.{is_row_below, is_declared, is_over, statement_count, lists_known, evicts_cached}
use Rattle.hib_base.specs.Valid.{max_timeout, max_results, max_entities, max_rows, max_queries, max_sessions, max_statements, max_orders, have_columns, is_entity, is_given, is_nested_in, is_short, is_cut, is_order_in, are_all, rules_of, is_valid}

-- each of some tests passes
abbrev Each : List Bool → Type 0
Each [] = Unit {0}
Each (b ∷ bs) = (b ≡ true) × Each bs

each : (bs : List Bool) → are_all bs ≡ true → Each bs
each [] p = tt
each (b ∷ bs) p = let both : (b ≡ true) × (are_all bs ≡ true) = and_parts b (are_all bs) p in (both.0, each bs both.1)

all_of : (bs : List Bool) → Each bs → are_all bs ≡ true
all_of [] e = refl
all_of (b ∷ bs) e = and_from b (are_all bs) e.0 (all_of bs e.1)

pub record Rules (s : Script) : Type 0 where
  pub timeout_low : 1 ≤ s.timeout
  pub timeout : s.timeout ≤ max_timeout
  pub results_low : 1 ≤ s.results
  pub results : s.results ≤ max_results
  pub entities : length s.mapping ≤ max_entities
  pub columns : have_columns 0 s.mapping ≡ true
  pub bounded : list_all is_entity s.mapping ≡ true
  pub entity_names : are_names (map (λ e. e.name) s.mapping) ≡ true
  pub rows : length s.rows ≤ max_rows
  pub rows_below : list_all (λ x. is_row_below (length s.mapping) x) s.rows ≡ true
  pub fit : fits s.mapping s.rows ≡ true
  pub given : list_all is_given s.rows ≡ true
  pub keys : are_apart_by same_key (map (λ x. x.0) s.rows) ≡ true
  pub queries : length s.queries ≤ max_queries
  pub declared : list_all (λ q. is_declared s q) s.queries ≡ true
  pub nested : list_all (λ q. is_nested_in q.condition) s.queries ≡ true
  pub short : list_all (λ q. list_all is_short q.parts) (map said s.queries) ≡ true
  pub cut : list_all is_cut (map said s.queries) ≡ true
  pub query_fit : list_all (λ q. fits_query s.mapping q) (map said s.queries) ≡ true
  pub query_names : are_names (map (λ q. q.name) s.queries) ≡ true
  pub sessions : length s.sessions ≤ max_sessions
  pub statements : statement_count s.sessions ≤ max_statements
  pub over : list_all is_over s.sessions ≡ true
  pub known : list_all (λ d. lists_known (length s.queries) d) s.sessions ≡ true
  pub statement_fit : list_all (λ d. list_all (λ t. fits_statement s.mapping t) d.statements) s.sessions ≡ true
  pub session_names : are_names (map (λ d. d.name) s.sessions) ≡ true
  pub orders : length s.schedule ≤ max_orders
  pub order_fit : list_all (λ o. is_order_in (length s.sessions) o) s.schedule ≡ true
  pub cached : list_all (λ o. evicts_cached s.mapping o) s.schedule ≡ true

-- a valid script keeps each
pub rules : (s : Script) → is_valid s ≡ true → Rules s
unfolding is_valid
rules s p =
    let e0 = each (rules_of s) p in
    let e5 = e0.1.1.1.1.1 in
    let e10 = e5.1.1.1.1.1 in
    let e15 = e10.1.1.1.1.1 in
    let e20 = e15.1.1.1.1.1 in
    let e25 = e20.1.1.1.1.1 in
    record {
      timeout_low = leb-true 1 s.timeout e0.0;
      timeout = leb-true s.timeout max_timeout e0.1.0;
      results_low = leb-true 1 s.results e0.1.1.0;
      results = leb-true s.results max_results e0.1.1.1.0;
      entities = leb-true (length s.mapping) max_entities e0.1.1.1.1.0;
      columns = e5.0;
      bounded = e5.1.0;
      entity_names = e5.1.1.0;
      rows = leb-true (length s.rows) max_rows e5.1.1.1.0;
      rows_below = e5.1.1.1.1.0;
      fit = e10.0;
      given = e10.1.0;
      keys = e10.1.1.0;
      queries = leb-true (length s.queries) max_queries e10.1.1.1.0;
      declared = e10.1.1.1.1.0;
      nested = e15.0;
      short = e15.1.0;
      cut = e15.1.1.0;
      query_fit = e15.1.1.1.0;
      query_names = e15.1.1.1.1.0;
      sessions = leb-true (length s.sessions) max_sessions e20.0;
      statements = leb-true (statement_count s.sessions) max_statements e20.1.0;
      over = e20.1.1.0;
      known = e20.1.1.1.0;
      statement_fit = e20.1.1.1.1.0;
      session_names = e25.0;
      orders = leb-true (length s.schedule) max_orders e25.1.0;
      order_fit = e25.1.1.0;
      cached = e25.1.1.1.0;
    }

-- and a script that keeps each is valid
pub valid : (s : Script) → Rules s → is_valid s ≡ true
unfolding is_valid
valid s r = all_of (rules_of s) (le-leb 1 s.timeout r.timeout_low, (le-leb s.timeout max_timeout r.timeout, (le-leb 1 s.results r.results_low, (le-leb s.results max_results r.results, (le-leb (length s.mapping) max_entities r.entities, (r.columns, (r.bounded, (r.entity_names, (le-leb (length s.rows) max_rows r.rows, (r.rows_below, (r.fit, (r.given, (r.keys, (le-leb (length s.queries) max_queries r.queries, (r.declared, (r.nested, (r.short, (r.cut, (r.query_fit, (r.query_names, (le-leb (length s.sessions) max_sessions r.sessions, (le-leb (statement_count s.sessions) max_statements r.statements, (r.over, (r.known, (r.statement_fit, (r.session_names, (le-leb (length s.schedule) max_orders r.orders, (r.order_fit, (r.cached, tt)))))))))))))))))))))))))))))
