-- A valid script stays valid with another schedule.
use Rattle.std.proofs.Common.{◌≡◌, ℕ, true, ◌&&◌, leb, List, [], ◌∷◌, length, refl}
use Rattle.std.specs.List.{list_all}
use Rattle.std.proofs.lemmas.Bool.{false≢true, and_parts, and_from, leb-true}
use Rattle.hib_base.specs.Scripts.{evicts_cached}
use Rattle.hib_base.specs.Valid.{is_order_in, max_orders, is_valid}
use Rattle.hib_base.proofs.Valid.{rules, valid}
use Rattle.hib_journal.specs.Types.{EntityDef, Order, Script}
use Rattle.hib_order_schedule.specs.Schedules.{is_run_or_kill, may_be_schedule, with_schedule}

orders_in : (n : ℕ) (os : List Order) → list_all (λ o. is_run_or_kill o && is_order_in n o) os ≡ true → list_all (λ o. is_order_in n o) os ≡ true
orders_in n [] p = refl
orders_in n (o ∷ os) p =
    let both : ((is_run_or_kill o && is_order_in n o) ≡ true) × (list_all (λ o. is_run_or_kill o && is_order_in n o) os ≡ true) = and_parts (is_run_or_kill o && is_order_in n o) (list_all (λ o. is_run_or_kill o && is_order_in n o) os) p in
    and_from (is_order_in n o) (list_all (λ o. is_order_in n o) os) (and_parts (is_run_or_kill o) (is_order_in n o) both.0).1 (orders_in n os both.1)

is_cached : (mapping : List EntityDef) (o : Order) → is_run_or_kill o ≡ true → evicts_cached mapping o ≡ true
is_cached mapping (Order.Run s n) p = refl
is_cached mapping (Order.Kill s) p = refl
is_cached mapping _ p = absurd (false≢true p)

all_cached : (n : ℕ) (mapping : List EntityDef) (os : List Order) → list_all (λ o. is_run_or_kill o && is_order_in n o) os ≡ true → list_all (λ o. evicts_cached mapping o) os ≡ true
all_cached n mapping [] p = refl
all_cached n mapping (o ∷ os) p =
    let both : ((is_run_or_kill o && is_order_in n o) ≡ true) × (list_all (λ o. is_run_or_kill o && is_order_in n o) os ≡ true) = and_parts (is_run_or_kill o && is_order_in n o) (list_all (λ o. is_run_or_kill o && is_order_in n o) os) p in
    and_from (evicts_cached mapping o) (list_all (λ o. evicts_cached mapping o) os) (is_cached mapping o (and_parts (is_run_or_kill o) (is_order_in n o) both.0).0) (all_cached n mapping os both.1)

pub stays_valid : (script : Script) (os : List Order) → is_valid script ≡ true → may_be_schedule (length script.sessions) os ≡ true → is_valid (with_schedule script os) ≡ true
stays_valid script os v p =
    let r = rules script v in
    let both : (leb (length os) max_orders ≡ true) × (list_all (λ o. is_run_or_kill o && is_order_in (length script.sessions) o) os ≡ true) =
    and_parts (leb (length os) max_orders) (list_all (λ o. is_run_or_kill o && is_order_in (length script.sessions) o) os) p in
    valid (with_schedule script os) (record {
      timeout_low = r.timeout_low;
      timeout = r.timeout;
      results_low = r.results_low;
      results = r.results;
      entities = r.entities;
      columns = r.columns;
      bounded = r.bounded;
      entity_names = r.entity_names;
      rows = r.rows;
      rows_below = r.rows_below;
      fit = r.fit;
      given = r.given;
      keys = r.keys;
      queries = r.queries;
      declared = r.declared;
      nested = r.nested;
      short = r.short;
      cut = r.cut;
      query_fit = r.query_fit;
      query_names = r.query_names;
      sessions = r.sessions;
      statements = r.statements;
      over = r.over;
      known = r.known;
      statement_fit = r.statement_fit;
      session_names = r.session_names;
      orders = leb-true (length os) max_orders both.0;
      order_fit = orders_in (length script.sessions) os both.1;
      cached = all_cached (length script.sessions) script.mapping os both.1;
    })
