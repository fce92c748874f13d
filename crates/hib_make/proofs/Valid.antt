-- A made script is valid.
use Rattle.std.proofs.Common.{◌≡◌, ℕ, true, refl, sym, subst, arith}
use Rattle.std.specs.List.{list_all}
use Rattle.hib_base.specs.Valid.{is_order_in, is_valid}
use Rattle.hib_base.proofs.Valid.{Rules, valid}
use Rattle.hib_make.specs.Rows.{made_rows}
use Rattle.hib_make.specs.Sessions.{made_sessions, made_schedule}
use Rattle.hib_make.specs.Made.{script}
use Rattle.hib_make.proofs.RowRules.{rows_below, rows_given, rows_fit, rows_apart, row_count}
use Rattle.hib_make.proofs.SessionRules.{sessions_over, sessions_known, statements_fit, sessions_named, session_count, statements_few, orders_fit, orders_cached, orders_few}

-- of rows, sessions and orders that are made, from whatever state
keeps : (x y z : ℕ) → Rules (script (made_rows x) (made_sessions y) (made_schedule z))
keeps x y z = record {
  timeout_low = omega arith;
  timeout = omega arith;
  results_low = omega arith;
  results = omega arith;
  entities = omega arith;
  columns = refl;
  bounded = refl;
  entity_names = refl;
  rows = omega (arith, row_count x);
  rows_below = rows_below x;
  fit = rows_fit x;
  given = rows_given x;
  keys = rows_apart x;
  queries = omega arith;
  declared = refl;
  nested = refl;
  short = refl;
  cut = refl;
  query_fit = refl;
  query_names = refl;
  sessions = omega (arith, session_count y);
  statements = omega (arith, statements_few y);
  over = sessions_over y;
  known = sessions_known y;
  statement_fit = statements_fit y;
  session_names = sessions_named y;
  orders = omega (arith, orders_few z);
  order_fit = subst (λ n. list_all (λ o. is_order_in n o) (made_schedule z).made ≡ true) (sym (session_count y)) (orders_fit z);
  cached = orders_cached z;
}

pub made_valid : (x y z : ℕ) → is_valid (script (made_rows x) (made_sessions y) (made_schedule z)) ≡ true
made_valid x y z = valid (script (made_rows x) (made_sessions y) (made_schedule z)) (keeps x y z)
