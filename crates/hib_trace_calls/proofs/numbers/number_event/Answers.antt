use Rattle.std.proofs.Common.{rules, subst}
use Rattle.std.specs.Prelude.{List, ℕ}
use Rattle.std.specs.List.{AllZip}
use Rattle.std.specs.Option.{option_map}
use Rattle.hib_trace_numbers.specs.Texts.{IsNamed, texts}
use Rattle.hib_trace_calls.specs.Rows.{table_told, value_told}
use Rattle.hib_trace_calls.proofs.Grown.{each_kept, grows_on, if_kept}
use Rattle.hib_trace_calls.proofs.numbers.number_event.Goals as goal

pub returns-clause-is : goal.returns-clause-is
returns-clause-is c =
    let u = c.number_all.new.texts in
    let g = c.in_ok-made.ensures.grows in
    record {
      operation = search rules;
      session = if_kept (texts c.number_if.new.names) (texts u.sessions) c.in_ok-session.session c.args.event.now.session g.sessions (search rules);
      transaction = if_kept (texts c.number_if-2.new.names) (texts u.transactions) c.in_ok-transaction.transaction c.args.event.now.transaction
          g.transactions (search rules);
      key = if_kept (texts c.number_if-3.new.names) (texts u.keys) c.in_ok-key.key c.args.event.now.key g.keys (search rules);
      table = if_kept (texts c.number_table_if.new.names) (texts u.tables) c.in_ok-table.table (option_map table_told c.args.event.now.key)
          (grows_on _ _ _ c.in_ok-tables.ensures.grows g.tables) (search rules);
      row = (grows_on _ _ _ c.in_ok-base.ensures.grows g.rows).keeps _ _ c.in_ok-row.ensures.named;
      version = search rules;
      base = if_kept (texts c.number_base.new.names) (texts u.rows) c.in_ok-base.base (option_map value_told c.args.event.now.base) g.rows
          c.in_ok-base.ensures.named;
      outcome = search rules;
      made = search rules;
      tables = each_kept (texts c.number_each.new.names) (texts u.tables) c.args.event.now.tables c.in_ok-tables.tables.items g.tables
          (subst (λ (xs : List (List ℕ)). AllZip (λ x n. IsNamed (texts c.number_each.new.names) n x) xs c.in_ok-tables.tables.items) (search rules)
          c.in_ok-tables.ensures.named);
      begin = search rules;
      end = search rules;
    }

pub returns-clause-grows : goal.returns-clause-grows
returns-clause-grows c =
    let g = c.in_ok-made.ensures.grows in
    record {
      tables = grows_on _ _ _ (grows_on _ _ _ c.in_ok-table.ensures.grows c.in_ok-tables.ensures.grows) g.tables;
      sessions = grows_on _ _ _ c.in_ok-session.ensures.grows g.sessions;
      keys = grows_on _ _ _ c.in_ok-key.ensures.grows g.keys;
      transactions = grows_on _ _ _ c.in_ok-transaction.ensures.grows g.transactions;
      rows = grows_on _ _ _ (grows_on _ _ _ c.in_ok-row.ensures.grows c.in_ok-base.ensures.grows) g.rows;
    }
