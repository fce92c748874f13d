use Rattle.std.proofs.Common.{rules}
use Rattle.hib_trace_calls.specs.Numbers.{IsCall}
use Rattle.hib_trace_calls.specs.Rows.{no_row}
use Rattle.hib_trace_calls.proofs.Grown.{apart_on, calls_kept, keys_below, lists_below, none_apart, sessions_below, tables_below, transactions_below, zip_step}
use Rattle.hib_trace_calls.proofs.numbers.numbered.Goals as goal

pub loop-event-init : goal.loop-event-init
loop-event-init c = record {
  calls = search rules;
  none = c.in_ok-none.ensures.named;
  apart = record {
    tables = none_apart _ c.new-3.ensures;
    sessions = none_apart _ c.new.ensures;
    keys = none_apart _ c.new-2.ensures;
    transactions = none_apart _ c.new-4.ensures;
    rows = c.number_text.ensures.grows.apart (none_apart _ c.new-5.ensures);
  };
}

pub loop-event-preserved : goal.loop-event-preserved
loop-event-preserved c =
    let t = c.loop-event.texts in
    let u = c.number_event.new.texts in
    record {
      calls = zip_step (IsCall u) c.args.events.now c.loop-event.calls.items c.push.new.self.items c.loop-event.event-index
          c.event-item.result c.in_ok-number_event.field-0 c.loop-event-test.true c.event-item.is
          (calls_kept t u _ c.loop-event.calls.items c.in_ok-number_event.ensures.grows c.loop-event.invariant.calls)
          c.in_ok-number_event.ensures.is c.in_ok-push.ensures.items;
      none = c.in_ok-number_event.ensures.grows.rows.keeps c.in_ok-none.none no_row c.loop-event.invariant.none;
      apart = apart_on t u c.in_ok-number_event.ensures.grows c.loop-event.invariant.apart;
    }

pub returns-clause-keys : goal.returns-clause-keys
returns-clause-keys c = keys_below c.loop-event.texts _ c.loop-event.calls.items c.loop-event.invariant.calls

pub returns-clause-transactions : goal.returns-clause-transactions
returns-clause-transactions c = transactions_below c.loop-event.texts _ c.loop-event.calls.items c.loop-event.invariant.calls

pub returns-clause-sessions : goal.returns-clause-sessions
returns-clause-sessions c = sessions_below c.loop-event.texts _ c.loop-event.calls.items c.loop-event.invariant.calls

pub returns-clause-tables : goal.returns-clause-tables
returns-clause-tables c = tables_below c.loop-event.texts _ c.loop-event.calls.items c.loop-event.invariant.calls

pub returns-clause-lists : goal.returns-clause-lists
returns-clause-lists c = lists_below c.loop-event.texts _ c.loop-event.calls.items c.loop-event.invariant.calls
