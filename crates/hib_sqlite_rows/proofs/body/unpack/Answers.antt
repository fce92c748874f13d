use Rattle.std.proofs.Common.{sym, ap, ◌∙◌, Some, None, ◌+◌, ◌-◌, suc, drop, slice_index_or, length-drop, arith}
use Rattle.std.proofs.lemmas.List.{drop_all}
use Rattle.hib_sqlite_rows.proofs.Parts.{goes_on, stops, ends, ends_early, rest_is, taken_there}
use Rattle.hib_sqlite_rows.proofs.Laws.{gives_exactly, gives_back}
use Rattle.hib_sqlite_rows.proofs.body.unpack.Goals as goal

pub returns-in-None-clause-cells : goal.returns-in-None-clause-cells
returns-in-None-clause-cells c =
    let found = rw (c.in-None.is, rest_is c.args.body.now c.loop-done.at c.loop-done.invariant.within) at c.in_ok-cell.ensures in
    sym (stops c.args.body.now (slice_index_or c.args.body.now 0 0 - suc c.loop-done._done) _ c.loop-done.at c.loop-done.cells.items _ (omega arith) found c.loop-done.invariant.cells)

pub loop-done-preserved : goal.loop-done-preserved
loop-done-preserved c =
    let it = taken_there c.args.body.now c.loop-done.at c.in-Some.size c.in-Some.cell c.loop-done.invariant.within (rw c.in-Some.is at c.in_ok-cell.ensures) in
    record {
      within = it.0;
      cells =
          rw c.in_ok-push-in-Some.ensures.items
          (goes_on c.args.body.now (slice_index_or c.args.body.now 0 0 - (c.loop-done._done + 1)) _ c.loop-done.at c.in-Some.size c.loop-done.cells.items c.in-Some.cell _ (omega arith) it.1 c.loop-done.invariant.cells);
    }

pub returns-in_ok-list-clause-cells : goal.returns-in_ok-list-clause-cells
returns-in_ok-list-clause-cells c =
    ap (λ cs. Some cs) c.in_ok-list.ensures ∙ sym (ends c.args.body.now _ c.loop-done.at c.loop-done.cells.items _ (omega arith) (drop_all c.loop-done.at c.args.body.now (omega arith)) c.loop-done.invariant.cells)

pub returns-else-at-body-clause-cells : goal.returns-else-at-body-clause-cells
returns-else-at-body-clause-cells c =
    sym (ends_early (drop c.loop-done.at c.args.body.now) _ c.loop-done.cells.items _ (omega arith) (omega (arith, length-drop c.loop-done.at c.args.body.now)) c.loop-done.invariant.cells)

pub returns-in-None-clause-exactly : goal.returns-in-None-clause-exactly
returns-in-None-clause-exactly c = gives_exactly None c.args.body.now c.type_inv.body (returns-in-None-clause-cells c)

pub returns-in_ok-list-clause-exactly : goal.returns-in_ok-list-clause-exactly
returns-in_ok-list-clause-exactly c = gives_exactly (Some c.in_ok-list.list) c.args.body.now c.type_inv.body (returns-in_ok-list-clause-cells c)

pub returns-in_ok-list-clause-back : goal.returns-in_ok-list-clause-back
returns-in_ok-list-clause-back c = gives_back (Some c.in_ok-list.list) c.args.body.now c.type_inv.body (returns-in_ok-list-clause-cells c)

pub returns-else-at-body-clause-exactly : goal.returns-else-at-body-clause-exactly
returns-else-at-body-clause-exactly c = gives_exactly None c.args.body.now c.type_inv.body (returns-else-at-body-clause-cells c)
