use Rattle.std.proofs.Common.{◌∙◌, arith}
use Rattle.std.proofs.lemmas.List.{drop_all}
use Rattle.hib_sqlite_rows.proofs.Entities.{more_rows, all_rows}
use Rattle.hib_sqlite_rows.proofs.reads.list.Goals as goal

pub loop-number-preserved : goal.loop-number-preserved
loop-number-preserved g c = record {
  same = c.in_ok-rows.ensures.same ∙ c.loop-number.invariant.same;
  list =
      more_rows _ _ c.deref-number-items.result.now c.loop-number.number-index 0 c.loop-number.list.items c.add_entries.new.list.items c.as_slice.result.now c.loop-number.invariant.same
      (g.met.T.RowTable.ordered c.args.table.now) (rw c.deref-number-items.ensures.value c.in_ok-numbers.ensures.rising) c.loop-number-test.true
      (rw c.as_slice.ensures.value c.in_ok-rows.ensures.rows) c.in_ok-add_entries.ensures c.loop-number.invariant.list;
}

pub returns-clause-rows : goal.returns-clause-rows
returns-clause-rows g c =
    all_rows _ c.deref-number-items.result.now c.args.entities.now c.loop-number.number-index c.loop-number.list.items c.from_vec.result (drop_all c.loop-number.number-index c.deref-number-items.result.now (omega arith))
    (rw c.deref-number-items.ensures.value c.in_ok-numbers.ensures.same) c.from_vec.ensures c.loop-number.invariant.list
