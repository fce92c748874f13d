use Rattle.std.proofs.Common.{◌∙◌, List, ap}
use Rattle.std.specs.Prelude.{Vec}
use Rattle.std.specs.declared.alloc.Global.{Global}
use Rattle.hib_trace_calls.proofs.Grown.{zip_step}
use Rattle.hib_trace_law.specs.declared.commits.Commit.{Commit}
use Rattle.hib_traces.specs.declared.marks.Mark.{Mark}
use Rattle.hib_trace_lists.specs.Lists.{changed_on}
use Rattle.hib_trace_lists.specs.Loads.{IsChanges}
use Rattle.hib_trace_lists.proofs.changes.changes_of.Goals as goal

pub loop-commits-preserved : goal.loop-commits-preserved
loop-commits-preserved c =
    zip_step (λ (f : Vec Commit Global) (m : Vec Mark Global). IsChanges f.items m.items) c.args.files.now c.loop-commits.tables.items
    c.push.new.self.items c.loop-commits.commits-index c.commits-item.result c.in_ok-call_stairs.field-0 c.loop-commits-test.true c.commits-item.is
    c.loop-commits.invariant
    (record {
      stairs = c.in_ok-call_stairs.ensures.falls;
      tell = λ s t. c.in_ok-call_stairs.ensures.tell s t ∙ ap (λ (cs : List Commit). changed_on cs s t) c.deref.ensures.value;
    })
    c.in_ok-push.ensures.items
