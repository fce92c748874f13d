use Rattle.std.proofs.Common.{◌≡◌, ◌∙◌, List, length, sym, subst, ap, arith}
use Rattle.std.specs.Prelude.{Vec}
use Rattle.std.specs.List.{AllZip}
use Rattle.std.specs.declared.alloc.Global.{Global}
use Rattle.hib_trace_law.specs.declared.commits.Commit.{Commit}
use Rattle.hib_traces.specs.declared.marks.Mark.{Mark}
use Rattle.hib_trace_filed.specs.Keys.{table_commits}
use Rattle.hib_trace_lists.specs.Loads.{AreStairs, TellChanges}
use Rattle.hib_trace_lists.proofs.Steps.{Changes, Ordered, all_in_order, are_stairs, tell_changes, tell_loads, zip_count}
use Rattle.hib_trace_lists.proofs.lists.lists_of.Goals as goal

pub loads_in-requires-clause-stairs : goal.loads_in-requires-clause-stairs
loads_in-requires-clause-stairs c =
    subst AreStairs (sym c.deref-2.ensures.value) (are_stairs c.deref.result.now c.in_ok-changes.changes.items c.in_ok-changes.ensures)

pub loads_in-requires-clause-below : goal.loads_in-requires-clause-below
loads_in-requires-clause-below c =
    let n : length c.deref-2.result.now ≡ c.args.tables =
    ap length c.deref-2.ensures.value ∙ zip_count Changes c.deref.result.now c.in_ok-changes.changes.items c.in_ok-changes.ensures
    ∙ ap length c.deref.ensures.value ∙ sym c.in_ok-files.files.ok.0 ∙ c.in_ok-files.ensures.count in
    λ k d l j e m. let b = c.requires k d l j e m in omega (arith, b, n)

pub returns-clause-count : goal.returns-clause-count
returns-clause-count c =
    zip_count Ordered c.in_ok-loads_in.field-0.items c.in_ok-loads.loads.items c.in_ok-loads.ensures ∙ sym c.in_ok-loads_in.field-0.ok.0
    ∙ c.in_ok-loads_in.ensures.count

pub returns-clause-order : goal.returns-clause-order
returns-clause-order c = all_in_order c.in_ok-loads_in.field-0.items c.in_ok-loads.loads.items c.in_ok-loads.ensures

pub returns-clause-tell : goal.returns-clause-tell
returns-clause-tell c =
    let of = table_commits c.args.limits.now c.args.writes.now in
    let files : List (Vec Commit Global) = c.in_ok-files.files.items in
    let changes : List (Vec Mark Global) = c.in_ok-changes.changes.items in
    let tell : TellChanges of changes =
    tell_changes files changes (subst (λ (fs : List (Vec Commit Global)). AllZip Changes fs changes) c.deref.ensures.value c.in_ok-changes.ensures) of
    c.in_ok-files.ensures.filed in
    tell_loads c.in_ok-loads_in.field-0.items c.in_ok-loads.loads.items c.in_ok-loads.ensures c.args.limits.now.clock of c.args.calls.now
    (c.in_ok-loads_in.ensures.tell of (subst (TellChanges of) (sym c.deref-2.ensures.value) tell))
