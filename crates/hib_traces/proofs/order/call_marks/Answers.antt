use Rattle.std.proofs.Common.{List, Option, ◌++◌, Some, None, take, sym, ◌∙◌, ap}
use Rattle.std.specs.List.{filter_map}
use Rattle.std.specs.Option.{option_to_list}
use Rattle.hib_trace_law.specs.declared.commits.Commit.{Commit}
use Rattle.hib_traces.specs.declared.marks.Mark.{Mark}
use Rattle.hib_traces.specs.Marks.{pair_mark}
use Rattle.hib_traces.proofs.Orders.{made_more}
use Rattle.hib_traces.proofs.order.call_marks.Goals as goal

pub loop-commit-preserved : goal.loop-commit-preserved
loop-commit-preserved c =
    c.in_ok-put_mark.ensures
    ∙ ap (λ (ms : List Mark). ms ++ option_to_list c.pair_of.result) c.loop-commit.invariant
    ∙ ap (λ (o : Option Mark). filter_map (λ (d : Commit). pair_mark (Some d.begin) d.end) (take c.loop-commit.commit-index c.args.commits.now) ++ option_to_list o) c.pair_of.ensures
    ∙ sym (made_more (λ (d : Commit). pair_mark (Some d.begin) d.end) c.args.commits.now c.loop-commit.commit-index
    (record { row = 0; begin = 0; end = None; version = None }) c.loop-commit-test.true)
