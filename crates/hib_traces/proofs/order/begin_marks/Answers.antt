use Rattle.std.proofs.Common.{ℕ, List, Option, ◌++◌, Some, None, take, get_or, sym, ◌∙◌, ap}
use Rattle.std.specs.List.{filter_map}
use Rattle.std.specs.Option.{option_to_list}
use Rattle.hib_trace_law.specs.declared.commits.Commit.{Commit}
use Rattle.hib_traces.specs.declared.marks.Mark.{Mark}
use Rattle.hib_traces.specs.Marks.{pair_mark, known_version}
use Rattle.hib_traces.proofs.Orders.{made_more}
use Rattle.hib_traces.proofs.order.begin_marks.Goals as goal

pub loop-commit-preserved : goal.loop-commit-preserved
loop-commit-preserved c =
    c.in_ok-put_mark.ensures
    ∙ ap (λ (ms : List Mark). ms ++ option_to_list c.pair_of.result) c.loop-commit.invariant
    ∙ ap (λ (o : Option Mark). filter_map (λ (d : Commit). pair_mark (Some d.begin) (known_version d.end d.version)) (take c.loop-commit.commit-index c.args.commits.now) ++ option_to_list o) c.pair_of.ensures
    ∙ ap (λ (v : Option ℕ). filter_map (λ (d : Commit). pair_mark (Some d.begin) (known_version d.end d.version)) (take c.loop-commit.commit-index c.args.commits.now) ++
    option_to_list (pair_mark (Some (get_or c.args.commits.now c.loop-commit.commit-index (record { row = 0; begin = 0; end = None; version = None })).begin) v)) c.version_of.ensures
    ∙ sym (made_more (λ (d : Commit). pair_mark (Some d.begin) (known_version d.end d.version)) c.args.commits.now c.loop-commit.commit-index
    (record { row = 0; begin = 0; end = None; version = None }) c.loop-commit-test.true)
