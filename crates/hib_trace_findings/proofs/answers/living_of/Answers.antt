use Rattle.std.proofs.Common.{List, Option, ◌++◌, None, take, sym, ◌∙◌, ap}
use Rattle.std.specs.List.{filter_map}
use Rattle.std.specs.Option.{option_to_list}
use Rattle.hib_trace_law.specs.declared.commits.Commit.{Commit}
use Rattle.hib_trace_findings.specs.Judged.{living}
use Rattle.hib_trace_findings.proofs.Lives.{made_more}
use Rattle.hib_trace_findings.proofs.answers.living_of.Goals as goal

pub loop-commit-preserved : goal.loop-commit-preserved
loop-commit-preserved c =
    let cs : List Commit = c.args.commits.now in
    c.in_ok-put.ensures
    ∙ ap (λ (ms : List Commit). ms ++ option_to_list c.living.result) c.loop-commit.invariant
    ∙ ap (λ (o : Option Commit). filter_map (living c.args.none) (take c.loop-commit.commit-index cs) ++ option_to_list o) c.living.ensures
    ∙ sym (made_more (living c.args.none) cs c.loop-commit.commit-index (record { row = 0; begin = 0; end = None; version = None })
    c.loop-commit-test.true)
