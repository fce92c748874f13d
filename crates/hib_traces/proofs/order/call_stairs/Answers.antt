use Rattle.std.proofs.Common.{◌≡◌, ℕ, Vec, Global, Some, ◌∙◌, ap}
use Rattle.std.specs.Prelude.{◌&&◌, nat_lt}
use Rattle.std.specs.List.{list_any}
use Rattle.hib_trace_law.specs.declared.commits.Commit.{Commit}
use Rattle.hib_trace_law.specs.Certain.{ended_before}
use Rattle.hib_traces.specs.declared.marks.Mark.{Mark}
use Rattle.hib_traces.specs.Marks.{asks}
use Rattle.hib_traces.proofs.Orders.{asks_marks}
use Rattle.hib_traces.proofs.Steps.{if_ok}
use Rattle.hib_traces.proofs.order.call_stairs.Goals as goal

pub returns-clause-tell : goal.returns-clause-tell
returns-clause-tell c =
    if_ok c.sorted_stairs.result
    (λ (v : Vec Mark Global). (k t : ℕ) → asks k t v.items ≡ asks k t c.in_ok-call_marks.field-0.items)
    (λ (v : Vec Mark Global). (k t : ℕ) → asks k t v.items ≡ list_any (λ (d : Commit). nat_lt k d.begin && ended_before d.end t) c.args.commits.now)
    (λ v h k t. h k t ∙ ap (asks k t) c.in_ok-call_marks.ensures ∙ asks_marks (λ d. Some d.begin) (λ d. d.end) c.args.commits.now k t)
    c.sorted_stairs.ensures.same
