use Rattle.std.proofs.Common.{Some, ◌∙◌, ap}
use Rattle.std.specs.Prelude.{◌&&◌, nat_lt}
use Rattle.std.specs.List.{filter_map, list_any}
use Rattle.hib_trace_law.specs.Certain.{ended_before}
use Rattle.hib_trace_law.specs.declared.commits.Commit.{Commit}
use Rattle.hib_traces.specs.Marks.{asks, pair_mark, known_version}
use Rattle.hib_traces.proofs.Orders.{asks_marks}
use Rattle.hib_traces.proofs.order.memory_of.Goals as goal

pub returns-clause-remembers : goal.returns-clause-remembers
returns-clause-remembers c = record {
  calls = λ k t. c.in_ok-calls.ensures.tell k t ∙ ap (list_any (λ (d : Commit). nat_lt k d.begin && ended_before d.end t)) c.deref.ensures.value;
  versions = λ k t. c.in_ok-versions.ensures.same k t
      ∙ ap (asks k t) (c.in_ok-version_marks.ensures ∙ ap (filter_map (λ (d : Commit). pair_mark d.version d.end)) c.deref-2.ensures.value)
      ∙ asks_marks (λ d. d.version) (λ d. d.end) c.args.commits.items k t;
  begins = λ k t. c.in_ok-begins.ensures.same k t
      ∙ ap (asks k t) (c.in_ok-begin_marks.ensures ∙ ap (filter_map (λ (d : Commit). pair_mark (Some d.begin) (known_version d.end d.version))) c.deref-3.ensures.value)
      ∙ asks_marks (λ d. Some d.begin) (λ d. known_version d.end d.version) c.args.commits.items k t;
  calls_fall = c.in_ok-calls.ensures.falls;
  versions_fall = c.in_ok-versions.ensures.falls;
  begins_fall = c.in_ok-begins.ensures.falls;
}
