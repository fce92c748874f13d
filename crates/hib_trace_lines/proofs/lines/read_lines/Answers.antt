use Rattle.std.proofs.Common.{◌+◌, ◌-◌, ◌≤◌, ◌∙◌, length, take, drop, ap, arith}
use Rattle.hib_lex.proofs.Texts.{size_within}
use Rattle.hib_trace_lines.specs.Lines.{IsLine, IsBad}
use Rattle.hib_trace_lines.proofs.SoFar.{goes_on, stops_at}
use Rattle.hib_trace_lines.proofs.lines.read_lines.Goals as goal

pub returns-in-Err-clause-refused : goal.returns-in-Err-clause-refused
returns-in-Err-clause-refused c =
    let bad : IsBad (take (c.loop-start.start + c.line_length.result - c.loop-start.start) (drop c.loop-start.start c.args.text.now)) c.in-Err.fault =
    rw c.in-Err.is at c.in_ok-event.ensures in
    let s = stops_at c.args.text.now c.loop-start.start c.line_length.result c.loop-start.events.items c.in-Err.fault c.loop-start-test.true
    c.line_length.ensures c.loop-start.invariant.read bad in
    (s.0, (s.1.0, ap (λ k. k + 1) (c.len.ensures ∙ c.loop-start.events.ok.0) ∙ s.1.1))

pub loop-start-preserved : goal.loop-start-preserved
loop-start-preserved c =
    let line : IsLine (take (c.loop-start.start + c.line_length.result - c.loop-start.start) (drop c.loop-start.start c.args.text.now)) c.in-Ok.event =
    rw c.in-Ok.is at c.in_ok-event.ensures in
    let inside : c.loop-start.start + c.line_length.result ≤ length c.args.text.now =
    size_within c.args.text.now c.loop-start.start c.line_length.result c.loop-start-test.true c.line_length.ensures in
    record {
      read = rw c.in_ok-keep-in-Ok.ensures
          (goes_on c.args.text.now c.loop-start.start c.line_length.result c.loop-start.events.items c.in-Ok.event c.loop-start-test.true
          c.line_length.ensures c.loop-start.invariant.read line);
      within = omega arith;
    }
