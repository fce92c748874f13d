use Rattle.std.proofs.Common.{◌+◌, ◌-◌, ◌≤◌, ◌∙◌, length, take, drop, ap, arith}
use Rattle.hib_journal_json.specs.Entries.{IsLine, IsBad, refused_at}
use Rattle.hib_lex.proofs.Texts.{size_within}
use Rattle.hib_journal_json.proofs.Journals.{goes_on, stops_at}
use Rattle.hib_journal_json.proofs.journal.read_named.Goals as goal

pub returns-in-None-clause-refused : goal.returns-in-None-clause-refused
returns-in-None-clause-refused c =
    let bad : IsBad c.args.script.now (take (c.loop-start.start + c.line_length.result - c.loop-start.start) (drop c.loop-start.start c.args.text.now)) = rw c.in-None.is at c.in_ok-entry.ensures.none in
    let s = stops_at c.args.script.now c.args.text.now c.loop-start.start c.line_length.result c.args.first c.loop-start.journal.list c.loop-start-test.true c.line_length.ensures c.loop-start.invariant.read bad in
    (s.0, (s.1.0, c.refused.ensures ∙ ap (refused_at c.args.first) c.len.ensures.list ∙ s.1.1))

pub loop-start-preserved : goal.loop-start-preserved
loop-start-preserved c =
    let line : IsLine c.args.script.now (take (c.loop-start.start + c.line_length.result - c.loop-start.start) (drop c.loop-start.start c.args.text.now)) c.in-Some.entry = rw c.in-Some.is at c.in_ok-entry.ensures.found in
    let inside : c.loop-start.start + c.line_length.result ≤ length c.args.text.now = size_within c.args.text.now c.loop-start.start c.line_length.result c.loop-start-test.true c.line_length.ensures in
    record {
      read = rw c.in_ok-push-in-Some.ensures.ok
          (goes_on c.args.script.now c.args.text.now c.loop-start.start c.line_length.result c.loop-start.journal.list c.in-Some.entry c.loop-start-test.true c.line_length.ensures c.loop-start.invariant.read line);
      within = omega arith;
    }
