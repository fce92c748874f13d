use Rattle.std.proofs.Common.{◌+◌, ◌≤◌, length, Ok, arith}
use Rattle.std.proofs.lemmas.Result.{err_from_is_err_and}
use Rattle.hib_lex.proofs.Texts.{lexing_on, size_within, where_on}
use Rattle.hib_lex.specs.Lines.{lex_after}
use Rattle.hib_lex.proofs.lines.lex_after.Goals as goal

pub returns-in_err-done-clause-refused : goal.returns-in_err-done-clause-refused
returns-in_err-done-clause-refused c =
    let p = err_from_is_err_and c.from_residual.result c.from_residual.ensures.1 in
    rw (p.1, p.2) (where_on c.loop-start.done c.args.text.now c.loop-start.start c.line_length.result (lex_after c.args.before c.args.text.now) c.in_err-done.field-0.0 c.loop-start.invariant.read (omega arith) c.line_length.ensures c.in_err-done.ensures.refused)

pub loop-start-preserved : goal.loop-start-preserved
loop-start-preserved c =
    let inside : c.loop-start.start + c.line_length.result ≤ length c.args.text.now = size_within c.args.text.now c.loop-start.start c.line_length.result (omega arith) c.line_length.ensures in
    record {
      read = lexing_on c.loop-start.done c.args.text.now c.loop-start.start c.line_length.result (lex_after c.args.before c.args.text.now) (Ok c.in_ok-done.done) c.loop-start.invariant.read (omega arith) c.line_length.ensures c.in_ok-done.ensures.lines;
      few = omega (arith, c.in_ok-done.ensures.count);
      within = omega arith;
    }
