use Rattle.std.proofs.Common.{◌+◌, ◌≤◌, length, sym, arith}
use Rattle.hib_lex.proofs.Texts.{size_within}
use Rattle.hib_input.proofs.Cuts.{found, goes_on, not_found}
use Rattle.hib_input.proofs.cutting.cut_of.Goals as goal

pub returns-then-is_mark-clause-cut : goal.returns-then-is_mark-clause-cut
returns-then-is_mark-clause-cut c =
    rw c.min.ensures
    (found c.args.word.now c.args.text.now c.loop-start.start c.line_length.result c.loop-start.count c.loop-start.invariant.so_far c.loop-start-test.true c.line_length.ensures (sym c.if-is_mark.ensures))

pub loop-start-preserved : goal.loop-start-preserved
loop-start-preserved c =
    let inside : c.loop-start.start + c.line_length.result ≤ length c.args.text.now = size_within c.args.text.now c.loop-start.start c.line_length.result c.loop-start-test.true c.line_length.ensures in
    record {
      so_far = goes_on c.args.word.now c.args.text.now c.loop-start.start c.line_length.result c.loop-start.count c.loop-start.invariant.so_far c.loop-start-test.true c.line_length.ensures (sym c.if-is_mark.ensures);
      within = omega (arith, inside);
      few = omega (arith, c.loop-start.invariant.few);
    }

pub returns-clause-none : goal.returns-clause-none
returns-clause-none c =
    let end : length c.args.text.now ≤ c.loop-start.start = omega (arith, c.loop-start-test.false) in
    not_found c.args.word.now c.args.text.now c.loop-start.start c.loop-start.count c.loop-start.invariant.so_far end
