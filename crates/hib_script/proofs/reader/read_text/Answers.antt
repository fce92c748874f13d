use Rattle.std.proofs.Common.{◌+◌, ◌-◌, ◌≤◌, length, ap, sym, ◌∙◌, subst, arith}
use Rattle.std.proofs.Math.Nat.{min-le_left, le-min}
use Rattle.std.proofs.lemmas.List.{drop_all}
use Rattle.std.proofs.lemmas.Result.{err_from_is_err_and}
use Rattle.hib_lex.specs.Lines.{lines_of}
use Rattle.hib_lex.proofs.Texts.{from_place, size_within}
use Rattle.hib_script.specs.Drafts.{reader_of}
use Rattle.hib_script.specs.Passing.{come_to}
use Rattle.hib_script.specs.Script.{IsWhere}
use Rattle.hib_script.proofs.Passing.{line_cut}
use Rattle.hib_script.proofs.reader.read_text.Goals as goal

pub returns-in_err-last-clause-refused : goal.returns-in_err-last-clause-refused
returns-in_err-last-clause-refused c =
    let p = err_from_is_err_and c.from_residual.result c.from_residual.ensures.1 in
    let text = c.args.text.now in
    let here = ap (λ ls. come_to (reader_of c.loop-at.draft) c.loop-at.last c.loop-at.count ls)
    (sym (line_cut text c.loop-at.at c.line_length.result c.min-at.result c.loop-at-test.true c.line_length.ensures c.min-at.ensures)) ∙ c.loop-at.invariant.so_far in
    rw (p.1, p.2) (subst (λ o. IsWhere o c.in_err-last.field-0.0) here c.in_err-last.ensures.refused)

pub loop-at-preserved : goal.loop-at-preserved
loop-at-preserved c =
    let text = c.args.text.now in
    let at = c.loop-at.at in
    let size = c.line_length.result in
    let inside : at + size ≤ length text = size_within text at size c.loop-at-test.true c.line_length.ensures in
    let here = ap (λ ls. come_to (reader_of c.loop-at.draft) c.loop-at.last c.loop-at.count ls)
    (sym (line_cut text at size c.min-at.result c.loop-at-test.true c.line_length.ensures c.min-at.ensures)) ∙ c.loop-at.invariant.so_far in
    record {
      so_far = ap (λ xs. come_to (reader_of c.pass.new.draft) c.in_ok-last.last (c.loop-at.count + 1) (lines_of xs)) (sym (from_place text c.min-at.result))
          ∙ (sym c.in_ok-last.ensures.passed ∙ here);
      within = subst (λ n. n ≤ length text) (sym c.min-at.ensures) (min-le_left (length text) (at + size + 1));
      few = subst (λ n. c.loop-at.count + 1 ≤ n) (sym c.min-at.ensures) (le-min (omega (arith, c.loop-at.invariant.few, c.loop-at-test.true)) (omega (arith, c.loop-at.invariant.few)));
    }

pub returns-in_err-take_last-clause-refused : goal.returns-in_err-take_last-clause-refused
returns-in_err-take_last-clause-refused c =
    let p = err_from_is_err_and c.from_residual-in_err-take_last.result c.from_residual-in_err-take_last.ensures.1 in
    let text = c.args.text.now in
    let end : length text ≤ c.loop-at.at = omega (arith, c.loop-at-test.false) in
    let here = ap (λ xs. come_to (reader_of c.loop-at.draft) c.loop-at.last c.loop-at.count (lines_of xs)) (sym (drop_all c.loop-at.at text end)) ∙ c.loop-at.invariant.so_far in
    rw (p.1, p.2) (subst (λ o. IsWhere o c.in_err-take_last.field-0.0) here (c.in_err-take_last.ensures.refused c.loop-at.count))
