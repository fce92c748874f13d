use Rattle.std.proofs.lemmas.Result.{err_from_is_err_and}
use Rattle.hib_lex.specs.Lines.{lines_of}
use Rattle.hib_journal_json.specs.Entries.{AreLines}
use Rattle.hib_journal_json.proofs.Journals.{one_list, none_bad, refused_one, only_memory, written_lines}
use Rattle.hib_journal_json.proofs.journal.read.Goals as goal

pub returns-in_err-read_lines-clause-only : goal.returns-in_err-read_lines-clause-only
returns-in_err-read_lines-clause-only c = λ es a.
    let p = err_from_is_err_and c.from_residual.result c.from_residual.ensures.1 in
    rw (p.1, p.2) (only_memory c.args.script.now (lines_of c.args.text.now) c.args.first es c.in_err-read_lines.field-0.0 a c.in_err-read_lines.ensures.refused)

pub returns-in_err-read_lines-clause-first_bad : goal.returns-in_err-read_lines-clause-first_bad
returns-in_err-read_lines-clause-first_bad c = λ n b.
    let p = err_from_is_err_and c.from_residual.result c.from_residual.ensures.1 in
    rw (p.1, p.2) (refused_one c.args.script.now (lines_of c.args.text.now) c.args.first n c.in_err-read_lines.field-0.0 b c.in_err-read_lines.ensures.refused)

pub returns-in_err-read_lines-clause-again : goal.returns-in_err-read_lines-clause-again
returns-in_err-read_lines-clause-again c = λ es a e.
    let p = err_from_is_err_and c.from_residual.result c.from_residual.ensures.1 in
    let lines : AreLines c.args.script.now (lines_of c.args.text.now) es = rw e (written_lines c.args.script.now es c.requires a) in
    rw (p.1, p.2) (only_memory c.args.script.now (lines_of c.args.text.now) c.args.first es c.in_err-read_lines.field-0.0 lines c.in_err-read_lines.ensures.refused)

pub returns-clause-only : goal.returns-clause-only
returns-clause-only c = λ es a. one_list c.args.script.now (lines_of c.args.text.now) c.read_lines.new.journal.list es c.requires c.in_ok-read_lines.ensures.lines a

pub returns-clause-first_bad : goal.returns-clause-first_bad
returns-clause-first_bad c = λ n b. none_bad c.args.script.now (lines_of c.args.text.now) c.read_lines.new.journal.list n c.in_ok-read_lines.ensures.lines b

pub returns-clause-again : goal.returns-clause-again
returns-clause-again c = λ es a e.
    let lines : AreLines c.args.script.now (lines_of c.args.text.now) es = rw e (written_lines c.args.script.now es c.requires a) in
    one_list c.args.script.now (lines_of c.args.text.now) c.read_lines.new.journal.list es c.requires c.in_ok-read_lines.ensures.lines lines
