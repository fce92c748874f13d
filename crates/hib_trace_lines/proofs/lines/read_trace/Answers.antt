use Rattle.hib_lex.specs.Lines.{lines_of}
use Rattle.hib_trace_lines.specs.Lines.{IsRefusedAs}
use Rattle.hib_trace_lines.proofs.SoFar.{each_way, one_list, none_bad, only_memory, refused_one}
use Rattle.hib_trace_lines.proofs.lines.read_trace.Goals as goal

pub returns-clause-only : goal.returns-clause-only
returns-clause-only c = λ es s a.
    each_way c.read_lines.result _ _ _ _ (λ v l. one_list (lines_of c.args.text.now) v.items es l a)
    (λ e r. only_memory c.args.text.now es e s a r) c.read_lines.ensures.lines c.read_lines.ensures.refused

pub returns-clause-first_bad : goal.returns-clause-first_bad
returns-clause-first_bad c = λ n f s b.
    each_way c.read_lines.result _ (λ v. ⊥) _ (IsRefusedAs n f) (λ v l. none_bad (lines_of c.args.text.now) v.items n f l b)
    (λ e r. refused_one c.args.text.now n f e s b r) c.read_lines.ensures.lines c.read_lines.ensures.refused
