use Rattle.std.proofs.Common.{Ok, refl, ap, ◌∙◌}
use Rattle.hib_script.proofs.Passing.{err_given}
use Rattle.hib_script.proofs.reader.pass.Goals as goal

pub returns-in-Ok-Some-clause-refused : goal.returns-in-Ok-Some-clause-refused
returns-in-Ok-Some-clause-refused c =
    err_given c.follow.result c.follow.ensures.refused (λ x f. f c.args.before c.args.line.now refl (c.in-Ok-Some.ensures.line ∙ ap Ok c.in-Ok-Some.field-0-is))
