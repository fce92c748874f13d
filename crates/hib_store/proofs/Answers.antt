-- A keeper's answer to a batch, as the answer of a commit.
use Rattle.std.proofs.Common.{◌≡◌, List, Some, None, Option, IfSome, ap, ◌∙◌}
use Rattle.hib_base.specs.Tables.{Tables, commit_answer}
use Rattle.hib_outside.specs.Verdicts.{verdict, commit_of}
use Rattle.hib_outside.specs.declared.keeper.Applied.{Applied}
use Rattle.hib_outside.proofs.Commits.{commit_of_verdict}
use Rattle.hib_store.specs.Types.{Change}

pub answer_told : (cs : List Change) (a : Applied) (told : Option Tables) → IfSome told (λ m. a ≡ verdict m cs 0) → IfSome told (λ m. commit_of cs a ≡ commit_answer cs m)
answer_told cs a None h = tt
answer_told cs a (Some m) h = ap (commit_of cs) h ∙ commit_of_verdict cs m
