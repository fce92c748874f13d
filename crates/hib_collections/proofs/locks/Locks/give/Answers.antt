use Rattle.std.proofs.Common.{sym, ◌∙◌, ap, drop}
use Rattle.std.proofs.lemmas.List.{drop-drop}
use Rattle.hib_collections.specs.Notes.{LocksState}
use Rattle.hib_collections.proofs.locks.Locks.give.Goals as goal

pub returns-then-self-len : goal.returns-then-self-len
returns-then-self-len c =
    sym (drop-drop 1 c.self.inside.given c.self.inside.taken.items) ∙ ap (λ (l : LocksState). drop 1 l.held) c.self.view_is
