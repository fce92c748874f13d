use Rattle.std.proofs.Common.{◌≡◌, drop}
use Rattle.std.specs.List.{list_any}
use Rattle.hib_base.specs.Keys.{same_key}
use Rattle.hib_base.specs.Tables.{key_of}
use Rattle.hib_completion.proofs.touched.is_changed.Given as goal

-- no change so far is of the key
abbrev pub invariant-loop-change : goal.invariant-loop-change
invariant-loop-change l =
    list_any (λ c. same_key (key_of c) l.key) l.changes ≡ list_any (λ c. same_key (key_of c) l.key) (drop l.change-index l.changes)
