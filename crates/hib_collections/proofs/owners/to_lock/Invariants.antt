use Rattle.std.proofs.Common.{◌≡◌, drop}
use Rattle.std.specs.Prelude.{not}
use Rattle.std.specs.List.{find}
use Rattle.std.specs.Option.{option_copied}
use Rattle.hib_collections_law.specs.Gathered.{is_locked, owners_from}
use Rattle.hib_collections.proofs.owners.to_lock.Given as goal

abbrev pub invariant-loop-at : goal.invariant-loop-at
invariant-loop-at l = find (λ p. not (is_locked l.locks.held p)) (owners_from 0 l.defs (option_copied l.old) l.change)
    ≡ find (λ p. not (is_locked l.locks.held p)) (owners_from l.at (drop l.at l.defs) (option_copied l.old) l.change)
