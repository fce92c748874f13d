use Rattle.std.proofs.Common.{◌≡◌, ◌<◌, get_or, length, sym, ◌∙◌, subst}
use Rattle.std.specs.Prelude.{not}
use Rattle.std.specs.Option.{option_copied}
use Rattle.hib_collections_law.specs.Gathered.{is_locked}
use Rattle.hib_collections.proofs.Firsts.{find_more}
use Rattle.hib_collections.proofs.owners.to_lock.Goals as goal

pub loop-at-preserved : goal.loop-at-preserved
loop-at-preserved c =
    let d = c.def-item.result in
    find_more (λ p. not (is_locked c.args.locks.now.held p)) (option_copied c.args.old) c.args.change.now c.loop-at.at c.args.defs.now c.args.defs.now d
    (subst (λ ds. c.loop-at.at < length ds) c.as_slice-def-items.ensures c.loop-at-test.true)
    (subst (λ ds. d ≡ get_or ds c.loop-at.at d) c.as_slice-def-items.ensures c.def-item.is)
    (sym c.free_in.ensures ∙ c.in_default.is) c.loop-at.invariant
