use Rattle.std.proofs.Common.{◌≡◌, true, reverse, sym, subst}
use Rattle.hib_base.specs.Tables.{in_order}
use Rattle.hib_outside.specs.Parted.{joined}
use Rattle.hib_outside.proofs.Gaps.{front_in_order}
use Rattle.hib_outside.proofs.parted.give_behind.Goals as goal

pub is_last_behind-requires : goal.is_last_behind-requires
is_last_behind-requires c =
    let all : in_order (joined c.give.front.items c.give.back.items) ≡ true = subst (λ t. in_order t ≡ true) (sym c.give.invariant.rows) c.requires.ordered in
    subst (λ t. in_order t ≡ true) (sym c.as_slice.ensures.value) (front_in_order c.give.front.items (reverse c.give.back.items) all)
