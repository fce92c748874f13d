use Rattle.std.proofs.Common.{◌≡◌, ◌+◌, true, None, sym, ap, subst, ◌∙◌}
use Rattle.std.proofs.lemmas.Bool.{false≢true}
use Rattle.hib_engines.specs.declared.region.Region.{Region}
use Rattle.hib_engines.specs.Region.{after_unlock, has_slot}
use Rattle.hib_engines.proofs.FenceServed.{locked_slot, fenced}
use Rattle.hib_engines.proofs.region.Region.fence.Goals as goal

pub unreachable-requires : goal.unreachable-requires
unreachable-requires c = false≢true (c.in-Err.ensures.there
    (subst (λ (x : Region). has_slot x c.args.key.id ≡ true) (sym c.in_ok-locked.ensures.state) (locked_slot c.args.self.now c.args.key.id None c.args.floor c.args.now)))

pub returns-clause-fenced : goal.returns-clause-fenced
returns-clause-fenced c = λ script l placed late g.
    fenced c.laws.ensures script l c.args.now c.args.key c.args.floor c.in_ok-locked.locked c.in-Ok.unlocked c.args.self.now c.lock.new.self c.unlock.new.self
    c.in_ok-locked.ensures.answer c.in_ok-locked.ensures.state c.in-Ok.ensures.answer
    (c.in-Ok.ensures.state ∙ ap (λ t. after_unlock c.lock.new.self c.args.key.id c.in_ok-locked.locked.id (t + 1)) c.now.view_is) placed late g
