use Rattle.std.proofs.Common.{◌≡◌, ◌<◌, ◌+◌, ℕ, ◌∷◌, sym, subst, ap, ◌∙◌}
use Rattle.hib_journal.specs.Kept.{past}
use Rattle.hib_journal.specs.Sessions.{Journal}
use Rattle.hib_engines.specs.Fenced.{with_fence}
use Rattle.hib_parts.specs.Listed.{RegionState, last_of}
use Rattle.hib_parts.proofs.Fences.{IsKept, fence_kept, fence_listed}
use Rattle.hib_parts.proofs.region.RegionPart.fence.Goals as goal

pub invariant_of-self-2 : goal.invariant_of-self-2
invariant_of-self-2 g c =
    let script = g.N.Name.script in
    let told = g.N.Name.from.tables in
    let l : Journal = past c.self.inside.list in
    let e : c.args.key.entity ≡ c.self.inside.entity = c.requires.entity ∙ ap (λ (v : RegionState). v.entity) (sym c.self.view_is) in
    let late : last_of l < c.args.now = subst (λ (v : RegionState). last_of v.list < c.args.now) (sym c.self.view_is) c.requires.later in
    let listed : past c.add-2.new.list ≡ with_fence c.args.now c.args.key c.args.floor c.in_ok-locked.locked c.in_ok-locked.unlocked l =
    fence_listed c.args.now c.args.key c.args.floor c.in_ok-locked.locked c.in_ok-locked.unlocked l (past c.reserve_two.new.self) (past c.add.new.list) (past c.add-2.new.list)
    c.fence_entries-lock.result.0 c.fence_entries-lock.result.1 c.reserve_two.ensures.past c.add.ensures.past c.add-2.ensures.past c.fence_entries-lock.ensures.lock c.fence_entries-lock.ensures.unlock in
    let kept = fence_kept script told l c.self.inside.last c.args.now c.args.key c.args.floor c.in_ok-locked.locked c.in_ok-locked.unlocked c.self.inside.region c.fence.new.self
    (subst (λ (n : ℕ). IsKept script told n l c.self.inside.last c.self.inside.region) (sym e) c.self.invariant) c.requires.strategy late c.requires.bounded c.in_ok-locked.ensures.fenced in
    subst (λ (t : ℕ). IsKept script told c.self.inside.entity (past c.add-2.new.list) t c.fence.new.self) (sym (ap (λ (d : Rattle.hib_journal.specs.Types.Entry). d.tick) c.fence_entries-lock.ensures.unlock))
    (subst (λ (j : Journal). IsKept script told c.self.inside.entity j (c.args.now + 1) c.fence.new.self) (sym listed)
    (subst (λ (n : ℕ). IsKept script told n (with_fence c.args.now c.args.key c.args.floor c.in_ok-locked.locked c.in_ok-locked.unlocked l) (c.args.now + 1) c.fence.new.self) e kept))

pub returns-clause-fenced : goal.returns-clause-fenced
returns-clause-fenced g c =
    let l : Journal = past c.self.inside.list in
    record {
      locked = c.in_ok-locked.locked;
      unlocked = c.in_ok-locked.unlocked;
      list = fence_listed c.args.now c.args.key c.args.floor c.in_ok-locked.locked c.in_ok-locked.unlocked l (past c.reserve_two.new.self) (past c.add.new.list) (past c.add-2.new.list)
          c.fence_entries-lock.result.0 c.fence_entries-lock.result.1 c.reserve_two.ensures.past c.add.ensures.past c.add-2.ensures.past c.fence_entries-lock.ensures.lock c.fence_entries-lock.ensures.unlock
          ∙ ap (λ (v : RegionState). with_fence c.args.now c.args.key c.args.floor c.in_ok-locked.locked c.in_ok-locked.unlocked v.list) c.self.view_is;
    }
