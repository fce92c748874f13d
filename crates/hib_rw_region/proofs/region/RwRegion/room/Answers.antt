use Rattle.std.proofs.Common.{sym, ap, ◌∙◌}
use Rattle.hib_room_laws.specs.Queued.{queued}
use Rattle.hib_rw_region.specs.Region.{kept_in}
use Rattle.hib_rw_region.proofs.Victims.{victim_apart}
use Rattle.hib_rw_region.proofs.region.RwRegion.room.Goals as goal

pub returns-clause-apart : goal.returns-clause-apart
returns-clause-apart c id absent =
    victim_apart c.in_ok-victim.victim c.args.floor (queued c.self.inside.front.entries c.self.inside.back.entries) (sym c.in_ok-victim.ensures) id
    (ap (λ s. kept_in s id) c.self.view_is ∙ absent)
