use Rattle.std.proofs.Common.{rules, ◌≡◌, true, ◌&&◌, nat_lt, ap, ◌∙◌}
use Rattle.hib_journal.specs.Query.{reads}
use Rattle.hib_flush.specs.Planned.{planned}
use Rattle.hib_identity_map.specs.Identity.{MapState}
use Rattle.hib_session.specs.Queries.{touches}
use Rattle.hib_session.proofs.Covered.{any_planned}
use Rattle.hib_session.proofs.instances.Instances.touch.Goals as goal

pub returns : goal.returns
returns c =
    let s : c.self.inside.sure ≡ true = search rules in
    c.is_one_dirty.ensures
    ∙ (rw c.as_slice.ensures.keys (any_planned (λ n. nat_lt n c.args.entities && reads c.args.query.now n) c.self.inside.map c.self.inside.touched.keys (c.self.invariant s))
    ∙ ap (λ (m : MapState). touches c.args.entities c.args.query.now (planned m)) c.self.view_is)
