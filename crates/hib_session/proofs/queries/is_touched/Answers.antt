use Rattle.std.proofs.Common.{slice_get, ◌∙◌}
use Rattle.hib_session.proofs.Ranges.{touched_by}
use Rattle.hib_session.proofs.queries.is_touched.Goals as goal

pub returns : goal.returns
returns c = c.touches_named.ensures ∙ touched_by c.args.script.now (slice_get c.args.script.now.queries c.args.query) c.args.changes.now
