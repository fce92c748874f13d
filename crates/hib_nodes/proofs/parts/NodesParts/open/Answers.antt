use Rattle.std.proofs.Common.{ap, ◌∙◌}
use Rattle.std.specs.Option.{option_map}
use Rattle.hib_base.specs.Start.{start}
use Rattle.hib_base.specs.Tables.{Tables}
use Rattle.hib_update_stamps.specs.Stamped.{unstamped}
use Rattle.hib_engines.specs.Origin.{told_start}
use Rattle.hib_nodes.proofs.Begun.{node_begins, parts_begin}
use Rattle.hib_nodes.proofs.parts.NodesParts.open.Goals as goal

pub returns-clause-standing : goal.returns-clause-standing
returns-clause-standing g c =
    let script = c.args.script.now in
    let kept = g.K.Keeper.tables c.args.keeper in
    parts_begin c.laws.ensures script (told_start script kept) _
    (c.in_ok-store.ensures.tables ∙ ap (λ (rows : Tables). option_map (λ t. start script.mapping t rows) kept) c.as_slice-rows.ensures)
    c.in_ok-store.ensures.written (c.in-Ok-open-2.ensures ∙ ap unstamped c.len.ensures) c.in-Ok-open-3.ensures c.requires.built.results
    (node_begins c.laws.ensures script c.in-Ok.first c.in-Ok.ensures.registry c.in-Ok.ensures.regions)
    (node_begins c.laws.ensures script c.in-Ok-open.second c.in-Ok-open.ensures.registry c.in-Ok-open.ensures.regions)
