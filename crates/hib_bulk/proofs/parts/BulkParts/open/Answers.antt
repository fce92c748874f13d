use Rattle.std.proofs.Common.{ap, ◌∙◌}
use Rattle.std.specs.Option.{option_map}
use Rattle.hib_base.specs.Start.{start}
use Rattle.hib_base.specs.Tables.{Tables}
use Rattle.hib_update_stamps.specs.Stamped.{unstamped}
use Rattle.hib_engines.specs.Origin.{told_start}
use Rattle.hib_bulk.proofs.Begun.{parts_begin}
use Rattle.hib_bulk.proofs.parts.BulkParts.open.Goals as goal

pub returns-clause-standing : goal.returns-clause-standing
returns-clause-standing g c lines b =
    let script = c.args.script.now in
    let kept = g.K.Keeper.tables c.args.keeper in
    parts_begin c.laws.ensures c.stays.ensures.begin script lines (told_start script kept) _ b
    (c.in_ok-store.ensures.tables ∙ ap (λ (rows : Tables). option_map (λ t. start script.mapping t rows) kept) c.as_slice-rows.ensures)
    c.in_ok-store.ensures.written c.new.ensures (c.in-Ok-open.ensures ∙ ap unstamped c.len.ensures) c.in-Ok.ensures c.in-Ok-open-2.ensures b.built.results
