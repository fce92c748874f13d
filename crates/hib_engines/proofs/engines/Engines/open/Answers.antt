use Rattle.std.proofs.Common.{◌≡◌, ap, arith, ◌∙◌}
use Rattle.std.specs.Option.{option_map}
use Rattle.hib_base.specs.Start.{start}
use Rattle.hib_base.specs.Tables.{Tables}
use Rattle.hib_update_stamps.specs.Stamped.{unstamped}
use Rattle.hib_engines.specs.Built.{IsBuilt}
use Rattle.hib_engines.specs.Origin.{told_start}
use Rattle.hib_engines.proofs.Begun.{engines_begin}
use Rattle.hib_engines.proofs.Ready.{ready}
use Rattle.hib_engines.proofs.engines.Engines.open.Goals as goal

pub overflow_cast-len : goal.overflow_cast-len
overflow_cast-len g c = let b : IsBuilt c.args.script.now = ready c.args.script.now c.requires in omega (arith, b.entities, c.len.ensures)

pub overflow_cast-entities : goal.overflow_cast-entities
overflow_cast-entities g c = let b : IsBuilt c.args.script.now = ready c.args.script.now c.requires in omega (arith, b.entities, c.len-entities.ensures)

pub open-requires-2 : goal.open-requires-2
open-requires-2 g c = let b : IsBuilt c.args.script.now = ready c.args.script.now c.requires in b.results

pub returns-clause-standing : goal.returns-clause-standing
returns-clause-standing g c =
    let script = c.args.script.now in
    let b : IsBuilt script = ready script c.requires in
    let kept = g.K.Keeper.tables c.args.keeper in
    engines_begin c.laws.ensures script (told_start script kept) _
    (c.in_ok-store.ensures.tables ∙ ap (λ (rows : Tables). option_map (λ t. start script.mapping t rows) kept) c.as_slice-rows.ensures)
    c.in_ok-store.ensures.written c.new.ensures (c.in-Ok-open.ensures ∙ ap unstamped c.len.ensures) c.in-Ok.ensures c.in-Ok-open-2.ensures b.results
