use Rattle.std.proofs.Common.{◌≡◌, arith, ap, ◌∙◌}
use Rattle.std.proofs.lemmas.Grind.{common_steps}
use Rattle.hib_sqlite_rows.specs.Body.{packed, unpacked}
use Rattle.hib_sqlite_rows.proofs.Laws.{unpacked_packed}
use Rattle.hib_sqlite_rows.proofs.body.pack.Goals as goal

pub returns-clause-back : goal.returns-clause-back
returns-clause-back c =
    let is : c.from_vec.result ≡ packed c.args.cells.now = grind (arith, common_steps) in
    ap unpacked is ∙ unpacked_packed c.args.cells.now c.requires
