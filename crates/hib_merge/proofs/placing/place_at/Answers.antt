use Rattle.std.proofs.Common.{◌<◌, length, arith}
use Rattle.std.proofs.lemmas.Result.{on_ok_weaker}
use Rattle.hib_merge.proofs.Placed.{placed}
use Rattle.hib_merge.proofs.placing.place_at.Goals as goal

pub returns-clause-placed : goal.returns-clause-placed
returns-clause-placed c =
    let there : c.args.at < length c.args.lists.now.items = omega arith in
    on_ok_weaker c.push.result
    (λ g s b. placed c.args.lists.now.items c.args.at c.index_mut.result.now c.push.new.self c.args.entry.now there c.index_mut.ensures.value g s)
    c.push.ensures
