use Rattle.std.proofs.Common.{sym}
use Rattle.hib_store.proofs.Sessions.{unchanged_there}
use Rattle.hib_store.proofs.written.lay.Goals as goal

pub returns : goal.returns
returns c =
    unchanged_there c.args.session c.in-Some.index c.args.written.now.entries c.index_mut.result.now (sym c.in-Some.ensures.index) c.index_mut.ensures.value
    c.lay.new.self c.lay.ensures
