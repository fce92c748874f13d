use Rattle.std.proofs.Common.{sym}
use Rattle.std.proofs.lemmas.Result.{on_ok_weaker, on_err_weaker}
use Rattle.hib_store.proofs.Sessions.{changed_there, unchanged_there}
use Rattle.hib_store.proofs.written.add_change.Goals as goal

pub returns-clause-ok : goal.returns-clause-ok
returns-clause-ok c = on_ok_weaker c.push.result
    (λ grown. changed_there c.args.session c.in-Some.index c.args.written.now.entries c.index_mut.result.now (sym c.in-Some.ensures.index) c.index_mut.ensures.value
    c.push.new.self c.args.change grown)
    c.push.ensures.ok

pub returns-clause-err : goal.returns-clause-err
returns-clause-err c = on_err_weaker c.push.result
    (λ same. unchanged_there c.args.session c.in-Some.index c.args.written.now.entries c.index_mut.result.now (sym c.in-Some.ensures.index) c.index_mut.ensures.value
    c.push.new.self same)
    c.push.ensures.err
