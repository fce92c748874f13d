use Rattle.std.proofs.Common.{◌≡◌, ◌≢◌, ◌+◌, map, take, IfSome, subst}
use Rattle.std.specs.List.{filter}
use Rattle.std.proofs.lemmas.Result.{IfOk-weaker}
use Rattle.hib_journal.specs.Types.{Select}
use Rattle.hib_journal.specs.Query.{sorted}
use Rattle.hib_query_eval.specs.Enough.{is_listed}
use Rattle.hib_query_eval.proofs.Nearer.{given_foremost}
use Rattle.hib_query_eval.proofs.overlay.given.Goals as goal

pub returns-in-Some : goal.returns-in-Some
returns-in-Some c =
    let q = c.args.query.now in
    let own = c.of_entity-own.result.now in
    IfOk-weaker c.selected.result _ _
    (λ l e. given_foremost q c.args.rows.now c.of-view.result own (map (λ r. r.now) c.in-Some.met.items) l c.of-view.ensures c.of_entity-own.ensures.has_all
    (subst (λ o. IfSome o (λ v. q.select ≢ Select.Count)) c.in-Some.is c.in_ok-met.ensures.asked)
    (subst (λ o. IfSome o (λ v. take (q.offset + q.limit) (sorted q.order (map (λ r. r.now) v.items))
    ≡ take (q.offset + q.limit) (sorted q.order (filter (is_listed q c.of-view.result) own)))) c.in-Some.is c.in_ok-met.ensures.first)
    e)
    c.selected.ensures
