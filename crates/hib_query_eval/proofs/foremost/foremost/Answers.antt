use Rattle.std.proofs.Common.{◌≡◌, ◌+◌, ◌≤◌, ◌&&◌, not, true, length, map, IfSome, arith, subst}
use Rattle.std.specs.List.{filter, list_all}
use Rattle.hib_query_eval.specs.Enough.{is_listed}
use Rattle.hib_query_eval.specs.Orders.{is_behind, is_alike}
use Rattle.hib_query_eval.proofs.Nearer.{first_near}
use Rattle.hib_query_eval.proofs.foremost.foremost.Goals as goal

pub returns-clause-first : goal.returns-clause-first
returns-clause-first c =
    let q = c.args.query.now in
    let o = c.in-Some.sort.now in
    let b = c.in-Some-get.bound.now in
    let l : q.offset + q.limit ≤ length c.in-Some-3.met.items = omega (arith, c.len.ensures, c.last_place-most.ensures, c.if-len-most.false) in
    first_near (λ r. r.now) o c.in-Some.ensures.1.0 q.order b (is_listed q c.args.view.now) c.args.rows.now c.in-Some-3.met.items (q.offset + q.limit) c.in-Some.ensures.1.1
    (subst (λ m. IfSome m (λ v. map (λ r. r.now) v.items ≡ filter (λ a. not (is_behind o b a) && is_listed q c.args.view.now a) c.args.rows.now)) c.in-Some-3.is c.in_ok-met.ensures.met)
    (subst (λ m. IfSome m (λ v. list_all (is_alike o b) c.args.rows.now ≡ true)) c.in-Some-3.is c.in_ok-met.ensures.alike)
    l
