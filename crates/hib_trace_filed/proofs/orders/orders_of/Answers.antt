use Rattle.std.proofs.Common.{◌++◌, [], ◌∷◌, sym, subst}
use Rattle.std.specs.Prelude.{List, Vec}
use Rattle.std.specs.List.{AllZip}
use Rattle.std.specs.declared.alloc.Global.{Global}
use Rattle.hib_trace_law.specs.declared.commits.Commit.{Commit}
use Rattle.hib_traces.specs.declared.order.Order.{Order}
use Rattle.hib_trace_filed.specs.Orders.{IsOrderOf}
use Rattle.hib_trace_filed.proofs.Filing.{zip_push}
use Rattle.hib_trace_filed.proofs.orders.orders_of.Goals as goal

pub loop-commits-preserved : goal.loop-commits-preserved
loop-commits-preserved c =
    let ready : IsOrderOf c.in-Some.commits.items c.in_ok-order_of.field-0 =
    record { same = c.in_ok-order_of.ensures.commits; stands = c.in_ok-order_of.ensures.stands } in
    subst (λ (os : List Order). AllZip (λ (f : Vec Commit Global) (o : Order). IsOrderOf f.items o) (c.loop-commits.yielded ++ c.in-Some.commits ∷ []) os)
    (sym c.in_ok-push.ensures.items)
    (zip_push (λ (f : Vec Commit Global) (o : Order). IsOrderOf f.items o) c.loop-commits.yielded c.loop-commits.orders.items c.in-Some.commits
    c.in_ok-order_of.field-0 c.loop-commits.invariant ready)
