use Rattle.std.specs.Prelude.{Vec}
use Rattle.std.specs.declared.alloc.Global.{Global}
use Rattle.hib_trace_calls.proofs.Grown.{zip_step}
use Rattle.hib_trace_findings.specs.Judged.{lives_of}
use Rattle.hib_traces.specs.Places.{ArePlaces}
use Rattle.hib_traces.specs.declared.order.Order.{Order}
use Rattle.hib_traces.specs.declared.places.Place.{Place}
use Rattle.hib_trace_filed.proofs.orders.all_lives.Goals as goal

pub loop-order-preserved : goal.loop-order-preserved
loop-order-preserved c =
    zip_step (λ (o : Order) (v : Vec Place Global). ArePlaces o.commits.items (lives_of c.args.none o.commits.items) v.items) c.args.orders.now
    c.loop-order.lives.items c.push.new.self.items c.loop-order.order-index c.order-item.result c.in_ok-lives_of.field-0 c.loop-order-test.true
    c.order-item.is c.loop-order.invariant c.in_ok-lives_of.ensures c.in_ok-push.ensures.items
