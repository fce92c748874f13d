use Rattle.std.proofs.Common.{◌≡◌, ◌&&◌, true, leb, length, rules, tests, refl}
use Rattle.std.specs.List.{list_all}
use Rattle.std.proofs.lemmas.Bool.{le-leb}
use Rattle.std.proofs.lemmas.Iterator.{YieldsList-from_slice}
use Rattle.std.proofs.lemmas.Iterator.Search.{all_from_yields_List}
use Rattle.hib_base.specs.Valid.{is_order_in, max_orders}
use Rattle.hib_order_schedule.specs.Schedules.{is_run_or_kill}
use Rattle.hib_order_schedule.proofs.scripts.may_have_schedule.Goals as goal

pub returns-then-schedule-le-MOST_ORDERS : goal.returns-then-schedule-le-MOST_ORDERS
returns-then-schedule-le-MOST_ORDERS c =
    let n = length c.args.script.now.sessions in
    let all : c.all.result ≡ list_all (λ o. is_run_or_kill o && is_order_in n o) c.args.schedule.now =
    all_from_yields_List (λ o. is_run_or_kill o && is_order_in n o) _ _ c.all.result c.all.ensures.ran (YieldsList-from_slice c.args.schedule.now cc) (λ x b q k. search (rules, tests)) in
    let few : leb (length c.args.schedule.now) max_orders ≡ true = le-leb (length c.args.schedule.now) max_orders c.if-schedule-le-MOST_ORDERS.true in
    rw (few, all) refl
