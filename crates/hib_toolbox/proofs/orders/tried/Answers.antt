use Rattle.std.proofs.Common.{◌≡◌, ◌⊎◌, ◌≤◌, ℕ, [], refl, true, subst}
use Rattle.hib_order_law.specs.Orders.{onto}
use Rattle.hib_order_stage.specs.Staged.{rows_at_start}
use Rattle.hib_toolbox.proofs.Tried.{first_told, none_told}
use Rattle.hib_toolbox.proofs.orders.tried.Goals as goal

pub returns-in-Ok : goal.returns-in-Ok
returns-in-Ok g c = λ lent. (
  record {
    of = c.in-Ok.ensures.script;
    told = c.in-Ok.ensures.tried;
    few = subst (λ (n : ℕ). c.in-Ok.searched.told.findings.tried ≤ n) c.limit_of-limit.ensures c.in-Ok.ensures.limit;
    whole = subst (λ (n : ℕ). (c.in-Ok.searched.told.whole ≡ true) ⊎ (c.in-Ok.searched.told.findings.tried ≡ n))
        c.limit_of-limit.ensures c.in-Ok.ensures.whole;
    none = none_told c.what_is_told_is_so.ensures.none c.args.script c.args.orders.kills c.args.orders.switches c.in-Ok.searched.told.whole c.in-Ok.searched.told.level
        c.in-Ok.searched.told.findings c.in-Ok.ensures.tried;
    first = first_told c.what_is_told_is_so.ensures.first c.schedules_play_orders.ensures.shown c.shown_runs_come_again.ensures.again c.args.script c.args.orders.kills c.args.orders.switches
        c.in-Ok.searched.told.whole c.in-Ok.searched.told.level c.in-Ok.searched.told.findings c.in-Ok.ensures.tried;
    never = λ es run k rw. c.rows_cohere.ensures.rows c.args.script (rows_at_start c.args.script) k rw (onto es []) run.undisturbed.legal;
  },
  refl,
)
