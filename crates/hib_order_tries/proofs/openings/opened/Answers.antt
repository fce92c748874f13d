use Rattle.std.specs.Prelude.{IfOk}
use Rattle.std.proofs.Common.{◌≡◌, ◌++◌, ℕ, List, [], ◌∷◌, Ok, Err, Result, sym, ap, ◌∙◌}
use Rattle.hib_order_law.specs.Orders.{comes, whose}
use Rattle.hib_order_law.specs.declared.step.Step.{Step}
use Rattle.hib_order_law.specs.declared.step.Turn.{Turn}
use Rattle.hib_order_tries.specs.Left.{open_with, turn_of}
use Rattle.hib_order_tries.specs.Tail.{AreKills}
use Rattle.hib_order_tries.proofs.Opened.{AreOpened, opened_closes, opened_opens, others_of}
use Rattle.hib_order_tries.proofs.openings.opened.Goals as goal

each_closed : {V E : Type 0} (items : V → List Step) (r : Result V E) (olds : List Step) (step : Step) (turn : Turn) (n : ℕ) → turn_of step turn ≡ Turn.Closes → n ≡ whose step →
    IfOk r (λ v. items v ≡ others_of n olds) → IfOk r (λ v. AreKills olds → AreKills (items v))
each_closed items (Ok v) olds step turn n t w e = (opened_closes olds (items v) step turn n t w e).each
each_closed items (Err x) olds step turn n t w e = e

all_closed : {V E : Type 0} (items : V → List Step) (r : Result V E) (olds : List Step) (step : Step) (turn : Turn) (n : ℕ) → turn_of step turn ≡ Turn.Closes → n ≡ whose step →
    IfOk r (λ v. items v ≡ others_of n olds) → IfOk r (λ v. (s : ℕ) → comes s (items v) ≡ open_with s step turn (comes s olds))
all_closed items (Ok v) olds step turn n t w e = (opened_closes olds (items v) step turn n t w e).all
all_closed items (Err x) olds step turn n t w e = e

pub returns-in-Closes-clause-each : goal.returns-in-Closes-clause-each
returns-in-Closes-clause-each c =
    each_closed (λ v. v.items) c.without.result c.args.olds.now c.args.step c.args.turn c.session.result (sym c.turn_of.ensures ∙ c.in-Closes.is) c.session.ensures c.without.ensures

pub returns-in-Closes-clause-all : goal.returns-in-Closes-clause-all
returns-in-Closes-clause-all c =
    all_closed (λ v. v.items) c.without.result c.args.olds.now c.args.step c.args.turn c.session.result (sym c.turn_of.ensures ∙ c.in-Closes.is) c.session.ensures c.without.ensures

open_now : (olds without new : List Step) (step : Step) (turn : Turn) (n m : ℕ) → turn_of step turn ≡ Turn.Opens → n ≡ whose step → m ≡ whose step → without ≡ others_of n olds →
    new ≡ without ++ Step.Kill m ∷ [] → AreOpened olds new step turn
open_now olds without new step turn n m t w v e f =
    opened_opens olds new step turn n t w (f ∙ ap (λ x. x ++ Step.Kill m ∷ []) e ∙ ap (λ i. others_of n olds ++ Step.Kill i ∷ []) (v ∙ sym w))

pub returns-in_ok-push-in-Opens-clause-each : goal.returns-in_ok-push-in-Opens-clause-each
returns-in_ok-push-in-Opens-clause-each c =
    (open_now c.args.olds.now c.in_ok-steps-in-Opens.steps.items c.push.new.self.items c.args.step c.args.turn c.session-in-Opens.result c.session-in-Opens-2.result
    (sym c.turn_of.ensures ∙ c.in-Opens.is) c.session-in-Opens.ensures c.session-in-Opens-2.ensures c.in_ok-steps-in-Opens.ensures c.in_ok-push-in-Opens.ensures.items).each

pub returns-in_ok-push-in-Opens-clause-all : goal.returns-in_ok-push-in-Opens-clause-all
returns-in_ok-push-in-Opens-clause-all c =
    (open_now c.args.olds.now c.in_ok-steps-in-Opens.steps.items c.push.new.self.items c.args.step c.args.turn c.session-in-Opens.result c.session-in-Opens-2.result
    (sym c.turn_of.ensures ∙ c.in-Opens.is) c.session-in-Opens.ensures c.session-in-Opens-2.ensures c.in_ok-steps-in-Opens.ensures c.in_ok-push-in-Opens.ensures.items).all
