use Rattle.std.specs.Prelude.{slice_get}
use Rattle.std.proofs.Common.{◌≡◌, ◌+◌, [], ◌∷◌, length, Some, refl, sym, ap, subst, ◌∙◌}
use Rattle.hib_nodes_law.specs.Apart.{AreOfParts}
use Rattle.hib_nodes_law.specs.Types.{Noded}
use Rattle.hib_nodes_law.specs.Nodes.{of_node, queue}
use Rattle.hib_nodes.specs.Fencing.{IsFencedAt}
use Rattle.hib_nodes.specs.Kept.{past}
use Rattle.hib_nodes.specs.Queue.{queue_in}
use Rattle.hib_nodes.specs.Run.{HasDelivered}
use Rattle.hib_nodes.specs.Shared.{SharedState, IsShared}
use Rattle.hib_nodes.specs.Standing.{AreBefore, entry_on, node_in}
use Rattle.hib_nodes.proofs.Delivering.{fence_of}
use Rattle.hib_nodes.proofs.Going.{before_next}
use Rattle.hib_nodes.proofs.Waiting.{none_waits, queue_is, waits_shared}
use Rattle.hib_nodes.proofs.fencing.deliver.Goals as goal

pub returns-in_default-clause-none : goal.returns-in_default-clause-none
returns-in_default-clause-none g c = λ _.
    let script = g.N.Name.script in
    let n = c.args.node in
    let x : SharedState = record { parts = c.shared.inside.parts; queues = c.shared.inside.queues; journal = c.shared.inside.journal } in
    let s : IsShared script g.N.Name.places g.N.Name.from x = subst (λ (v : SharedState). IsShared script g.N.Name.places g.N.Name.from v) (sym c.shared.view_is) c.requires.shared in
    record {
      same = refl;
      empty = subst (λ (v : SharedState). queue script n (past v.journal) ≡ []) c.shared.view_is
          (none_waits script n (past x.journal) (queue_in x.queues n) (s.queues n c.requires.node) (sym c.first.ensures ∙ c.in_default.is));
    }

pub returns-clause-shared : goal.returns-clause-shared
returns-clause-shared g c =
    let script = g.N.Name.script in
    let places = g.N.Name.places in
    let from = g.N.Name.from in
    let n = c.args.node in
    let i = c.requires.node in
    let x : SharedState = record { parts = c.shared.inside.parts; queues = c.shared.inside.queues; journal = c.shared.inside.journal } in
    let w : SharedState = record { parts = c.fence.new.self; queues = c.take.new.self; journal = c.push-2.new.self } in
    let h = past c.shared.inside.journal in
    let k = c.in-Some.key in
    let s : IsShared script places from x = subst (λ (v : SharedState). IsShared script places from v) (sym c.shared.view_is) c.requires.shared in
    let first : slice_get (queue script n h) 0 ≡ Some k = ap (λ ks. slice_get ks 0) (sym (queue_is script n h (queue_in x.queues n) (s.queues n i))) ∙ (sym c.first.ensures ∙ c.in-Some.is) in
    let now : c.len.result + 1 ≡ length h + 1 = ap (λ m. m + 1) (c.len.ensures.past ∙ ap length c.in_ok-reserve.ensures.past) in
    let told : AreOfParts h = c.parts_tell.ensures.told script from.tables places h (c.apart_is_legal.ensures.legal script from.tables places h s.run.turns s.run.apart) in
    let f = c.in_ok-lock.ensures.fenced script from.tables h s.run.standing (subst (λ t. AreBefore t h) (sym now) (before_next script places from h x.parts s.run)) i (waits_shared script n h k first) in
    let grown : past c.push-2.new.self ≡ entry_on n c.in_ok-lock.unlock ∷ entry_on n c.in_ok-lock.lock ∷ h =
    c.push-2.ensures.past ∙ (ap (λ (j : Noded). entry_on n c.in_ok-lock.unlock ∷ j) c.push.ensures.past ∙ ap (λ (j : Noded). entry_on n c.in_ok-lock.unlock ∷ entry_on n c.in_ok-lock.lock ∷ j) c.in_ok-reserve.ensures.past) in
    let fence = fence_of script places from n k c.in_ok-lock.lock c.in_ok-lock.unlock x w s i c.in_ok-reserve.ensures.few first told
    (subst (λ t. IsFencedAt script (of_node n h) k t c.in_ok-lock.lock c.in_ok-lock.unlock (node_in c.fence.new.self n)) now f.0) f.1 c.fence.ensures.store grown c.take.ensures in
    fence.shared

pub returns-clause-delivered : goal.returns-clause-delivered
returns-clause-delivered g c = λ _.
    let script = g.N.Name.script in
    let places = g.N.Name.places in
    let from = g.N.Name.from in
    let n = c.args.node in
    let i = c.requires.node in
    let x : SharedState = record { parts = c.shared.inside.parts; queues = c.shared.inside.queues; journal = c.shared.inside.journal } in
    let w : SharedState = record { parts = c.fence.new.self; queues = c.take.new.self; journal = c.push-2.new.self } in
    let h = past c.shared.inside.journal in
    let k = c.in-Some.key in
    let s : IsShared script places from x = subst (λ (v : SharedState). IsShared script places from v) (sym c.shared.view_is) c.requires.shared in
    let first : slice_get (queue script n h) 0 ≡ Some k = ap (λ ks. slice_get ks 0) (sym (queue_is script n h (queue_in x.queues n) (s.queues n i))) ∙ (sym c.first.ensures ∙ c.in-Some.is) in
    let now : c.len.result + 1 ≡ length h + 1 = ap (λ m. m + 1) (c.len.ensures.past ∙ ap length c.in_ok-reserve.ensures.past) in
    let told : AreOfParts h = c.parts_tell.ensures.told script from.tables places h (c.apart_is_legal.ensures.legal script from.tables places h s.run.turns s.run.apart) in
    let f = c.in_ok-lock.ensures.fenced script from.tables h s.run.standing (subst (λ t. AreBefore t h) (sym now) (before_next script places from h x.parts s.run)) i (waits_shared script n h k first) in
    let grown : past c.push-2.new.self ≡ entry_on n c.in_ok-lock.unlock ∷ entry_on n c.in_ok-lock.lock ∷ h =
    c.push-2.ensures.past ∙ (ap (λ (j : Noded). entry_on n c.in_ok-lock.unlock ∷ j) c.push.ensures.past ∙ ap (λ (j : Noded). entry_on n c.in_ok-lock.unlock ∷ entry_on n c.in_ok-lock.lock ∷ j) c.in_ok-reserve.ensures.past) in
    let fence = fence_of script places from n k c.in_ok-lock.lock c.in_ok-lock.unlock x w s i c.in_ok-reserve.ensures.few first told
    (subst (λ t. IsFencedAt script (of_node n h) k t c.in_ok-lock.lock c.in_ok-lock.unlock (node_in c.fence.new.self n)) now f.0) f.1 c.fence.ensures.store grown c.take.ensures in
    subst (λ (v : SharedState). HasDelivered script n (past v.journal) (past c.push-2.new.self)) c.shared.view_is fence.delivered
