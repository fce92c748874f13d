use Rattle.std.proofs.Common.{◌≡◌, ◌<◌, ◌≤◌, ◌+◌, ◌-◌, ℕ, Vec, Global, length, get_or, sym, subst, arith, rules}
use Rattle.std.specs.Prelude.{slice_set}
use Rattle.hib_nodes.proofs.Named.{AreNamed, named_more, named_past, none_named}
use Rattle.hib_nodes.proofs.placing.nodes_of.Goals as goal
use Rattle.hib_nodes.proofs.placing.nodes_of.Goals.{then-at-sessions, else-at-sessions}

pub loop-back-init : goal.loop-back-init
loop-back-init c = none_named c.args.places.now (length c.args.places.now - 0) c.args.sessions c.in_ok-nodes.nodes.items (search rules) (omega arith)

pub loop-back-preserved : goal.loop-back-preserved
loop-back-preserved c =
    let ps = c.args.places.now in
    let p : ℕ × ℕ = c.index-places-places.result in
    let i : ℕ = length ps - (c.loop-back.back + 1) in
    let below : i < length ps = omega (arith, c.loop-back-test.true) in
    let here : length ps - 1 - c.loop-back.back ≡ i = omega (arith, c.loop-back-test.true) in
    let at : p ≡ get_or ps i p = subst (λ (n : ℕ). p ≡ get_or ps n p) here c.index-places-places.is in
    let next : length ps - c.loop-back.back ≡ i + 1 = omega (arith, c.loop-back-test.true) in
    let so_far : AreNamed ps (i + 1) c.args.sessions c.loop-back.nodes.items = subst (λ n. AreNamed ps n c.args.sessions c.loop-back.nodes.items) next c.loop-back.invariant in
    let view : (c.place.inside.0.0.0, c.place.inside.0.1.0) ≡ p = c.place.view_is in
    elim c.if-at-sessions.branch [
      | then-at-sessions w ↦ subst (λ (v : Vec ℕ Global). AreNamed ps i c.args.sessions v.items) (sym w.nodes-is)
          (subst (λ (q : ℕ × ℕ). AreNamed ps i c.args.sessions (slice_set c.loop-back.nodes.items q.0 q.1)) (sym view)
          (named_more ps i c.args.sessions c.loop-back.nodes.items p below at (subst (λ (q : ℕ × ℕ). q.0 < c.args.sessions) view w.if-at-sessions.true) so_far))
      | else-at-sessions w ↦ subst (λ (v : Vec ℕ Global). AreNamed ps i c.args.sessions v.items) (sym w.nodes-is)
          (named_past ps i c.args.sessions c.loop-back.nodes.items p below at (subst (λ (q : ℕ × ℕ). c.args.sessions ≤ q.0) view w.if-at-sessions.false) so_far)
    ]
