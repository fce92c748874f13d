use Rattle.std.proofs.Common.{◌≡◌, ◌+◌, ◌<◌, ◌^◌, [], ◌∷◌, ◌++◌, length, cond, Some, true, refl, sym, ap, subst, ◌∙◌, arith}
use Rattle.std.proofs.lemmas.Bool.{false≢true}
use Rattle.hib_base.specs.declared.scripts.Script.{Script}
use Rattle.hib_journal.specs.Types.{Entry}
use Rattle.hib_journal.specs.Sessions.{Journal, own}
use Rattle.hib_journal.specs.Lists.{entry_at}
use Rattle.hib_session.specs.Memory.{brings}
use Rattle.hib_session.specs.Session.{Follows, IsTaken, number_of}
use Rattle.hib_engines.proofs.Outcomes.{err_all}
use Rattle.hib_nodes_law.specs.Nodes.{entries}
use Rattle.hib_nodes_law.specs.Legal.{node_of}
use Rattle.hib_nodes.specs.Kept.{past}
use Rattle.hib_nodes.specs.Queue.{other_node, queue_in}
use Rattle.hib_nodes.specs.Shared.{SharedState, IsShared, IsTurn, Leaves, Serves}
use Rattle.hib_nodes.specs.Standing.{IsTold, entry_on}
use Rattle.hib_nodes.specs.Turns.{is_committed, keys_at}
use Rattle.hib_nodes.proofs.Refused.{refused_none}
use Rattle.hib_nodes.proofs.Served.{asked_of, brings_so, entry_is, refused_of, serves_of, taken_of}
use Rattle.hib_nodes.proofs.Still.{leaves_of}
use Rattle.hib_nodes.proofs.turns.serve.Goals as goal

pub returns-in_err-keys-clause-err : goal.returns-in_err-keys-clause-err
returns-in_err-keys-clause-err g c =
    let script = g.N.Name.script in
    let y = c.args.session.now in
    let x : SharedState = record { parts = c.shared.inside.parts; queues = c.shared.inside.queues; journal = c.shared.inside.journal } in
    let w : SharedState = record { parts = c.shared.inside.parts; queues = c.keys_due.new.queues; journal = c.shared.inside.journal } in
    err_all _ _ (subst (λ (v : SharedState). Leaves script v w y y) c.shared.view_is
    (leaves_of script script x w y y refl refl (refused_none script (past c.shared.inside.journal) (number_of y) x.parts x.parts refl) c.in_err-keys.ensures.same refl (λ mine f. f)))

pub returns-in_err-reply-clause-err : goal.returns-in_err-reply-clause-err
returns-in_err-reply-clause-err g c =
    let script = g.N.Name.script in
    let places = g.N.Name.places in
    let from = g.N.Name.from in
    let y = c.args.session.now in
    let a = c.args.act in
    let x : SharedState = record { parts = c.shared.inside.parts; queues = c.shared.inside.queues; journal = c.shared.inside.journal } in
    let w : SharedState = record { parts = c.answer.new.self; queues = c.keys_due.new.queues; journal = c.shared.inside.journal } in
    let h = past c.shared.inside.journal in
    let shared : IsShared script places from x = subst (λ (v : SharedState). IsShared script places from v) (sym c.shared.view_is) c.requires.shared in
    let tick : c.args.tick ≡ length h + 1 = subst (λ (v : SharedState). c.args.tick ≡ length (past v.journal) + 1) (sym c.shared.view_is) c.requires.tick in
    let turn : IsTurn script h y a = subst (λ (v : SharedState). IsTurn script (past v.journal) y a) (sym c.shared.view_is) c.requires.turn in
    let refused = refused_of c.args.script.now script places from c.args.node c.args.tick x y a c.answer.new.self c.requires.script c.requires.node tick shared turn c.in_err-reply.ensures.refused in
    err_all _ _ (subst (λ (v : SharedState). Leaves script v w y y) c.shared.view_is (leaves_of script script x w y y refl refl refused c.in_ok-keys.ensures.same refl (λ mine f. f)))

pub returns-in_err-advance-clause-err : goal.returns-in_err-advance-clause-err
returns-in_err-advance-clause-err g c =
    let script = g.N.Name.script in
    let places = g.N.Name.places in
    let from = g.N.Name.from in
    let y = c.args.session.now in
    let z = c.advance.new.self in
    let a = c.args.act in
    let r = c.in_ok-reply.reply in
    let q = c.requires.script in
    let x : SharedState = record { parts = c.shared.inside.parts; queues = c.shared.inside.queues; journal = c.shared.inside.journal } in
    let h = past c.shared.inside.journal in
    let shared : IsShared script places from x = subst (λ (v : SharedState). IsShared script places from v) (sym c.shared.view_is) c.requires.shared in
    let tick : c.args.tick ≡ length h + 1 = subst (λ (v : SharedState). c.args.tick ≡ length (past v.journal) + 1) (sym c.shared.view_is) c.requires.tick in
    let turn : IsTurn script h y a = subst (λ (v : SharedState). IsTurn script (past v.journal) y a) (sym c.shared.view_is) c.requires.turn in
    let e : Entry = record { tick = c.args.tick; session = Some c.number-number.result; part = c.part_of-part.result; act = a; reply = r } in
    let is : e ≡ entry_at (length h + 1) (Some (number_of y)) a r = entry_is h (number_of y) c.number-number.result c.args.tick a r c.part_of-part.result tick c.number-number.ensures c.part_of-part.ensures in
    let told : IsTold script from.tables h (node_of places (number_of y)) (number_of y) (length h + 1) a r x.parts c.answer.new.self =
    asked_of c.args.script.now script places from c.args.node c.args.tick x y a r c.answer.new.self q c.requires.node tick shared turn c.in_ok-reply.ensures.answered in
    let mine : Journal = own (number_of y) (entries h) in
    let follows : Follows c.args.script.now y mine = subst (λ (v : Script). Follows v y mine) (sym q) turn.follows in
    let taken : IsTaken c.args.script.now (number_of y) mine e = subst (λ (v : Script). IsTaken v (number_of y) mine e) (sym q)
    (subst (λ (t : Entry). IsTaken script (number_of y) mine t) (sym is) (taken_of script h (node_of places (number_of y)) x.parts c.answer.new.self from.tables y a r turn told)) in
    let w : SharedState = record { parts = c.answer.new.self; queues = c.keys_due.new.queues; journal = c.shared.inside.journal } in
    let b : brings a ≡ true = brings_so (brings a) (λ p. false≢true (c.in_err-advance.ensures.room mine follows taken c.requires.ready p)) in
    err_all c.from_residual-in_err-advance.result _ (subst (λ (v : SharedState). Leaves script v w y z) c.shared.view_is
    (leaves_of c.args.script.now script x w y z q refl
    (refused_of c.args.script.now script places from c.args.node c.args.tick x y a c.answer.new.self q c.requires.node tick shared turn (c.in_ok-reply.ensures.passed b)) c.in_ok-keys.ensures.same c.in_err-advance.ensures.number c.in_err-advance.ensures.err))

pub returns-clause-ok : goal.returns-clause-ok
returns-clause-ok g c =
    let script = g.N.Name.script in
    let places = g.N.Name.places in
    let from = g.N.Name.from in
    let y = c.args.session.now in
    let z = c.advance.new.self in
    let a = c.args.act in
    let r = c.in_ok-reply.reply in
    let q = c.requires.script in
    let x : SharedState = record { parts = c.shared.inside.parts; queues = c.shared.inside.queues; journal = c.shared.inside.journal } in
    let h = past c.shared.inside.journal in
    let shared : IsShared script places from x = subst (λ (v : SharedState). IsShared script places from v) (sym c.shared.view_is) c.requires.shared in
    let tick : c.args.tick ≡ length h + 1 = subst (λ (v : SharedState). c.args.tick ≡ length (past v.journal) + 1) (sym c.shared.view_is) c.requires.tick in
    let turn : IsTurn script h y a = subst (λ (v : SharedState). IsTurn script (past v.journal) y a) (sym c.shared.view_is) c.requires.turn in
    let e : Entry = record { tick = c.args.tick; session = Some c.number-number.result; part = c.part_of-part.result; act = a; reply = r } in
    let is : e ≡ entry_at (length h + 1) (Some (number_of y)) a r = entry_is h (number_of y) c.number-number.result c.args.tick a r c.part_of-part.result tick c.number-number.ensures c.part_of-part.ensures in
    let told : IsTold script from.tables h (node_of places (number_of y)) (number_of y) (length h + 1) a r x.parts c.answer.new.self =
    asked_of c.args.script.now script places from c.args.node c.args.tick x y a r c.answer.new.self q c.requires.node tick shared turn c.in_ok-reply.ensures.answered in
    let mine : Journal = own (number_of y) (entries h) in
    let follows : Follows c.args.script.now y mine = subst (λ (v : Script). Follows v y mine) (sym q) turn.follows in
    let taken : IsTaken c.args.script.now (number_of y) mine e = subst (λ (v : Script). IsTaken v (number_of y) mine e) (sym q)
    (subst (λ (t : Entry). IsTaken script (number_of y) mine t) (sym is) (taken_of script h (node_of places (number_of y)) x.parts c.answer.new.self from.tables y a r turn told)) in
    let w : SharedState = record { parts = c.answer.new.self; queues = c.note_commit.new.queues; journal = c.push.new.self } in
    let few : length h + 1 < 2 ^ 62 = subst (λ (v : SharedState). length (past v.journal) + 1 < 2 ^ 62) (sym c.shared.view_is) c.requires.few in
    let p = c.keys_due.new.queues in
    let ks = c.as_slice.result.now in
    let n = node_of places (number_of y) in
    subst (λ (v : SharedState). Serves script places from a v w y z) c.shared.view_is
    (serves_of script places from a r x w p y z e ks shared turn (omega (arith, few)) told c.answer.ensures.faults is
    (c.push.ensures.past ∙ ap (λ i. entry_on i e ∷ h) c.requires.node) c.in_ok-advance.ensures.number
    (subst (λ (v : Script). Follows v z (e ∷ mine)) q (c.in_ok-advance.ensures.follows mine follows taken)) c.in_ok-keys.ensures.same
    (c.as_slice.ensures.value ∙ (c.in_ok-keys.ensures.keys mine follows ∙ ap (λ (v : Script). keys_at v a mine) q))
    (subst (λ i. (queue_in w.queues (other_node i)).pairs ≡ (queue_in p (other_node i)).pairs ++ cond (is_committed r) ks []) c.requires.node c.note_commit.ensures.pairs)
    (subst (λ i. (queue_in w.queues (other_node i)).taken ≡ (queue_in p (other_node i)).taken) c.requires.node c.note_commit.ensures.taken)
    (subst (λ i. queue_in w.queues (other_node (other_node i)) ≡ queue_in p (other_node (other_node i))) c.requires.node c.note_commit.ensures.other))
