use Rattle.std.proofs.Common.{sym, ◌∙◌, subst}
use Rattle.hib_journal.specs.Types.{Script}
use Rattle.hib_session.specs.Session.{number_of}
use Rattle.hib_engines.specs.Due.{HasQueries}
use Rattle.hib_engines.proofs.Outcomes.{err_all}
use Rattle.hib_collections.specs.Kept.{past}
use Rattle.hib_collections.proofs.AtTurn.{left_prepared, member_prepared, prepared, run_prepared}
use Rattle.hib_collections.proofs.Taken.{due_none, leaves_then, over_at, rests_of, turns_of}
use Rattle.hib_collections.proofs.Turned.{kept_member}
use Rattle.hib_collections.proofs.turns.take_turn.Goals as goal

pub returns-in_err-tick-clause-err : goal.returns-in_err-tick-clause-err
returns-in_err-tick-clause-err g c = err_all _ _ (left_prepared (prepared c.requires.script c.prepare.ensures.same c.prepare.ensures.kept))

pub returns-in_err-place-clause-err : goal.returns-in_err-place-clause-err
returns-in_err-place-clause-err g c = err_all _ _ (left_prepared (prepared c.requires.script c.prepare.ensures.same c.prepare.ensures.kept))

pub serve_put-requires-clause-run : goal.serve_put-requires-clause-run
serve_put-requires-clause-run g c = run_prepared (prepared c.requires.script c.prepare.ensures.same c.prepare.ensures.kept) c.requires.run

pub serve_put-requires-clause-member : goal.serve_put-requires-clause-member
serve_put-requires-clause-member g c = member_prepared (prepared c.requires.script c.prepare.ensures.same c.prepare.ensures.kept) c.requires.member

pub returns-in-Some-clause-ok : goal.returns-in-Some-clause-ok
returns-in-Some-clause-ok g c =
    let p = prepared c.requires.script c.prepare.ensures.same c.prepare.ensures.kept in
    turns_of g.N.Name.script g.N.Name.defs g.N.Name.from (past c.args.shared.now.journal) (past c.prepare.new.journal) (past c.serve_put.new.shared.journal)
    c.args.shared.now.engines c.serve_put.new.shared.engines c.args.shared.now.regions.items c.serve_put.new.shared.regions.items
    c.args.gatherer.now c.prepare.new.gatherer c.serve_put.new.gatherer p.same p.kept _ c.serve_put.ensures.ok

pub returns-in-Some-clause-err : goal.returns-in-Some-clause-err
returns-in-Some-clause-err g c =
    let p = prepared c.requires.script c.prepare.ensures.same c.prepare.ensures.kept in
    leaves_then g.N.Name.script g.N.Name.defs g.N.Name.from (past c.args.shared.now.journal) (past c.prepare.new.journal) (past c.serve_put.new.shared.journal)
    c.args.shared.now.engines c.serve_put.new.shared.engines c.args.shared.now.regions.items c.serve_put.new.shared.regions.items
    c.args.gatherer.now c.prepare.new.gatherer c.serve_put.new.gatherer p.same p.kept _ c.serve_put.ensures.err

pub due_act-requires : goal.due_act-requires
due_act-requires g c = record { queries = subst (λ (z : Script). HasQueries z) (sym c.requires.script) c.requires.run.built.queries }

pub returns-in_err-act-clause-err : goal.returns-in_err-act-clause-err
returns-in_err-act-clause-err g c = err_all _ _ (left_prepared (prepared c.requires.script c.prepare.ensures.same c.prepare.ensures.kept))

pub returns-in_default-2-clause-ok : goal.returns-in_default-2-clause-ok
returns-in_default-2-clause-ok g c =
    let script = g.N.Name.script in
    let defs = g.N.Name.defs in
    let j = past c.args.shared.now.journal in
    let u = c.args.gatherer.now in
    let s = number_of u.session in
    let v = c.prepare.new.gatherer in
    let p = prepared c.requires.script c.prepare.ensures.same c.prepare.ensures.kept in
    let at = kept_member script j s u v p.kept c.requires.member in
    rests_of script defs j _ _ _ u v p.same p.kept (due_none script defs j v s at (over_at c.args.script.now script j s v c.in_ok-act.field-0 c.requires.script p.kept.number at c.in_ok-act.ensures.act ∙ c.in_default-2.is) (sym c.in_ok-place.ensures ∙ c.in_default.is))
