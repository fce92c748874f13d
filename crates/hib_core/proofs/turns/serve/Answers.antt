use Rattle.std.proofs.Common.{◌≡◌, ◌∷◌, Some, true, sym, ap, ◌∙◌, subst, refl}
use Rattle.std.proofs.lemmas.Bool.{false≢true}
use Rattle.hib_base.specs.declared.scripts.Script.{Script}
use Rattle.hib_base.specs.declared.entries.Entry.{Entry}
use Rattle.hib_journal.specs.Kept.{past}
use Rattle.hib_journal.specs.Sessions.{Journal, own}
use Rattle.hib_session.specs.Session.{Follows, IsTaken, number_of}
use Rattle.hib_session.specs.Memory.{brings}
use Rattle.hib_core.specs.Standing.{entry_of}
use Rattle.hib_core.specs.Factory.{Answers}
use Rattle.hib_engines.proofs.Outcomes.{err_all}
use Rattle.hib_core.proofs.Going.{entry_is}
use Rattle.hib_core.proofs.Moved.{brings_so, serves_of, leaves_of, refused_at}
use Rattle.hib_core.proofs.turns.serve.Goals as goal

pub returns-in_err-enter-clause-err : goal.returns-in_err-enter-clause-err
returns-in_err-enter-clause-err g c =
    let h = past c.args.journal.now in
    let y = c.args.session.now in
    let q = c.requires.script in
    let a = c.args.act in
    let r = c.in_ok-tick.reply in
    let e : Entry = record { tick = c.in_ok-tick.tick; session = Some c.number-number.result; part = c.part_of-part.result; act = a; reply = r } in
    let d : e ≡ entry_of h (number_of y) a r =
    entry_is h (number_of y) c.number-number.result c.in_ok-tick.tick a r c.part_of-part.result c.in_ok-tick.ensures.tick c.number-number.ensures c.part_of-part.ensures in
    let follows : Follows c.args.script.now y (own (number_of y) h) = subst (λ (s : Script). Follows s y (own (number_of y) h)) (sym q) c.requires.turn.follows in
    let taken : IsTaken c.args.script.now (number_of y) (own (number_of y) h) e = subst (λ (s : Script). IsTaken s (number_of y) (own (number_of y) h) e) (sym q)
    (subst (λ (u : Entry). IsTaken g.N.Name.script (number_of y) (own (number_of y) h) u) (sym d) c.in_ok-tick.ensures.answers.taken) in
    let b : brings a ≡ true = brings_so (brings a) (λ p. false≢true (c.in_err-enter.ensures.room (own (number_of y) h) follows taken c.requires.ready p)) in
    err_all c.from_residual-in_err-enter.result _ (leaves_of c.args.script.now g.N.Name.script h (past c.enter.new.journal) c.args.engines.now c.answered.new.engines y c.enter.new.session q
    (c.in_err-enter.ensures.same ∙ c.in_ok-tick.ensures.same) (refused_at g.N.Name.script h y a c.args.engines.now c.answered.new.engines c.requires.turn (c.in_ok-tick.ensures.passed b)) c.in_err-enter.ensures.still)

pub returns-clause-ok : goal.returns-clause-ok
returns-clause-ok g c =
    let h = past c.args.journal.now in
    let y = c.args.session.now in
    let a = c.args.act in
    let r = c.in_ok-tick.reply in
    let e : Entry = record { tick = c.in_ok-tick.tick; session = Some c.number-number.result; part = c.part_of-part.result; act = a; reply = r } in
    let d : e ≡ entry_of h (number_of y) a r =
    entry_is h (number_of y) c.number-number.result c.in_ok-tick.tick a r c.part_of-part.result c.in_ok-tick.ensures.tick c.number-number.ensures c.part_of-part.ensures in
    let v : Answers g.N.Name.script g.N.Name.from (number_of y) a h e c.args.engines.now c.answered.new.engines =
    subst (λ (u : Entry). Answers g.N.Name.script g.N.Name.from (number_of y) a h u c.args.engines.now c.answered.new.engines) (sym d) c.in_ok-tick.ensures.answers in
    serves_of c.args.script.now g.N.Name.script g.N.Name.from a e h (past c.enter.new.journal) c.args.engines.now c.answered.new.engines y c.enter.new.session c.requires.script
    c.requires.turn v (c.in_ok-enter.ensures.grown ∙ ap (λ (j : Journal). e ∷ j) c.in_ok-tick.ensures.same) c.in_ok-enter.ensures.follows c.in_ok-enter.ensures.less

pub returns-in_err-tick-clause-err : goal.returns-in_err-tick-clause-err
returns-in_err-tick-clause-err g c =
    let h = past c.args.journal.now in
    let y = c.args.session.now in
    err_all c.from_residual.result _ (leaves_of g.N.Name.script g.N.Name.script h (past c.answered.new.journal) c.args.engines.now c.answered.new.engines y y refl
    c.in_err-tick.ensures.same (refused_at g.N.Name.script h y c.args.act c.args.engines.now c.answered.new.engines c.requires.turn c.in_err-tick.ensures.err) (λ mine f. f))
