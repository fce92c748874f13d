use Rattle.std.proofs.Common.{◌≡◌, Some, true, sym, ◌∙◌, subst}
use Rattle.std.proofs.lemmas.Bool.{false≢true}
use Rattle.hib_base.specs.declared.scripts.Script.{Script}
use Rattle.hib_base.specs.declared.entries.Entry.{Entry}
use Rattle.hib_journal.specs.Sessions.{own}
use Rattle.hib_session.specs.Session.{Follows, IsTaken, number_of}
use Rattle.hib_session.specs.Memory.{brings}
use Rattle.hib_engines.proofs.Outcomes.{err_all}
use Rattle.hib_bulk_law.specs.Plain.{plain}
use Rattle.hib_bulk.specs.Kept.{past}
use Rattle.hib_bulk.specs.Run.{plain_entry}
use Rattle.hib_bulk.proofs.Moved.{entry_is, leaves_of, brings_so}
use Rattle.hib_bulk.proofs.turns.serve.Goals as goal

pub returns-in_err-enter-clause-err : goal.returns-in_err-enter-clause-err
returns-in_err-enter-clause-err g c =
    let h = past c.args.journal.now in
    let y = c.args.session.now in
    let q = c.requires.script in
    let a = c.args.act in
    let r = c.in_ok-tick.reply in
    let e : Entry = record { tick = c.in_ok-tick.tick; session = Some c.number-number.result; part = c.part_of-part.result; act = a; reply = c.split-reply.result.0 } in
    let d : e ≡ plain_entry h (number_of y) a r =
    entry_is h (number_of y) c.number-number.result c.in_ok-tick.tick a r c.split-reply.result.0 c.part_of-part.result c.in_ok-tick.ensures.tick c.number-number.ensures c.part_of-part.ensures c.split-reply.ensures.plain in
    let follows : Follows c.args.script.now y (own (number_of y) (plain h)) = subst (λ (s : Script). Follows s y (own (number_of y) (plain h))) (sym q) c.requires.turn.follows in
    let taken : IsTaken c.args.script.now (number_of y) (own (number_of y) (plain h)) e = subst (λ (s : Script). IsTaken s (number_of y) (own (number_of y) (plain h)) e) (sym q)
    (subst (λ (u : Entry). IsTaken g.N.Name.script (number_of y) (own (number_of y) (plain h)) u) (sym d) c.in_ok-tick.ensures.answers.taken) in
    let b : brings a ≡ true = brings_so (brings a) (λ p. false≢true (c.in_err-enter.ensures.room (own (number_of y) (plain h)) follows taken c.requires.ready p)) in
    err_all c.from_residual-in_err-enter.result _ (leaves_of c.args.script.now g.N.Name.script h (past c.enter.new.journal) c.args.parts.now c.answered.new.parts y c.enter.new.session q
    (c.in_err-enter.ensures.same ∙ c.in_ok-tick.ensures.same) (c.in_ok-tick.ensures.still b) c.in_ok-tick.ensures.entities c.in_err-enter.ensures.still)
