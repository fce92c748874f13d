use Rattle.std.proofs.Common.{◌≡◌, true, ◌∷◌, Some, Option, refl, sym, subst}
use Rattle.std.proofs.lemmas.Bool.{false≢true}
use Rattle.hib_base.specs.Tables.{Tables}
use Rattle.hib_journal.specs.Types.{Script, Entry}
use Rattle.hib_journal.specs.Sessions.{Journal, own}
use Rattle.hib_journal.specs.Lists.{entry_at}
use Rattle.hib_session.specs.Memory.{brings}
use Rattle.hib_session.specs.Session.{Follows, IsTaken, number_of}
use Rattle.hib_engines.specs.Engines.{IsReady, IsTold}
use Rattle.hib_engines.proofs.Outcomes.{err_all}
use Rattle.hib_collections_law.specs.Gathered.{plain}
use Rattle.hib_collections.specs.declared.members.Gatherer.{Gatherer}
use Rattle.hib_collections.specs.Kept.{past}
use Rattle.hib_collections.proofs.Left.{kept_by, kept_same, leaves_plain}
use Rattle.hib_collections.proofs.Served.{brings_so, plain_is, plain_serves, ready_at, refused_at, taken_at}
use Rattle.hib_collections.proofs.turns.serve_plain.Goals as goal

pub returns-in_err-reply-clause-err : goal.returns-in_err-reply-clause-err
returns-in_err-reply-clause-err g c =
    let script = g.N.Name.script in
    let defs = g.N.Name.defs in
    let from = g.N.Name.from in
    let j = past c.args.shared.now.journal in
    let x = c.args.shared.now.engines in
    let rs = c.args.shared.now.regions.items in
    let u = c.args.gatherer.now in
    let s = number_of u.session in
    let r = refused_at script defs from j x rs c.args.script.now u c.args.act c.args.tick c.answer.new.self c.requires.script c.in_err-reply.ensures.refused c.requires.run c.requires.turn c.requires.tick in
    err_all _ _ (leaves_plain script defs j j x c.answer.new.self rs u u c.args.act refl c.requires.due r (kept_same script u))

pub returns-in_err-listed-clause-err : goal.returns-in_err-listed-clause-err
returns-in_err-listed-clause-err g c =
    let script = g.N.Name.script in
    let defs = g.N.Name.defs in
    let from = g.N.Name.from in
    let j = past c.args.shared.now.journal in
    let x = c.args.shared.now.engines in
    let rs = c.args.shared.now.regions.items in
    let u = c.args.gatherer.now in
    let s = number_of u.session in
    let r = refused_at script defs from j x rs c.args.script.now u c.args.act c.args.tick c.answer.new.self c.requires.script (c.in_ok-reply.ensures.passed c.in_err-listed.ensures.fails) c.requires.run c.requires.turn c.requires.tick in
    err_all _ _ (leaves_plain script defs j j x c.answer.new.self rs u u c.args.act refl c.requires.due r (kept_same script u))

pub returns-in_err-advance-clause-err : goal.returns-in_err-advance-clause-err
returns-in_err-advance-clause-err g c =
    let script = g.N.Name.script in
    let defs = g.N.Name.defs in
    let from = g.N.Name.from in
    let j = past c.args.shared.now.journal in
    let x = c.args.shared.now.engines in
    let rs = c.args.shared.now.regions.items in
    let u = c.args.gatherer.now in
    let s = number_of u.session in
    let y = c.answer.new.self in
    let q = c.requires.script in
    let a = c.args.act in
    let r = c.in_ok-reply.reply in
    let e : Entry = record { tick = c.args.tick; session = Some c.number-number.result; part = c.part_of-part.result; act = a; reply = r } in
    let d : e ≡ entry_at c.args.tick (Some s) a r = plain_is c.args.tick c.number-number.result s a r c.part_of-part.result c.number-number.ensures c.part_of-part.ensures in
    let told : IsTold script from.tables (plain script j) s c.args.tick a r x y =
    subst (λ (z : Script). (o : Option Tables) (h : Journal) → Follows z u.session (own s h) → IsReady z o h s c.args.tick a x → IsTold z o h s c.args.tick a r x y) q c.in_ok-reply.ensures.answered
    from.tables (plain script j) c.requires.turn.member.follows (ready_at script defs from j x rs u a c.args.tick c.requires.run c.requires.turn c.requires.tick) in
    let taken : IsTaken c.args.script.now s (own s (plain script j)) e = subst (λ (z : Script). IsTaken z s (own s (plain script j)) e) (sym q)
    (subst (λ (z : Entry). IsTaken script s (own s (plain script j)) z) (sym d) (taken_at script j u a r c.args.tick c.requires.turn told.mine)) in
    let follows : Follows c.args.script.now u.session (own s (plain script j)) = subst (λ (z : Script). Follows z u.session (own s (plain script j))) (sym q) c.requires.turn.member.follows in
    let b : brings a ≡ true = brings_so (brings a) (λ p. false≢true (c.in_err-advance.ensures.room (own s (plain script j)) follows taken c.requires.ready p)) in
    let v : Gatherer = record { session = c.advance.new.self; notes = u.notes } in
    let refused = refused_at script defs from j x rs c.args.script.now u a c.args.tick y q (c.in_ok-reply.ensures.passed b) c.requires.run c.requires.turn c.requires.tick in
    err_all _ _ (leaves_plain script defs j j x y rs u v a refl c.requires.due refused
    (kept_by c.args.script.now script u v q c.in_err-advance.ensures.number c.in_err-advance.ensures.err refl refl refl))

pub returns-clause-ok : goal.returns-clause-ok
returns-clause-ok g c =
    let script = g.N.Name.script in
    let defs = g.N.Name.defs in
    let from = g.N.Name.from in
    let j = past c.args.shared.now.journal in
    let x = c.args.shared.now.engines in
    let rs = c.args.shared.now.regions.items in
    let u = c.args.gatherer.now in
    let s = number_of u.session in
    let y = c.answer.new.self in
    let q = c.requires.script in
    let a = c.args.act in
    let r = c.in_ok-reply.reply in
    let e : Entry = record { tick = c.args.tick; session = Some c.number-number.result; part = c.part_of-part.result; act = a; reply = r } in
    let d : e ≡ entry_at c.args.tick (Some s) a r = plain_is c.args.tick c.number-number.result s a r c.part_of-part.result c.number-number.ensures c.part_of-part.ensures in
    let told : IsTold script from.tables (plain script j) s c.args.tick a r x y =
    subst (λ (z : Script). (o : Option Tables) (h : Journal) → Follows z u.session (own s h) → IsReady z o h s c.args.tick a x → IsTold z o h s c.args.tick a r x y) q c.in_ok-reply.ensures.answered
    from.tables (plain script j) c.requires.turn.member.follows (ready_at script defs from j x rs u a c.args.tick c.requires.run c.requires.turn c.requires.tick) in
    let v : Gatherer = record { session = c.advance.new.self; notes = c.note.new.self } in
    plain_serves script defs from j x rs s y u v a r c.args.tick e (past c.push.new.self) c.in_ok-listed.listed refl c.requires.tick c.requires.few told c.in_ok-reply.ensures.faults d
    c.in_ok-advance.ensures.number
    (subst (λ (z : Script). (m : Journal) → Follows z u.session m → IsTaken z s m e → Follows z v.session (e ∷ m)) q c.in_ok-advance.ensures.follows)
    c.note.ensures.locks c.note.ensures.missed c.note.ensures.listed c.in_ok-listed.ensures.listed c.push.ensures.past c.requires.run c.requires.turn c.requires.due
