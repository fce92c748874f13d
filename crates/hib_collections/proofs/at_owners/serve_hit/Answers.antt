use Rattle.std.proofs.Common.{◌≡◌, ◌+◌, length, ◌∷◌, Some, refl, ap, ◌∙◌, subst}
use Rattle.hib_journal.specs.Types.{Script, Entry, Reply}
use Rattle.hib_journal.specs.Sessions.{Journal, own, time_in}
use Rattle.hib_journal.specs.Lists.{entry_at}
use Rattle.hib_session.specs.Session.{Follows, IsTaken, number_of}
use Rattle.hib_engines.proofs.Outcomes.{err_all}
use Rattle.hib_collections_law.specs.declared.entries.MemberAct.{MemberAct}
use Rattle.hib_collections_law.specs.declared.entries.GatherEntry.{GatherEntry}
use Rattle.hib_collections_law.specs.Gathered.{plain}
use Rattle.hib_collections.specs.declared.members.Gatherer.{Gatherer}
use Rattle.hib_collections.specs.Kept.{past}
use Rattle.hib_collections.specs.Run.{IsAnsweredAt}
use Rattle.hib_collections.proofs.Left.{kept_by, leaves_same}
use Rattle.hib_collections.proofs.Served.{entry_is, hit_serves, some_of}
use Rattle.hib_collections.proofs.at_owners.serve_hit.Goals as goal

pub returns-in_err-advance-clause-err : goal.returns-in_err-advance-clause-err
returns-in_err-advance-clause-err g c =
    let script = g.N.Name.script in
    let defs = g.N.Name.defs in
    let from = g.N.Name.from in
    let j = past c.args.shared.now.journal in
    let x = c.args.shared.now.engines in
    let rs = c.args.shared.now.regions.items in
    let u = c.args.gatherer.now in
    let s = number_of u.session in
    let v : Gatherer = record { session = c.advance.new.self; notes = u.notes } in
    err_all _ _ (leaves_same script defs j j x rs rs u v refl refl
    (kept_by c.args.script.now script u v c.requires.script c.in_err-advance.ensures.number c.in_err-advance.ensures.err refl refl refl))

pub returns-clause-ok : goal.returns-clause-ok
returns-clause-ok g c =
    let script = g.N.Name.script in
    let defs = g.N.Name.defs in
    let from = g.N.Name.from in
    let j = past c.args.shared.now.journal in
    let x = c.args.shared.now.engines in
    let rs = c.args.shared.now.regions.items in
    let u = c.args.gatherer.now in
    let s = number_of u.session in
    let e = c.args.entry in
    let P = plain script j in
    let k = time_in (own s P) in
    let v : Gatherer = record { session = c.advance.new.self; notes = c.settle.new.self } in
    let l = some_of (Rattle.hib_collections.specs.Run.list_of_hit c.args.reply) c.requires.is_hit in
    let d : e ≡ entry_at (length j + 1) (Some s) e.act (Reply.Listed l.0) =
    subst (λ o. Rattle.std.specs.Prelude.IfSome o (λ l. e ≡ entry_at (length j + 1) (Some s) e.act (Reply.Listed l))) l.1 c.requires.hit in
    let t : e.tick ≡ length j + 1 = ap (λ (z : Entry). z.tick) d in
    let times = c.time.ensures script (own s P) c.requires.turn.member.follows in
    hit_serves script defs from j x rs s x u v c.lists_leave.ensures (length j + 1) c.args.place k e.act c.args.reply l.0 e (past c.push.new.self) rs refl refl c.requires.few
    (subst (λ n. IsAnsweredAt script defs j s n c.args.place (MemberAct.Get k) c.args.reply rs) t c.requires.answered) l.1 d
    (c.push.ensures.past ∙ ap (λ m. GatherEntry.Member m ∷ j) (entry_is e.tick c.number-number.result s c.args.place.0 c.args.place.1 (MemberAct.Get c.time.result) (MemberAct.Get k) c.args.reply
    c.member_entry-member.result c.member_entry-member.ensures (c.number-number.ensures ∙ c.in_ok-advance.ensures.number) (ap (λ z. MemberAct.Get z) times)
    ∙ ap (λ n. record { tick = n; session = s; collection = c.args.place.0; owner = c.args.place.1; act = MemberAct.Get k; reply = c.args.reply }) t))
    c.in_ok-advance.ensures.number
    (subst (λ (z : Script). (m : Journal) → Follows z u.session m → IsTaken z s m e → Follows z v.session (e ∷ m)) c.requires.script c.in_ok-advance.ensures.follows)
    c.settle.ensures.locks c.settle.ensures.missed c.settle.ensures.listed c.requires.run c.requires.turn c.requires.due
