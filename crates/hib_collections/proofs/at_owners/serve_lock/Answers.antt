use Rattle.std.proofs.Common.{List, ◌∷◌, None, refl, ap, ◌∙◌}
use Rattle.hib_journal.specs.Types.{Act}
use Rattle.hib_journal.specs.Sessions.{own, floor_in}
use Rattle.hib_journal.specs.Room.{key}
use Rattle.hib_session.specs.Session.{number_of}
use Rattle.hib_engines.proofs.Outcomes.{err_all}
use Rattle.hib_collections_law.specs.declared.entries.MemberAct.{MemberAct}
use Rattle.hib_collections_law.specs.declared.entries.GatherEntry.{GatherEntry}
use Rattle.hib_collections_law.specs.Gathered.{plain}
use Rattle.hib_collections.specs.Kept.{past}
use Rattle.hib_collections_law.specs.Gathered.{Held}
use Rattle.hib_collections.specs.Notes.{locks_with}
use Rattle.hib_collections.proofs.Served.{entry_is, lock_same, member_serves}
use Rattle.hib_collections.proofs.Left.{leaves_same, kept_same}
use Rattle.hib_collections.proofs.at_owners.serve_lock.Goals as goal

pub returns-in_err-reply-clause-err : goal.returns-in_err-reply-clause-err
returns-in_err-reply-clause-err g c =
    let script = g.N.Name.script in
    let defs = g.N.Name.defs in
    let from = g.N.Name.from in
    let j = past c.args.shared.now.journal in
    let x = c.args.shared.now.engines in
    let rs = c.args.shared.now.regions.items in
    let u = c.args.gatherer.now in
    let s = number_of u.session in
    err_all c.from_residual.result _ (leaves_same script defs j j x rs c.answer_at.new.regions.items u u refl c.in_err-reply.ensures.err (kept_same script u))

pub returns-clause-ok : goal.returns-clause-ok
returns-clause-ok g c =
    let script = g.N.Name.script in
    let defs = g.N.Name.defs in
    let from = g.N.Name.from in
    let j = past c.args.shared.now.journal in
    let x = c.args.shared.now.engines in
    let rs = c.args.shared.now.regions.items in
    let u = c.args.gatherer.now in
    let s = number_of u.session in
    let due = c.requires.due in
    let f = floor_in (own s (plain script j)) in
    let floors = c.floor-floor.ensures script (own s (plain script j)) c.requires.member.follows in
    let acts = ap (λ z. MemberAct.Lock z) floors in
    let at = c.requires.member in
    let y = MemberAct.Lock f in
    let answer = c.in_ok-reply.ensures.answered script defs from.tables j s y c.requires.run.gathered due
    (ap (λ k. Act.Lock k None c.floor-floor.result) c.key.ensures ∙ ap (λ z. Act.Lock (key c.args.place.0 c.args.place.1) None z) floors) c.requires.tick c.requires.run.regions in
    member_serves script defs from j x rs s x u (record { session = u.session; notes = c.lock.new.self }) c.args.tick c.args.place y c.in_ok-reply.reply (past c.push.new.self) c.answer_at.new.regions.items
    c.requires.tick c.requires.few answer refl c.in_ok-reply.ensures.calm
    (c.push.ensures.past ∙ ap (λ m. GatherEntry.Member m ∷ j) (entry_is c.args.tick c.number-number.result s c.args.place.0 c.args.place.1 (MemberAct.Lock c.floor-floor.result) y c.in_ok-reply.reply
    c.member_entry-entry.result c.member_entry-entry.ensures c.number-number.ensures acts))
    refl (λ m f. f) (record { locks = c.lock.ensures.locks ∙ (ap (λ (hs : List Held). locks_with c.args.place c.in_ok-reply.reply hs) at.noted.locks ∙ lock_same (record { tick = c.args.tick; session = s; collection = c.args.place.0; owner = c.args.place.1; act = y; reply = c.in_ok-reply.reply }) f c.in_ok-reply.reply _); missed = c.lock.ensures.missed; listed = c.lock.ensures.listed })
    c.requires.run at due
