use Rattle.std.proofs.Common.{◌≡◌, ◌∷◌, None, refl, ap, sym, ◌∙◌, subst}
use Rattle.hib_journal.specs.Types.{Act}
use Rattle.hib_journal.specs.Sessions.{own, time_in, floor_in}
use Rattle.hib_journal.specs.Room.{key}
use Rattle.hib_session.specs.Session.{number_of}
use Rattle.hib_engines.proofs.Outcomes.{err_all}
use Rattle.hib_collections_law.specs.declared.entries.MemberAct.{MemberAct}
use Rattle.hib_collections_law.specs.declared.entries.GatherEntry.{GatherEntry}
use Rattle.hib_collections_law.specs.Gathered.{plain}
use Rattle.hib_collections.specs.Kept.{past}
use Rattle.hib_collections.proofs.Left.{kept_same, leaves_same}
use Rattle.hib_collections.proofs.Served.{entry_is, member_serves}
use Rattle.std.specs.Prelude.{IfSome}
use Rattle.hib_collections.proofs.Taken.{due_put}
use Rattle.hib_collections.proofs.at_owners.serve_put.Goals as goal

pub returns-in_err-reply-clause-err : goal.returns-in_err-reply-clause-err
returns-in_err-reply-clause-err g c =
    let script = g.N.Name.script in
    let defs = g.N.Name.defs in
    let from = g.N.Name.from in
    let j = past c.args.shared.now.journal in
    let x = c.args.shared.now.engines in
    let rs = c.args.shared.now.regions.items in
    let u = c.args.gatherer.now in
    let s = number_of u.session in
    err_all _ _ (leaves_same script defs j j x rs c.answer_at.new.regions.items u u refl c.in_err-reply.ensures.err (kept_same script u))

pub returns-clause-ok : goal.returns-clause-ok
returns-clause-ok g c =
    let script = g.N.Name.script in
    let defs = g.N.Name.defs in
    let from = g.N.Name.from in
    let j = past c.args.shared.now.journal in
    let x = c.args.shared.now.engines in
    let rs = c.args.shared.now.regions.items in
    let u = c.args.gatherer.now in
    let s = number_of u.session in
    let P = plain script j in
    let at = c.requires.member in
    let l = c.args.cells in
    let t = time_in (own s P) in
    let f = floor_in (own s P) in
    let times = c.time-time.ensures script (own s P) at.follows in
    let floors = c.floor-floor.ensures script (own s P) at.follows in
    let due = due_put script defs j u s c.args.place l at c.requires.listed in
    let same : l ≡ c.take_listed-list.result = subst (λ o. IfSome o (λ z. z.1 ≡ c.take_listed-list.result)) c.requires.listed c.take_listed-list.ensures.list in
    let y : MemberAct = MemberAct.Put l t f in
    let acts : MemberAct.Put c.take_listed-list.result c.time-time.result c.floor-floor.result ≡ y =
    ap (λ z. MemberAct.Put z c.time-time.result c.floor-floor.result) (sym same) ∙ (ap (λ z. MemberAct.Put l z c.floor-floor.result) times ∙ ap (λ z. MemberAct.Put l t z) floors) in
    let answer = c.in_ok-reply.ensures.answered script defs from.tables j s y c.requires.run.gathered due
    (ap (λ z. Act.Put z (record { version = None; cells = l }) c.time-time.result c.floor-floor.result) c.key.ensures
    ∙ (ap (λ z. Act.Put (key c.args.place.0 c.args.place.1) (record { version = None; cells = l }) z c.floor-floor.result) times
    ∙ ap (λ z. Act.Put (key c.args.place.0 c.args.place.1) (record { version = None; cells = l }) t z) floors)) c.requires.tick c.requires.run.regions in
    member_serves script defs from j x rs s x u (record { session = u.session; notes = c.take_listed-list.new.self }) c.args.tick c.args.place y c.in_ok-reply.reply (past c.push.new.self) c.answer_at.new.regions.items
    c.requires.tick c.requires.few answer refl c.in_ok-reply.ensures.calm
    (c.push.ensures.past ∙ ap (λ m. GatherEntry.Member m ∷ j) (entry_is c.args.tick c.number-number.result s c.args.place.0 c.args.place.1
    (MemberAct.Put c.take_listed-list.result c.time-time.result c.floor-floor.result) y c.in_ok-reply.reply c.member_entry-entry.result c.member_entry-entry.ensures c.number-number.ensures acts))
    refl (λ m f. f) (record { locks = c.take_listed-list.ensures.locks ∙ at.noted.locks; missed = c.take_listed-list.ensures.missed; listed = c.take_listed-list.ensures.listed })
    c.requires.run at due
