use Rattle.std.proofs.Common.{◌∷◌, refl, ap, ◌∙◌}
use Rattle.hib_journal.specs.Sessions.{own, time_in}
use Rattle.hib_session.specs.Session.{number_of}
use Rattle.hib_collections_law.specs.declared.entries.MemberAct.{MemberAct}
use Rattle.hib_collections_law.specs.declared.entries.GatherEntry.{GatherEntry}
use Rattle.hib_collections_law.specs.Gathered.{plain}
use Rattle.hib_collections.specs.Kept.{past}
use Rattle.hib_collections.proofs.Served.{entry_is, get_miss, member_serves}
use Rattle.hib_collections.proofs.at_owners.serve_miss.Goals as goal

pub returns : goal.returns
returns g c =
    let script = g.N.Name.script in
    let defs = g.N.Name.defs in
    let from = g.N.Name.from in
    let j = past c.args.shared.now.journal in
    let x = c.args.shared.now.engines in
    let rs = c.args.shared.now.regions.items in
    let u = c.args.gatherer.now in
    let s = number_of u.session in
    let t = time_in (own s (plain script j)) in
    let at = c.requires.member in
    member_serves script defs from j x rs s x u (record { session = u.session; notes = c.miss.new.self }) c.args.tick c.args.place (MemberAct.Get t) c.args.reply (past c.push.new.self) rs
    c.requires.tick c.requires.few c.requires.answered (get_miss t c.args.reply c.requires.miss) c.requires.calm
    (c.push.ensures.past ∙ ap (λ m. GatherEntry.Member m ∷ j) (entry_is c.args.tick c.number-number.result s c.args.place.0 c.args.place.1 (MemberAct.Get c.time.result) (MemberAct.Get t) c.args.reply
    c.member_entry-entry.result c.member_entry-entry.ensures c.number-number.ensures (ap (λ z. MemberAct.Get z) (c.time.ensures script (own s (plain script j)) at.follows))))
    refl (λ m f. f) (record { locks = c.miss.ensures.locks ∙ at.noted.locks; missed = c.miss.ensures.missed; listed = c.miss.ensures.listed })
    c.requires.run at c.requires.due
