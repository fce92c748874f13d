use Rattle.std.proofs.Common.{◌≡◌, ◌+◌, length, Some, refl, ap, sym, ◌∙◌, subst}
use Rattle.hib_journal.specs.Types.{Act, Entry, Reply}
use Rattle.hib_journal.specs.Sessions.{own, time_in}
use Rattle.hib_journal.specs.Lists.{entry_at}
use Rattle.hib_journal.specs.Room.{key}
use Rattle.hib_session.specs.Session.{number_of}
use Rattle.hib_engines.proofs.Outcomes.{err_all}
use Rattle.hib_collections_law.specs.declared.entries.MemberAct.{MemberAct}
use Rattle.hib_collections_law.specs.Gathered.{plain}
use Rattle.hib_collections.specs.Kept.{past}
use Rattle.hib_collections.specs.Run.{IsRun}
use Rattle.hib_collections.proofs.Left.{kept_same, leaves_same}
use Rattle.hib_collections.proofs.Served.{plain_is}
use Rattle.std.specs.Prelude.{IfSome}
use Rattle.hib_collections.specs.Run.{list_of_hit}
use Rattle.hib_collections.proofs.at_owners.serve_get.Goals as goal

pub returns-in_err-reply-clause-err : goal.returns-in_err-reply-clause-err
returns-in_err-reply-clause-err g c =
    let script = g.N.Name.script in
    let defs = g.N.Name.defs in
    let from = g.N.Name.from in
    let j = past c.args.shared.now.journal in
    let x = c.args.shared.now.engines in
    let rs = c.args.shared.now.regions.items in
    let u = c.args.gatherer.now in
    let s = number_of u.session in
    err_all _ _ (leaves_same script defs j j x rs c.answer_at.new.regions.items u u refl c.in_err-reply.ensures.err (kept_same script u))

pub returns-in_err-list-clause-err : goal.returns-in_err-list-clause-err
returns-in_err-list-clause-err g c =
    let script = g.N.Name.script in
    let defs = g.N.Name.defs in
    let from = g.N.Name.from in
    let j = past c.args.shared.now.journal in
    let x = c.args.shared.now.engines in
    let rs = c.args.shared.now.regions.items in
    let u = c.args.gatherer.now in
    let s = number_of u.session in
    err_all _ _ (leaves_same script defs j j x rs c.answer_at.new.regions.items u u refl (c.in_ok-reply.ensures.still refl) (kept_same script u))

pub serve_hit-requires-clause-run : goal.serve_hit-requires-clause-run
serve_hit-requires-clause-run g c =
    let script = g.N.Name.script in
    let defs = g.N.Name.defs in
    let from = g.N.Name.from in
    let j = past c.args.shared.now.journal in
    let x = c.args.shared.now.engines in
    let rs = c.args.shared.now.regions.items in
    let u = c.args.gatherer.now in
    let s = number_of u.session in
    subst (λ zs. IsRun script defs from j x zs) (sym (c.in_ok-reply.ensures.still refl)) c.requires.run

pub serve_hit-requires-clause-answered : goal.serve_hit-requires-clause-answered
serve_hit-requires-clause-answered g c =
    let script = g.N.Name.script in
    let defs = g.N.Name.defs in
    let from = g.N.Name.from in
    let j = past c.args.shared.now.journal in
    let x = c.args.shared.now.engines in
    let rs = c.args.shared.now.regions.items in
    let u = c.args.gatherer.now in
    let s = number_of u.session in
    let k = time_in (own s (plain script j)) in
    let times = c.time.ensures script (own s (plain script j)) c.requires.turn.member.follows in
    c.in_ok-reply.ensures.answered script defs from.tables j s (MemberAct.Get k) c.requires.run.gathered c.requires.due
    (ap (λ z. Act.Get z c.time.result) c.key.ensures ∙ ap (λ z. Act.Get (key c.args.place.0 c.args.place.1) z) times) c.requires.tick c.requires.run.regions

pub serve_hit-requires-clause-hit : goal.serve_hit-requires-clause-hit
serve_hit-requires-clause-hit g c =
    let script = g.N.Name.script in
    let j = past c.args.shared.now.journal in
    let s = number_of c.args.gatherer.now.session in
    let e : list_of_hit c.in_ok-reply.reply ≡ Some c.in-Some.list = sym c.in_ok-list.ensures ∙ c.in-Some.is in
    let E : Entry = record { tick = c.args.tick; session = Some c.number-number.result; part = c.part_of-part.result; act = c.args.act; reply = Reply.Listed c.in-Some.list } in
    subst (λ o. IfSome o (λ l. E ≡ entry_at (length j + 1) (Some s) c.args.act (Reply.Listed l))) (sym e)
    (plain_is c.args.tick c.number-number.result s c.args.act (Reply.Listed c.in-Some.list) c.part_of-part.result c.number-number.ensures c.part_of-part.ensures
    ∙ ap (λ n. entry_at n (Some s) c.args.act (Reply.Listed c.in-Some.list)) c.requires.tick)

pub serve_miss-requires-clause-run : goal.serve_miss-requires-clause-run
serve_miss-requires-clause-run g c =
    let script = g.N.Name.script in
    let defs = g.N.Name.defs in
    let from = g.N.Name.from in
    let j = past c.args.shared.now.journal in
    let x = c.args.shared.now.engines in
    let rs = c.args.shared.now.regions.items in
    let u = c.args.gatherer.now in
    let s = number_of u.session in
    subst (λ zs. IsRun script defs from j x zs) (sym (c.in_ok-reply.ensures.still refl)) c.requires.run

pub serve_miss-requires-clause-answered : goal.serve_miss-requires-clause-answered
serve_miss-requires-clause-answered g c =
    let script = g.N.Name.script in
    let defs = g.N.Name.defs in
    let from = g.N.Name.from in
    let j = past c.args.shared.now.journal in
    let x = c.args.shared.now.engines in
    let rs = c.args.shared.now.regions.items in
    let u = c.args.gatherer.now in
    let s = number_of u.session in
    let k = time_in (own s (plain script j)) in
    let times = c.time.ensures script (own s (plain script j)) c.requires.turn.member.follows in
    c.in_ok-reply.ensures.answered script defs from.tables j s (MemberAct.Get k) c.requires.run.gathered c.requires.due
    (ap (λ z. Act.Get z c.time.result) c.key.ensures ∙ ap (λ z. Act.Get (key c.args.place.0 c.args.place.1) z) times) c.requires.tick c.requires.run.regions
