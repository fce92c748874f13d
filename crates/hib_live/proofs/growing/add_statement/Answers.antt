use Rattle.std.proofs.Common.{◌≡◌, ◌<◌, List, length, sym, ap, subst, ◌∙◌}
use Rattle.hib_base.specs.declared.scripts.SessionDef.{SessionDef}
use Rattle.hib_live.specs.Asked.{add_at}
use Rattle.hib_engines.proofs.Outcomes.{map_on}
use Rattle.hib_live.proofs.Added.{added}
use Rattle.hib_live.proofs.growing.add_statement.Goals as goal

pub returns-clause-ok : goal.returns-clause-ok
returns-clause-ok c =
    let s = c.args.script.now in
    let st = c.args.statement in
    let n = c.number.inside.0 in
    let all : c.into_vec-sessions.result.items ≡ s.sessions = c.into_vec-sessions.ensures ∙ c.replace.ensures.value in
    let within : n < length c.into_vec-sessions.result.items =
    subst (λ (xs : List SessionDef). n < length xs) (sym all) (subst (λ m. m < length s.sessions) (sym c.number.view_is) c.requires.there) in
    map_on c.push-added.result _ _ c.push-added.ensures.ok (λ q.
    ap (λ (xs : List SessionDef). record s { sessions = xs })
    (c.from_vec.ensures ∙ added c.into_vec-sessions.result.items n c.index_mut.result.now c.push-added.new.self st within c.index_mut.ensures.value q
    ∙ ap (λ (xs : List SessionDef). add_at xs n st) all ∙ ap (λ m. add_at s.sessions m st) c.number.view_is))
