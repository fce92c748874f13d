use Rattle.std.proofs.Common.{sym, subst, ◌∙◌}
use Rattle.hib_journal.specs.Types.{Script}
use Rattle.hib_engines.specs.Due.{HasQueries}
use Rattle.hib_collections.specs.Kept.{past}
use Rattle.hib_collections.proofs.Taken.{is_due_plan, is_due_put, over_at}
use Rattle.hib_collections.proofs.Turned.{at_place}
use Rattle.hib_collections.proofs.turns.has_turn.Goals as goal

pub due_act-requires : goal.due_act-requires
due_act-requires g c = record { queries = subst (λ (z : Script). HasQueries z) (sym c.requires.script) c.requires.queries }

pub returns-then-has_listed : goal.returns-then-has_listed
returns-then-has_listed g c =
    let script = g.N.Name.script in
    let j = past c.args.journal.now in
    let ys = c.args.gatherers.now in
    let s = c.args.number in
    let y = c.index-gatherers-number.result in
    let at = c.requires.sessions.each s y (at_place script j ys c.number.inside.0 s y c.requires.sessions c.number.view_is c.requires.known c.index-gatherers-number.is) in
    sym (is_due_put script g.N.Name.defs j y s at (sym c.has_listed.ensures ∙ c.if-has_listed.true))

pub returns : goal.returns
returns g c =
    let script = g.N.Name.script in
    let j = past c.args.journal.now in
    let ys = c.args.gatherers.now in
    let s = c.args.number in
    let y = c.index-gatherers-number.result in
    let at = c.requires.sessions.each s y (at_place script j ys c.number.inside.0 s y c.requires.sessions c.number.view_is c.requires.known c.index-gatherers-number.is) in
    c.is_some.ensures ∙ is_due_plan script g.N.Name.defs j y s c.in_ok-act.act at (over_at c.args.script.now script j s y c.in_ok-act.act c.requires.script at.number at c.in_ok-act.ensures.act)
    (sym c.has_listed.ensures ∙ c.if-has_listed.false)
