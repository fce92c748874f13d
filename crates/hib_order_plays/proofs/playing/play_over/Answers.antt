use Rattle.std.proofs.Common.{◌≡◌, true, length, sym, ap, ◌∙◌, subst}
use Rattle.hib_core.specs.Standing.{Origin}
use Rattle.hib_journal.specs.Kept.{Kept, past}
use Rattle.hib_order_law.specs.Orders.{begins, is_unkilled, steps_in}
use Rattle.hib_order_plays.proofs.Runs.{IsPlayed, played_is}
use Rattle.hib_order_plays.specs.Starts.{rows_at_start}
use Rattle.hib_order_plays.proofs.playing.play_over.Goals as goal

pub returns-clause-run : goal.returns-clause-run
returns-clause-run g c =
    let j : Kept = c.close-keeper.result.2 in
    let k : Kept = c.follow-followed.new.factory.journal in
    let x : IsPlayed g.N.Name.script (rows_at_start g.N.Name.script) c.args.steps.now j =
    played_is g.N.Name.script (rows_at_start g.N.Name.script) g.N.Name.from c.args.steps.now j k (past c.args.factory.journal)
    (ap (λ (o : Origin). o.tables) (sym c.requires.from)) (ap (λ (o : Origin). o.faults) (sym c.requires.from)) c.close-keeper.ensures.legal
    c.close-keeper.ensures.numbered c.close-keeper.ensures.faults c.close-keeper.ensures.journal c.requires.empty c.in_ok-followed.ensures.steps
    c.in_ok-followed.ensures.over (c.in_ok-followed.ensures.begins (rows_at_start g.N.Name.script) c.requires.empty c.requires.due)
    (c.in_ok-followed.ensures.unkilled (rows_at_start g.N.Name.script) c.requires.empty c.requires.due) in
    x.run

pub returns-clause-begins : goal.returns-clause-begins
returns-clause-begins g c =
    let j : Kept = c.close-keeper.result.2 in
    let k : Kept = c.follow-followed.new.factory.journal in
    let x : IsPlayed g.N.Name.script (rows_at_start g.N.Name.script) c.args.steps.now j =
    played_is g.N.Name.script (rows_at_start g.N.Name.script) g.N.Name.from c.args.steps.now j k (past c.args.factory.journal)
    (ap (λ (o : Origin). o.tables) (sym c.requires.from)) (ap (λ (o : Origin). o.faults) (sym c.requires.from)) c.close-keeper.ensures.legal
    c.close-keeper.ensures.numbered c.close-keeper.ensures.faults c.close-keeper.ensures.journal c.requires.empty c.in_ok-followed.ensures.steps
    c.in_ok-followed.ensures.over (c.in_ok-followed.ensures.begins (rows_at_start g.N.Name.script) c.requires.empty c.requires.due)
    (c.in_ok-followed.ensures.unkilled (rows_at_start g.N.Name.script) c.requires.empty c.requires.due) in
    subst (λ ts. begins c.args.steps.now ts ≡ true) (sym (c.in_ok-order.ensures ∙ ap steps_in c.as_slice.ensures)) x.first

pub returns-clause-unkilled : goal.returns-clause-unkilled
returns-clause-unkilled g c =
    let j : Kept = c.close-keeper.result.2 in
    let k : Kept = c.follow-followed.new.factory.journal in
    let x : IsPlayed g.N.Name.script (rows_at_start g.N.Name.script) c.args.steps.now j =
    played_is g.N.Name.script (rows_at_start g.N.Name.script) g.N.Name.from c.args.steps.now j k (past c.args.factory.journal)
    (ap (λ (o : Origin). o.tables) (sym c.requires.from)) (ap (λ (o : Origin). o.faults) (sym c.requires.from)) c.close-keeper.ensures.legal
    c.close-keeper.ensures.numbered c.close-keeper.ensures.faults c.close-keeper.ensures.journal c.requires.empty c.in_ok-followed.ensures.steps
    c.in_ok-followed.ensures.over (c.in_ok-followed.ensures.begins (rows_at_start g.N.Name.script) c.requires.empty c.requires.due)
    (c.in_ok-followed.ensures.unkilled (rows_at_start g.N.Name.script) c.requires.empty c.requires.due) in
    subst (λ ts. is_unkilled (length c.args.steps.now) ts ≡ true) (sym (c.in_ok-order.ensures ∙ ap steps_in c.as_slice.ensures)) x.rest
