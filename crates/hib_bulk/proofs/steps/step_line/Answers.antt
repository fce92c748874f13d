use Rattle.std.proofs.Common.{◌≡◌, ◌+◌, Some, length, sym, ap, subst, ◌∙◌}
use Rattle.std.specs.Prelude.{slice_get}
use Rattle.hib_base.specs.declared.scripts.Script.{Script}
use Rattle.hib_bulk.specs.Kept.{past}
use Rattle.hib_bulk.specs.Run.{IsLine}
use Rattle.hib_bulk.proofs.Stepped.{line_at, def_at, line_turned}
use Rattle.hib_bulk.proofs.steps.step_line.Goals as goal

pub line_turn-requires-clause-stands : goal.line_turn-requires-clause-stands
line_turn-requires-clause-stands g c =
    let script = g.N.Name.script in
    let lines = g.N.Name.lines in
    let h = past c.args.journal.now in
    let ps = c.args.progress.now.items in
    let i = c.args.at in
    let d = c.index-lines-at.result in
    let y = c.index_mut-mine.result.now in
    let place : slice_get ps i ≡ Some y = line_at lines ps i y c.requires.progress.all c.requires.known c.index_mut-mine.ensures.value in
    let k : slice_get lines i ≡ Some d = def_at c.args.lines.now lines i d c.requires.lines c.requires.known c.index-lines-at.is in
    let q = c.line_number-number.ensures ∙ ap (λ (v : Script). length v.sessions + i) c.requires.script in
    subst (λ n. IsLine script h n d y.steps y.failed) (sym q) (c.requires.progress.stand i d y k place)

pub returns-clause-turned : goal.returns-clause-turned
returns-clause-turned g c =
    let script = g.N.Name.script in
    let lines = g.N.Name.lines in
    let from = g.N.Name.from in
    let h = past c.args.journal.now in
    let ps = c.args.progress.now.items in
    let i = c.args.at in
    let d = c.index-lines-at.result in
    let y = c.index_mut-mine.result.now in
    let z = c.line_turn.new.progress in
    let place : slice_get ps i ≡ Some y = line_at lines ps i y c.requires.progress.all c.requires.known c.index_mut-mine.ensures.value in
    let k : slice_get lines i ≡ Some d = def_at c.args.lines.now lines i d c.requires.lines c.requires.known c.index-lines-at.is in
    let q = c.line_number-number.ensures ∙ ap (λ (v : Script). length v.sessions + i) c.requires.script in
    let t = line_turned script lines from i c.line_number-number.result c.line_turn.result h (past c.line_turn.new.journal) c.args.parts.now c.line_turn.new.parts ps y z d q c.requires.run c.requires.progress place k
    c.line_turn.ensures.did c.line_turn.ensures.done c.line_turn.ensures.same c.line_turn.ensures.still c.line_turn.ensures.entities in
    t.turned

pub returns-clause-progress : goal.returns-clause-progress
returns-clause-progress g c =
    let script = g.N.Name.script in
    let lines = g.N.Name.lines in
    let from = g.N.Name.from in
    let h = past c.args.journal.now in
    let ps = c.args.progress.now.items in
    let i = c.args.at in
    let d = c.index-lines-at.result in
    let y = c.index_mut-mine.result.now in
    let z = c.line_turn.new.progress in
    let place : slice_get ps i ≡ Some y = line_at lines ps i y c.requires.progress.all c.requires.known c.index_mut-mine.ensures.value in
    let k : slice_get lines i ≡ Some d = def_at c.args.lines.now lines i d c.requires.lines c.requires.known c.index-lines-at.is in
    let q = c.line_number-number.ensures ∙ ap (λ (v : Script). length v.sessions + i) c.requires.script in
    let t = line_turned script lines from i c.line_number-number.result c.line_turn.result h (past c.line_turn.new.journal) c.args.parts.now c.line_turn.new.parts ps y z d q c.requires.run c.requires.progress place k
    c.line_turn.ensures.did c.line_turn.ensures.done c.line_turn.ensures.same c.line_turn.ensures.still c.line_turn.ensures.entities in
    t.progress

pub returns-clause-sessions : goal.returns-clause-sessions
returns-clause-sessions g c =
    let script = g.N.Name.script in
    let lines = g.N.Name.lines in
    let from = g.N.Name.from in
    let h = past c.args.journal.now in
    let ps = c.args.progress.now.items in
    let i = c.args.at in
    let d = c.index-lines-at.result in
    let y = c.index_mut-mine.result.now in
    let z = c.line_turn.new.progress in
    let place : slice_get ps i ≡ Some y = line_at lines ps i y c.requires.progress.all c.requires.known c.index_mut-mine.ensures.value in
    let k : slice_get lines i ≡ Some d = def_at c.args.lines.now lines i d c.requires.lines c.requires.known c.index-lines-at.is in
    let q = c.line_number-number.ensures ∙ ap (λ (v : Script). length v.sessions + i) c.requires.script in
    let t = line_turned script lines from i c.line_number-number.result c.line_turn.result h (past c.line_turn.new.journal) c.args.parts.now c.line_turn.new.parts ps y z d q c.requires.run c.requires.progress place k
    c.line_turn.ensures.did c.line_turn.ensures.done c.line_turn.ensures.same c.line_turn.ensures.still c.line_turn.ensures.entities in
    t.rest
