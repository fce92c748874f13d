use Rattle.std.proofs.Common.{refl, arith}
use Rattle.std.proofs.lemmas.Bool.{false≢true}
use Rattle.hib_journal.specs.Kept.{past}
use Rattle.hib_engines.proofs.Outcomes.{err_all}
use Rattle.hib_parts.proofs.Steps.{fits_kept, entry_here, less_than}
use Rattle.hib_parts.proofs.Stores.{may_change, start_calm, start_keeps, start_on, store_on, store_entered, store_left}
use Rattle.hib_parts.proofs.store.serve_store.Goals as goal

pub enter_answer-requires-clause-due : goal.enter_answer-requires-clause-due
enter_answer-requires-clause-due g c =
    let script = g.N.Name.script in
    let s = store_on c.args.script.now script g.N.Name.from.tables (past c.args.list.now) c.number-number.result c.args.store.now c.serve.new.self c.args.worker.now c.prepared.new.worker c.in_ok-acts.acts.act c.args.now c.in_ok-reply.reply
    c.requires.script c.prepared.ensures.kept c.number-number.ensures c.requires.built c.requires.stands c.requires.due c.in_ok-acts.ensures.due c.requires.later c.in_ok-reply.ensures.answered c.in_ok-reply.ensures.asked in
    fits_kept script c.args.worker.now c.prepared.new.worker c.in_ok-acts.acts.act c.args.now c.in_ok-reply.reply c.prepared.ensures.kept s.fits

pub returns-in_err-enter_answer-clause-counted : goal.returns-in_err-enter_answer-clause-counted
returns-in_err-enter_answer-clause-counted g c =
    let script = g.N.Name.script in
    let s = store_on c.args.script.now script g.N.Name.from.tables (past c.args.list.now) c.number-number.result c.args.store.now c.serve.new.self c.args.worker.now c.prepared.new.worker c.in_ok-acts.acts.act c.args.now c.in_ok-reply.reply
    c.requires.script c.prepared.ensures.kept c.number-number.ensures c.requires.built c.requires.stands c.requires.due c.in_ok-acts.ensures.due c.requires.later c.in_ok-reply.ensures.answered c.in_ok-reply.ensures.asked in
    err_all c.from_residual-in_err-enter_answer.result _ (store_left c.args.store.now c.serve.new.self c.in_ok-acts.acts.act c.args.worker.now.number s.part c.in_ok-reply.ensures.still
    (λ b. false≢true (c.in_err-enter_answer.ensures.brings c.in_ok-acts.ensures.ready (s.small b) b)))

pub returns-clause-entered : goal.returns-clause-entered
returns-clause-entered g c =
    let script = g.N.Name.script in
    let w = c.args.worker.now in
    let v = c.prepared.new.worker in
    let a = c.in_ok-acts.acts.act in
    let r = c.in_ok-reply.reply in
    let s = store_on c.args.script.now script g.N.Name.from.tables (past c.args.list.now) c.number-number.result c.args.store.now c.serve.new.self w v a c.args.now r
    c.requires.script c.prepared.ensures.kept c.number-number.ensures c.requires.built c.requires.stands c.requires.due c.in_ok-acts.ensures.due c.requires.later c.in_ok-reply.ensures.answered c.in_ok-reply.ensures.asked in
    store_entered script g.N.Name.from.tables (past c.args.list.now) (past c.enter_answer.new.list) c.args.store.now c.serve.new.self w c.enter_answer.new.worker a c.args.now r s
    (entry_here w v (past c.args.list.now) (past c.prepared.new.list) (past c.enter_answer.new.list) a c.args.now r c.prepared.ensures.kept c.prepared.ensures.list c.in_ok-enter_answer.ensures.list)
    (entry_here w v w.list v.list c.enter_answer.new.worker.list a c.args.now r c.prepared.ensures.kept c.prepared.ensures.kept.list c.in_ok-enter_answer.ensures.mine)
    (less_than c.enter_answer.new.worker.left v.left w.left c.in_ok-enter_answer.ensures.less c.prepared.ensures.left)
    c.in_ok-reply.ensures.faults c.in_ok-reply.ensures.fault

pub returns-in-Some-clause-entered : goal.returns-in-Some-clause-entered
returns-in-Some-clause-entered g c =
    let script = g.N.Name.script in
    let told = g.N.Name.from.tables in
    let x = c.args.store.now in
    let w = c.args.worker.now in
    let v = c.prepared.new.worker in
    let a = c.in_ok-acts.acts.act in
    let r = c.in-Some.replies.0 in
    let s = start_on script told (past c.args.list.now) c.number-number.result x w v a c.args.now r c.prepared.ensures.kept c.number-number.ensures c.requires.stands c.requires.due c.in_ok-acts.ensures.due
    c.requires.later (c.requires.unchanged (c.in-Some.ensures.unchanged refl)) (c.in-Some.ensures.clean refl) c.in-Some.ensures.given in
    store_entered script told (past c.args.list.now) (past c.enter_both.new.list) x x w c.enter_both.new.worker a c.args.now r s
    (entry_here w v (past c.args.list.now) (past c.prepared.new.list) (past c.enter_both.new.list) a c.args.now r c.prepared.ensures.kept c.prepared.ensures.list c.in_ok-enter_both.ensures.list)
    (entry_here w v w.list v.list c.enter_both.new.worker.list a c.args.now r c.prepared.ensures.kept c.prepared.ensures.kept.list c.in_ok-enter_both.ensures.mine)
    (less_than c.enter_both.new.worker.left v.left w.left c.in_ok-enter_both.ensures.less c.prepared.ensures.left)
    (omega arith) (λ p. absurd (start_calm script told a r c.in-Some.ensures.given p))

pub returns-clause-may : goal.returns-clause-may
returns-clause-may g c =
    let w = c.args.worker.now in
    let v = c.prepared.new.worker in
    let a = c.in_ok-acts.acts.act in
    let r = c.in_ok-reply.reply in
    may_change g.N.Name.script g.N.Name.from.tables (past c.args.list.now) (past c.enter_answer.new.list) c.number-number.result c.args.now c.args.store.now w v a r c.may_change_rows-changed.result c.prepared.ensures.kept c.number-number.ensures c.requires.stands
    (entry_here w v (past c.args.list.now) (past c.prepared.new.list) (past c.enter_answer.new.list) a c.args.now r c.prepared.ensures.kept c.prepared.ensures.list c.in_ok-enter_answer.ensures.list)
    c.may_change_rows-changed.ensures

pub returns-in-Some-clause-may : goal.returns-in-Some-clause-may
returns-in-Some-clause-may g c =
    let w = c.args.worker.now in
    let v = c.prepared.new.worker in
    let a = c.in_ok-acts.acts.act in
    let r = c.in-Some.replies.0 in
    start_keeps g.N.Name.script g.N.Name.from.tables (past c.args.list.now) (past c.enter_both.new.list) w.number c.args.now a r
    (entry_here w v (past c.args.list.now) (past c.prepared.new.list) (past c.enter_both.new.list) a c.args.now r c.prepared.ensures.kept c.prepared.ensures.list c.in_ok-enter_both.ensures.list)
    c.in-Some.ensures.given
