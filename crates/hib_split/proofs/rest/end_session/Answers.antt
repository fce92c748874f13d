use Rattle.std.proofs.Common.{ℕ, sym, ap, ◌∙◌, subst}
use Rattle.hib_journal.specs.Kept.{past}
use Rattle.hib_journal.specs.Next.{next}
use Rattle.hib_split_law.specs.Apart.{IsOwnLegal}
use Rattle.hib_parts.specs.Run.{part_lists}
use Rattle.hib_split.proofs.Gathered.{mine_legal, mine_over}
use Rattle.hib_split.proofs.Whole.{session_run}
use Rattle.hib_split.proofs.OneByOne.{session_more}
use Rattle.hib_split.proofs.rest.end_session.Goals as goal

pub returns-clause-legal : goal.returns-clause-legal
returns-clause-legal g c =
    let script = g.N.Name.script in
    mine_legal script c.args.number c.args.mine.now.items c.push_reserved.new.self.items c.close-list.result.1 c.requires.place c.push_reserved.ensures.items
    (subst (λ (n : ℕ). IsOwnLegal script n (past c.close-list.result.1)) (c.close-list.ensures.number ∙ (c.step_to_end-refused.ensures.number ∙ c.taken-session.ensures.number)) c.close-list.ensures.legal) c.requires.legal

pub returns-clause-over : goal.returns-clause-over
returns-clause-over g c = λ f.
    let script = g.N.Name.script in
    mine_over script c.args.number c.args.mine.now.items c.push_reserved.new.self.items c.close-list.result.1 c.requires.place c.push_reserved.ensures.items
    (ap (next script c.args.number) c.close-list.ensures.list ∙ (ap (λ (n : ℕ). next script n c.step_to_end-refused.new.worker.list) (sym (c.step_to_end-refused.ensures.number ∙ c.taken-session.ensures.number)) ∙ c.step_to_end-refused.ensures.over f))
    (c.requires.over (c.step_to_end-refused.ensures.before f))

pub returns-clause-run : goal.returns-clause-run
returns-clause-run g c = λ f a x.
    session_run (part_lists c.args.parts.now)
    (part_lists c.step_to_end-refused.new.parts)
    c.args.mine.now.items c.push_reserved.new.self.items c.close-list.result.1 c.args.number c.taken-session.result c.step_to_end-refused.new.worker c.requires.place c.push_reserved.ensures.items c.taken-session.ensures.number
    (c.taken-session.ensures.fresh a) c.step_to_end-refused.ensures.number c.close-list.ensures.list (c.step_to_end-refused.ensures.run f) (x (c.step_to_end-refused.ensures.before f))

pub returns-clause-order : goal.returns-clause-order
returns-clause-order g c = λ f a v x.
    let script = g.N.Name.script in
    session_more script (part_lists c.args.parts.now)
    (part_lists c.step_to_end-refused.new.parts)
    c.args.mine.now.items c.push_reserved.new.self.items c.close-list.result.1 c.args.number c.taken-session.result c.step_to_end-refused.new.worker v c.requires.place c.push_reserved.ensures.items c.taken-session.ensures.number
    (c.taken-session.ensures.fresh a) c.step_to_end-refused.ensures.number c.close-list.ensures.list
    (subst (λ (n : ℕ). IsOwnLegal script n (past c.close-list.result.1)) (c.close-list.ensures.number ∙ (c.step_to_end-refused.ensures.number ∙ c.taken-session.ensures.number)) c.close-list.ensures.legal)
    (ap (next script c.args.number) c.close-list.ensures.list ∙ (ap (λ (n : ℕ). next script n c.step_to_end-refused.new.worker.list) (sym (c.step_to_end-refused.ensures.number ∙ c.taken-session.ensures.number)) ∙ c.step_to_end-refused.ensures.over f))
    (c.step_to_end-refused.ensures.run f) (x (c.step_to_end-refused.ensures.before f))
