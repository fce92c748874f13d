use Rattle.std.proofs.Common.{◌≡◌, Some, None, Option}
use Rattle.hib_journal.specs.Kept.{Kept}
use Rattle.hib_split.proofs.Gathered.{mine_legal, mine_over}
use Rattle.hib_split.proofs.rest.end_next.Goals as goal

none_there : (o : Option Kept) (l : Kept) → o ≡ None → o ≡ Some l → ⊥
none_there o l p q = cc

pub returns-in-Some-clause-legal : goal.returns-in-Some-clause-legal
returns-in-Some-clause-legal g c = mine_legal g.N.Name.script c.args.number c.args.mine.now.items c.push_reserved.new.self.items c.in-Some.list c.requires.place c.push_reserved.ensures.items c.in-Some.ensures.legal c.requires.legal

pub returns-in-Some-clause-over : goal.returns-in-Some-clause-over
returns-in-Some-clause-over g c = λ f. mine_over g.N.Name.script c.args.number c.args.mine.now.items c.push_reserved.new.self.items c.in-Some.list c.requires.place c.push_reserved.ensures.items c.in-Some.ensures.over (c.requires.over f)

pub returns-in-Some-clause-run : goal.returns-in-Some-clause-run
returns-in-Some-clause-run g c = λ f a e x. absurd (none_there c.list_at.result c.in-Some.list (c.list_at.ensures.none e) c.in-Some.is)

pub returns-in-Some-clause-order : goal.returns-in-Some-clause-order
returns-in-Some-clause-order g c = λ f a e v x. absurd (none_there c.list_at.result c.in-Some.list (c.list_at.ensures.none e) c.in-Some.is)

pub returns-in-None-clause-run : goal.returns-in-None-clause-run
returns-in-None-clause-run g c = λ f a e x. c.end_session.ensures.run f a x

pub returns-in-None-clause-order : goal.returns-in-None-clause-order
returns-in-None-clause-order g c = λ f a e v x. c.end_session.ensures.order f a v x
