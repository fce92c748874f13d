use Rattle.std.proofs.Common.{sym, ◌∙◌}
use Rattle.hib_session.proofs.OwnReplies.{own_is_none}
use Rattle.hib_parts.proofs.worker.Worker.own_answer.Goals as goal

pub unreachable-requires : goal.unreachable-requires
unreachable-requires g c = own_is_none g.N.Name.script c.args.self.now.list c.args.act.now c.args.self.now.number c.args.self.now.number c.requires.own (sym c.in_ok-own.ensures ∙ c.in-None.is)
