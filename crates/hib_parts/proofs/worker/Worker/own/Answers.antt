use Rattle.hib_parts.proofs.Steps.{own_part, own_fits}
use Rattle.hib_parts.proofs.worker.Worker.own.Goals as goal

pub own_answer-requires-clause-own : goal.own_answer-requires-clause-own
own_answer-requires-clause-own g c = own_part g.N.Name.script c.args.self.now c.in_ok-act.act c.requires.due c.in_ok-act.ensures

pub take-requires-clause-due : goal.take-requires-clause-due
take-requires-clause-due g c =
    own_fits g.N.Name.script c.args.self.now c.in_ok-act.act c.args.now c.in_ok-reply.reply c.number-number.result c.entry_of.result c.in_ok-act.ensures c.requires.later c.requires.bounded c.in_ok-reply.ensures c.number-number.ensures c.entry_of.ensures
