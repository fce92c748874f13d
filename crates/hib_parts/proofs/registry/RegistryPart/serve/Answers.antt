use Rattle.std.proofs.Common.{sym, ◌∙◌}
use Rattle.hib_parts.proofs.Registries.{end_due, end_reply, begin_due}
use Rattle.hib_parts.proofs.registry.RegistryPart.serve.Goals as goal

pub end-requires-clause-due : goal.end-requires-clause-due
end-requires-clause-due g c = end_due g.N.Name.script c.args.worker.now c.in_ok-act.act c.in-Some.reply c.requires.due c.in_ok-act.ensures (sym c.in_ok-own.ensures ∙ c.in-Some.is)

pub end-requires-clause-reply : goal.end-requires-clause-reply
end-requires-clause-reply g c = end_reply g.N.Name.script c.args.worker.now c.in_ok-act.act c.in-Some.reply c.requires.due c.in_ok-act.ensures (sym c.in_ok-own.ensures ∙ c.in-Some.is)

pub begin-requires-clause-due : goal.begin-requires-clause-due
begin-requires-clause-due g c = begin_due g.N.Name.script c.args.worker.now c.in_ok-act.act c.requires.due c.in_ok-act.ensures (sym c.in_ok-own.ensures ∙ c.in-None.is)
