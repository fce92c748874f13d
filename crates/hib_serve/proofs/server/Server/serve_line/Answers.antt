use Rattle.hib_serve.proofs.Keeps.{behind_keeps}
use Rattle.hib_serve.proofs.server.Server.serve_line.Goals as goal

pub returns-in_err-text-clause-keeps : goal.returns-in_err-text-clause-keeps
returns-in_err-text-clause-keeps g c = behind_keeps c.in_ok-id.field-0.asked c.come_to-came.result c.args.self.now.core c.come_to-came.new.core c.args.self.now.names.entries
    c.come_to-came.new.names.entries c.come_to-came.ensures.named

pub returns-clause-keeps : goal.returns-clause-keeps
returns-clause-keeps g c = behind_keeps c.in_ok-id.field-0.asked c.come_to-came.result c.args.self.now.core c.come_to-came.new.core c.args.self.now.names.entries
    c.come_to-came.new.names.entries c.come_to-came.ensures.named
