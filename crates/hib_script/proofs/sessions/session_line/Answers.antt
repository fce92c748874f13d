use Rattle.std.proofs.Common.{arith}
use Rattle.hib_script.proofs.Named.{named_by}
use Rattle.hib_script.proofs.sessions.session_line.Goals as goal

pub returns-in-len2-clause-fault : goal.returns-in-len2-clause-fault
returns-in-len2-clause-fault c =
    rw (named_by _ c.args.tokens.now c.name-item.result (omega arith) (omega arith), ← c.name-item.is) c.named_session.ensures.fault
