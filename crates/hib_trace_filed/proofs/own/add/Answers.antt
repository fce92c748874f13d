use Rattle.hib_trace_filed.proofs.own.add.Goals as goal

pub returns : goal.returns
returns c = λ x. c.in_ok-insert.ensures.updates.0 x
