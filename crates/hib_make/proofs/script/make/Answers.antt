use Rattle.hib_make.proofs.Valid.{made_valid}
use Rattle.hib_make.proofs.script.make.Goals as goal

pub returns-clause-valid : goal.returns-clause-valid
returns-clause-valid c =
    rw (c.in_ok-mapping.ensures, c.in_ok-rows.ensures.made, c.in_ok-queries.ensures, c.in_ok-sessions.ensures.made, c.in_ok-schedule.ensures)
    (made_valid c.new-draws.result c.rows.new.draws c.sessions.new.draws)
