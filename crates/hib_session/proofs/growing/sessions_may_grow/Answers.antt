use Rattle.hib_session.proofs.Grows.{follows_grown, are_grown, are_more}
use Rattle.hib_session.proofs.Taken.{takes, answers, queue_steps, begin_steps, stage_steps}
use Rattle.hib_session.proofs.Taking.{recalls_next, left_over, follows_on, follows_same, fits_due, room_next, if_allowed, if_ended}
use Rattle.hib_session.proofs.growing.sessions_may_grow.Goals as goal

pub returns : goal.returns
returns c = record { follows = follows_grown; all = are_grown; more = are_more }
