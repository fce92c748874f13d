use Rattle.hib_order_schedule.proofs.Shown.{plays, plays_whole, plays_shown}
use Rattle.hib_order_schedule.proofs.laws.schedules_play_orders.Goals as goal

pub returns : goal.returns
returns c = record { plays = plays; whole = plays_whole; shown = plays_shown }
