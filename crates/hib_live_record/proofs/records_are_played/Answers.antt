use Rattle.hib_order_law.specs.Orders.{kills, steps_in}
use Rattle.hib_live_record.proofs.Runs.{run_of}
use Rattle.hib_live_record.proofs.records_are_played.Goals as goal

pub returns : goal.returns
returns c = record {
  played = λ s t start es g u o. c.schedules_play_orders.ensures.shown t start (kills (steps_in es)) es (run_of c.legal_by_growth.ensures.legal s t start es g u o);
  again = λ s t start es h g u o l n f p. c.shown_runs_come_again.ensures.again t start (kills (steps_in es)) es h (run_of c.legal_by_growth.ensures.legal s t start es g u o) l n f p;
}
