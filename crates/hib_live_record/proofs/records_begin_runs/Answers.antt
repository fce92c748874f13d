use Rattle.std.proofs.Common.{[], refl, sym, append-nil, Some}
use Rattle.hib_order_law.specs.Orders.{onto, steps_in}
use Rattle.hib_order_schedule.specs.Schedules.{runs_of}
use Rattle.hib_live_record.specs.Recorded.{recorded}
use Rattle.hib_live_record.proofs.Ends.{grown_ended}
use Rattle.hib_live_record.proofs.records_begin_runs.Goals as goal

pub returns : goal.returns
returns c = record {
  begins = λ s start es h u l n f p.
      c.schedules_begin_runs.ensures.begins (recorded s es) start es [] h
      (record { legal = c.legal_by_growth.ensures.legal s (recorded s es) (grown_ended s (runs_of (steps_in es))) (Some start) (onto es []) u.legal; numbered = u.numbered; plain = u.plain })
      (sym (append-nil (runs_of (steps_in es)))) refl l n f p;
}
