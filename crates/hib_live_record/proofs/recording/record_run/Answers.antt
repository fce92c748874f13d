use Rattle.hib_live_record.proofs.Ends.{grown_same, on_err}
use Rattle.hib_live_record.proofs.recording.record_run.Goals as goal

pub returns-in_err-orders-clause-err : goal.returns-in_err-orders-clause-err
returns-in_err-orders-clause-err c = on_err c.from_residual.result (grown_same c.args.script.now)
