use Rattle.hib_trace_report.proofs.Told.{judged_count}
use Rattle.hib_trace_report.proofs.whole.report_trace.Goals as goal

pub report_judged-requires : goal.report_judged-requires
report_judged-requires c =
    judged_count c.args.limits.now c.in_ok-judged.judged.events.items c.in_ok-judged.judged.judgements.items c.in_ok-judged.ensures.judged

pub returns-clause-report : goal.returns-clause-report
returns-clause-report c = record {
  events = c.in_ok-judged.judged.events.items;
  judgements = c.in_ok-judged.judged.judgements.items;
  lines = c.in_ok-judged.ensures.lines;
  judged = c.in_ok-judged.ensures.judged;
  told = c.in_ok-report.ensures.told;
  certain = c.in_ok-report.ensures.certain;
}
