use Rattle.std.specs.Prelude.{option_map, string_bytes}
use Rattle.hib_trace_report.specs.Asked.{masked}
use Rattle.hib_trace_report.proofs.Told.{masked_is, told_is}
use Rattle.hib_trace_report.proofs.whole.report_judged.Goals as goal

pub returns-clause-told : goal.returns-clause-told
returns-clause-told c =
    told_is c.put_report.new.out.items c.new-text.result.items c.args.limits.now c.args.most c.args.judged.now.events.items c.deref-3.result.now
    (masked (option_map string_bytes c.args.key.now) c.args.judged.now.events.items c.args.judged.now.judgements.items) c.deref-4.result.now
    c.in_ok-put_report.ensures c.new-text.ensures.items c.deref-3.ensures.value
    (masked_is (option_map string_bytes c.args.key.now) c.args.judged.now.events.items c.deref.result.now c.args.judged.now.judgements.items
    c.deref-2.result.now c.in_ok-asked.asked.items c.deref-4.result.now c.deref-4.ensures.value c.in_ok-asked.ensures c.deref.ensures.value
    c.deref-2.ensures.value)
