use Rattle.std.proofs.Common.{◌≡◌, ◌<◌, ◌∙◌, List, length, take, sym, ap, arith}
use Rattle.std.specs.Prelude.{◌&&◌, ◌||◌, not}
use Rattle.std.proofs.lemmas.List.{take_all}
use Rattle.hib_trace_calls.specs.declared.calls.Call.{Call}
use Rattle.hib_trace_lists.specs.Lists.{changed, gives, may_be_fresh}
use Rattle.hib_trace_lists.proofs.Steps.{any_step}
use Rattle.hib_trace_lists.proofs.loads.loads_in.Goals as goal

pub loop-call-preserved : goal.loop-call-preserved
loop-call-preserved c =
    let old = c.loop-call.files in
    let new = c.file_load.new.files in
    let call : Call = c.call-item.result in
    let cs : List Call = c.args.calls.now in
    let n : length new.items ≡ length old.items = omega (arith, new.ok.0, old.ok.0, c.in_ok-file_load.ensures.count) in
    record {
      count = c.in_ok-file_load.ensures.count ∙ c.loop-call.invariant.count;
      tell = λ of h k r e t d l.
          let m : k < length old.items = omega (arith, l, n) in
          let test : Call → _ = λ (x : Call). gives c.args.clock k r e x && not (changed of x.tables.items x.end t) in
          c.in_ok-file_load.ensures.each of h k r e t d (omega (arith, m, old.ok.0))
          ∙ ap (λ b. b || test call) (c.loop-call.invariant.tell of h k r e t d m)
          ∙ ap (λ x. may_be_fresh c.args.clock of (take c.loop-call.call-index cs) k r e t || test x) c.call-item.is
          ∙ sym (any_step test cs c.loop-call.call-index call c.loop-call-test.true);
    }

pub returns-clause-tell : goal.returns-clause-tell
returns-clause-tell c = λ of h k r e t d l.
    c.loop-call.invariant.tell of h k r e t d l
    ∙ ap (λ (cs : List Call). may_be_fresh c.args.clock of cs k r e t) (take_all c.loop-call.call-index c.args.calls.now c.loop-call-test.false)
