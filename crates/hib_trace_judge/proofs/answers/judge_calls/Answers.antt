use Rattle.std.proofs.Common.{◌≡◌, ◌∙◌, ℕ, List, length, sym, subst, ap}
use Rattle.std.specs.Prelude.{Option}
use Rattle.hib_trace_calls.proofs.Grown.{zip_step}
use Rattle.hib_trace_calls.specs.Ends.{IsTable}
use Rattle.hib_trace_calls.specs.Numbers.{IsBelow}
use Rattle.hib_trace_calls.specs.declared.calls.Fate.{Fate}
use Rattle.hib_trace_calls.specs.declared.calls.Write.{Write}
use Rattle.hib_trace_filed.specs.Keys.{table_commits}
use Rattle.hib_trace_lists.specs.Loads.{TellLoads}
use Rattle.hib_trace_judge.specs.Told.{told_writes}
use Rattle.hib_trace_judge.specs.Lines.{IsCallJudged}
use Rattle.hib_trace_judge.proofs.Alike.{are_ready, one_below, operation_told}
use Rattle.hib_trace_judge.proofs.answers.judge_calls.Goals as goal

pub judge_call-requires-clause-ready : goal.judge_call-requires-clause-ready
judge_call-requires-clause-ready c =
    are_ready c.args.limits.now c.args.counts.now.none c.args.calls.now c.deref.result.now c.args.counts.now.keys c.in_ok-filed.filed
    c.in_ok-filed.ensures.commits c.in_ok-filed.ensures.lives c.in_ok-filed.ensures.undone c.in_ok-filed.ensures.owns

pub loop-call-preserved : goal.loop-call-preserved
loop-call-preserved c =
    let m = c.args.limits.now in
    let n = c.args.counts.now in
    let cs = c.args.calls.now in
    let call = c.call-item.result in
    let ws : List Write = told_writes m.clock n.keys cs in
    let fates : List (Option Fate) = c.deref-in-loop-call.result.now in
    let table : IsTable cs fates = subst (λ (t : List (Option Fate)). IsTable cs t) (sym c.deref-in-loop-call.ensures.value) c.in_ok-fates.ensures.table in
    let size : length fates ≡ n.transactions =
    ap length c.deref-in-loop-call.ensures.value ∙ sym c.in_ok-fates.fates.ok.0 ∙ c.in_ok-fates.ensures.count in
    let key : IsBelow n.keys call.key = one_below n.keys cs (λ d. d.key) c.loop-call.call-index call c.requires.keys c.loop-call-test.true c.call-item.is in
    let transaction : IsBelow (length fates) call.transaction =
    subst (λ (k : ℕ). IsBelow k call.transaction) (sym size)
    (one_below n.transactions cs (λ d. d.transaction) c.loop-call.call-index call c.requires.transactions c.loop-call-test.true c.call-item.is) in
    let written : c.deref-2.result.now ≡ c.deref.result.now = c.deref-2.ensures.value ∙ sym c.deref.ensures.value in
    zip_step (IsCallJudged m n.none cs ws) cs c.loop-call.judgements.items c.push.new.self.items c.loop-call.call-index call c.judge_call.result
    c.loop-call-test.true c.call-item.is c.loop-call.invariant
    (subst (λ (vs : List Write). IsCallJudged m n.none cs vs call c.judge_call.result) (c.deref.ensures.value ∙ c.in_ok-writes.ensures)
    (operation_told m n.none cs c.deref.result.now n.keys c.in_ok-filed.filed c.in_ok-filed.ensures.commits c.in_ok-filed.ensures.lives
    c.in_ok-filed.ensures.undone c.in_ok-filed.ensures.owns call.operation c.in_ok-lists.lists fates call c.judge_call.result
    (subst (λ (vs : List Write). TellLoads m.clock (table_commits m vs) cs c.in_ok-lists.lists.loads.items) written c.in_ok-lists.ensures.tell)
    table transaction key
    (c.judge_call.ensures n.none)))
    c.in_ok-push.ensures.items
