use Rattle.std.proofs.Common.{◌≡◌, ◌<◌, ◌∙◌, Some, ap, vec_len, sym, subst, arith}
use Rattle.std.specs.Prelude.{Option}
use Rattle.std.proofs.lemmas.List.{get_or_read_under}
use Rattle.hib_trace_law.specs.declared.commits.Commit.{Commit}
use Rattle.hib_traces.specs.declared.order.Order.{Order}
use Rattle.hib_trace_calls.specs.Ends.{looked}
use Rattle.hib_trace_calls.specs.Writes.{row_write_if}
use Rattle.hib_trace_calls.specs.declared.calls.Fate.{Fate}
use Rattle.hib_trace_calls.specs.declared.calls.Write.{Write}
use Rattle.hib_trace_filed.specs.Keys.{commit_of}
use Rattle.hib_trace_judge.specs.Found.{IsWriteFound}
use Rattle.hib_trace_judge.specs.Updates.{IsUpdateJudged}
use Rattle.hib_trace_judge.proofs.Alike.{key_within}
use Rattle.hib_trace_judge.proofs.updates.judge_write.Goals as goal

pub returns-in-Some : goal.returns-in-Some
returns-in-Some c =
    let w : Write = c.in-Some.write in
    let call = c.args.call.now in
    let e : row_write_if (looked c.args.fates.now call.transaction) call call.key call.table ≡ Some w =
    ap (λ (f : Fate). row_write_if f call call.key call.table) (sym c.fate_at.ensures) ∙ sym c.write_of.ensures ∙ c.in-Some.is in
    let l : w.key < c.args.count =
    key_within c.args.count (looked c.args.fates.now call.transaction) call call.key call.table w c.requires.key e in
    subst (λ (o : Option Write). IsWriteFound o c.args.filed.now c.args.limits.now call.base c.judge_update.result) (sym e)
    (λ (d : Order).
    subst (λ (o : Order). IsUpdateJudged o.commits.items (commit_of c.args.limits.now w) call.base c.judge_update.result)
    (get_or_read_under c.args.filed.now.commits.items w.key (vec_len c.args.filed.now.commits) c.index.result.now d c.index.ensures
    (omega (arith, l, c.requires.ready.commits, c.args.filed.now.commits.ok.0)) c.args.filed.now.commits.ok.0)
    (subst (λ (o : Option Commit). IsUpdateJudged c.index.result.now.commits.items o call.base c.judge_update.result) c.commit_of.ensures
    c.judge_update.ensures))
