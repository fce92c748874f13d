use Rattle.std.proofs.Common.{◌≡◌, ℕ, Bool, Some, sym, ◌∙◌, ap}
use Rattle.std.specs.Prelude.{◌&&◌, ◌||◌, nat_lt}
use Rattle.std.specs.List.{list_any}
use Rattle.hib_trace_law.specs.declared.commits.Commit.{Commit}
use Rattle.hib_trace_law.specs.Certain.{ended_before, is_lower}
use Rattle.hib_traces.specs.Marks.{asks}
use Rattle.hib_traces.proofs.Olds.{old_none, old_both}
use Rattle.hib_traces.proofs.times.gone_by.Goals as goal

pub returns-in-None : goal.returns-in-None
returns-in-None c = λ t. old_none c.args.order.now.commits.items c.args.commit.now t c.in-None.is

pub returns-in-Some-version : goal.returns-in-Some-version
returns-in-Some-version c = λ t.
    let e : ℕ = c.in-Some.end in
    let v : ℕ = c.in-Some-version.version in
    let calls : Bool = list_any (λ (d : Commit). nat_lt e d.begin && ended_before d.end t) c.args.order.now.commits.items in
    let versions : Bool = list_any (λ (d : Commit). is_lower (Some v) d.version && ended_before d.end t) c.args.order.now.commits.items in
    let p : calls ≡ ended_before c.least_beyond-by_calls.result t =
    sym (c.requires.calls e t) ∙ sym (ap (asks e t) c.deref.ensures.value) ∙ c.least_beyond-by_calls.ensures t in
    let q : versions ≡ ended_before c.least_beyond.result t =
    sym (c.requires.versions v t) ∙ sym (ap (asks v t) c.deref-in-Some-version.ensures.value) ∙ c.least_beyond.ensures t in
    old_both c.args.order.now.commits.items c.args.commit.now t e v c.in-Some.is c.in-Some-version.is
    ∙ ap (λ b. b || versions) p ∙ ap (λ b. ended_before c.least_beyond-by_calls.result t || b) q ∙ sym (c.least_of.ensures t)
