use Rattle.std.proofs.Common.{◌≡◌, ◌++◌, List, [], ◌∷◌, take, get_or, sym, subst}
use Rattle.std.specs.List.{AllZip}
use Rattle.std.proofs.lemmas.List.{take_more, take_all}
use Rattle.hib_trace_law.specs.declared.commits.Answer.{Answer}
use Rattle.hib_trace_law.specs.declared.commits.Commit.{Commit}
use Rattle.hib_traces.specs.declared.kinds.Verdict.{Verdict}
use Rattle.hib_traces.specs.Verdicts.{IsVerdict}
use Rattle.hib_traces.proofs.verdicts.judge.Goals as goal

all_zip_push : {A B : Type 0} (R : A → B → Type 0) (xs : List A) (ys : List B) (x : A) (y : B) → AllZip R xs ys → R x y → AllZip R (xs ++ x ∷ []) (ys ++ y ∷ [])
all_zip_push R [] [] x y p r = (r, tt)
all_zip_push R [] (w ∷ ys) x y p r = absurd p
all_zip_push R (v ∷ xs) [] x y p r = absurd p
all_zip_push R (v ∷ xs) (w ∷ ys) x y p r = (p.0, all_zip_push R xs ys x y p.1 r)

pub loop-answer-preserved : goal.loop-answer-preserved
loop-answer-preserved c =
    let z : Answer = record { row = 0; since = 0; end = 0 } in
    let cs : List Commit = c.in_ok-order.order.commits.items in
    let asked : List Answer = c.args.answers.now in
    subst (λ (xs : List Answer). AllZip (λ (a : Answer) (v : Verdict). IsVerdict cs a cs v) xs c.push.new.self.items)
    (sym (take_more asked c.loop-answer.answer-index z c.loop-answer-test.true))
    (subst (λ (ys : List Verdict). AllZip (λ (a : Answer) (v : Verdict). IsVerdict cs a cs v) (take c.loop-answer.answer-index asked ++ get_or asked c.loop-answer.answer-index z ∷ []) ys)
    (sym c.in_ok-push.ensures.items)
    (all_zip_push (λ (a : Answer) (v : Verdict). IsVerdict cs a cs v) (take c.loop-answer.answer-index asked) c.loop-answer.verdicts.items
    (get_or asked c.loop-answer.answer-index z) c.verdict.result c.loop-answer.invariant c.verdict.ensures))

pub returns : goal.returns
returns c =
    let all : take c.loop-answer.answer-index c.args.answers.now ≡ c.args.answers.now =
    take_all c.loop-answer.answer-index c.args.answers.now c.loop-answer-test.false in
    subst (λ (cs : List Commit). AllZip (λ (a : Answer) (v : Verdict). IsVerdict cs a cs v) c.args.answers.now c.loop-answer.verdicts.items)
    c.in_ok-order.ensures.commits
    (subst (λ (xs : List Answer). AllZip (λ (a : Answer) (v : Verdict). IsVerdict c.in_ok-order.order.commits.items a c.in_ok-order.order.commits.items v) xs
    c.loop-answer.verdicts.items) all c.loop-answer.invariant)
