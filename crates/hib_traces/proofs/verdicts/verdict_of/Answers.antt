use Rattle.std.proofs.Common.{◌≡◌, ◌+◌, ◌∙◌, ℕ, sym, ap, arith}
use Rattle.std.specs.Prelude.{Some, None}
use Rattle.std.proofs.lemmas.Bool.{le-ltb, lt-ltb, not_from_false, not_from_true}
use Rattle.hib_trace_law.specs.Certain.{ended_before}
use Rattle.hib_traces.specs.Places.{stands_by}
use Rattle.hib_traces.proofs.verdicts.verdict_of.Goals as goal

pub returns-in-Some-None : goal.returns-in-Some-None
returns-in-Some-None c = λ cs ss p.
    let r : c.standing_at.result ≡ Some None = c.in-Some-None.is ∙ ap Some c.in-Some-None.field-0-is in
    sym (p.tell.stands c.args.answer.now.row c.args.answer.now.end c.args.answer.now.since) ∙ c.standing_at.ensures c.args.answer.now.since
    ∙ ap (λ o. stands_by o c.args.answer.now.since) r

pub returns-then-gone-answer : goal.returns-then-gone-answer
returns-then-gone-answer c = λ cs ss p.
    let g : ℕ = c.in-Some-Some.gone in
    let r : c.standing_at.result ≡ Some (Some g) = c.in-Some-Some.is ∙ ap Some c.in-Some-Some.field-0-is in
    record {
      before = c.if-gone-answer.true;
      until = sym (p.tell.stands c.args.answer.now.row c.args.answer.now.end g) ∙ c.standing_at.ensures g ∙ ap (λ o. stands_by o g) r
          ∙ not_from_false (ended_before (Some g) g) (le-ltb g g (omega arith));
      gone = sym (p.tell.stands c.args.answer.now.row c.args.answer.now.end (g + 1)) ∙ c.standing_at.ensures (g + 1) ∙ ap (λ o. stands_by o (g + 1)) r
          ∙ not_from_true (ended_before (Some g) (g + 1)) (lt-ltb g (g + 1) (omega arith));
    }

pub returns-else-gone-answer : goal.returns-else-gone-answer
returns-else-gone-answer c = λ cs ss p.
    let g : ℕ = c.in-Some-Some.gone in
    let s : ℕ = c.args.answer.now.since in
    let r : c.standing_at.result ≡ Some (Some g) = c.in-Some-Some.is ∙ ap Some c.in-Some-Some.field-0-is in
    sym (p.tell.stands c.args.answer.now.row c.args.answer.now.end s) ∙ c.standing_at.ensures s ∙ ap (λ o. stands_by o s) r
    ∙ not_from_false (ended_before (Some g) s) (le-ltb g s c.if-gone-answer.false)

pub returns-then-has_row : goal.returns-then-has_row
returns-then-has_row c = λ cs ss p. record {
  made = sym (p.tell.rows c.args.answer.now.row) ∙ sym c.has_row.ensures ∙ c.if-has_row.true;
  late = sym (p.tell.stands c.args.answer.now.row c.args.answer.now.end 0) ∙ c.standing_at.ensures 0 ∙ ap (λ o. stands_by o 0) c.in-None.is;
}

pub returns-else-has_row : goal.returns-else-has_row
returns-else-has_row c = λ cs ss p. sym (p.tell.rows c.args.answer.now.row) ∙ sym c.has_row.ensures ∙ c.if-has_row.false
