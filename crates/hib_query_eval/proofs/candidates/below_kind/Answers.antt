use Rattle.std.proofs.Common.{◌<◌, false, refl, subst}
use Rattle.std.specs.Prelude.{Some}
use Rattle.hib_query_eval.specs.declared.places.Value.{Value}
use Rattle.hib_query_eval.specs.Orders.{kind}
use Rattle.hib_query_eval.specs.Places.{cell_in}
use Rattle.hib_query_eval.proofs.Spans.{behind_none, behind_numbers, behind_texts}
use Rattle.hib_query_eval.proofs.candidates.below_kind.Goals as goal

pub returns-in-Int : goal.returns-in-Int
returns-in-Int c = λ v l k. behind_none v l (subst (λ x. kind (cell_in v) < kind (Some x)) c.in-Int.is k)

pub returns-in-Text : goal.returns-in-Text
returns-in-Text c = λ v l k.
    behind_numbers (Value.Text c.new.result) v c.new.result.items refl l (subst (λ x. kind (cell_in v) < kind (Some x)) c.in-Text.is k)

pub returns-in-Bool : goal.returns-in-Bool
returns-in-Bool c = λ v l k. behind_texts false v l (subst (λ x. kind (cell_in v) < kind (Some x)) c.in-Bool.is k)
