use Rattle.std.proofs.Common.{◌≡◌, ℕ, Vec, Global, List, sym, ◌∙◌, ap, subst, rules}
use Rattle.std.specs.Prelude.{◌&&◌, nat_lt}
use Rattle.std.specs.List.Sorted.{IsNonDecreasingBy}
use Rattle.std.proofs.lemmas.List.Sorted.{IsNonDecreasingBy-from_sort_by_key, list_any-IsPermutation}
use Rattle.hib_traces.specs.declared.marks.Mark.{Mark}
use Rattle.hib_traces.specs.Marks.{asks, far_of}
use Rattle.hib_traces.proofs.Steps.{if_ok}
use Rattle.hib_traces.proofs.order.sorted_stairs.Goals as goal

pub stairs-requires : goal.stairs-requires
stairs-requires c = record {
  sorted =
      subst (λ (xs : List Mark). IsNonDecreasingBy far_of xs) (sym c.deref.ensures.value)
      (IsNonDecreasingBy-from_sort_by_key far_of _ c.in_ok-sort_by_key.ensures.sorted (λ a r q k. search rules));
}

pub returns-clause-same : goal.returns-clause-same
returns-clause-same c =
    if_ok c.stairs.result
    (λ (v : Vec Mark Global). (k t : ℕ) → asks k t v.items ≡ asks k t c.deref.result.now)
    (λ (v : Vec Mark Global). (k t : ℕ) → asks k t v.items ≡ asks k t c.args.marks.items)
    (λ v h k t. h k t ∙ ap (asks k t) c.deref.ensures.value
    ∙ sym (list_any-IsPermutation (λ (m : Mark). nat_lt k m.at && nat_lt m.value t) c.args.marks.items c.sort_by_key.new.self.items c.sort_by_key.ensures.permutation))
    c.stairs.ensures.same
