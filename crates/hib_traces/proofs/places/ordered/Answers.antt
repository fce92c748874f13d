use Rattle.std.proofs.Common.{List, Vec, Global, sym, ◌∙◌, ap}
use Rattle.std.specs.Prelude.{nat_eq}
use Rattle.std.proofs.lemmas.List.Sorted.{list_any-IsPermutation}
use Rattle.hib_traces.specs.Making.{AreAlike}
use Rattle.hib_traces.specs.Places.{has_row, stands_at}
use Rattle.hib_traces.specs.declared.places.Place.{Place}
use Rattle.hib_traces.proofs.Steps.{if_ok}
use Rattle.hib_traces.proofs.Stood.{stands_one}
use Rattle.hib_traces.proofs.places.ordered.Goals as goal

pub returns-clause-same : goal.returns-clause-same
returns-clause-same c =
    let ps : List Place = c.args.places.items in
    let qs : List Place = c.in_ok-sorted.sorted.items in
    if_ok c.that_matter.result (λ (v : Vec Place Global). AreAlike v.items c.deref.result.now) (λ (v : Vec Place Global). AreAlike v.items ps)
    (λ v a. record {
      stands = λ r e t. a.stands r e t ∙ ap (stands_at r e t) c.deref.ensures.value
          ∙ sym (list_any-IsPermutation (stands_one r e t) ps qs c.in_ok-sorted.ensures.same);
      rows = λ r. a.rows r ∙ ap (has_row r) c.deref.ensures.value
          ∙ sym (list_any-IsPermutation (λ (p : Place). nat_eq p.row r) ps qs c.in_ok-sorted.ensures.same);
    })
    c.that_matter.ensures.same
