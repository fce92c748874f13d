use Rattle.std.proofs.Common.{◌≡◌, cond, Some, None, is_some, false, bytes_eq, ap, ◌∙◌}
use Rattle.indexmap.specs.IndexMap.{insert_entry}
use Rattle.hib_statements.specs.Places.{place_of, or_place}
use Rattle.hib_statements.proofs.SessionPlaces.{place_last}
use Rattle.hib_serve.proofs.names.begin.Goals as goal

pub returns-clause-names : goal.returns-clause-names
returns-clause-names g c = λ w.
    let ps = c.args.names.now.entries in
    let none : is_some (place_of c.in_ok-key.key.items ps) ≡ false =
    ap (λ n. is_some (place_of n ps)) c.in_ok-key.ensures.items ∙ ap is_some c.requires in
    ap (place_of w)
    (c.put.ensures ∙ ap (λ es. insert_entry (λ a b. bytes_eq a.items b.items) es c.in_ok-key.key c.in_ok-number.number) c.reserve.ensures.entries)
    ∙ place_last ps c.in_ok-key.key c.in_ok-number.number w none
    ∙ ap (λ k. or_place (place_of w ps) (cond (bytes_eq w k) (Some c.in_ok-number.number) None)) c.in_ok-key.ensures.items
