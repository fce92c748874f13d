use Rattle.std.proofs.Common.{◌≡◌, cond, Some, None, is_some, false, sym, ap, ◌∙◌}
use Rattle.hib_statements.specs.Places.{place_of, or_place}
use Rattle.hib_statements.proofs.SessionPlaces.{place_last, bytes_turned}
use Rattle.hib_statements.proofs.named.note.Goals as goal

pub returns-then-not-contains_key : goal.returns-then-not-contains_key
returns-then-not-contains_key c = λ w.
    let ps = c.args.places.now.entries in
    let none : is_some (place_of c.args.name.items ps) ≡ false = rw c.as_slice.ensures.value at (sym c.if-not-contains_key.ensures) in
    rw c.put.ensures (place_last ps c.args.name c.args.place w none ∙ ap (λ b. or_place (place_of w ps) (cond b (Some c.args.place) None)) (bytes_turned w c.args.name.items))
