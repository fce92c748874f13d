use Rattle.std.proofs.Common.{Some, sym, ap, ◌∙◌}
use Rattle.std.proofs.lemmas.Result.{on_ok_weaker}
use Rattle.hib_split_law.specs.Merged.{list_of}
use Rattle.hib_merge.proofs.Placed.{by_session}
use Rattle.hib_merge.proofs.placing.place.Goals as goal

pub returns-in-Some-clause-placed : goal.returns-in-Some-clause-placed
returns-in-Some-clause-placed c =
    on_ok_weaker c.place_at.result
    (λ f s b. by_session s c.session.inside.0 c.args.entry.now (list_of s c.args.lists.now.items) (list_of s c.place_at.new.lists.items) (c.in-Some.is ∙ ap Some (sym c.session.view_is)) (f s b))
    c.place_at.ensures.placed
