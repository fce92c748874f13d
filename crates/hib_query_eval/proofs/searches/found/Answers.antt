use Rattle.std.specs.Prelude.{true}
use Rattle.hib_journal.specs.Query.{holds}
use Rattle.std.specs.Option.{option_map_or}
use Rattle.std.proofs.Common.{sym, ap, ◌∙◌, map, ◌++◌, [], ◌∷◌, get_or, option_copied, option_to_list}
use Rattle.std.proofs.lemmas.List.{map-append, append-nil, get_or_default}
use Rattle.hib_query_eval.proofs.Found.{none_yet, found_more, at_end}
use Rattle.hib_query_eval.proofs.searches.found.Goals as goal
use Rattle.hib_query_eval.proofs.searches.found.Goals.{in-Some+in_ok-push, in_default}

pub loop-id-init : goal.loop-id-init
loop-id-init c = ap (map (λ r. r.now)) c.new-met.ensures.items ∙ none_yet c.args.query.now.entity (λ a. option_map_or (holds c.args.view.now a.1) c.args.query.now.condition true) c.args.view.now

pub loop-id-preserved : goal.loop-id-preserved
loop-id-preserved c =
    found_more c.args.query.now c.args.view.now c.args.ids.now c.requires.ordered c.requires.rising (λ r. r.now) c.loop-id.met.items c.match-met_at.met.items
    c.loop-id.id-index (get_or c.args.ids.now c.loop-id.id-index 0) (option_copied c.met_at.result) c.loop-id-test.true
    (get_or_default c.args.ids.now c.loop-id.id-index 0 _ c.loop-id-test.true) c.met_at.ensures c.loop-id.invariant
    (elim c.match-met_at.branch [
      | in-Some+in_ok-push w ↦
          ap (λ v. map (λ r. r.now) v.items) w.met-is ∙ ap (map (λ r. r.now)) w.in_ok-push.ensures.items ∙ map-append (λ r. r.now) c.loop-id.met.items (w.in-Some.row ∷ [])
          ∙ ap (λ o. map (λ r. r.now) c.loop-id.met.items ++ option_to_list (option_copied o)) (sym w.in-Some.is)
      | in_default w ↦
          ap (λ v. map (λ r. r.now) v.items) w.met-is ∙ sym (append-nil (map (λ r. r.now) c.loop-id.met.items))
          ∙ ap (λ o. map (λ r. r.now) c.loop-id.met.items ++ option_to_list (option_copied o)) (sym w.in_default.is)
    ])

pub returns : goal.returns
returns c = at_end c.args.query.now c.args.view.now c.args.ids.now c.loop-id.id-index _ c.requires.ordered c.requires.all c.loop-id-test.false c.loop-id.invariant
