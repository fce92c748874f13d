use Rattle.std.proofs.Common.{◌<◌, ◌≤◌, length, refl, arith}
use Rattle.std.proofs.lemmas.Option.{slice_get_read}
use Rattle.hib_base.specs.Tables.{after_change}
use Rattle.hib_query_eval.proofs.Indexes.{none_yet, one_done, all_done}
use Rattle.hib_query_eval.proofs.columns.lay_over_all.Goals as goal

pub loop-at-init : goal.loop-at-init
loop-at-init c = λ t q f. none_yet c.args.columns.now.items t (after_change c.args.change.now t) f

pub loop-at-preserved : goal.loop-at-preserved
loop-at-preserved c = λ t q f.
    let l : c.loop-at.at < length c.loop-at.columns.items = omega arith in
    one_done c.loop-at.columns.items c.loop-at.at c.index_mut.result.now c.lay_over.new.one t (after_change c.args.change.now t)
    (slice_get_read c.loop-at.columns.items (length c.loop-at.columns.items) c.loop-at.at c.index_mut.result.now refl l c.index_mut.ensures.value)
    (c.loop-at.invariant t q f) (λ x. c.in_ok-lay_over.ensures t q x)

pub returns : goal.returns
returns c = λ t q f.
    let l : length c.loop-at.columns.items ≤ c.loop-at.at = omega arith in
    all_done c.loop-at.columns.items c.loop-at.at t (after_change c.args.change.now t) l (c.loop-at.invariant t q f)
