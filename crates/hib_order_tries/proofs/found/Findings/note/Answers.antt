use Rattle.std.proofs.Common.{◌≡◌, ◌+◌, ℕ, length, sym, ap, ◌∙◌, subst, arith, slice_index_or, cond}
use Rattle.std.specs.Prelude.{◌==◌}
use Rattle.hib_order_law.specs.Orders.{switches}
use Rattle.hib_order_tries.specs.Amid.{AreJudged}
use Rattle.hib_order_tries.specs.Found.{AreApart, ended_so}
use Rattle.hib_order_tries.proofs.Counts.{more_levels, more_endings}
use Rattle.hib_order_tries.proofs.found.Findings.note.Goals as goal

pub returns-clause-noted : goal.returns-clause-noted
returns-clause-noted c = λ judged ended runs es f v o e.
    let j : AreJudged c.args.run.verdicts c.args.run.order.items c.args.self.now c.note_verdicts.new.self =
    subst (λ x. AreJudged c.args.run.verdicts x c.args.self.now c.note_verdicts.new.self) c.as_slice.ensures.value c.in_ok-note_verdicts.ensures in
    let tried : c.args.self.now.tried ≡ length runs = f.tried in
    let kept : c.note_verdicts.new.self.tried ≡ c.args.self.now.tried = j.tried in
    record {
      tried = omega arith;
      levels = more_levels runs es c.args.self.now.levels.items c.count_level.new.levels.items c.args.total f.levels
          (subst (λ l. (k : ℕ) → slice_index_or c.count_level.new.levels.items k 0 ≡ slice_index_or l.items k 0 + cond (c.args.total == k) 1 0) j.levels c.in_ok-count_level.ensures)
          (c.requires.total ∙ ap (λ x. switches x) o);
      endings = more_endings ended runs es c.args.self.now.endings c.note.new.self c.args.run.ending.items f.endings
          (λ test. c.in_ok-note.ensures.counts test ∙ ap (λ l. ended_so test l + cond (test c.args.run.ending.items) 1 0) j.endings)
          (λ a. c.in_ok-note.ensures.apart (subst (λ l. AreApart l) (sym j.endings) a)) e;
      stale_hit = j.stale_hit.1 (λ x. (judged x).stale_hit) runs es f.stale_hit (ap (λ x. x.stale_hit) v) o;
      old_list = j.old_list.1 (λ x. (judged x).old_list) runs es f.old_list (ap (λ x. x.old_list) v) o;
      lost_update = j.lost_update.1 (λ x. (judged x).lost_update) runs es f.lost_update (ap (λ x. x.lost_update) v) o;
      refused_commit = j.refused_commit.1 (λ x. (judged x).refused_commit) runs es f.refused_commit (ap (λ x. x.refused_commit) v) o;
      unsound_key = j.unsound_key.1 (λ x. (judged x).unsound_key) runs es f.unsound_key (ap (λ x. x.unsound_key) v) o;
    }
