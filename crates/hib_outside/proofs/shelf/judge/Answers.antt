use Rattle.std.proofs.Common.{take, option_copied, ◌∙◌, ap}
use Rattle.std.specs.Map.{lookup}
use Rattle.hib_base.specs.Keys.{same_key}
use Rattle.hib_base.specs.Tables.{row_at, after_changes}
use Rattle.hib_outside.proofs.Commits.{verdict_next, lasts_next}
use Rattle.hib_outside.proofs.shelf.judge.Goals as goal

pub loop-at-preserved : goal.loop-at-preserved
loop-at-preserved c =
    let cs = c.args.batch.now in
    let ps = c.loop-at.lasts.entries in
    let noted = rw c.key-key.ensures at c.in_ok-note_last.ensures in
    record {
      verdict = verdict_next _ c.args.rows.now cs c.loop-at.at c.index-batch-at.result (option_copied c.row_after-found.result)
          c.loop-at-test.true c.index-batch-at.is
          (c.row_after-found.ensures c.loop-at.at c.loop-at.invariant.lasts ∙ ap (row_at (after_changes (take c.loop-at.at cs) c.args.rows.now)) c.key-key.ensures)
          c.in_default.ensures.value c.loop-at.invariant.verdict;
      lasts = λ k. rw (noted k) (lasts_next cs c.loop-at.at c.index-batch-at.result k (lookup (same_key k) ps) c.loop-at-test.true c.index-batch-at.is (c.loop-at.invariant.lasts k));
    }
