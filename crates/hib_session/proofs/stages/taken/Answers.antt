use Rattle.hib_session.proofs.Taken.{flush_taken, commit_taken}
use Rattle.hib_session.proofs.stages.taken.Goals as goal

pub returns-in_ok-flush-in-Flush : goal.returns-in_ok-flush-in-Flush
returns-in_ok-flush-in-Flush c = λ mine go r.
    flush_taken c.args.script.now _ _ c.args.mode mine go c.in-Flush.is (c.in_ok-flush-in-Flush.ensures mine r)

pub returns-in_ok-flush-in-Commit : goal.returns-in_ok-flush-in-Commit
returns-in_ok-flush-in-Commit c = λ mine go r.
    commit_taken c.args.script.now _ _ c.args.mode mine go c.in-Commit.is (c.in_ok-flush-in-Commit.ensures mine r)
