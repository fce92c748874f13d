-- How a session goes on after a commit that is refused, after a rollback, and in a second transaction.
use Rattle.std.proofs.Common.{◌≡◌, true, List, [], ◌∷◌, Some, None, refl}
use Rattle.hib_journal.specs.Types.{Strategy, Statement, Mode, Act, Change, Commit, Unlocked, Outcome, Reply, Script, Entry}
use Rattle.hib_journal.specs.Room.{key}
use Rattle.hib_journal.specs.Held.{held, pending}
use Rattle.hib_journal.specs.Next.{next}
use Rattle.hib_rows.proofs.Run.{row}
use Rattle.hib_rows.proofs.Session.{at, of_one, dune_title, emma_title, stock, due, answered, acts_of, replies_of}

-- A commit that is stale gives the lock back, and stamps.
abbrev pub stale_script : Script
stale_script = of_one Strategy.ReadWrite true 100 [] 100 (
    Statement.Find (key 0 1) ∷
    Statement.Set (key 0 1) ((1, stock 1) ∷ []) ∷
    Statement.Commit ∷
    [])

abbrev pub stale : List Entry
stale =
    at 6 Act.Begin (Reply.Began 1) ∷
    at 7 (Act.Get (key 0 1) 6) (Reply.Hit (row (Some 0) (dune_title ∷ stock 3 ∷ []))) ∷
    at 8 (Act.Set (key 0 1) ((1, stock 1) ∷ [])) Reply.Set ∷
    at 11 (Act.Pre (0 ∷ [])) (Reply.Stamped 1011) ∷
    at 12 (Act.Lock (key 0 1) (Some 0) 1) (Reply.Locked (record { id = 10; until = 1012; evicted = None })) ∷
    at 18 (Act.Write (Change.Update (key 0 1) (Some 0) (row (Some 1) (dune_title ∷ stock 1 ∷ [])))) Reply.Written ∷
    at 19 Act.Commit (Reply.Commit (Commit.Stale (key 0 1) (Some 1))) ∷
    at 20 (Act.Unlock (key 0 1) 10) (Reply.Unlocked (Unlocked.Released 0)) ∷
    at 21 (Act.Stamp (0 ∷ [])) (Reply.Stamped 21) ∷
    at 22 Act.End (Reply.Ended Outcome.Stale) ∷
    []

stale_acts : due stale_script [] stale ≡ acts_of stale
unfolding next held pending
stale_acts = refl

stale_replies : answered stale_script [] stale ≡ replies_of stale
unfolding next held pending
stale_replies = refl

-- A commit that is a duplicate inserts nothing in the region, and stamps.
abbrev pub duplicate_script : Script
duplicate_script = of_one Strategy.ReadWrite true 100 [] 100 (
    Statement.Persist (key 0 1) (emma_title ∷ stock 5 ∷ []) ∷
    Statement.Commit ∷
    [])

abbrev pub duplicate : List Entry
duplicate =
    at 1 Act.Begin (Reply.Began 1) ∷
    at 2 (Act.Persist (key 0 1) (row (Some 0) (emma_title ∷ stock 5 ∷ []))) Reply.New ∷
    at 3 (Act.Pre (0 ∷ [])) (Reply.Stamped 1003) ∷
    at 4 (Act.Write (Change.Insert (key 0 1) (row (Some 0) (emma_title ∷ stock 5 ∷ [])))) Reply.Written ∷
    at 5 Act.Commit (Reply.Commit (Commit.Duplicate (key 0 1))) ∷
    at 6 (Act.Stamp (0 ∷ [])) (Reply.Stamped 6) ∷
    at 7 Act.End (Reply.Ended Outcome.Duplicate) ∷
    []

duplicate_acts : due duplicate_script [] duplicate ≡ acts_of duplicate
unfolding next held pending
duplicate_acts = refl

duplicate_replies : answered duplicate_script [] duplicate ≡ replies_of duplicate
unfolding next held pending
duplicate_replies = refl

-- A commit that fails inserts nothing in the region, and stamps.
abbrev pub fault_at_commit_script : Script
fault_at_commit_script = of_one Strategy.ReadWrite true 100 [] 100 (
    Statement.Persist (key 0 1) (dune_title ∷ stock 3 ∷ []) ∷
    Statement.Commit ∷
    [])

abbrev pub fault_at_commit : List Entry
fault_at_commit =
    at 1 Act.Begin (Reply.Began 1) ∷
    at 2 (Act.Persist (key 0 1) (row (Some 0) (dune_title ∷ stock 3 ∷ []))) Reply.New ∷
    at 3 (Act.Pre (0 ∷ [])) (Reply.Stamped 1003) ∷
    at 4 (Act.Write (Change.Insert (key 0 1) (row (Some 0) (dune_title ∷ stock 3 ∷ [])))) Reply.Written ∷
    at 5 Act.Commit (Reply.Commit Commit.Fault) ∷
    at 6 (Act.Stamp (0 ∷ [])) (Reply.Stamped 6) ∷
    at 7 Act.End (Reply.Ended Outcome.Fault) ∷
    []

fault_at_commit_acts : due fault_at_commit_script [] fault_at_commit ≡ acts_of fault_at_commit
unfolding next held pending
fault_at_commit_acts = refl

fault_at_commit_replies : answered fault_at_commit_script [] fault_at_commit ≡ replies_of fault_at_commit
unfolding next held pending
fault_at_commit_replies = refl

-- A rollback after a flush stamps.
abbrev pub rollback_after_an_insert_script : Script
rollback_after_an_insert_script = of_one Strategy.ReadWrite true 100 [] 100 (
    Statement.Persist (key 0 1) (dune_title ∷ stock 3 ∷ []) ∷
    Statement.Flush ∷
    Statement.Clear ∷
    Statement.Find (key 0 1) ∷
    Statement.Rollback ∷
    [])

abbrev pub rollback_after_an_insert : List Entry
rollback_after_an_insert =
    at 1 Act.Begin (Reply.Began 1) ∷
    at 2 (Act.Persist (key 0 1) (row (Some 0) (dune_title ∷ stock 3 ∷ []))) Reply.New ∷
    at 3 (Act.Pre (0 ∷ [])) (Reply.Stamped 1003) ∷
    at 4 (Act.Write (Change.Insert (key 0 1) (row (Some 0) (dune_title ∷ stock 3 ∷ [])))) Reply.Written ∷
    at 5 Act.Clear Reply.Cleared ∷
    at 6 (Act.Load (key 0 1)) (Reply.Row (Some (row (Some 0) (dune_title ∷ stock 3 ∷ [])))) ∷
    at 7 Act.Rollback Reply.Done ∷
    at 8 (Act.Stamp (0 ∷ [])) (Reply.Stamped 8) ∷
    at 9 Act.End (Reply.Ended Outcome.RolledBack) ∷
    []

rollback_after_an_insert_acts : due rollback_after_an_insert_script [] rollback_after_an_insert ≡ acts_of rollback_after_an_insert
unfolding next held pending
rollback_after_an_insert_acts = refl

rollback_after_an_insert_replies : answered rollback_after_an_insert_script [] rollback_after_an_insert ≡ replies_of rollback_after_an_insert
unfolding next held pending
rollback_after_an_insert_replies = refl

-- A rollback after a flush gives the lock back, and stamps.
abbrev pub rollback_after_an_update_script : Script
rollback_after_an_update_script = of_one Strategy.ReadWrite true 100 [] 100 (
    Statement.Mode Mode.Ignore ∷
    Statement.Find (key 0 1) ∷
    Statement.Set (key 0 1) ((1, stock 8) ∷ []) ∷
    Statement.Flush ∷
    Statement.Rollback ∷
    [])

abbrev pub rollback_after_an_update : List Entry
rollback_after_an_update =
    at 1 Act.Begin (Reply.Began 1) ∷
    at 2 (Act.Load (key 0 1)) (Reply.Row (Some (row (Some 1) (dune_title ∷ stock 9 ∷ [])))) ∷
    at 3 (Act.Set (key 0 1) ((1, stock 8) ∷ [])) Reply.Set ∷
    at 4 (Act.Pre (0 ∷ [])) (Reply.Stamped 1004) ∷
    at 5 (Act.Lock (key 0 1) (Some 1) 1) (Reply.Locked (record { id = 5; until = 1005; evicted = None })) ∷
    at 6 (Act.Write (Change.Update (key 0 1) (Some 1) (row (Some 2) (dune_title ∷ stock 8 ∷ [])))) Reply.Written ∷
    at 7 Act.Rollback Reply.Done ∷
    at 8 (Act.Unlock (key 0 1) 5) (Reply.Unlocked (Unlocked.Released 0)) ∷
    at 9 (Act.Stamp (0 ∷ [])) (Reply.Stamped 9) ∷
    at 10 Act.End (Reply.Ended Outcome.RolledBack) ∷
    []

rollback_after_an_update_acts : due rollback_after_an_update_script [] rollback_after_an_update ≡ acts_of rollback_after_an_update
unfolding next held pending
rollback_after_an_update_acts = refl

rollback_after_an_update_replies : answered rollback_after_an_update_script [] rollback_after_an_update ≡ replies_of rollback_after_an_update
unfolding next held pending
rollback_after_an_update_replies = refl

-- A copy of an earlier transaction may be old: its lock names no version.
abbrev pub two_transactions_script : Script
two_transactions_script = of_one Strategy.ReadWrite true 100 [] 100 (
    Statement.Mode Mode.Ignore ∷
    Statement.Find (key 0 1) ∷
    Statement.Commit ∷
    Statement.Set (key 0 1) ((1, stock 2) ∷ []) ∷
    Statement.Commit ∷
    [])

abbrev pub two_transactions : List Entry
two_transactions =
    at 1 Act.Begin (Reply.Began 1) ∷
    at 2 (Act.Load (key 0 1)) (Reply.Row (Some (row (Some 0) (dune_title ∷ stock 3 ∷ [])))) ∷
    at 3 Act.Commit (Reply.Commit Commit.Committed) ∷
    at 4 Act.End (Reply.Ended Outcome.Committed) ∷
    at 5 Act.Begin (Reply.Began 5) ∷
    at 6 (Act.Set (key 0 1) ((1, stock 2) ∷ [])) Reply.Set ∷
    at 7 (Act.Pre (0 ∷ [])) (Reply.Stamped 1007) ∷
    at 8 (Act.Lock (key 0 1) None 5) (Reply.Locked (record { id = 8; until = 1008; evicted = None })) ∷
    at 9 (Act.Write (Change.Update (key 0 1) (Some 0) (row (Some 1) (dune_title ∷ stock 2 ∷ [])))) Reply.Written ∷
    at 10 Act.Commit (Reply.Commit Commit.Committed) ∷
    at 11 (Act.Unlock (key 0 1) 8) (Reply.Unlocked (Unlocked.Released 0)) ∷
    at 12 (Act.Stamp (0 ∷ [])) (Reply.Stamped 12) ∷
    at 13 Act.End (Reply.Ended Outcome.Committed) ∷
    []

two_transactions_acts : due two_transactions_script [] two_transactions ≡ acts_of two_transactions
unfolding next held pending
two_transactions_acts = refl

two_transactions_replies : answered two_transactions_script [] two_transactions ≡ replies_of two_transactions
unfolding next held pending
two_transactions_replies = refl
