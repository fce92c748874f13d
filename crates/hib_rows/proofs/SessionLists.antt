-- What a session does for a query.
use Rattle.std.proofs.Common.{◌≡◌, true, List, [], ◌∷◌, Some, None, refl}
use Rattle.hib_journal.specs.Types.{Strategy, Select, Statement, Act, Change, Commit, Checked, Inserted, Outcome, Reply, Script, Entry}
use Rattle.hib_journal.specs.Room.{key}
use Rattle.hib_journal.specs.Held.{held, pending}
use Rattle.hib_journal.specs.Next.{next}
use Rattle.hib_rows.proofs.Run.{row}
use Rattle.hib_rows.proofs.Session.{at, of_one, dune_title, stock, query, due, answered, acts_of, replies_of}

-- What is pending of a table of the query is written first, and then no kept result is asked for.
abbrev pub list_after_a_change_script : Script
list_after_a_change_script = of_one Strategy.ReadWrite true 100 (query Select.Count ∷ query Select.Ids ∷ []) 100 (
    Statement.Persist (key 0 1) (dune_title ∷ stock 3 ∷ []) ∷
    Statement.List 0 ∷
    Statement.Commit ∷
    [])

abbrev pub list_after_a_change : List Entry
list_after_a_change =
    at 1 Act.Begin (Reply.Began 1) ∷
    at 2 (Act.Persist (key 0 1) (row (Some 0) (dune_title ∷ stock 3 ∷ []))) Reply.New ∷
    at 3 (Act.Pre (0 ∷ [])) (Reply.Stamped 1003) ∷
    at 4 (Act.Write (Change.Insert (key 0 1) (row (Some 0) (dune_title ∷ stock 3 ∷ [])))) Reply.Written ∷
    at 5 (Act.List 0) (Reply.Listed (stock 1 ∷ [])) ∷
    at 6 Act.Commit (Reply.Commit Commit.Committed) ∷
    at 7 (Act.AfterInsert (key 0 1) (row (Some 0) (dune_title ∷ stock 3 ∷ [])) 1) (Reply.Inserted (Inserted.Stored None)) ∷
    at 8 (Act.Stamp (0 ∷ [])) (Reply.Stamped 8) ∷
    at 9 Act.End (Reply.Ended Outcome.Committed) ∷
    []

list_after_a_change_acts : due list_after_a_change_script [] list_after_a_change ≡ acts_of list_after_a_change
unfolding next held pending
list_after_a_change_acts = refl

list_after_a_change_replies : answered list_after_a_change_script [] list_after_a_change ≡ replies_of list_after_a_change
unfolding next held pending
list_after_a_change_replies = refl

-- What the store gives is kept, as of the time of the session.
abbrev pub list_and_keep_script : Script
list_and_keep_script = of_one Strategy.ReadWrite true 100 (query Select.Count ∷ query Select.Ids ∷ []) 1 (
    Statement.List 0 ∷
    Statement.List 1 ∷
    Statement.List 0 ∷
    Statement.Commit ∷
    [])

abbrev pub list_and_keep : List Entry
list_and_keep =
    at 1 Act.Begin (Reply.Began 1) ∷
    at 2 (Act.Look 0) Reply.Absent ∷
    at 3 (Act.List 0) (Reply.Listed (stock 0 ∷ [])) ∷
    at 4 (Act.Keep 0 1 (stock 0 ∷ [])) (Reply.Kept None) ∷
    at 5 (Act.Look 1) Reply.Absent ∷
    at 6 (Act.List 1) (Reply.Listed []) ∷
    at 7 (Act.Keep 1 1 []) (Reply.Kept (Some 0)) ∷
    at 8 (Act.Look 0) Reply.Absent ∷
    at 9 (Act.List 0) (Reply.Listed (stock 0 ∷ [])) ∷
    at 10 (Act.Keep 0 1 (stock 0 ∷ [])) (Reply.Kept (Some 1)) ∷
    at 11 Act.Commit (Reply.Commit Commit.Committed) ∷
    at 12 Act.End (Reply.Ended Outcome.Committed) ∷
    []

list_and_keep_acts : due list_and_keep_script [] list_and_keep ≡ acts_of list_and_keep
unfolding next held pending
list_and_keep_acts = refl

list_and_keep_replies : answered list_and_keep_script [] list_and_keep ≡ replies_of list_and_keep
unfolding next held pending
list_and_keep_replies = refl

-- A kept result that is fresh is the answer.
abbrev pub list_fresh_script : Script
list_fresh_script = of_one Strategy.ReadWrite true 100 (query (Select.Column 1) ∷ []) 100 (
    Statement.List 0 ∷
    Statement.Commit ∷
    [])

abbrev pub list_fresh : List Entry
list_fresh =
    at 24 Act.Begin (Reply.Began 4) ∷
    at 25 (Act.Look 0) (Reply.Found 15 (stock 2 ∷ stock 5 ∷ [])) ∷
    at 26 (Act.Check 0 15) (Reply.Check Checked.Fresh) ∷
    at 27 Act.Commit (Reply.Commit Commit.Committed) ∷
    at 28 Act.End (Reply.Ended Outcome.Committed) ∷
    []

list_fresh_acts : due list_fresh_script [] list_fresh ≡ acts_of list_fresh
unfolding next held pending
list_fresh_acts = refl

list_fresh_replies : answered list_fresh_script [] list_fresh ≡ replies_of list_fresh
unfolding next held pending
list_fresh_replies = refl

-- A kept result that is stale is not: the store is asked, and its answer kept.
abbrev pub list_stale_script : Script
list_stale_script = of_one Strategy.ReadWrite true 100 (query (Select.Column 1) ∷ []) 100 (
    Statement.List 0 ∷
    Statement.Commit ∷
    [])

abbrev pub list_stale : List Entry
list_stale =
    at 32 Act.Begin (Reply.Began 32) ∷
    at 33 (Act.Look 0) (Reply.Found 15 (stock 2 ∷ stock 5 ∷ [])) ∷
    at 34 (Act.Check 0 15) (Reply.Check (Checked.Stale 0 30)) ∷
    at 35 (Act.List 0) (Reply.Listed (stock 2 ∷ stock 4 ∷ [])) ∷
    at 36 (Act.Keep 0 32 (stock 2 ∷ stock 4 ∷ [])) (Reply.Kept None) ∷
    at 37 Act.Commit (Reply.Commit Commit.Committed) ∷
    at 38 Act.End (Reply.Ended Outcome.Committed) ∷
    []

list_stale_acts : due list_stale_script [] list_stale ≡ acts_of list_stale
unfolding next held pending
list_stale_acts = refl

list_stale_replies : answered list_stale_script [] list_stale ≡ replies_of list_stale
unfolding next held pending
list_stale_replies = refl

-- A list that fails is not kept.
abbrev pub list_fault_script : Script
list_fault_script = of_one Strategy.ReadWrite true 100 (query (Select.Column 1) ∷ []) 100 (
    Statement.List 0 ∷
    Statement.Commit ∷
    [])

abbrev pub list_fault : List Entry
list_fault =
    at 1 Act.Begin (Reply.Began 1) ∷
    at 2 (Act.Look 0) Reply.Absent ∷
    at 3 (Act.List 0) Reply.Fault ∷
    at 4 Act.Commit (Reply.Commit Commit.Committed) ∷
    at 5 Act.End (Reply.Ended Outcome.Committed) ∷
    []

list_fault_acts : due list_fault_script [] list_fault ≡ acts_of list_fault
unfolding next held pending
list_fault_acts = refl

list_fault_replies : answered list_fault_script [] list_fault ≡ replies_of list_fault
unfolding next held pending
list_fault_replies = refl
