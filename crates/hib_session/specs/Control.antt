-- What is left of a session's plan, by the state of a machine.
use Rattle.std.specs.Prelude.{◌≡◌, ℕ, ◌≤◌, ◌++◌, ◌+◌, ◌*◌, ◌^◌, not, length, Bool, true, false, if◌then◌else◌, List, [], ◌∷◌, drop, slice_get, Some, None, Option}
use Rattle.std.specs.Option.{option_map_or}
use Rattle.hib_journal.specs.Types.{Mode, Statement, Script, Act}
use Rattle.hib_journal.specs.Sessions.{Journal, time_in}
use Rattle.hib_journal.specs.Plan.{Plan, Block, each, left_of}
use Rattle.hib_journal.specs.Next.{is_free, mode_reads, get, load, answer, look, check, list_store, commit, rollback, blocks, plan_of}
use Rattle.hib_session.specs.declared.control.Stage.{Stage}
use Rattle.hib_session.specs.declared.control.Control.{Control}

-- the rest of a block
abbrev pub staged : Script → Mode → Stage → Block
staged script m Stage.Idle done go = go done
staged script m (Stage.Getting k) done go = get script m k done go
staged script m (Stage.Loading k) done go = load script m k done go
staged script m (Stage.Answering q) done go = answer script m q done go
staged script m (Stage.Looking q) done go = look script m q done go
staged script m (Stage.Checking q t) done go = check script m q t done go
staged script m (Stage.Listing q) done go = list_store script m q done go
staged script m Stage.Committing done go = commit script m done go
staged script m Stage.RollingBack done go = rollback script m done go

-- acts, and then the rest of a block
abbrev pub queued : Script → Mode → List Act → Stage → Block
queued script m acts stage done go = each acts done (λ d. staged script m stage d go)

-- the statements that a machine has not taken
abbrev pub untaken : Script → Control → List Statement
untaken script c = drop c.place (option_map_or (λ d. d.statements) (slice_get script.sessions c.number) [])

-- the plan of a session that is given more statements behind its own
abbrev pub plan_with : Script → ℕ → List Statement → Plan
plan_with script n more = blocks script Mode.Normal true (option_map_or (λ d. d.statements) (slice_get script.sessions n) [] ++ more) []

abbrev pub plan_at : Script → Control → List Statement → Journal → Plan
plan_at script c more done = queued script c.mode c.queue c.stage done (λ d. blocks script c.mode c.begins (untaken script c ++ more) d)

-- the machine stands for what is left of its session's plan after these entries, whatever statements the session is given behind its own
abbrev pub Stands : Script → Control → Journal → Type 0
Stands script c done =
    (c.place ≤ length (option_map_or (λ d. d.statements) (slice_get script.sessions c.number) []))
    × ((more : List Statement) → left_of (plan_with script c.number more) done ≡ plan_at script c more done)

-- it has an act that is due, or it is over
abbrev pub settles : List Act → Stage → Bool → List Statement → Bool
settles (a ∷ acts) stage due sts = true
settles [] Stage.Idle due [] = true
settles [] Stage.Idle due (st ∷ sts) = due
settles [] (Stage.Answering q) due sts = false
settles [] _ due sts = true

abbrev pub is_settled : Script → Control → Bool
is_settled script c = settles c.queue c.stage c.begins (untaken script c)

-- nothing is left
abbrev pub is_over_at : List Act → Stage → Bool → List Statement → Bool
is_over_at [] Stage.Idle due [] = true
is_over_at [] Stage.Idle due (st ∷ sts) = not due
is_over_at acts stage due sts = false

abbrev pub is_over : Script → Control → Bool
is_over script c = is_over_at c.queue c.stage c.begins (untaken script c)

abbrev pub one_if : Bool → ℕ
one_if true = 1
one_if false = 0

abbrev pub is_answering : Stage → Bool
is_answering (Stage.Answering q) = true
is_answering _ = false

abbrev pub is_resting : Stage → Bool
is_resting Stage.Idle = true
is_resting _ = false

-- an act of the stage is due
abbrev pub is_due : Stage → Bool
is_due Stage.Idle = false
is_due (Stage.Answering q) = false
is_due _ = true

-- how many stages may follow
abbrev pub rank : Stage → ℕ
rank Stage.Idle = 0
rank (Stage.Getting k) = 2
rank (Stage.Loading k) = 1
rank (Stage.Answering q) = 4
rank (Stage.Looking q) = 3
rank (Stage.Checking q t) = 2
rank (Stage.Listing q) = 1
rank Stage.Committing = 1
rank Stage.RollingBack = 1

-- how far it is from its end: a number that falls with each act, since no queue is as long as 2 ^ 64
abbrev pub weight : Script → Control → ℕ
weight script c = (6 * length (untaken script c) + one_if c.begins + rank c.stage) * 2 ^ 64 + length c.queue

-- a list is answered from the results, or by the store
abbrev pub decided : Script → Mode → Journal → Stage → Stage
decided script m done (Stage.Answering q) = if is_free script q (mode_reads m) done then Stage.Looking q else Stage.Listing q
decided script m done stage = stage

-- the act that is due
abbrev pub act_staged : Stage → Journal → Option Act
act_staged (Stage.Getting k) done = Some (Act.Get k (time_in done))
act_staged (Stage.Loading k) done = Some (Act.Load k)
act_staged (Stage.Looking q) done = Some (Act.Look q)
act_staged (Stage.Checking q t) done = Some (Act.Check q t)
act_staged (Stage.Listing q) done = Some (Act.List q)
act_staged Stage.Committing done = Some Act.Commit
act_staged Stage.RollingBack done = Some Act.Rollback
act_staged _ done = None

abbrev pub begin_at : Bool → List Statement → Option Act
begin_at true (st ∷ sts) = Some Act.Begin
begin_at _ _ = None

abbrev pub act_at : List Act → Stage → Bool → List Statement → Journal → Option Act
act_at (a ∷ acts) stage due sts done = Some a
act_at [] Stage.Idle due sts done = begin_at due sts
act_at [] stage due sts done = act_staged stage done
