-- What a session of a shared live factory is answered.
use Rattle.std.specs.Prelude.{◌≡◌, ◌==◌, ◌∷◌, ℕ, Bool, true, false, if◌then◌else◌, List, Option, Some, None}
use Rattle.hib_base.specs.Keys.{same_key}
use Rattle.hib_journal.specs.Types.{Key, Row, Cell, Commit, Act, Reply, Entry, Script}
use Rattle.hib_journal.specs.Sessions.{Journal}
use Rattle.hib_journal.specs.Legal.{IsLegal}
use Rattle.hib_core.specs.Standing.{Origin}
use Rattle.hib_live_law.specs.Grown.{HasGrown}

-- a reply answers its session's statement: it is a row, what became of a change, a list, or how the transaction ended; or the store failed
abbrev pub answers : Reply → Bool
answers (Reply.Row r) = true
answers (Reply.Hit r) = true
answers Reply.New = true
answers Reply.Known = true
answers Reply.Set = true
answers Reply.Unknown = true
answers Reply.ReadOnly = true
answers Reply.Removed = true
answers Reply.Cleared = true
answers (Reply.Listed l) = true
answers (Reply.Found t l) = true
answers (Reply.Commit c) = true
answers Reply.Done = true
answers Reply.Fault = true
answers _ = false

-- an entry of session n answered it, in a journal that is legal for what was asked of the factory: for a script that has grown from the one
-- that the factory was opened with. It was the newest entry
pub record IsSaid (opened : Script) (from : Origin) (n : ℕ) (e : Entry) : Type 0 where
  pub asked : Script
  pub before : Journal
  pub grown : HasGrown opened asked
  pub legal : IsLegal asked from.tables (e ∷ before)
  pub by : e.session ≡ Some n
  pub answers : answers e.reply ≡ true

-- an act asks for the row of a key: in the session, in a region or in the store
abbrev pub is_for_row : Key → Act → Bool
is_for_row k (Act.Find j) = same_key j k
is_for_row k (Act.Get j t) = same_key j k
is_for_row k (Act.Load j) = same_key j k
is_for_row k _ = false

abbrev pub row_in : Reply → Option (Option Row)
row_in (Reply.Hit r) = Some (Some r)
row_in (Reply.Row o) = Some o
row_in _ = None

-- the row that an entry gives of a key, or that there is none
abbrev pub row_told : Key → Entry → Option (Option Row)
row_told k e = if is_for_row k e.act then row_in e.reply else None

-- a find was answered so
pub record IsFound (opened : Script) (from : Origin) (n : ℕ) (k : Key) (o : Option Row) : Type 0 where
  pub entry : Entry
  pub said : IsSaid opened from n entry
  pub row : row_told k entry ≡ Some o

-- an act asks for what a query gives: from the results that are kept, or from the store
abbrev pub is_for_list : ℕ → Act → Bool
is_for_list q (Act.Look p) = p == q
is_for_list q (Act.List p) = p == q
is_for_list q _ = false

abbrev pub list_in : Reply → Option (List Cell)
list_in (Reply.Found t l) = Some l
list_in (Reply.Listed l) = Some l
list_in _ = None

-- what an entry says that a query gives
abbrev pub list_told : ℕ → Entry → Option (List Cell)
list_told q e = if is_for_list q e.act then list_in e.reply else None

-- a list was answered so
pub record IsListed (opened : Script) (from : Origin) (n q : ℕ) (l : List Cell) : Type 0 where
  pub entry : Entry
  pub said : IsSaid opened from n entry
  pub list : list_told q entry ≡ Some l

-- how a transaction ended, by a commit's reply
abbrev pub outcome_in : Reply → Option Commit
outcome_in (Reply.Commit c) = Some c
outcome_in _ = None

-- a commit was answered so
pub record IsEnded (opened : Script) (from : Origin) (n : ℕ) (c : Commit) : Type 0 where
  pub entry : Entry
  pub said : IsSaid opened from n entry
  pub outcome : outcome_in entry.reply ≡ Some c

abbrev pub is_new : Reply → Bool
is_new Reply.New = true
is_new _ = false

abbrev pub is_set : Reply → Bool
is_set Reply.Set = true
is_set _ = false

abbrev pub is_removed : Reply → Bool
is_removed Reply.Removed = true
is_removed _ = false

-- a change was answered so
pub record IsDone (opened : Script) (from : Origin) (n : ℕ) (is : Reply → Bool) : Type 0 where
  pub entry : Entry
  pub said : IsSaid opened from n entry
  pub done : is entry.reply ≡ true
