-- What is said of a whole run: its ticks, its committed rows, how often its store may have asked the keeper, and how often that failed; and
-- what was evicted.
use Rattle.std.specs.Prelude.{◌≡◌, ℕ, ◌+◌, Bool, true, false, not, [], ◌∷◌, List, length, None, Option, unwrap_or, if◌then◌else◌}
use Rattle.std.specs.List.{list_all}
use Rattle.std.specs.Option.{option_map}
use Rattle.hib_base.specs.Fits.{is_identifier}
use Rattle.hib_journal.specs.Types.{Change, Commit, Act, Reply, Entry}
use Rattle.hib_base.specs.Tables.{Tables}
use Rattle.hib_journal.specs.Sessions.{Journal, changes, committed}
use Rattle.hib_journal.specs.Next.{is_in}

-- the k-th entry has tick k
abbrev pub IsNumbered : Journal → Type 0
IsNumbered [] = Unit {0}
IsNumbered (e ∷ h) = (e.tick ≡ length h + 1) × IsNumbered h

-- the committed rows at the end of a journal, if those at the start are told
abbrev pub told_committed : Option Tables → Journal → Option Tables
told_committed told h = option_map (λ start. committed start h) told

-- an act for which the store may ask the keeper: a Load of a key that the session's changes have not, or a List
abbrev pub asks : List Change → Act → Bool
asks cs (Act.Load k) = not (is_in k cs)
asks cs (Act.List q) = true
asks cs _ = false

-- the entries at which the store may have asked the keeper
abbrev pub ask_count : Journal → ℕ
ask_count [] = 0
ask_count (e ∷ h) = ask_count h + (if asks (changes (unwrap_or e.session 0) h) e.act then 1 else 0)

-- a reply that says that the keeper failed
abbrev pub is_fault : Reply → Bool
is_fault Reply.Fault = true
is_fault (Reply.Commit Commit.Fault) = true
is_fault _ = false

-- the entries with such a reply
abbrev pub fault_count : Journal → ℕ
fault_count [] = 0
fault_count (e ∷ h) = fault_count h + (if is_fault e.reply then 1 else 0)

-- an eviction from outside names an identifier; no session evicts
abbrev pub names_identifier : Option ℕ → Act → Bool
names_identifier None (Act.Evict k) = is_identifier k.id
names_identifier by _ = true

abbrev pub name_identifiers : Journal → Bool
name_identifiers h = list_all (λ (e : Entry). names_identifier e.session e.act) h
