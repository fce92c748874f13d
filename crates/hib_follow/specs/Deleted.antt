-- When a key was deleted, and what is kept of that.
use Rattle.std.specs.Prelude.{◌≡◌, ℕ, ◌+◌, if◌then◌else◌, List, [], ◌∷◌, length, slice_get, Some, None, Option}
use Rattle.std.specs.Map.{lookup}
use Rattle.std.specs.Option.{option_map_or}
use Rattle.hib_base.specs.Keys.{same_key}
use Rattle.hib_journal.specs.Types.{Key, Change}
use Rattle.hib_journal.specs.Sessions.{Journal, is_restart}
use Rattle.hib_journal.specs.Sound.{commits, deletes_key}
use Rattle.hib_follow.specs.Desks.{changes_at}
use Rattle.hib_follow.specs.declared.desk.Desk.{Desk}

-- the entry whose commit deleted a key last, since the restart
abbrev pub last_deleted : Key → Journal → Option ℕ
last_deleted k [] = None
last_deleted k (e ∷ h) = if is_restart e.act then None else if commits (deletes_key k) h e then Some (length h + 1) else last_deleted k h

-- it stands for a journal
abbrev pub AreDeleted : Journal → List (Key × ℕ) → Type 0
AreDeleted h m = (k : Key) → lookup (same_key k) m ≡ last_deleted k h

-- the changes of the session that commits, if one does
abbrev pub changes_of : Option Desk → List Change
changes_of None = []
changes_of (Some d) = changes_at d.written.items

abbrev pub committed_at : List Desk → Option ℕ → List Change
committed_at ds by = option_map_or (λ s. changes_of (slice_get ds s)) by []
