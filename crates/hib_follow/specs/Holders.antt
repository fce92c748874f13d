-- Who holds the lock of each key, and what is kept of that.
use Rattle.std.specs.Prelude.{◌≡◌, if◌then◌else◌, ℕ, List, [], ◌++◌, Some, None, Option, option_to_list}
use Rattle.std.specs.Map.{lookup}
use Rattle.std.specs.Option.{option_map_or}
use Rattle.hib_base.specs.Keys.{same_key}
use Rattle.hib_journal.specs.Types.{Key, Act, Entry}
use Rattle.hib_journal.specs.Sessions.{Journal, is_restart}
use Rattle.hib_journal.specs.Coherence.{takes, gives_back, remove, holders}
use Rattle.hib_follow.specs.declared.holders.Line.{Line}

-- the key whose lock an act takes or gives back
abbrev pub locked_in : Act → Option Key
locked_in (Act.Lock k v f) = Some k
locked_in (Act.Unlock k i) = Some k
locked_in (Act.AfterUpdate k i r) = Some k
locked_in _ = None

abbrev pub line_of : Option Line → List ℕ
line_of None = []
line_of (Some l) = l.sessions.items

abbrev pub line_at : List (Key × Line) → Key → List ℕ
line_at m k = line_of (lookup (same_key k) m)

-- those who hold a key, after an entry
abbrev pub line_after : Key → Entry → List ℕ → List ℕ
line_after k e line =
    if is_restart e.act then []
    else (if takes k e.act then option_to_list e.session ++ line
    else (if gives_back k e.act then option_map_or (λ s. remove s line) e.session line else line))

-- it stands for a journal
abbrev pub AreHolders : Journal → List (Key × Line) → Type 0
AreHolders h m = (k : Key) → line_at m k ≡ holders k h
