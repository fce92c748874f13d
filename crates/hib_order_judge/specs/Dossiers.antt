-- What is known of each session after a journal.
use Rattle.std.specs.Prelude.{◌≡◌, ℕ, Bool, false, not, List, [], map, slice_get, Some, None, Option}
use Rattle.std.specs.Borrow.{Bor}
use Rattle.std.specs.List.{list_any}
use Rattle.std.specs.Option.{option_map_or, option_flatten}
use Rattle.hib_base.specs.Tables.{Tables, row_at, key_of}
use Rattle.hib_journal.specs.Types.{Key, Row, Change, Entry}
use Rattle.hib_journal.specs.Sessions.{Journal, own, changes_in}
use Rattle.hib_order_law.specs.Judged.{last_found, same_row}
use Rattle.hib_order_judge.specs.Footings.{basis_in, basis_at, rest_in, rest_at}
use Rattle.hib_order_judge.specs.declared.dossier.Dossier.{Dossier}

-- what was written, as a list of changes
abbrev pub changes_at : List (Bor Change) → List Change
changes_at cs = map (λ c. c.now) cs

-- of a session after its own entries, which are among all these: the changes that it has written since its last Begin, the list that its last entry has found, on what its
-- instances rest, and on what its first writes do
pub record IsDossier (es : List Entry) (mine : Journal) (d : Dossier) : Type 0 where
  pub written : changes_at d.written.items ≡ changes_in mine
  pub found : d.found.now ≡ last_found mine
  pub footings : (k : Key) → basis_at es d.footings.entries k ≡ basis_in k mine
  pub rests : (k : Key) → rest_at es d.rests.entries k ≡ rest_in k mine

-- a session of which nothing is known has done nothing
abbrev pub IsKnown : List Entry → Journal → Option Dossier → Type 0
IsKnown es mine None = mine ≡ []
IsKnown es mine (Some d) = IsDossier es mine d

-- by the sessions' numbers
abbrev pub AreDossiers : List Entry → Journal → List Dossier → Type 0
AreDossiers es h ds = (s : ℕ) → IsKnown es (own s h) (slice_get ds s)

-- a row on which a write of a key rests is not the committed one
abbrev pub is_lost_row : Tables → Key → Option (Option Row) → Bool
is_lost_row rows k o = option_map_or (λ r. not (same_row (row_at rows k) r)) (option_flatten o) false

abbrev pub has_lost_row : List Entry → Tables → Dossier → Bool
has_lost_row es rows d = list_any (λ c. is_lost_row rows (key_of c) (rest_at es d.rests.entries (key_of c))) (changes_at d.written.items)
