-- What the claims speak of besides the definitions: who holds a lock, who has committed, and what a session has seen.
use Rattle.std.specs.Prelude.{◌≡◌, ℕ, ◌⊎◌, Bool, true, false, if◌then◌else◌, ◌&&◌, ◌==◌, List, [], ◌∷◌, Some, Option, option_and_then, option_to_list, ◌++◌}
use Rattle.std.specs.Option.{option_map_or}
use Rattle.hib_journal.specs.Types.{Key, Row, Commit, Act, Reply}
use Rattle.hib_base.specs.Keys.{same_key}
use Rattle.hib_base.specs.Tables.{Tables, row_at, row_left, last_on}
use Rattle.hib_journal.specs.Sessions.{Journal, own, changes, committed, is_restart, is_by}
use Rattle.hib_journal.specs.Held.{is_begin}

abbrev pub takes : Key → Act → Bool
takes k (Act.Lock j v f) = same_key j k
takes k _ = false

abbrev pub gives_back : Key → Act → Bool
gives_back k (Act.Unlock j i) = same_key j k
gives_back k (Act.AfterUpdate j i r) = same_key j k
gives_back k _ = false

-- without the first s
abbrev pub remove : ℕ → List ℕ → List ℕ
remove s [] = []
remove s (x ∷ xs) = if x == s then xs else x ∷ remove s xs

-- the sessions that have locked k since the restart and have not given the lock back, killed ones included
abbrev pub holders : Key → Journal → List ℕ
holders k [] = []
holders k (e ∷ h) =
    if is_restart e.act then []
    else (if takes k e.act then option_to_list e.session ++ holders k h
    else (if gives_back k e.act then option_map_or (λ s. remove s (holders k h)) e.session (holders k h) else holders k h))

abbrev pub done_after : Act → Reply → Bool → Bool
done_after Act.Begin r d = false
done_after Act.Commit (Reply.Commit Commit.Committed) d = true
done_after _ r d = d

-- whether one session's entries have a Committed one since its last Begin
abbrev pub done_in : Journal → Bool
done_in [] = false
done_in (e ∷ m) = done_after e.act e.reply (done_in m)

abbrev pub is_done : ℕ → Journal → Bool
is_done s h = done_in (own s h)

-- the row that the last change of s on k leaves
abbrev pub last_row : Key → ℕ → Journal → Option Row
last_row k s h = option_and_then row_left (last_on k (changes s h))

abbrev pub Unless : Bool → Type 0 → Type 0
Unless true P = ⊥
Unless false P = P

-- at some entry of s since its last Begin b was the committed row of k
abbrev pub Seen : Tables → Key → ℕ → Row → Journal → Type 0
Seen start k s b [] = ⊥
Seen start k s b (e ∷ h) =
    Unless (is_by s e && is_begin e.act)
    (((is_by s e ≡ true) × (row_at (committed start (e ∷ h)) k ≡ Some b)) ⊎ Seen start k s b h)
