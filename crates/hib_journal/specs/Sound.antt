-- Which keys the claims speak of, and what they say of queries.
use Rattle.std.specs.Prelude.{ℕ, Bool, true, false, if◌then◌else◌, not, ◌&&◌, ◌||◌, ◌==◌, List, [], ◌∷◌, Some, None, Option, option_and_then, drop, slice_get}
use Rattle.std.specs.Option.{option_map_or}
use Rattle.std.specs.List.{list_any, filter, list_all}
use Rattle.hib_journal.specs.Types.{Key, Change, Act, Entry}
use Rattle.hib_base.specs.Keys.{same_key}
use Rattle.hib_journal.specs.Sessions.{Journal, changes, committer, is_restart, is_by, same_session}
use Rattle.hib_journal.specs.Slot.{Touch, history}
use Rattle.hib_journal.specs.Next.{is_in_tables}

-- it was not answered Expired, nor Stored with the late mark
abbrev pub is_calm : Touch → Bool
is_calm (Touch.Stores r late) = not late
is_calm Touch.Expires = false
is_calm _ = true

-- whether what an entry does to a key, if anything, leaves it sound
abbrev pub leaves_calm : Option Touch → Bool
leaves_calm None = true
leaves_calm (Some t) = is_calm t

abbrev pub deletes_key : Key → Change → Bool
deletes_key k (Change.Delete j v) = same_key j k
deletes_key k _ = false

abbrev pub inserts_key : Key → Change → Bool
inserts_key k (Change.Insert j r) = same_key j k
inserts_key k _ = false

-- whether an entry is a Committed one with such a change
abbrev pub commits : (Change → Bool) → Journal → Entry → Bool
commits p h e = option_map_or (λ s. list_any p (changes s h)) (committer e.act e.reply e.session) false

-- a commit since the restart deleted k
abbrev pub was_deleted : Key → Journal → Bool
was_deleted k [] = false
was_deleted k (e ∷ h) = if is_restart e.act then false else commits (deletes_key k) h e || was_deleted k h

-- a commit inserted k after a commit had deleted it, both since the restart
abbrev pub was_reused : Key → Journal → Bool
was_reused k [] = false
was_reused k (e ∷ h) = if is_restart e.act then false else (commits (inserts_key k) h e && was_deleted k h) || was_reused k h

-- the keys of which the claims speak: neither expired nor reused since the restart
unfoldable pub is_sound : Key → Journal → Bool
is_sound k h = list_all (λ t. is_calm t.0) (history k h) && not (was_reused k h)

abbrev pub stamped_by : Act → Option ℕ → List (ℕ × ℕ) → List (ℕ × ℕ)
stamped_by (Act.Stamp ts) (Some s) us = filter (λ u. not (u.0 == s)) us
stamped_by _ by us = us

abbrev pub with_commit : Bool → Option ℕ → ℕ → List (ℕ × ℕ) → List (ℕ × ℕ)
with_commit true (Some s) now us = (s, now) ∷ us
with_commit _ by now us = us

-- the Committed entries with a change in these tables after which their session has no Stamp: session and tick of each
abbrev pub unstamped : List ℕ → Journal → List (ℕ × ℕ)
unstamped ts [] = []
unstamped ts (e ∷ h) =
    with_commit (commits (λ c. is_in_tables ts (c ∷ [])) h e) e.session e.tick (stamped_by e.act e.session (unstamped ts h))

-- the journal up to the last entry that passes, with it
abbrev pub up_to : (Entry → Bool) → Journal → Journal
up_to p [] = []
up_to p (e ∷ h) = if p e then e ∷ h else up_to p h

abbrev pub keeps_by : ℕ → Act → Bool
keeps_by q (Act.Keep p t l) = p == q
keeps_by q _ = false

-- the journal up to the List whose list was kept last of q
abbrev pub kept_moment : ℕ → Journal → Journal
kept_moment q h =
    let kept = up_to (λ e. keeps_by q e.act) h in
    up_to (λ e. same_session (option_and_then (λ d. d.session) (slice_get kept 0)) e.session) (drop 1 kept)

-- the moment of a hit by session s of query q: the journal up to the List whose list was kept by the Keep that the
-- session's Look found
abbrev pub moment : ℕ → ℕ → Journal → Journal
moment s q h = kept_moment q (drop 1 (up_to (is_by s) h))
