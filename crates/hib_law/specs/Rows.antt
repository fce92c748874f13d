-- What is claimed of cached rows, and of the answers to finds.
use Rattle.std.specs.Prelude.{◌≡◌, ℕ, ◌⊎◌, true, false, [], ◌∷◌, Some, Option}
use Rattle.std.specs.Option.{option_map_or}
use Rattle.hib_journal.specs.Types.{Key, Row, Script, Act, Reply, Entry}
use Rattle.hib_base.specs.Tables.{Tables, row_at, row_left, last_on}
use Rattle.hib_journal.specs.Sessions.{Journal, is_restart, own, changes, committed}
use Rattle.hib_journal.specs.Slot.{Slot, slot}
use Rattle.hib_journal.specs.Held.{held}
use Rattle.hib_journal.specs.Next.{is_in}
use Rattle.hib_journal.specs.Legal.{row_of}
use Rattle.hib_journal.specs.Sound.{is_sound}
use Rattle.hib_law.specs.Prefixes.{AtEachPrefix, AtEachEntry}

-- the cached item, if there is one, is the committed row
abbrev pub IsItemCommitted : Script → Tables → Key → Journal → Type 0
IsItemCommitted script start k h = (r : Row) (t : ℕ) → slot script.timeout k h ≡ Slot.Item r t → row_at (committed start h) k ≡ Some r

-- a Hit of k answers the committed row, to a session that has no change on k
abbrev pub IsHitCommitted : Tables → Key → Journal → Entry → Type 0
IsHitCommitted start k h e = (s t : ℕ) (r : Row) → e.session ≡ Some s → e.act ≡ Act.Get k t → e.reply ≡ Reply.Hit r →
    (row_at (committed start h) k ≡ Some r) × (is_in k (changes s h) ≡ false)

-- of a read-write key, at every entry at which it is sound
pub record IsKeyCoherent (script : Script) (start : Tables) (k : Key) (h : Journal) : Type 0 where
  pub item : AtEachPrefix (λ g. is_sound k g ≡ true → IsItemCommitted script start k g) h
  pub hit : AtEachEntry (λ g e. is_sound k g ≡ true → IsHitCommitted start k g e) h

-- r was the committed row of k at some entry since the restart, at this one or before it
abbrev pub WasCommitted : Tables → Key → Row → Journal → Type 0
WasCommitted start k r [] = row_at start k ≡ Some r
WasCommitted start k r (e ∷ h) =
    (row_at (committed start (e ∷ h)) k ≡ Some r) ⊎ ((is_restart e.act ≡ false) × WasCommitted start k r h)

-- how a find of any key is answered, sound or not: a Hit by a row that was committed since the restart; a Load by the session's
-- own change, or else the committed row; an own Find by what the session holds
pub record IsFindAnswered (start : Tables) (h : Journal) (e : Entry) : Type 0 where
  pub hit : (k : Key) (t : ℕ) (r : Row) → e.act ≡ Act.Get k t → e.reply ≡ Reply.Hit r → WasCommitted start k r h
  pub load : (s : ℕ) (k : Key) (o : Option Row) → e.session ≡ Some s → e.act ≡ Act.Load k → e.reply ≡ Reply.Row o →
      o ≡ option_map_or row_left (last_on k (changes s h)) (row_at (committed start h) k)
  pub own : (s : ℕ) (k : Key) (o : Option Row) → e.session ≡ Some s → e.act ≡ Act.Find k → e.reply ≡ Reply.Row o → o ≡ row_of (held (own s h) k)
