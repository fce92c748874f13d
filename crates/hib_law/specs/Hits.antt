-- What is claimed of the lists that queries are answered from the cache.
use Rattle.std.specs.Prelude.{◌≡◌, ℕ, ◌≤◌, Bool, true, ◌&&◌, ◌==◌, List, [], ◌∷◌, length, slice_get, Some, option_map}
use Rattle.std.specs.List.{list_any}
use Rattle.hib_journal.specs.Types.{Cell, Query, Checked, Script, Act, Reply, Entry}
use Rattle.hib_base.specs.Tables.{Tables}
use Rattle.hib_base.specs.Scripts.{is_declared}
use Rattle.hib_journal.specs.Sessions.{Journal, is_session, own, committed}
use Rattle.hib_journal.specs.Query.{gives}
use Rattle.hib_journal.specs.Next.{is_in_tables, tables_of}
use Rattle.hib_journal.specs.Sound.{commits, unstamped, moment}
use Rattle.hib_law.specs.Prefixes.{AtEachEntry}

-- an entry of a journal that goes on from m is unstamped, by its session and tick, if it commits a change in a table of q
abbrev pub IsUnstampedSince : Script → ℕ → Journal → Journal → Journal → Entry → Type 0
IsUnstampedSince script q m h g c = length m ≤ length g → commits (λ x. is_in_tables (tables_of script q) (x ∷ [])) g c ≡ true →
    list_any (λ u. is_session u.0 c.session && (u.1 == c.tick)) (unstamped (tables_of script q) h) ≡ true

-- a hit by session s of query q, over the journal before its Check: the list that its Look has found was answered by the
-- List at the moment of the hit, and is what the query gave over the committed rows there, if its tables are declared; and
-- each Committed entry since then that touches a table of the query is unstamped
pub record IsHitTrue (script : Script) (start : Tables) (s q time : ℕ) (h : Journal) : Type 0 where
  pub list : List Cell
  pub found : option_map (λ e. e.reply) (slice_get (own s h) 0) ≡ Some (Reply.Found time list)
  pub listed : (v : Entry) × (g : Journal) × (moment s q h ≡ v ∷ g) × (v.act ≡ Act.List q) × (v.reply ≡ Reply.Listed list)
  pub given : (d : Query) → slice_get script.queries q ≡ Some d → is_declared script d ≡ true → list ≡ gives d (committed start (moment s q h))
  pub since : AtEachEntry (IsUnstampedSince script q (moment s q h) h) h

-- every Check that is answered Fresh is a true hit
abbrev pub AreHitsTrue : Script → Tables → Journal → Type 0
AreHitsTrue script start h = AtEachEntry (λ g e. (s q t : ℕ) → e.session ≡ Some s → e.act ≡ Act.Check q t → e.reply ≡ Reply.Check Checked.Fresh →
    IsHitTrue script start s q t g) h

-- the list that a hit answers is what its query gave over the committed rows at the moment of the hit. This needs no premise if
-- the script is valid, since its queries read declared tables alone
abbrev pub IsListGiven : Script → Tables → ℕ → ℕ → ℕ → Journal → Type 0
IsListGiven script start s q time h = (list : List Cell) (d : Query) → option_map (λ e. e.reply) (slice_get (own s h) 0) ≡ Some (Reply.Found time list) →
    slice_get script.queries q ≡ Some d → list ≡ gives d (committed start (moment s q h))

-- so it is at every Check that is answered Fresh
abbrev pub AreListsGiven : Script → Tables → Journal → Type 0
AreListsGiven script start h = AtEachEntry (λ g e. (s q t : ℕ) → e.session ≡ Some s → e.act ≡ Act.Check q t → e.reply ≡ Reply.Check Checked.Fresh →
    IsListGiven script start s q t g) h
