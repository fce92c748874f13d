-- What the pass over a journal knows of keys and of sessions, as the definitions give it.
use Rattle.std.specs.Prelude.{◌≡◌, ℕ, Bool, true, false, not, ◌&&◌, ◌||◌, List, [], ◌∷◌, ◌++◌, nat_eq, Some, None, Option}
use Rattle.std.specs.List.{list_any, list_all}
use Rattle.std.specs.Map.{lookup}
use Rattle.hib_base.specs.Keys.{same_key}
use Rattle.hib_journal.specs.Types.{Key, Change, Act}
use Rattle.hib_journal.specs.Sessions.{Journal, changes}
use Rattle.hib_journal.specs.Slot.{history}
use Rattle.hib_journal.specs.Sound.{was_deleted, was_reused, inserts_key, deletes_key, is_calm}
use Rattle.hib_report.specs.declared.watch.Course.{Course}
use Rattle.hib_report.specs.declared.watch.Written.{Written}

abbrev pub Courses : Type 0
Courses = List (Key × Course)

abbrev pub fresh : Course
fresh = record { calm = true; deleted = false; reused = false }

abbrev pub or_fresh : Option Course → Course
or_fresh None = fresh
or_fresh (Some c) = c

abbrev pub course_at : Courses → Key → Course
course_at ps k = or_fresh (lookup (same_key k) ps)

-- what a commit does to a key that it inserts, or deletes
abbrev pub reused_if : Bool → Course → Course
reused_if b c = record c { reused = c.reused || (b && c.deleted) }

abbrev pub deleted_if : Bool → Course → Course
deleted_if b c = record c { deleted = b || c.deleted }

-- what an answer does to a key that it names
abbrev pub calm_if : Bool → Course → Course
calm_if b c = record c { calm = b && c.calm }

-- whether a key is another than the one, if any
abbrev pub not_named : Key → Option Key → Bool
not_named k None = true
not_named k (Some j) = not (same_key j k)

-- what sessions have written

abbrev pub Writers : Type 0
Writers = List (ℕ × Written)

abbrev pub nothing_written : Written
nothing_written = record { inserted = []; deleted = [] }

abbrev pub or_nothing : Option Written → Written
or_nothing None = nothing_written
or_nothing (Some w) = w

abbrev pub written_at : Writers → ℕ → Written
written_at ws s = or_nothing (lookup (nat_eq s) ws)

abbrev pub change_noted : Change → Written → Written
change_noted (Change.Insert k r) w = record w { inserted = w.inserted ++ k ∷ [] }
change_noted (Change.Delete k v) w = record w { deleted = w.deleted ++ k ∷ [] }
change_noted _ w = w

abbrev pub act_noted : Act → Written → Written
act_noted Act.Begin w = nothing_written
act_noted (Act.Write c) w = change_noted c w
act_noted _ w = w

abbrev pub names_key : Key → List Key → Bool
names_key k ks = list_any (λ j. same_key j k) ks

-- what a commit does to a key, if an entry is one
abbrev pub committed_by : Option ℕ → Writers → Key → Course → Course
committed_by None ws k c = c
committed_by (Some s) ws k c = deleted_if (names_key k (written_at ws s).deleted) (reused_if (names_key k (written_at ws s).inserted) c)

-- it stands for these entries, the newest first
pub record Watches (courses : Courses) (written : Writers) (past : Journal) : Type 0 where
  pub calm : (k : Key) → (course_at courses k).calm ≡ list_all (λ t. is_calm t.0) (history k past)
  pub deleted : (k : Key) → (course_at courses k).deleted ≡ was_deleted k past
  pub reused : (k : Key) → (course_at courses k).reused ≡ was_reused k past
  pub inserts : (s : ℕ) (k : Key) → names_key k (written_at written s).inserted ≡ list_any (inserts_key k) (changes s past)
  pub deletes : (s : ℕ) (k : Key) → names_key k (written_at written s).deleted ≡ list_any (deletes_key k) (changes s past)
