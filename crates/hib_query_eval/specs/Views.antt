-- Changes laid over rows: which keys they change, and what they leave there.
use Rattle.std.specs.Prelude.{◌≡◌, Bool, true, false, if◌then◌else◌, ◌||◌, List, [], ◌∷◌, Some, None, Option, is_some}
use Rattle.std.specs.List.{list_any}
use Rattle.hib_journal.specs.Types.{Key, Change}
use Rattle.hib_base.specs.Keys.{same_key, is_before}
use Rattle.hib_base.specs.Tables.{Tables, in_order, row_at, key_of, after_changes}
use Rattle.hib_query_eval.specs.declared.own.Laid.{Laid}

abbrev pub has_key : List Key → Key → Bool
has_key ks k = list_any (λ j. same_key j k) ks

-- whether a change is on the key
abbrev pub is_changed : Key → List Change → Bool
is_changed k cs = list_any (λ c. same_key (key_of c) k) cs

-- whether of two rows the second comes first: there is no first one, or it comes before that one
abbrev pub comes_first : Tables → Tables → Bool
comes_first rows [] = false
comes_first [] (b ∷ bs) = true
comes_first (a ∷ rows) (b ∷ bs) = is_before b.0 a.0

-- the rows of whose keys something doesn't hold, and others, in order of keys
abbrev pub laid_over : (Key → Bool) → Tables → Tables → Tables
laid_over has [] left = left
laid_over has (a ∷ rows) [] = if has a.0 then laid_over has rows [] else a ∷ laid_over has rows []
laid_over has (a ∷ rows) (b ∷ left) =
    if is_before b.0 a.0 then b ∷ laid_over has (a ∷ rows) left else (if has a.0 then laid_over has rows (b ∷ left) else a ∷ laid_over has rows (b ∷ left))

-- whether a key has a row that is left, or is one of those that were deleted
abbrev pub has_changed : Laid → Key → Bool
has_changed laid k = is_some (row_at laid.left k) || has_key laid.gone.keys k

-- the keys are those that are changed, and the rows are what the changes leave of none
pub record Lays (changes : List Change) (laid : Laid) : Type 0 where
  pub keys : (k : Key) → has_changed laid k ≡ is_changed k changes
  pub left : laid.left ≡ after_changes changes []

-- nothing is laid if there are no changes
abbrev pub AreLaid : List Change → Option Laid → Type 0
AreLaid changes None = changes ≡ []
AreLaid changes (Some laid) = Lays changes laid

pub record IsLaid (rows : Tables) (changes : List Change) (laid : Option Laid) : Type 0 where
  pub ordered : in_order rows ≡ true
  pub over : AreLaid changes laid
