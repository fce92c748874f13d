-- The changes of a transaction by key.
use Rattle.std.specs.Prelude.{◌≡◌, ℕ, Bool, true, ◌&&◌, if◌then◌else◌, List, [], ◌∷◌, ◌++◌, Some, None, Option, slice_get}
use Rattle.std.specs.Map.{keys_of as keys_in, lookup}
use Rattle.hib_base.specs.Keys.{same_key, is_before}
use Rattle.hib_base.specs.Tables.{first_on, key_of, last_on}
use Rattle.hib_journal.specs.Types.{Key, Change}
use Rattle.hib_journal.specs.Next.{keys_of}
use Rattle.hib_completion.specs.Completed.{is_key_in}
use Rattle.hib_completion.specs.declared.touched.Touched.{Touched}

-- the change at a place, if there is one
abbrev pub at_place : List Change → Option ℕ → Option Change
at_place cs None = None
at_place cs (Some i) = slice_get cs i

abbrev pub or_place : Option ℕ → Option ℕ → Option ℕ
or_place None b = b
or_place (Some i) b = Some i

-- a key that is not among the keys comes last
abbrev pub with_key : Key → List Key → List Key
with_key k ks = if is_key_in k ks then ks else ks ++ k ∷ []

abbrev pub is_next : Key → List Change → Bool
is_next k [] = true
is_next k (c ∷ cs) = is_before k (key_of c)

-- each change's key comes before that of the next one
abbrev pub rise : List Change → Bool
rise [] = true
rise (c ∷ cs) = is_next (key_of c) cs && rise cs

-- what is known of the changed keys is what these changes say
pub record StandsFor (cs : List Change) (touched : Touched) : Type 0 where
  pub keys : keys_in touched.firsts.entries ≡ keys_of cs
  pub first : (k : Key) → at_place cs (lookup (same_key k) touched.firsts.entries) ≡ first_on k cs
  pub last : (k : Key) → at_place cs (lookup (same_key k) touched.lasts.entries) ≡ last_on k cs
