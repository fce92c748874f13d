-- The read-write keys that a journal names and of which the claims on the cache do not speak.
use Rattle.std.specs.Prelude.{ℕ, Bool, true, false, if◌then◌else◌, not, ◌&&◌, List, [], ◌∷◌, ◌++◌, length, codes, flat_map, Some, None, Option}
use Rattle.std.specs.List.{filter}
use Rattle.std.specs.Fmt.{decimal}
use Rattle.hib_base.specs.Keys.{same_key, is_before}
use Rattle.hib_base.specs.Tables.{key_of}
use Rattle.hib_journal.specs.Types.{Key, Strategy, Act, Script}
use Rattle.hib_journal.specs.Sessions.{Journal}
use Rattle.hib_journal.specs.Slot.{key_in}
use Rattle.hib_journal.specs.Next.{strategy}
use Rattle.hib_journal.specs.Sound.{is_sound}
use Rattle.hib_texts.specs.Texts.{key_text}

-- the key that an act names, in a region or in a change of the store
abbrev pub named : Act → Option Key
named (Act.Write c) = Some (key_of c)
named a = key_in a

abbrev pub is_read_write : Strategy → Bool
is_read_write Strategy.ReadWrite = true
is_read_write _ = false

-- sorted keys with one more, which stands there once
abbrev pub with_key : Key → List Key → List Key
with_key k [] = k ∷ []
with_key k (j ∷ js) = if same_key j k then j ∷ js else (if is_before k j then k ∷ j ∷ js else j ∷ with_key k js)

abbrev pub with_named : Script → Option Key → List Key → List Key
with_named script None ks = ks
with_named script (Some k) ks = if is_read_write (strategy script k.entity) then with_key k ks else ks

-- the read-write keys that a journal's acts name, in order of entity and identifier, each once
abbrev pub keys_in : Script → Journal → List Key
keys_in script [] = []
keys_in script (e ∷ h) = with_named script (named e.act) (keys_in script h)

-- sorted keys with a read-write one that is not sound
abbrev pub with_unsound : Script → Journal → Option Key → List Key → List Key
with_unsound script past None ks = ks
with_unsound script past (Some k) ks = if is_read_write (strategy script k.entity) && not (is_sound k past) then with_key k ks else ks

abbrev pub unsound : Script → Journal → List Key
unsound script past = filter (λ k. not (is_sound k past)) (keys_in script past)

abbrev pub unsound_text : Script → Journal → List ℕ
unsound_text script past =
    codes "unsound " ++ decimal (length (unsound script past)) ++ codes "\n" ++ flat_map (λ k. key_text script k ++ codes "\n") (unsound script past)
