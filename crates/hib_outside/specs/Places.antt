-- Where a key's row stands in tables in order of keys, or where it would.
use Rattle.std.specs.Prelude.{ℕ, suc, if◌then◌else◌, [], ◌∷◌, Result, Ok, Err}
use Rattle.hib_outside.specs.Types.{Key}
use Rattle.hib_base.specs.Keys.{same_key, is_before}
use Rattle.hib_base.specs.Tables.{Tables}

abbrev pub one_further : Result ℕ ℕ → Result ℕ ℕ
one_further (Ok i) = Ok (suc i)
one_further (Err i) = Err (suc i)

-- Ok with the place of the key's row, or Err with the place where a row of the key belongs
abbrev pub place_in : Tables → Key → Result ℕ ℕ
place_in [] k = Err 0
place_in (e ∷ es) k = if same_key e.0 k then Ok 0 else (if is_before k e.0 then Err 0 else one_further (place_in es k))
