-- A text that goes to a sink in pieces.
use Rattle.std.specs.Prelude.{◌≡◌, ℕ, List, ◌++◌}
use Rattle.std.specs.declared.option.Option.{Option}
use Rattle.std.specs.Io.KnownBytes.{Appends}

-- a front of the text was taken, and the rest is still to go
pub record IsSent (old new : Option (List ℕ)) (text rest : List ℕ) : Type 0 where
  pub front : List ℕ
  pub taken : Appends old new front
  pub whole : front ++ rest ≡ text
