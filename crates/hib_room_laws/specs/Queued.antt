-- A list in two parts: the first one is turned round, so that the first item of all is its last.
use Rattle.std.specs.Prelude.{List, ◌++◌, reverse}

abbrev pub queued : {X : Type 0} → List X → List X → List X
queued front back = reverse front ++ back
