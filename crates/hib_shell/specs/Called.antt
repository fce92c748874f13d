-- What a program's call promises: what the top call does, of which a program lets the run and the listeners go.
use Rattle.std.specs.Prelude.{List, Option}
use Rattle.hib_listeners.specs.Told.{Told}
use Rattle.hib_words.specs.Commands.{Asked}
use Rattle.hib_call.specs.declared.status.Status.{Status}
use Rattle.hib_call.specs.Outside.{Outside}
use Rattle.hib_top.specs.declared.any_run.AnyRun.{AnyRun}
use Rattle.hib_top.specs.Call.{Promised}

-- the top call was made for these words and ended so; it left this, whatever the listeners that stayed tell, and some run or none
abbrev pub IsTopCall : Option Asked → Outside → (List Told → Outside) → Status → Type 0
IsTopCall asked old new answer = (told : List Told) × (handed : Option AnyRun) × Promised asked old (new told) answer handed
