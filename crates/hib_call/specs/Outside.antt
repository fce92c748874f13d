-- What is outside of a call at one moment.
use Rattle.std.specs.Prelude.{ℕ, List, Option}
use Rattle.hib_base.specs.Tables.{Tables}
use Rattle.hib_outside.specs.declared.keeper.Keeper as keepers
use Rattle.hib_outside.specs.declared.listener.Listener as listeners
use Rattle.hib_outside.specs.declared.streams.Sink as sinks
use Rattle.hib_outside.specs.declared.streams.Source as sources
use Rattle.hib_listeners.specs.Told.{Told, tells}
use Rattle.hib_call.specs.declared.lent.Lent.{Lent}

-- what a run shares with its caller: the keeper's tables, how often it failed and was asked; what each listener tells
pub record Shared : Type 0 where
  pub tables : Option Tables
  pub faults : ℕ
  pub asked : ℕ
  pub told : List Told

abbrev pub shared : Option Tables → ℕ → ℕ → List Told → Shared
shared tables faults asked told = record { tables = tables; faults = faults; asked = asked; told = told }

-- of what is lent, by what such a keeper and such listeners tell
abbrev pub shared_of : {K L : Type 0} → keepers.Ghosts K → listeners.Ghosts L → Lent K L → Shared
shared_of keeper listener lent = shared (keeper.tables lent.keeper) (keeper.faults lent.keeper) (keeper.asked lent.keeper) (tells listener.heard listener.left lent.listeners.items)

-- what the source has left and how often it failed; what the sink has taken and how often it failed; and what a run shares
pub record Outside : Type 0 where
  pub left : Option (List ℕ)
  pub read_faults : ℕ
  pub taken : Option (List ℕ)
  pub write_faults : ℕ
  pub shared : Shared

abbrev pub outside : Option (List ℕ) → ℕ → Option (List ℕ) → ℕ → Shared → Outside
outside left read_faults taken write_faults shared =
    record { left = left; read_faults = read_faults; taken = taken; write_faults = write_faults; shared = shared }

-- of a source, a sink and what is lent, by what such ones tell
abbrev pub outside_of : {S W K L : Type 0} → sources.Ghosts S → sinks.Ghosts W → keepers.Ghosts K → listeners.Ghosts L → S → W → Lent K L → Outside
outside_of source sink keeper listener from to lent = outside (source.left from) (source.faults from) (sink.taken to) (sink.faults to) (shared_of keeper listener lent)
