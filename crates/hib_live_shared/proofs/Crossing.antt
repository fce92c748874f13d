-- What of a live factory may go from thread to thread: all of it, as its keeper, its name and its listeners may. A search that goes
-- down through the whole runs out of steps, so it stands here part by part.
use denote.RattleType.{RattleType}
use denote.Param.Send.{IsSend, IsSync, sendable}
use Rattle.std.proofs.Crossing.{crosses}
use Rattle.hib_engines.proofs.Crossing.{cell_send, row_send, journal_send, session_send, registry_send, stamps_send, results_send, region_send, engine_send}
use Rattle.hib_base.specs.contracts.scripts.ColumnDef as ColumnT
use Rattle.hib_base.specs.contracts.scripts.EntityDef as EntityT
use Rattle.hib_base.specs.contracts.scripts.Query as QueryT
use Rattle.hib_base.specs.contracts.scripts.Statement as StatementT
use Rattle.hib_base.specs.contracts.scripts.SessionDef as SessionDefT
use Rattle.hib_base.specs.contracts.scripts.Script as ScriptT
use Rattle.hib_engines.specs.contracts.results.ResultsEngine as KeptT
use Rattle.hib_engines.specs.contracts.engines.Engines as EnginesT
use Rattle.hib_live.specs.contracts.steps.LiveCore as CoreT
use Rattle.hib_live.specs.contracts.live.Live as LiveT
use Rattle.hib_listeners.specs.contracts.listeners.Listeners as ListenersT
use Rattle.hib_live_shared.specs.contracts.shared.Shared as SharedT
use Rattle.hib_outside.specs.declared.keeper.Keeper as keeper
use Rattle.hib_outside.specs.declared.listener.Listener as listener
use Rattle.hib_engines.specs.declared.names.Name as name

column_send : IsSend ColumnT.the_field.row
column_send = search (sendable, crosses, cell_send) depth 100 fits 100000

entity_send : IsSend EntityT.the_field.row
entity_send = search (sendable, crosses, column_send) depth 100 fits 100000

statement_send : IsSend StatementT.the_field.row
statement_send = search (sendable, crosses, cell_send) depth 100 fits 100000

session_def_send : IsSend SessionDefT.the_field.row
session_def_send = search (sendable, crosses, statement_send) depth 100 fits 100000

kept_send : IsSend KeptT.the_field.row
kept_send = search (sendable, crosses, results_send) depth 100 fits 100000

script_send : IsSend QueryT.the_row → IsSend ScriptT.the_field.row
script_send query = search (sendable, crosses, entity_send, row_send, session_def_send) depth 100 fits 100000

-- a query's condition is a tree, of which this is known beforehand
module _ (query : IsSend QueryT.the_row) (K : RattleType) (k : keeper.Ghosts K.Denot) (sk : IsSend K) where
  engines_send : IsSend (EnginesT.the_field K k).row
  engines_send = search (sendable, crosses, engine_send, registry_send, stamps_send, region_send, kept_send) depth 100 fits 100000

  module _ (N : RattleType) (n : name.Ghosts N.Denot) (sn : IsSend N) where
    core_send : IsSend (CoreT.the_field K N k n).row
    core_send = let script = script_send query in search (sendable, crosses, engines_send, session_send, journal_send) depth 100 fits 100000

    module _ (L : RattleType) (l : listener.Ghosts L.Denot) (sl : IsSend L) where
      listeners_send : IsSend (ListenersT.the_field L).row
      listeners_send = search (sendable, crosses) depth 100 fits 100000

      live_send : IsSend (LiveT.the_field K N L k n l).row
      live_send = search (sendable, crosses, core_send, listeners_send) depth 100 fits 100000

      fields_sync : IsSync (SharedT.the_field K N L k n l).row
      fields_sync = search (sendable, crosses, live_send) depth 100 fits 100000

      pub shared_sync : IsSync (SharedT.the_row K N L k n l)
      shared_sync = search (sendable, fields_sync) depth 20
