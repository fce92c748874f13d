-- What of the parts may go from thread to thread, and what of a script threads may share: all of it, as the keeper and the name may. A
-- search that goes down through the whole runs out of steps, so it stands here part by part.
use denote.RattleType.{RattleType}
use denote.Param.Send.{IsSend, IsSync, sendable}
use Rattle.std.proofs.Crossing.{crosses}
use Rattle.std.proofs.sync.OnceLock.TheSendSync.{the_sync as once_sync}
use Rattle.hib_engines.proofs.Crossing.{journal_send, session_send, registry_send, stamps_send, results_send, region_send, engine_send, cell_sync, row_sync, snapshot_send, snapshot_sync}
use Rattle.hib_base.specs.contracts.seq.Seq as SeqT
use Rattle.hib_base.specs.contracts.scripts.ColumnDef as ColumnT
use Rattle.hib_base.specs.contracts.scripts.EntityDef as EntityT
use Rattle.hib_base.specs.contracts.scripts.Query as QueryT
use Rattle.hib_base.specs.contracts.scripts.Statement as StatementT
use Rattle.hib_base.specs.contracts.scripts.SessionDef as SessionDefT
use Rattle.hib_base.specs.contracts.scripts.Script as ScriptT
use Rattle.hib_outside.specs.declared.keeper.Keeper as keeper
use Rattle.hib_engines.specs.declared.names.Name as name
use Rattle.hib_parts.specs.contracts.registry.RegistryPart as RegistryPartT
use Rattle.hib_parts.specs.contracts.store.StorePart as StorePartT
use Rattle.hib_parts.specs.contracts.start_rows.StartRows as StartRowsT
use Rattle.hib_parts.specs.contracts.stamps.StampsPart as StampsPartT
use Rattle.hib_parts.specs.contracts.results.ResultsPart as ResultsPartT
use Rattle.hib_parts.specs.contracts.region.RegionPart as RegionPartT
use Rattle.hib_parts.specs.contracts.worker.Worker as WorkerT
use Rattle.hib_split.specs.contracts.ended.Ended as EndedT
use Rattle.hib_split.specs.contracts.strange.Strange as StrangeT
use Rattle.hib_split.specs.contracts.locks.LockedRegion as LockedRegionT
use Rattle.hib_split.specs.contracts.locked_parts.LockedParts as LockedPartsT

strange_send : IsSend StrangeT.the_field.row
strange_send = search (sendable, crosses) depth 100 fits 100000

-- what threads share of a script
seq_sync : (T : RattleType) → IsSync T → IsSync (SeqT.the_field T).row
seq_sync T s = search (sendable, crosses) depth 100 fits 100000

column_sync : IsSync ColumnT.the_field.row
column_sync = search (sendable, crosses, cell_sync) depth 100 fits 100000

entity_sync : IsSync EntityT.the_field.row
entity_sync = search (sendable, crosses, column_sync) depth 100 fits 100000

statement_sync : IsSync StatementT.the_field.row
statement_sync = search (sendable, crosses, cell_sync) depth 100 fits 100000

session_def_sync : IsSync SessionDefT.the_field.row
session_def_sync = search (sendable, crosses, statement_sync) depth 100 fits 100000

-- a query's condition is a tree, of which this is known beforehand
script_fields_sync : IsSync QueryT.the_row → IsSync ScriptT.the_field.row
script_fields_sync query = search (sendable, crosses, entity_sync, row_sync, session_def_sync) depth 100 fits 100000

pub script_sync : IsSync QueryT.the_row → IsSync ScriptT.the_row
script_sync query = search (sendable, script_fields_sync) depth 20

module _ (K : RattleType) (k : keeper.Ghosts K.Denot) (sk : IsSend K) where
  module _ (N : RattleType) (n : name.Ghosts N.Denot) (sn : IsSend N) where
    registry_part_send : IsSend (RegistryPartT.the_field N n).row
    registry_part_send = search (sendable, crosses, registry_send, journal_send) depth 100 fits 100000

    store_part_send : IsSend (StorePartT.the_field K N k n).row
    store_part_send = search (sendable, crosses, engine_send, journal_send) depth 100 fits 100000

    stamps_part_send : IsSend (StampsPartT.the_field N n).row
    stamps_part_send = search (sendable, crosses, stamps_send, journal_send) depth 100 fits 100000

    results_part_send : IsSend (ResultsPartT.the_field N n).row
    results_part_send = search (sendable, crosses, results_send, journal_send) depth 100 fits 100000

    region_part_send : IsSend (RegionPartT.the_field N n).row
    region_part_send = search (sendable, crosses, region_send, journal_send) depth 100 fits 100000

    start_rows_send : IsSend (StartRowsT.the_field N n).row
    start_rows_send = search (sendable, crosses, snapshot_send) depth 100 fits 100000

    start_rows_sync : IsSync (StartRowsT.the_field N n).row
    start_rows_sync = search (sendable, crosses, snapshot_sync) depth 100 fits 100000

    worker_send : IsSend (WorkerT.the_field N n).row
    worker_send = search (sendable, crosses, session_send, journal_send) depth 100 fits 100000

    ended_send : IsSend (EndedT.the_field N n).row
    ended_send = search (sendable, crosses, journal_send) depth 100 fits 100000

    locked_sync : IsSync (LockedRegionT.the_field N n).row
    locked_sync = search (sendable, crosses, region_part_send) depth 100 fits 100000

    fields_sync : IsSync (LockedPartsT.the_field K N k n).row
    fields_sync = search (sendable, crosses, registry_part_send, store_part_send, stamps_part_send, results_part_send, locked_sync, worker_send, ended_send, strange_send, once_sync, start_rows_send, start_rows_sync) depth 100 fits 100000

    pub locked_parts_sync : IsSync (LockedPartsT.the_row K N k n)
    locked_parts_sync = search (sendable, fields_sync) depth 20
