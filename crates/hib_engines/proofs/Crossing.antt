-- What of a session and of the engines may go from thread to thread: all of it, as the keeper may. A search that goes
-- down through the whole runs out of steps, so it stands here part by part.
use denote.Enum.Declared as E
use denote.RattleType.{RattleType}
use denote.Param.Send.{IsSend, IsSync, enum_send, sendable}
use Rattle.std.proofs.Crossing.{crosses}
use Rattle.std.proofs.MapsCrossing.{crosses as maps}
use Rattle.lru.proofs.list.List.TheSendSync.{the_send as nodes_send}
use Rattle.lru.proofs.entry.Deed.TheSendSync.{the_send as deed_send}
use Rattle.lru.proofs.key_ref.KeyRef.TheSendSync.{the_send as key_ref_send}
use Rattle.hib_base.specs.contracts.numbers.Key as KeyT
use Rattle.hib_base.specs.contracts.seq.Seq as SeqT
use Rattle.hib_base.specs.contracts.rows.Cell as CellT
use Rattle.hib_base.specs.contracts.rows.Row as RowT
use Rattle.hib_base.specs.contracts.rows.Change as ChangeT
use Rattle.hib_base.specs.contracts.entries.Act as ActT
use Rattle.hib_base.specs.contracts.replies.Reply as ReplyT
use Rattle.hib_base.specs.contracts.entries.Entry as EntryT
use Rattle.hib_base.specs.contracts.instances.Held as HeldT
use Rattle.hib_journal.specs.contracts.journal.Journal as JournalT
use Rattle.hib_identity_map.specs.contracts.identity.IdentityMap as IdentityT
use Rattle.hib_session.specs.contracts.control.Control as ControlT
use Rattle.hib_session.specs.contracts.memory.Memory as MemoryT
use Rattle.hib_session.specs.contracts.written.Written as WrittenT
use Rattle.hib_session.specs.contracts.ahead.Ending as EndingT
use Rattle.hib_session.specs.contracts.session.Session as SessionT
use Rattle.hib_engines.specs.contracts.registry.Registry as RegistryT
use Rattle.hib_engines.specs.contracts.stamps.StampsEngine as StampsT
use Rattle.hib_query_cache.specs.contracts.results.Results as ResultsT
use Rattle.hib_soft_lock.specs.contracts.slot.Slot as SlotT
use Rattle.hib_other_regions.specs.contracts.items.Items as ItemsT
use Rattle.hib_other_regions.specs.contracts.read_only.ReadOnlyRegion as ReadOnlyT
use Rattle.hib_other_regions.specs.contracts.nonstrict.NonstrictRegion as NonstrictT
use Rattle.hib_rw_region.specs.contracts.region.RwRegion as ReadWriteT
use Rattle.hib_engines.specs.contracts.region.Region as RegionT
use Rattle.hib_query_eval.specs.contracts.places.Value as ValueT
use Rattle.hib_query_eval.specs.contracts.places.Place as PlaceT
use Rattle.hib_query_eval.specs.contracts.columns.Column as ColumnT
use Rattle.hib_query_eval.specs.contracts.index.Index as IndexT
use Rattle.hib_query_eval.specs.contracts.own.Laid as LaidT
use Rattle.hib_query_eval.specs.contracts.own.Own as OwnT
use Rattle.hib_store.specs.contracts.store.Store as StoreT
use Rattle.hib_store.specs.contracts.snapshot.Snapshot as SnapshotT
use Rattle.hib_engines.specs.contracts.store.StoreEngine as StoreEngineT
use Rattle.hib_outside.specs.declared.keeper.Keeper as keeper

pub seq_send : (T : RattleType) → IsSend T → IsSend (SeqT.the_field T).row
seq_send T s = search (sendable, crosses) depth 100 fits 100000

pub key_send : IsSend KeyT.the_field.row
key_send = search (sendable, crosses) depth 100 fits 100000

pub cell_send : IsSend CellT.the_field.row
cell_send = search (sendable, crosses) depth 100 fits 100000

pub row_send : IsSend RowT.the_field.row
row_send = search (sendable, crosses, cell_send) depth 100 fits 100000

pub change_send : IsSend ChangeT.the_field.row
change_send = search (sendable, crosses, row_send) depth 100 fits 100000

ruleset parts = (sendable, crosses, seq_send, key_send, cell_send, row_send, change_send)

-- an act, variant by variant
act_send : IsSend ActT.the_field.row
act_send = enum_send (E.shape ActT.the_type)
    (tt, (tt, ((search parts depth 40, tt), (tt, ((search parts depth 40, tt), ((search parts depth 40, (search parts depth 40, tt)), ((search parts depth 40, (search parts depth 40, tt)), ((search parts depth 40, tt), (tt, ((search parts depth 40, tt), ((search parts depth 40, tt), ((search parts depth 40, tt), (tt, (tt, ((search parts depth 40, tt), ((search parts depth 40, tt), ((search parts depth 40, (search parts depth 40, tt)), ((search parts depth 40, tt), ((search parts depth 40, (search parts depth 40, (search parts depth 40, tt))), ((search parts depth 40, (search parts depth 40, tt)), ((search parts depth 40, (search parts depth 40, (search parts depth 40, (search parts depth 40, tt)))), ((search parts depth 40, (search parts depth 40, (search parts depth 40, tt))), ((search parts depth 40, (search parts depth 40, tt)), ((search parts depth 40, (search parts depth 40, (search parts depth 40, tt))), ((search parts depth 40, (search parts depth 40, (search parts depth 40, tt))), ((search parts depth 40, tt), ((search parts depth 40, tt), tt)))))))))))))))))))))))))))

reply_send : IsSend ReplyT.the_field.row
reply_send = search (sendable, crosses, cell_send, row_send) depth 100 fits 100000

entry_send : IsSend EntryT.the_field.row
entry_send = search (sendable, crosses, act_send, reply_send) depth 100 fits 100000

held_send : IsSend HeldT.the_field.row
held_send = search (sendable, crosses, row_send) depth 100 fits 100000

pub journal_send : IsSend JournalT.the_field.row
journal_send = search (sendable, crosses, entry_send) depth 100 fits 100000

identity_send : IsSend IdentityT.the_field.row
identity_send = search (sendable, crosses, held_send) depth 100 fits 100000

control_send : IsSend ControlT.the_field.row
control_send = search (sendable, crosses, act_send) depth 100 fits 100000

memory_send : IsSend MemoryT.the_field.row
memory_send = search (sendable, crosses, identity_send, change_send) depth 100 fits 100000

written_send : IsSend WrittenT.the_field.row
written_send = search (sendable, crosses, row_send, change_send) depth 100 fits 100000

ending_send : IsSend EndingT.the_field.row
ending_send = search (sendable, crosses, act_send) depth 100 fits 100000

pub session_send : IsSend SessionT.the_field.row
session_send = search (sendable, crosses, control_send, memory_send, written_send, ending_send) depth 100 fits 100000

pub registry_send : IsSend RegistryT.the_field.row
registry_send = search (sendable, crosses, maps) depth 100 fits 100000

pub stamps_send : IsSend StampsT.the_field.row
stamps_send = search (sendable, crosses) depth 100 fits 100000

pub results_send : IsSend ResultsT.the_field.row
results_send = search (sendable, crosses, maps, nodes_send, deed_send, key_ref_send, cell_send) depth 100 fits 100000

slot_send : IsSend SlotT.the_field.row
slot_send = search (sendable, crosses, row_send) depth 100 fits 100000

items_send : IsSend ItemsT.the_field.row
items_send = search (sendable, crosses, row_send) depth 100 fits 100000

read_only_send : IsSend ReadOnlyT.the_field.row
read_only_send = search (sendable, crosses, items_send) depth 100 fits 100000

nonstrict_send : IsSend NonstrictT.the_field.row
nonstrict_send = search (sendable, crosses, items_send) depth 100 fits 100000

read_write_send : IsSend ReadWriteT.the_field.row
read_write_send = search (sendable, crosses, slot_send) depth 100 fits 100000

pub region_send : IsSend RegionT.the_field.row
region_send = search (sendable, crosses, read_only_send, nonstrict_send, read_write_send) depth 100 fits 100000

value_send : IsSend ValueT.the_field.row
value_send = search (sendable, crosses) depth 100 fits 100000

place_send : IsSend PlaceT.the_field.row
place_send = search (sendable, crosses, value_send) depth 100 fits 100000

column_send : IsSend ColumnT.the_field.row
column_send = search (sendable, crosses, maps, place_send) depth 100 fits 100000

index_send : IsSend IndexT.the_field.row
index_send = search (sendable, crosses, column_send, key_send, row_send) depth 100 fits 100000

pub snapshot_send : IsSend SnapshotT.the_field.row
snapshot_send = search (sendable, crosses, index_send) depth 100 fits 100000

-- what threads share of rows

pub key_sync : IsSync KeyT.the_field.row
key_sync = search (sendable, crosses) depth 100 fits 100000

pub cell_sync : IsSync CellT.the_field.row
cell_sync = search (sendable, crosses) depth 100 fits 100000

pub row_sync : IsSync RowT.the_field.row
row_sync = search (sendable, crosses, cell_sync) depth 100 fits 100000

value_sync : IsSync ValueT.the_field.row
value_sync = search (sendable, crosses) depth 100 fits 100000

place_sync : IsSync PlaceT.the_field.row
place_sync = search (sendable, crosses, value_sync) depth 100 fits 100000

column_sync : IsSync ColumnT.the_field.row
column_sync = search (sendable, crosses, maps, place_sync) depth 100 fits 100000

index_sync : IsSync IndexT.the_field.row
index_sync = search (sendable, crosses, column_sync, key_sync, row_sync) depth 100 fits 100000

pub snapshot_sync : IsSync SnapshotT.the_field.row
snapshot_sync = search (sendable, crosses, index_sync) depth 100 fits 100000

laid_send : IsSend LaidT.the_field.row
laid_send = search (sendable, crosses, maps, key_send, index_send) depth 100 fits 100000

own_send : IsSend OwnT.the_field.row
own_send = search (sendable, crosses, change_send, laid_send) depth 100 fits 100000

module _ (K : RattleType) (k : keeper.Ghosts K.Denot) (sk : IsSend K) where
  stored_send : IsSend (StoreT.the_field K k).row
  stored_send = search (sendable, crosses, own_send, index_send) depth 100 fits 100000

  pub engine_send : IsSend (StoreEngineT.the_field K k).row
  engine_send = search (sendable, crosses, stored_send) depth 100 fits 100000
