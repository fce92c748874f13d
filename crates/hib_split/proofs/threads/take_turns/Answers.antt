use mathlib.Core.List.{[]}
use mir.Syntax.{named}
use denote.Param.{param}
use denote.Param.Send.{IsSync, shr_sync}
use denote.Ref.{ShrRef}
use Rattle.std.proofs.Crossing.{sync as heap_sync}
use Rattle.std.specs.contracts.alloc.Global as Heap
use Rattle.hib_base.specs.contracts.scripts.Query as Query
use Rattle.hib_base.specs.contracts.scripts.Script as Script
use Rattle.hib_split.specs.contracts.locked_parts.LockedParts as LockedParts
use Rattle.hib_split.proofs.Captured.{five_sync}
use Rattle.hib_split.proofs.Crossing.{locked_parts_sync, script_sync}
use Rattle.hib_split.proofs.threads.take_turns.Goals as goal

pub spread-requires-sync-F : goal.spread-requires-sync-F
spread-requires-sync-F g c = λ κs within.
    let R = param 0 g.row.R in
    let B = LockedParts.the_row (param 1 g.row.K) (param 2 g.row.N) g.K.Keeper g.N.Name in
    let S = Script.the_row in
    let G = param 3 g.row.G in
    let query : IsSync Query.the_row = record { shared = c.may_be_shared.ensures.shared } in
    let script : IsSync S = script_sync query in
    let locked : IsSync B = locked_parts_sync (param 1 g.row.K) g.K.Keeper c.type_bounds.send-K (param 2 g.row.N) g.N.Name c.type_bounds.send-N in
    let κr = κs.1.1.1.1.0 in
    let κb = κs.1.1.1.1.1.0 in
    let κn = κs.1.1.1.1.1.1.0 in
    let κg = κs.1.1.1.1.1.1.1.0 in
    record {
      shared = (five_sync [] (ShrRef (named 4) κr R) Heap.the_row (ShrRef (named 5) κb B) (ShrRef (named 6) κn S) (ShrRef (named 7) κg G) (shr_sync (named 4) κr R c.type_bounds.sync-R) heap_sync
          (shr_sync (named 5) κb B locked) (shr_sync (named 6) κn S script) (shr_sync (named 7) κg G c.type_bounds.sync-G)).shared;
    }
