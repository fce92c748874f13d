use mathlib.Core.List.{[]}
use mir.Syntax.{named}
use denote.Exit.{yes}
use denote.Param.{param}
use denote.Param.Send.{IsSend, IsSync, sendable, shr_sync}
use denote.Ref.{ShrRef}
use Rattle.std.proofs.Crossing.{crosses, sync as heap_sync}
use Rattle.std.specs.contracts.alloc.Global as Heap
use Rattle.hib_base.specs.contracts.scripts.Query as Query
use Rattle.hib_live_shared.specs.contracts.shared.Shared as Shared
use Rattle.hib_live_shared.proofs.Captured.{four_sync}
use Rattle.hib_live_shared.proofs.Crossing.{shared_sync}
use Rattle.hib_shop_live.specs.contracts.clerks.Clerks as Clerks
use Rattle.hib_shop_live.proofs.take_turns.Goals as goal

clerks_sync : IsSync Clerks.the_row
clerks_sync = search (sendable, crosses) depth 100 fits 100000

pub spread-requires-sync-F : goal.spread-requires-sync-F
spread-requires-sync-F g c = λ κs within.
    let R = param 0 g.row.R in
    let C = Clerks.the_row in
    let S = Shared.the_row (param 1 g.row.K) (param 2 g.row.N) (param 3 g.row.L) g.K.Keeper g.N.Name g.L.Listener in
    let query : IsSend Query.the_row = record { owned = c.may_be_sent.ensures.owned; leaving = λ k. c.may_be_sent.ensures.leaving yes } in
    let shared : IsSync S = shared_sync query (param 1 g.row.K) g.K.Keeper c.type_bounds.send-K (param 2 g.row.N) g.N.Name c.type_bounds.send-N (param 3 g.row.L) g.L.Listener
    c.type_bounds.send-L in
    let κr = κs.1.1.1.1.0 in
    let κc = κs.1.1.1.1.1.0 in
    let κb = κs.1.1.1.1.1.1.0 in
    record {
      shared = (four_sync [] (ShrRef (named 4) κr R) Heap.the_row (ShrRef (named 5) κc C) (ShrRef (named 6) κb S) (shr_sync (named 4) κr R c.type_bounds.sync-R) heap_sync
          (shr_sync (named 5) κc C clerks_sync) (shr_sync (named 6) κb S shared)).shared;
    }
