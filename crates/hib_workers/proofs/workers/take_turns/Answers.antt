use mathlib.Core.List.{[]}
use mir.Syntax.{named}
use denote.Exit.{yes}
use denote.Param.{param}
use denote.Param.Send.{IsSend, IsSync, shr_sync}
use denote.Ref.{ShrRef}
use Rattle.std.proofs.Crossing.{sync as heap_sync}
use Rattle.std.specs.contracts.alloc.Global as Heap
use Rattle.hib_base.specs.contracts.scripts.Query as Query
use Rattle.hib_workers.specs.contracts.workers.Bench as Bench
use Rattle.hib_workers.proofs.Captured.{four_sync}
use Rattle.hib_workers.proofs.Crossing.{bench_sync}
use Rattle.hib_workers.proofs.workers.take_turns.Goals as goal

pub spread-requires-sync-F : goal.spread-requires-sync-F
spread-requires-sync-F g c = λ κs within.
    let R = param 1 g.row.R in
    let B = Bench.the_row (param 2 g.row.K) (param 3 g.row.N) (param 4 g.row.L) (param 0 g.row.H) g.K.Keeper g.N.Name g.L.Listener g.H.Handed in
    let G = param 5 g.row.G in
    let query : IsSend Query.the_row = record { owned = c.may_be_sent.ensures.owned; leaving = λ k. c.may_be_sent.ensures.leaving yes } in
    let bench : IsSync B = bench_sync query (param 2 g.row.K) g.K.Keeper c.type_bounds.send-K (param 3 g.row.N) g.N.Name c.type_bounds.send-N (param 4 g.row.L) g.L.Listener
    c.type_bounds.send-L (param 0 g.row.H) g.H.Handed c.type_bounds.send-H in
    let κr = κs.1.1.1.1.0 in
    let κb = κs.1.1.1.1.1.0 in
    let κg = κs.1.1.1.1.1.1.0 in
    record {
      shared = (four_sync [] (ShrRef (named 4) κr R) Heap.the_row (ShrRef (named 5) κb B) (ShrRef (named 6) κg G) (shr_sync (named 4) κr R c.type_bounds.sync-R) heap_sync
          (shr_sync (named 5) κb B bench) (shr_sync (named 6) κg G c.type_bounds.sync-G)).shared;
    }
