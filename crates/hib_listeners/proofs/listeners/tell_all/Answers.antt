use Rattle.std.proofs.Common.{◌≡◌, List, [], drop, map, take, ◌∙◌, subst, arith}
use Rattle.std.proofs.lemmas.List.{length-set, drop_all}
use Rattle.hib_listeners.specs.Told.{Told}
use Rattle.hib_listeners.proofs.Telling.{AreToldBefore, told_all, next_stays, next_stops, next_leaves}
use Rattle.hib_listeners.proofs.listeners.tell_all.Given.{Over}
use Rattle.hib_listeners.proofs.listeners.tell_all.Goals.{in-Stay, in-Leave, in-NoMemory}
use Rattle.hib_listeners.proofs.listeners.tell_all.Goals as goal

abbrev view : (g : Over) → g.row.L.Denot → Told
view g l = record { heard = g.L.Listener.heard l; left = g.L.Listener.left l }

pub loop-at-preserved : goal.loop-at-preserved
loop-at-preserved g c =
    let same = length-set c.loop-at.list.items c.loop-at.at c.ask.new.listener ∙ c.loop-at.invariant.length_is in
    elim c.match-ask.branch [
      | in-Stay w ↦
          let told = next_stays (view g) c.args.entry.now c.loop-at.is_told (map (view g) c.args.list.now.items) c.loop-at.list.items w.keep-kept.new.list.items
          c.loop-at.kept c.loop-at.at c.index_mut.result.now c.ask.new.listener c.loop-at.invariant.order (omega arith) c.index_mut.ensures.value
          c.loop-at.invariant.told w.in-Stay.ensures.unasked w.in-Stay.ensures.due
          (λ i. record { heard = w.in-Stay.ensures.heard i; left = w.in-Stay.ensures.left i })
          (w.keep-kept.ensures.front, w.keep-kept.ensures.rest) in
          record { order = omega arith; length_is = rw w.list-is (w.keep-kept.ensures.len ∙ same); told = rw (w.list-is, w.is_told-is, w.kept-is, w.keep-kept.ensures.count) told }
      | in-Leave w ↦
          let told = next_leaves (view g) c.args.entry.now c.loop-at.is_told (map (view g) c.args.list.now.items) c.loop-at.list.items
          c.loop-at.kept c.loop-at.at c.index_mut.result.now c.ask.new.listener c.loop-at.invariant.order (omega arith) c.index_mut.ensures.value
          c.loop-at.invariant.told w.in-Leave.ensures.unasked w.in-Leave.ensures.due in
          record { order = omega arith; length_is = rw w.list-is same; told = rw (w.list-is, w.is_told-is, w.kept-is) told }
      | in-NoMemory w ↦
          let told = next_stops (view g) c.args.entry.now c.loop-at.is_told (map (view g) c.args.list.now.items) c.loop-at.list.items w.keep-kept-in-NoMemory.new.list.items
          c.loop-at.kept c.loop-at.at c.index_mut.result.now c.ask.new.listener c.loop-at.invariant.order (omega arith) c.index_mut.ensures.value
          c.loop-at.invariant.told
          (λ i. record { heard = w.in-NoMemory.ensures.heard i; left = w.in-NoMemory.ensures.left i })
          (w.keep-kept-in-NoMemory.ensures.front, w.keep-kept-in-NoMemory.ensures.rest) in
          record { order = omega arith; length_is = rw w.list-is (w.keep-kept-in-NoMemory.ensures.len ∙ same); told = rw (w.list-is, w.is_told-is, w.kept-is, w.keep-kept-in-NoMemory.ensures.count) told }
    ]

pub returns : goal.returns
returns g c =
    let done : drop c.loop-at.at c.loop-at.list.items ≡ [] = drop_all c.loop-at.at c.loop-at.list.items (omega arith) in
    let all = map (view g) c.args.list.now.items in
    let front = map (view g) (take c.loop-at.kept c.loop-at.list.items) in
    let told = subst (λ (ls : List g.row.L.Denot). AreToldBefore c.args.entry.now c.loop-at.is_told all front (map (view g) ls)) done c.loop-at.invariant.told in
    rw c.truncate.ensures.items (told_all c.args.entry.now c.loop-at.is_told all front told)
