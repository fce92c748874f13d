-- What a run tells of the committed rows and of how often the keeper was asked.
use Rattle.std.specs.Option.{option_map}
use Rattle.std.proofs.Common.{◌≡◌, Some, None, Option, refl, sym, ap, ◌∙◌, subst, arith}
use Rattle.hib_base.specs.Tables.{Tables}
use Rattle.hib_journal.specs.Types.{Script, Part}
use Rattle.hib_journal.specs.Sessions.{Journal, committed}
use Rattle.hib_journal.specs.Lists.{of_part, stored}
use Rattle.hib_journal.specs.Runs.{ask_count, told_committed}
use Rattle.hib_split_law.specs.Apart.{store_ask_count}
use Rattle.hib_engines.specs.Counts.{RoseWithin}
use Rattle.hib_engines.specs.Origin.{Origin}
use Rattle.hib_nodes_law.specs.Apart.{AreOfParts}
use Rattle.hib_nodes_law.specs.Types.{Noded, Nodings}
use Rattle.hib_nodes_law.specs.Nodes.{entries}
use Rattle.hib_nodes.specs.Standing.{NodesPartsState, IsStill}
use Rattle.hib_nodes.specs.Run.{IsAsked, IsAskedOnceMore, IsRun}

told_same : (told : Option Tables) (h l : Journal) → ((start : Tables) → committed start h ≡ stored start l) → option_map (λ start. stored start l) told ≡ told_committed told h
told_same None h l f = refl
told_same (Some start) h l f = ap Some (sym (f start))

-- the keeper's rows are the committed ones
pub rows_told : (script : Script) (places : Nodings) (from : Origin) (h : Noded) (x : NodesPartsState) → IsRun script places from h x → AreOfParts h →
    x.store.tables ≡ told_committed from.tables (entries h)
rows_told script places from h x run told = run.standing.store.rows ∙ told_same from.tables (entries h) (of_part Part.Store (entries h)) told.store.rows

-- it was asked within the count of the journal
pub asked_told : (from : Origin) (h : Noded) (x : NodesPartsState) → IsAsked from h x → AreOfParts h → RoseWithin from.asked (ask_count (entries h)) x.store.asked
asked_told from h x a told = subst (λ n. RoseWithin from.asked n x.store.asked) (sym told.store.asked) a

-- or once more
pub once_more : (from : Origin) (h new : Noded) (x y : NodesPartsState) → IsAsked from h x → IsStill x y → new ≡ h → AreOfParts new → IsAskedOnceMore from new y
once_more from h new x y a w e told =
    let count : ask_count (entries new) ≡ store_ask_count (of_part Part.Store (entries h)) = told.store.asked ∙ ap (λ g. store_ask_count (of_part Part.Store (entries g))) e in
    record { later = omega (arith, a.later, w.store.later); few = omega (arith, a.few, w.store.few, count) }
