use Rattle.std.proofs.Common.{◌≡◌, ◌++◌, take, flat_map, codes}
use Rattle.hib_texts.specs.Texts.{cell_text}
use Rattle.hib_flat.proofs.lists.put_more_cells.Given as goal

abbrev pub invariant-loop-cell : goal.invariant-loop-cell
invariant-loop-cell l = l.out.items ≡ l.fn.out.items ++ flat_map (λ c. codes "," ++ cell_text c) (take l.cell-index l.cells)
