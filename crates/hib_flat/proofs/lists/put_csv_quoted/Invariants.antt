use Rattle.std.proofs.Common.{◌≡◌, ◌++◌, take, flat_map, codes}
use Rattle.hib_flat.specs.Lines.{doubled}
use Rattle.hib_flat.proofs.lists.put_csv_quoted.Given as goal

abbrev pub invariant-loop-b : goal.invariant-loop-b
invariant-loop-b l = l.out.items ≡ l.fn.out.items ++ codes "\"" ++ flat_map doubled (take l.b-index l.bytes)
