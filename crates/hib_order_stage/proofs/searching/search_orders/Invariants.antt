use Rattle.std.proofs.Common.{[]}
use Rattle.hib_order_stage.specs.Staged.{new_origin}
use Rattle.hib_order_stage.proofs.searching.search_orders.Given as goal

abbrev pub ghosts-search_in : goal.ghosts-search_in
ghosts-search_in g a = record {
  script = a.script;
  from = new_origin a.script;
  told = [];
}
