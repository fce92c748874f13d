use Rattle.hib_call.specs.Outside.{shared_of}
use Rattle.hib_call.specs.Runs.{origin}
use Rattle.hib_section_calls.proofs.nodes.nodes_script.Given as goal

abbrev pub ghosts-nodes_named : goal.ghosts-nodes_named
ghosts-nodes_named g a = record {
  script = a.input.script;
  places = a.input.places.nodes;
  orders = a.input.places.orders;
  from = origin a.input.script (shared_of g.K.Keeper g.L.Listener a.lent);
}
