use Rattle.hib_call.specs.Outside.{shared_of}
use Rattle.hib_listeners.specs.Told.{tells}
use Rattle.hib_call.specs.Runs.{origin}
use Rattle.hib_section_calls.proofs.collect.collect_script.Given as goal

abbrev pub ghosts-collect_named : goal.ghosts-collect_named
ghosts-collect_named g a = record {
  script = a.input.script;
  defs = a.input.defs;
  from = origin a.input.script (shared_of g.K.Keeper g.L.Listener a.lent);
  told = tells g.L.Listener.heard g.L.Listener.left a.lent.listeners.items;
}
