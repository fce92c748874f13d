use Rattle.hib_call.specs.Outside.{shared_of}
use Rattle.hib_call.specs.Runs.{origin}
use Rattle.hib_section_calls.proofs.bulk.bulk_script.Given as goal

abbrev pub ghosts-bulk_named : goal.ghosts-bulk_named
ghosts-bulk_named g a = record {
  script = a.input.script;
  lines = a.input.bulks.lines;
  orders = a.input.bulks.orders;
  from = origin a.input.script (shared_of g.K.Keeper g.L.Listener a.lent);
}
