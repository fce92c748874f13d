use Rattle.std.proofs.Common.{[], Some, subst}
use Rattle.hib_base.specs.Tables.{Tables}
use Rattle.hib_engines.specs.Engines.{AreStanding}
use Rattle.hib_engines.specs.Origin.{told_start}
use Rattle.hib_engines.proofs.Ready.{ready}
use Rattle.hib_audit.proofs.auditor.Auditor.open.Goals as goal

pub open_all-requires : goal.open_all-requires
open_all-requires c = record { few = (ready c.args.script.now c.requires).sessions }

pub returns : goal.returns
returns c = record {
  legal = tt;
  engines = subst (λ (kept : Tables). AreStanding c.args.script.now (told_start c.args.script.now (Some kept)) [] c.in-Ok.engines) c.new.ensures c.in-Ok.ensures.standing;
  sessions = c.in_ok-sessions.ensures;
  written = c.in_ok-written.ensures;
  ticks = c.new-ticks.ensures;
  built = ready c.args.script.now c.requires;
}
