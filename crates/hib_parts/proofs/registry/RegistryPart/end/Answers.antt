use Rattle.std.proofs.Common.{sym, subst}
use Rattle.hib_journal.specs.Types.{Part}
use Rattle.hib_journal.specs.Kept.{past}
use Rattle.hib_journal.specs.Sessions.{Journal}
use Rattle.hib_engines.specs.Registry.{IsRegistry}
use Rattle.hib_parts.specs.Listed.{IsLater, IsPartList}
use Rattle.hib_parts.proofs.Steps.{fits_kept, entry_here}
use Rattle.hib_parts.proofs.Registries.{end_step, end_stands}
use Rattle.hib_parts.proofs.registry.RegistryPart.end.Goals as goal

pub enter_answer-requires-clause-due : goal.enter_answer-requires-clause-due
enter_answer-requires-clause-due g c =
    let script = g.N.Name.script in
    let later = subst (λ (j : Journal). IsLater c.args.now j c.args.worker.now.list) (sym c.self.view_is) c.requires.later in
    let s = end_step script g.N.Name.from.tables (past c.self.inside.list) c.self.inside.last c.args.worker.now c.in_ok-acts.acts.act c.args.now c.args.reply c.self.invariant.1 c.requires.due c.in_ok-acts.ensures.due c.requires.reply later in
    fits_kept script c.args.worker.now c.prepared.new.worker c.in_ok-acts.acts.act c.args.now c.args.reply c.prepared.ensures.kept s.fits

pub invariant_of-self-2 : goal.invariant_of-self-2
invariant_of-self-2 g c =
    let script = g.N.Name.script in
    let told = g.N.Name.from.tables in
    let l = past c.self.inside.list in
    let w = c.args.worker.now in
    let a = c.in_ok-acts.acts.act in
    let r = c.args.reply in
    let later = subst (λ (j : Journal). IsLater c.args.now j w.list) (sym c.self.view_is) c.requires.later in
    let s = end_step script told l c.self.inside.last w a c.args.now r c.self.invariant.1 c.requires.due c.in_ok-acts.ensures.due c.requires.reply later in
    let e = entry_here w c.prepared.new.worker l (past c.prepared.new.list) (past c.enter_answer.new.list) a c.args.now r c.prepared.ensures.kept c.prepared.ensures.list c.in_ok-enter_answer.ensures.list in (
      c.self.invariant.0,
      subst (λ (j : Journal). IsPartList script told Part.Registry j c.args.now) (sym e) s.list,
      subst (λ (j : Journal). IsRegistry c.end.new.self j) (sym e)
          (end_stands script told l c.self.inside.last c.self.inside.registry c.end.new.self w a c.number-number.result c.args.now r c.self.invariant.1 c.self.invariant.2 c.requires.due c.in_ok-acts.ensures.due c.number-number.ensures later c.end.ensures.stands),
    )
