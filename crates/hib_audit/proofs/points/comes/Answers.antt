use Rattle.std.proofs.Common.{◌≡◌, Bool, cond, Some, None, sym, ap, subst, ◌∙◌}
use Rattle.hib_journal.specs.Types.{Act}
use Rattle.hib_journal.specs.Legal.{may_come}
use Rattle.hib_engines.proofs.Opened.{holds_open}
use Rattle.hib_audit.proofs.points.comes.Goals as goal

pub returns-in-Kill : goal.returns-in-Kill
returns-in-Kill c = λ h r. subst (λ (a : Act). may_come c.args.script.now h (Some a) ≡ cond c.is_open.result (Some a) None) (sym c.in-Kill.is)
    (ap (λ (b : Bool). cond b (Some (Act.Kill c.in-Kill.session)) None) (sym (c.is_open.ensures ∙ holds_open c.args.registry.now h c.in-Kill.session r)))
