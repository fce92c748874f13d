use Rattle.std.proofs.Common.{◌∙◌, sym, subst}
use Rattle.hib_journal.specs.Sessions.{own}
use Rattle.hib_order_judge.proofs.Noted.{lost_is}
use Rattle.hib_order_judge.specs.Dossiers.{IsKnown}
use Rattle.hib_order_judge.proofs.dossiers.Dossiers.has_lost_row.Goals as goal

pub returns-in-Some : goal.returns-in-Some
returns-in-Some c = λ h a.
    c.has_lost_row.ensures
    ∙ lost_is c.args.entries.now c.args.rows.now (own c.args.session h) c.in-Some.dossier.now
    (subst (IsKnown c.args.entries.now (own c.args.session h)) (sym c.in-Some.ensures) (a c.args.session))
