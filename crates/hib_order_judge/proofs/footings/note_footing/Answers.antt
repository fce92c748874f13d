use Rattle.std.proofs.Common.{sym, ◌∙◌, ap}
use Rattle.std.proofs.lemmas.Result.{on_ok_weaker}
use Rattle.hib_order_judge.proofs.Kept.{footed}
use Rattle.hib_order_judge.specs.Footings.{basis_here, basis_of}
use Rattle.std.specs.Prelude.{option_map}
use Rattle.hib_order_judge.proofs.footings.note_footing.Goals as goal

pub returns : goal.returns
returns c =
    on_ok_weaker c.set_footing.result
    (λ g es k at.
    footed es k c.in-Some.key c.args.entry.now.act c.args.entry.now.reply c.args.footings.now.entries c.set_footing.new.footings.entries c.after.result
    (sym c.is_break.ensures ∙ c.if-is_break.false) (sym c.in-Some.ensures) (g k)
    (c.after.ensures es at
    ∙ ap (λ o. basis_here c.args.entry.now.act c.args.entry.now.reply (option_map (basis_of es) o)) c.footing_at-old.ensures))
    c.set_footing.ensures
