use Rattle.hib_make.specs.Rows.{form_row}
use Rattle.hib_make.proofs.Many.{many_none, many_more}
use Rattle.hib_make.proofs.rows.push_rows.Goals as goal

pub loop-i-init : goal.loop-i-init
loop-i-init c = many_none (form_row c.args.form) c.args.draws.now c.args.rows.now.items

pub loop-i-preserved : goal.loop-i-preserved
loop-i-preserved c =
    many_more (form_row c.args.form) c.loop-i.i c.args.draws.now c.args.rows.now.items c.loop-i.rows.items c.push_row.new.rows.items c.loop-i.draws
    c.push_row.new.draws c.loop-i.invariant c.in_ok-push_row.ensures.made c.in_ok-push_row.ensures.state
