use Rattle.std.proofs.Common.{sym, ap, ◌∙◌}
use Rattle.hib_base.specs.Tables.{Tables, tables_with}
use Rattle.hib_outside.specs.Parted.{joined}
use Rattle.hib_outside.proofs.Gaps.{row_set, row_taken}
use Rattle.hib_outside.proofs.parted.set.Goals as goal

pub returns-in-Some-clause-rows : goal.returns-in-Some-clause-rows
returns-in-Some-clause-rows c =
    let t : Tables = joined c.args.front.now.items c.args.back.now.items in
    row_set t c.give_behind.new.front.items c.push_reserved.new.self.items c.give_behind.new.back.items c.drop_same.new.back.items c.args.key c.in-Some.row
    (c.give_behind.ensures.rows ∙ c.gather_before.ensures.rows) c.give_behind.ensures.before c.give_behind.ensures.next c.drop_same.ensures.rows c.push_reserved.ensures.items
    ∙ ap (tables_with t c.args.key) (sym c.in-Some.is)

pub returns-in_default-clause-rows : goal.returns-in_default-clause-rows
returns-in_default-clause-rows c =
    let t : Tables = joined c.args.front.now.items c.args.back.now.items in
    row_taken t c.give_behind.new.front.items c.give_behind.new.back.items c.drop_same.new.back.items c.args.key c.requires.ordered
    (c.give_behind.ensures.rows ∙ c.gather_before.ensures.rows) c.give_behind.ensures.before c.give_behind.ensures.next c.drop_same.ensures.rows
    ∙ ap (tables_with t c.args.key) (sym c.in_default.is)
