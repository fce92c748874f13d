use Rattle.std.proofs.Common.{rules, ◌≡◌, true, sym, ◌∙◌}
use Rattle.hib_words.specs.Commands.{is_numeral}
use Rattle.hib_words.proofs.Numbers.{not_read}
use Rattle.hib_words.proofs.words.number_between.Goals as goal

pub returns-in-Err : goal.returns-in-Err
returns-in-Err c =
    let numeral : is_numeral c.args.text.now ≡ true = sym c.is_numeral.ensures ∙ search rules in
    not_read c.args.text.now c.args.low c.args.high (search rules) numeral c.in-Err.ensures.value.0
