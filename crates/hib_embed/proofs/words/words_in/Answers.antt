use Rattle.std.proofs.Common.{◌∙◌, ap, map, string_bytes, sym}
use Rattle.hib_embed.proofs.Worded.{words_in-other, words_in-utf8}
use Rattle.hib_embed.proofs.words.words_in.Goals as goal

pub returns-in-Ok : goal.returns-in-Ok
returns-in-Ok c =
    let text = c.in-Ok.ensures.cases in
    rw (sym (words_in-utf8 c.args.text.now text.1)) (rw (sym text.0) c.lines_of.ensures)

pub returns-in-Err : goal.returns-in-Err
returns-in-Err c = ap (λ items. map string_bytes items) c.new.ensures.items ∙ words_in-other c.args.text.now c.in-Err.ensures.cases.0
