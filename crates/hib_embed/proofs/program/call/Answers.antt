use Rattle.std.proofs.Common.{◌∙◌, refl, sym}
use Rattle.hib_embed.proofs.Comes.{call_comes}
use Rattle.hib_embed.proofs.program.call.Goals as goal

pub returns : goal.returns
returns c =
    let lent = c.nothing_kept-lent.ensures in
    let came = c.answer_of.ensures in
    call_comes c.args.words.now c.args.input.now _ _ _ _ _ _ _ c.answer_of.result (sym c.in_ok-unserved.ensures ∙ c.in_default.is)
    (rw (c.new-source.ensures, c.new-page.ensures.bytes, c.new-page.ensures.failures, lent.rows, lent.asked, lent.calls, lent.listeners) refl)
    c.play_words-called.ensures came.whole came.text came.status came.line
