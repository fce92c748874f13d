use Rattle.std.specs.Prelude.{map, string_bytes}
use Rattle.std.proofs.Common.{◌∙◌, IfOk, ap, subst}
use Rattle.hib_embed.specs.Calls.{IsCall}
use Rattle.hib_embed.proofs.Served.{asked_in-lines}
use Rattle.hib_embed.proofs.program.call_lines.Goals as goal

pub returns : goal.returns
returns c =
    let words = ap (map string_bytes) c.as_slice.ensures.value ∙ c.in_ok-words.ensures in
    subst (λ asked. IfOk c.call.result (IsCall asked c.args.input.now)) (asked_in-lines _ c.args.words.now words) c.call.ensures
