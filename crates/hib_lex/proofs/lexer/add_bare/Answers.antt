use Rattle.std.proofs.Common.{◌∙◌, sym}
use Rattle.hib_lex.proofs.Parts.{bare_part, bare_none}
use Rattle.hib_lex.proofs.lexer.add_bare.Goals as goal

pub returns-in_ok-push-in-Some : goal.returns-in_ok-push-in-Some
returns-in_ok-push-in-Some c =
    bare_part c.args.tokens.now c.args.bytes.now c.bare_length-size.result c.requires c.bare_length-size.ensures.length c.push.new.self c.in-Some.token
    c.bare_length-size.ensures.within (sym c.in-Some.is ∙ c.in_ok-token.ensures) c.in_ok-push-in-Some.ensures.ok

pub returns-in-None : goal.returns-in-None
returns-in-None c = bare_none c.args.tokens.now c.args.bytes.now c.bare_length-size.result c.requires c.bare_length-size.ensures.length (sym c.in-None.is ∙ c.in_ok-token.ensures)
