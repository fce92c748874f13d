use Rattle.std.proofs.Common.{◌-◌, ◌∙◌, length, take, drop, subst, sym, arith}
use Rattle.hib_lex.specs.Parts.{ReadsQuoted}
use Rattle.hib_lex.proofs.Parts.{text_part, text_open}
use Rattle.hib_lex.proofs.lexer.add_quoted.Goals as goal

pub returns-then-not-may_close : goal.returns-then-not-may_close
returns-then-not-may_close c =
    text_open c.args.tokens.now c.args.bytes.now c.in-Some.text c.in-Some.size c.requires
    (subst (ReadsQuoted (take (length c.args.bytes.now - 1) (drop 1 c.args.bytes.now))) c.in-Some.is c.in_ok-text.ensures)
    (sym c.may_close.ensures ∙ c.if-not-may_close.true)

pub returns : goal.returns
returns c =
    text_part c.args.tokens.now c.args.bytes.now c.in-Some.text c.in-Some.size c.requires
    (subst (ReadsQuoted (take (length c.args.bytes.now - 1) (drop 1 c.args.bytes.now))) c.in-Some.is c.in_ok-text.ensures) c.push.new.self
    (omega (arith, c.len.ensures)) (sym c.may_close.ensures ∙ c.if-not-may_close.false) c.in_ok-push.ensures.ok
