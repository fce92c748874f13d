use Rattle.std.proofs.Common.{arith, ◌+◌, ◌∙◌, ap, sym, inl, inr, drop}
use Rattle.hib_lex.specs.Parts.{behind}
use Rattle.hib_lex.proofs.Parts.{closes, breaks, goes_on, two_more}
use Rattle.hib_lex.proofs.lexer.quoted.Goals as goal
use Rattle.hib_lex.proofs.lexer.quoted.Goals.{else-end-bytes-via-then-end-bytes+else-bytes-end-eq34, else-end-bytes-via-else-end-bytes}

pub returns-then-bytes-end-eq34 : goal.returns-then-bytes-end-eq34
returns-then-bytes-end-eq34 c = (
  omega arith,
  λ ts. c.loop-at.invariant.read ts
      ∙ closes ts c.args.bytes.now c.loop-at.text.items c.extend_from_slice.new.self.items c.loop-at.at c.plain_length.result c.plain_length.ensures.length
      c.in_ok-extend_from_slice.ensures.items c.if-end-bytes.true c.if-bytes-end-eq34.true
      ∙ ap (λ t. behind ts t (drop (c.loop-at.at + c.plain_length.result + 1) c.args.bytes.now)) (sym c.from_vec.ensures),
)

pub returns-then-not-is_escape : goal.returns-then-not-is_escape
returns-then-not-is_escape c = λ ts. c.loop-at.invariant.read ts
    ∙ breaks ts c.args.bytes.now c.loop-at.text.items c.extend_from_slice.new.self.items c.loop-at.at c.plain_length.result c.plain_length.ensures.length
    c.in_ok-extend_from_slice.ensures.items
    (elim c.else-end-bytes.branch [ else-end-bytes-via-then-end-bytes+else-bytes-end-eq34 w ↦ inr w.if-bytes-end-eq34.false | else-end-bytes-via-else-end-bytes w ↦ inl w.if-end-bytes.false ])
    (sym c.is_escape.ensures ∙ c.if-not-is_escape.true)

pub loop-at-preserved : goal.loop-at-preserved
loop-at-preserved c = record {
  inside = two_more c.args.bytes.now (c.loop-at.at + c.plain_length.result) (sym c.is_escape.ensures ∙ c.if-not-is_escape.false);
  read = λ ts. c.loop-at.invariant.read ts
      ∙ goes_on ts c.args.bytes.now c.loop-at.text.items c.extend_from_slice.new.self.items c.loop-at.at c.plain_length.result c.plain_length.ensures.length
      c.in_ok-extend_from_slice.ensures.items c.push.new.self.items (sym c.is_escape.ensures ∙ c.if-not-is_escape.false) c.in_ok-push.ensures.items;
}
