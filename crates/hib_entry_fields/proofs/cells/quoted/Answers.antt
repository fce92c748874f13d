use Rattle.std.proofs.Common.{◌+◌, length, drop}
use Rattle.hib_entry_fields.proofs.Loops.{quoted_closes, quoted_open, whole_rest, same_pair}
use Rattle.hib_entry_fields.proofs.cells.quoted.Goals as goal

pub returns-then-byte-eq34 : goal.returns-then-byte-eq34
returns-then-byte-eq34 c =
    same_pair c.from_vec.result c.loop-i.text.items _ (drop (c.loop-i.i + 1) c.args.bytes.now) _ c.from_vec.ensures (whole_rest c.args.bytes.now (c.loop-i.i + 1))
    (quoted_closes c.loop-i.text.items c.loop-i.escaped c.args.bytes.now c.loop-i.i _ c.loop-i-test.true c.if-escaped.false c.if-byte-eq34.true c.loop-i.invariant)

pub returns : goal.returns
returns c =
    same_pair c.from_vec-2.result c.loop-i.text.items _ (drop (length c.args.bytes.now) c.args.bytes.now) _ c.from_vec-2.ensures (whole_rest c.args.bytes.now (length c.args.bytes.now))
    (quoted_open c.loop-i.text.items c.loop-i.escaped c.args.bytes.now c.loop-i.i _ c.loop-i-test.false c.loop-i.invariant)
