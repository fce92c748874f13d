use Rattle.std.proofs.Common.{◌-◌, ◌∙◌, length}
use Rattle.hib_entry_fields.proofs.Loops.{names_stop, names_end, empty_is}
use Rattle.hib_entry_fields.proofs.names.names_of.Goals as goal

pub returns-then-is_empty : goal.returns-then-is_empty
returns-then-is_empty c =
    c.from_vec.ensures ∙ names_stop c.args.script.now c.loop.names.items (length c.args.bytes.now - c.loop.counter) c.loop.rest.now _ (empty_is c.loop.rest.now c.is_empty.result c.is_empty.ensures c.if-is_empty.true) c.loop.invariant

pub returns : goal.returns
returns c =
    c.from_vec-2.ensures ∙ names_end c.args.script.now c.loop.names.items (length c.args.bytes.now) c.loop.counter c.loop.rest.now _ c.loop-test.false c.loop.invariant
