use Rattle.std.proofs.Common.{◌<◌, length, arith}
use Rattle.hib_bulk.specs.Text.{entry_text}
use Rattle.hib_bulk.proofs.Appended.{each_at}
use Rattle.hib_bulk.proofs.texts.put_entries.Goals as goal

pub loop-entry-preserved : goal.loop-entry-preserved
loop-entry-preserved c =
    let low : c.loop-entry.entry-index < length c.args.entries.now = omega arith in
    each_at (λ e. entry_text c.args.script.now c.args.lines.now e) c.args.entries.now c.loop-entry.entry-index c.entry-item.result low c.entry-item.is c.args.out.now.items c.loop-entry.out.items c.put_entry.new.out.items c.loop-entry.invariant c.in_ok-put_entry.ensures
