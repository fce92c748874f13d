use Rattle.std.proofs.Common.{sym}
use Rattle.hib_json_lines.proofs.AsWritten.{tick_read}
use Rattle.hib_json_lines.proofs.straight.tick_member.Goals as goal

pub returns-then-is_natural : goal.returns-then-is_natural
returns-then-is_natural c =
    tick_read c.args.bytes.now c.in_ok-behind.field-0.now c.in_ok-digits.digits.now c.size_of_digits.result c.in_ok-behind.ensures c.in_ok-digits.ensures (sym c.if-is_natural.ensures) c.size_of_digits.ensures
