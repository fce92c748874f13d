use Rattle.std.proofs.Common.{string_bytes, option_map}
use Rattle.hib_json_lines.specs.Line.{LineText}
use Rattle.hib_json_lines.proofs.AsWritten.{straight_line}
use Rattle.hib_json_lines.proofs.straight.straight.Goals as goal

pub returns : goal.returns
returns c =
    let l : LineText = record { act = string_bytes c.in-Some.act; part = string_bytes c.in-Some-2.part; reply = string_bytes c.in-Some-3.reply; session = option_map string_bytes c.in-Some-4.session; tick = c.in-Some-tick_member.tick } in (
      straight_line c.args.bytes.now c.in-Some.rest.now c.in-Some-2.rest.now c.in-Some-3.rest.now c.in-Some-4.rest.now l
          (rw c.in-Some.is at c.in_ok-act.ensures) (rw c.in-Some-2.is at c.in_ok-part.ensures) (rw c.in-Some-3.is at c.in_ok-reply.ensures) (rw c.in-Some-4.is at c.in_ok-session.ensures) c.in-Some-tick_member.ensures.0,
      c.in-Some-tick_member.ensures.1,
    )
