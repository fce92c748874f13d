use Rattle.hib_json_lines.proofs.Parts.{line_put}
use Rattle.hib_json_lines.proofs.lines.put_line.Goals as goal

pub returns : goal.returns
returns c =
    line_put _ _ _ _ _ _ _ c.args.script.now _ c.args.entry.now c.entry.view_is c.in_ok-put_act_member.ensures c.in_ok-put_part_member.ensures c.in_ok-put_reply_member.ensures c.in_ok-put_session_member.ensures
    c.in_ok-put_labelled.ensures c.in_ok-extend_from_slice.ensures.items
