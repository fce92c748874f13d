use Rattle.std.proofs.Common.{option_map, string_bytes}
use Rattle.hib_serve_requests.specs.Requests.{id_text}
use Rattle.hib_serve_answers.proofs.Parts.{done_put}
use Rattle.hib_serve_answers.proofs.answers.put_done.Goals as goal

pub returns : goal.returns
returns c =
    done_put _ _ _ _ _ _ _ _ c.args.script.now (option_map id_text c.args.id.now) (option_map string_bytes c.args.session.now) c.args.entries.now c.args.stopped
    c.in_ok-extend_from_slice.ensures.items c.in_ok-put_entries.ensures c.in_ok-extend_from_slice-2.ensures.items c.in_ok-put_id_behind.ensures c.in_ok-put_session.ensures
    c.in_ok-put_stop.ensures c.in_ok-extend_from_slice-3.ensures.items
