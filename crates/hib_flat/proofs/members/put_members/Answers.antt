use Rattle.hib_flat.proofs.Pieces.{members_put}
use Rattle.hib_flat.proofs.members.put_members.Goals as goal

pub returns : goal.returns
returns c =
    members_put c.args.form c.args.script.now c.args.entry.now c.args.out.now.items c.put_headings.new.out.items c.put_subjects.new.out.items c.put_results.new.out.items c.put_times.new.out.items c.put_marks.new.out.items
    c.in_ok-put_headings.ensures c.in_ok-put_subjects.ensures c.in_ok-put_results.ensures c.in_ok-put_times.ensures c.in_ok-put_marks.ensures
