use Rattle.std.specs.Prelude.{slice_get}
use Rattle.std.proofs.Common.{◌≡◌, Some, sym}
use Rattle.hib_journal.specs.Sessions.{committer}
use Rattle.hib_states.proofs.Told.{reused_put}
use Rattle.hib_states.proofs.unsound.put_committed.Goals as goal

pub returns-in_ok-put_all_reused-in-Some-of : goal.returns-in_ok-put_all_reused-in-Some-of
returns-in_ok-put_all_reused-in-Some-of c =
    let by : committer c.args.entry.now.act c.args.entry.now.reply c.args.entry.now.session ≡ Some c.in-Some.session = sym c.in-Some.ensures in
    let there : slice_get c.args.desks.now.all.items c.in-Some.session ≡ Some c.in-Some-of.desk.now = sym c.in-Some-of.ensures in
    reused_put c.args.script.now c.args.number c.args.deleted.now.numbers.entries c.args.desks.now.all.items
    (committer c.args.entry.now.act c.args.entry.now.reply c.args.entry.now.session) c.in-Some.session c.in-Some-of.desk.now c.args.out.now.items
    c.put_all_reused.new.out.items by there c.in_ok-put_all_reused-in-Some-of.ensures
