use Rattle.std.proofs.lemmas.List.{nil_from_length}
use Rattle.hib_report.proofs.Watched.{quiet_sound}
use Rattle.hib_report.proofs.watch.Watch.is_quiet.Goals as goal

pub returns : goal.returns
returns c = λ h past key w.
    quiet_sound c.args.self.now.courses.entries c.args.self.now.written.entries past key (nil_from_length c.args.self.now.courses.entries (c.is_empty.ensures.0 h)) w
