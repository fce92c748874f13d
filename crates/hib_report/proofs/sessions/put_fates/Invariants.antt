use Rattle.std.proofs.Common.{◌≡◌, ◌++◌, reverse, drop}
use Rattle.hib_report.specs.Report.{fates_text}
use Rattle.hib_report.proofs.sessions.put_fates.Given as goal

-- what was put, with what is left
abbrev pub invariant-loop-session : goal.invariant-loop-session
invariant-loop-session l =
    l.fn.out.items ++ fates_text (reverse l.entries) 0 l.sessions ≡ l.out.items ++ fates_text (reverse l.entries) l.session (drop l.session l.sessions)
