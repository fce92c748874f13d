-- The points by which an entry may break the rules of legal journals.
use Rattle.std.specs.Prelude.{◌≡◌, [], IsSome, Some, unwrap_or, option_map}
use Rattle.hib_base.specs.Start.{start}
use Rattle.hib_base.specs.Tables.{Tables}
use Rattle.hib_journal.specs.Types.{Script, Entry}
use Rattle.hib_journal.specs.Sessions.{Journal, IsTimely}
use Rattle.hib_journal.specs.Legal.{IsReply, due, may_come, part_of}
use Rattle.hib_audit.specs.declared.points.AuditKind.{AuditKind}

-- over a journal, the points of an entry before this one hold, and this one does not
abbrev pub Breaks : Script → Tables → Journal → Entry → AuditKind → Type 0
Breaks script start h e AuditKind.Tick = ¬ IsTimely e h
Breaks script start h e AuditKind.Session = IsTimely e h × (¬ IsSome (due script h e))
Breaks script start h e AuditKind.Part = IsTimely e h × IsSome (due script h e) × (¬ (option_map (λ a. part_of a (unwrap_or e.session 0)) (due script h e) ≡ Some e.part))
Breaks script start h e AuditKind.Act =
    IsTimely e h × IsSome (due script h e) × (option_map (λ a. part_of a (unwrap_or e.session 0)) (due script h e) ≡ Some e.part) × (¬ (may_come script h (due script h e) ≡ Some e.act))
Breaks script start h e AuditKind.Reply =
    IsTimely e h × IsSome (due script h e) × (option_map (λ a. part_of a (unwrap_or e.session 0)) (due script h e) ≡ Some e.part) × (may_come script h (due script h e) ≡ Some e.act)
    × (¬ IsReply script (Some start) h e)

-- the rows at the start of an audit: those of the script
abbrev pub start_rows : Script → Tables
start_rows script = start script.mapping [] script.rows
