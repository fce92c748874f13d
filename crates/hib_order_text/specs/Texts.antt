-- The text of what a search of orders came to.
use Rattle.std.specs.Prelude.{ℕ, zero, suc, ◌+◌, Bool, true, false, if◌then◌else◌, ◌==◌, List, [], ◌∷◌, ◌++◌, length, codes, flat_map, slice_get, Some, None, Option}
use Rattle.std.specs.Fmt.{decimal}
use Rattle.hib_journal.specs.Types.{EntityDef, Outcome, Order, SessionDef, Script}
use Rattle.hib_texts.specs.Texts.{session_text}
use Rattle.hib_report.specs.Lines.{outcome_text}
use Rattle.hib_report.specs.Unsound.{is_read_write}
use Rattle.hib_order_law.specs.declared.step.Step.{Step}
use Rattle.hib_order_schedule.specs.Schedules.{shown}
use Rattle.hib_order_tries.specs.declared.endings.Ending.{Ending}
use Rattle.hib_order_tries.specs.declared.found.First.{First}
use Rattle.hib_order_tries.specs.declared.found.Found.{Found}
use Rattle.hib_order_tries.specs.declared.found.Findings.{Findings}
use Rattle.hib_order_tries.specs.declared.trying.Told.{Told}
use Rattle.hib_order_text.specs.declared.findings.Finding.{Finding}

-- ---- a schedule, as its script may have it

abbrev pub line_text : Script → Order → List ℕ
line_text script (Order.Run s n) = codes "run " ++ session_text script s ++ codes " " ++ decimal n ++ codes "\n"
line_text script (Order.Kill s) = codes "kill " ++ session_text script s ++ codes "\n"
line_text script _ = []

abbrev pub schedule_text : Script → List Order → List ℕ
schedule_text script [] = []
schedule_text script (o ∷ os) = codes "schedule\n" ++ flat_map (λ x. line_text script x) (o ∷ os) ++ codes "end\n"

-- the schedule that plays an order
abbrev pub order_text : Script → List Step → List ℕ
order_text script order = schedule_text script (shown order)

-- ---- how many orders were tried, and how they end

abbrev pub whole_text : Bool → ℕ → List ℕ
whole_text true level = codes " all\n"
whole_text false level = codes " cut " ++ decimal level ++ codes "\n"

-- the bound of kills, if there may be some
abbrev pub kills_text : ℕ → List ℕ
kills_text n = if n == 0 then [] else codes " kills " ++ decimal n

abbrev pub tried_text : ℕ → ℕ → Told → List ℕ
tried_text most_kills most t =
    codes "orders " ++ decimal t.findings.tried ++ codes " switches " ++ decimal most ++ kills_text most_kills ++ whole_text t.whole t.level

abbrev pub level_text : ℕ → ℕ → List ℕ
level_text k n = codes "switches " ++ decimal k ++ codes " " ++ decimal n ++ codes "\n"

-- a line for each number of switches, from this one on
abbrev pub levels_text : ℕ → List ℕ → List ℕ
levels_text k [] = []
levels_text k (n ∷ ns) = level_text k n ++ levels_text (k + 1) ns

abbrev pub said_text : Option Outcome → List ℕ
said_text None = []
said_text (Some o) = outcome_text o

abbrev pub comma : ℕ → List ℕ
comma zero = []
comma (suc n) = codes ","

-- how a session has ended
abbrev pub outcome_text_of : ℕ → SessionDef → Option Outcome → List ℕ
outcome_text_of s d o = comma s ++ codes " " ++ d.name ++ codes " " ++ said_text o

-- and each, from the one with this number on
abbrev pub outcomes_text : List Outcome → ℕ → List SessionDef → List ℕ
outcomes_text os s [] = []
outcomes_text os s (d ∷ ds) = outcome_text_of s d (slice_get os s) ++ outcomes_text os (s + 1) ds

-- how many orders ended so
abbrev pub ending_text : Script → Ending → List ℕ
ending_text script e = decimal e.count ++ outcomes_text e.outcomes.items 0 script.sessions ++ codes "\n"

abbrev pub endings_text : Script → List Ending → List ℕ
endings_text script es = codes "endings " ++ decimal (length es) ++ codes "\n" ++ flat_map (λ e. ending_text script e) es

-- ---- findings

abbrev pub number_of : Finding → ℕ
number_of Finding.StaleHit = 1
number_of Finding.OldList = 2
number_of Finding.LostUpdate = 3
number_of Finding.UnsoundKey = 4
number_of Finding.RefusedCommit = 5

abbrev pub name_of : Finding → List ℕ
name_of Finding.StaleHit = codes " stale-hit "
name_of Finding.OldList = codes " old-list "
name_of Finding.LostUpdate = codes " lost-update "
name_of Finding.UnsoundKey = codes " unsound-key "
name_of Finding.RefusedCommit = codes " refused-commit "

abbrev pub found_of : Findings → Finding → Found
found_of f Finding.StaleHit = f.stale_hit
found_of f Finding.OldList = f.old_list
found_of f Finding.LostUpdate = f.lost_update
found_of f Finding.UnsoundKey = f.unsound_key
found_of f Finding.RefusedCommit = f.refused_commit

-- the schedule of an order that has it, with the fewest switches
abbrev pub first_text : Script → Option First → List ℕ
first_text script None = codes "\n"
first_text script (Some f) = codes " switches " ++ decimal f.switches ++ codes "\n" ++ order_text script f.order.items

-- in how many orders it is
abbrev pub finding_text : Script → Findings → Finding → List ℕ
finding_text script f finding = decimal (number_of finding) ++ name_of finding ++ decimal (found_of f finding).count ++ first_text script (found_of f finding).first

abbrev pub findings_text : Script → Findings → List ℕ
findings_text script f =
    finding_text script f Finding.StaleHit ++ finding_text script f Finding.OldList ++ finding_text script f Finding.LostUpdate
    ++ finding_text script f Finding.UnsoundKey ++ finding_text script f Finding.RefusedCommit

-- ---- of which entities no sound key has a stale hit, in any order: the read-write ones

abbrev pub never_text : EntityDef → List ℕ
never_text e = if is_read_write e.strategy then codes "never-stale " ++ e.name ++ codes "\n" else []

abbrev pub nevers_text : List EntityDef → List ℕ
nevers_text es = flat_map (λ e. never_text e) es

-- ---- the whole

abbrev pub text : Script → ℕ → ℕ → Told → List ℕ
text script most_kills most t =
    tried_text most_kills most t ++ levels_text 0 t.findings.levels.items ++ endings_text script t.findings.endings ++ findings_text script t.findings
    ++ nevers_text script.mapping ++ codes "end\n"
