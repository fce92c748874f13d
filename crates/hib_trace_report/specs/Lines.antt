-- The text of a report.
use Rattle.std.specs.Prelude.{ℕ, ◌+◌, ◌-◌, ◌==◌, Bool, true, false, List, [], ◌∷◌, ◌++◌, codes, count_by, map, nat_lt, Option, Some, None, if◌then◌else◌}
use Rattle.std.specs.Fmt.{decimal}
use Rattle.hib_trace_lines.specs.Events.{EventText}
use Rattle.hib_trace_findings.specs.declared.kinds.Judgement.{Judgement}
use Rattle.hib_trace_calls.specs.Rows.{row_told}
use Rattle.hib_trace_filed.specs.declared.limits.Limits.{Limits}
use Rattle.hib_trace_filed.specs.declared.limits.OrderBy.{OrderBy}
use Rattle.hib_trace_report.specs.Asked.{is_found}
use Rattle.hib_trace_report.specs.declared.counts.Kind.{Kind}

-- ---- a line for each finding

-- a text on one line: a control character is told as a space
abbrev pub plain_byte : ℕ → ℕ
plain_byte b = if nat_lt b 32 then 32 else b

abbrev pub plain : List ℕ → List ℕ
plain t = map plain_byte t

-- the key and its row, or that it is a commit
abbrev pub row_text : Option (List ℕ) → List ℕ → List ℕ
row_text None row = codes "a commit"
row_text (Some k) row = plain k ++ codes " " ++ plain row

abbrev pub by_text : Option (List ℕ) → List ℕ
by_text None = []
by_text (Some s) = codes " by " ++ plain s

-- the row, and who was answered or wrote it
abbrev pub subject_text : EventText → List ℕ
subject_text e = row_text e.key (row_told e) ++ by_text e.session

abbrev pub line_with : ℕ → List ℕ → EventText → List ℕ → List ℕ
line_with n name e more = codes "line " ++ decimal n ++ name ++ subject_text e ++ more

-- how old an answer was at least when it was asked for
abbrev pub aged : ℕ → List ℕ → EventText → ℕ → List ℕ
aged n name e t = line_with n name e (codes ", at least " ++ decimal (e.begin - t) ++ codes " old\n")

abbrev pub finding_text : ℕ → EventText → Option Judgement → List ℕ
finding_text n e None = []
finding_text n e (Some Judgement.Unknown) = []
finding_text n e (Some Judgement.Possible) = []
finding_text n e (Some Judgement.OpenList) = []
finding_text n e (Some (Judgement.Stale t)) = aged n (codes ": stale-hit ") e t
finding_text n e (Some (Judgement.Resurrected t)) = aged n (codes ": resurrected-hit ") e t
finding_text n e (Some (Judgement.OldList t)) = aged n (codes ": old-list ") e t
finding_text n e (Some Judgement.Dirty) = line_with n (codes ": dirty-hit ") e (codes "\n")
finding_text n e (Some Judgement.RolledBack) = line_with n (codes ": rolled-back-hit ") e (codes "\n")
finding_text n e (Some Judgement.LostUpdate) = line_with n (codes ": lost-update ") e (codes "\n")
finding_text n e (Some Judgement.Contradicted) = line_with n (codes ": contradicted ") e (codes "\n")

abbrev pub one_if : Bool → ℕ
one_if b = if b then 1 else 0

-- the first of the findings, so many, of the lines from one number on
abbrev pub findings_text : ℕ → ℕ → List EventText → List (Option Judgement) → List ℕ
findings_text most n [] js = []
findings_text most n (e ∷ es) [] = []
findings_text most n (e ∷ es) (j ∷ js) =
    (if most == 0 then [] else finding_text n e j) ++ findings_text (most - one_if (is_found j)) (n + 1) es js

-- how many findings aren't told
abbrev pub more_text : ℕ → List (Option Judgement) → List ℕ
more_text most js = if nat_lt most (count_by is_found js) then codes "and " ++ decimal (count_by is_found js - most) ++ codes " more\n" else []

-- ---- how many lines are what

abbrev pub is_hit : Judgement → Bool
is_hit Judgement.LostUpdate = false
is_hit Judgement.Contradicted = false
is_hit Judgement.OpenList = false
is_hit (Judgement.OldList t) = false
is_hit _ = true

abbrev pub is_kind : Kind → Judgement → Bool
is_kind Kind.Hit j = is_hit j
is_kind Kind.Possible Judgement.Possible = true
is_kind Kind.Unknown Judgement.Unknown = true
is_kind Kind.Stale (Judgement.Stale t) = true
is_kind Kind.Resurrected (Judgement.Resurrected t) = true
is_kind Kind.Dirty Judgement.Dirty = true
is_kind Kind.RolledBack Judgement.RolledBack = true
is_kind Kind.Lost Judgement.LostUpdate = true
is_kind Kind.Contradicted Judgement.Contradicted = true
is_kind Kind.OpenList Judgement.OpenList = true
is_kind Kind.OldList (Judgement.OldList t) = true
is_kind k j = false

abbrev pub is_told : Kind → Option Judgement → Bool
is_told k None = false
is_told k (Some j) = is_kind k j

abbrev pub count_text : List ℕ → Kind → List (Option Judgement) → List ℕ
count_text label k js = label ++ decimal (count_by (is_told k) js)

abbrev pub open_text : List (Option Judgement) → List ℕ
open_text js =
    count_text (codes "hits ") Kind.Hit js ++ count_text (codes " possible ") Kind.Possible js ++
    count_text (codes " unknown ") Kind.Unknown js

abbrev pub certain_text : List (Option Judgement) → List ℕ
certain_text js =
    count_text (codes " stale ") Kind.Stale js ++ count_text (codes " resurrected ") Kind.Resurrected js ++
    count_text (codes " dirty ") Kind.Dirty js ++ count_text (codes " rolled-back ") Kind.RolledBack js

abbrev pub writes_text : List (Option Judgement) → List ℕ
writes_text js = count_text (codes "\nwrites lost ") Kind.Lost js ++ count_text (codes " contradicted ") Kind.Contradicted js

abbrev pub lists_text : List (Option Judgement) → List ℕ
lists_text js = count_text (codes "\nlists open ") Kind.OpenList js ++ count_text (codes " old ") Kind.OldList js

abbrev pub counts_text : List (Option Judgement) → List ℕ
counts_text js = open_text js ++ certain_text js ++ writes_text js ++ lists_text js ++ codes "\n"

-- ---- what is taken for granted

abbrev pub order_text : OrderBy → List ℕ
order_text OrderBy.Commit = []
order_text OrderBy.Version = codes ", and in that of their versions"
order_text OrderBy.Write = codes ", and in that of the writes of their rows"

abbrev pub rows_text : OrderBy → List ℕ
rows_text o =
    codes "premises: rows are told apart by their values or versions; each writer is in the trace; " ++
    codes "commits that don't overlap are in the order of their calls" ++ order_text o

abbrev pub premises_text : Limits → List ℕ
premises_text m =
    rows_text m.order ++ codes "; clocks differ by " ++ decimal m.clock ++ codes " at most; an answer may be " ++ decimal m.allow ++ codes " old\n"

abbrev pub report_text : Limits → ℕ → List EventText → List (Option Judgement) → List ℕ
report_text m most es js = findings_text most 1 es js ++ more_text most js ++ counts_text js ++ premises_text m
