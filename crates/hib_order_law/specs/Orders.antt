-- Orders: the steps of a run; the journal that an order makes; its switches, the steps that leave a session which comes again later; and
-- its kills.
use Rattle.std.specs.Prelude.{◌≡◌, ℕ, zero, suc, ◌+◌, ◌≤◌, ◌⊎◌, Bool, true, false, if◌then◌else◌, not, ◌&&◌, ◌||◌, ◌==◌, List, [], ◌∷◌, length, map, drop, is_some, unwrap_or, Some, None, Option}
use Rattle.std.specs.List.{list_all, list_any}
use Rattle.hib_journal.specs.Types.{Script, Act, Entry}
use Rattle.hib_base.specs.Tables.{Tables}
use Rattle.hib_journal.specs.Sessions.{Journal, own, is_open, was_killed}
use Rattle.hib_journal.specs.Next.{next}
use Rattle.hib_journal.specs.Legal.{IsLegal, reply_of}
use Rattle.hib_journal.specs.Lists.{entry_at}
use Rattle.hib_journal.specs.Runs.{IsNumbered, is_fault}
use Rattle.hib_journal.specs.Played.{has_next}
use Rattle.hib_order_law.specs.declared.step.Step.{Step}
use Rattle.hib_order_law.specs.declared.step.Turn.{Turn}

-- the session whose step it is
abbrev pub whose : Step → ℕ
whose (Step.Own s) = s
whose (Step.Kill s) = s

abbrev pub same_step : Step → Step → Bool
same_step (Step.Own s) (Step.Own t) = s == t
same_step (Step.Kill s) (Step.Kill t) = s == t
same_step _ _ = false

abbrev pub is_killing : Act → Bool
is_killing (Act.Kill s) = true
is_killing _ = false

-- an entry is a session's own step or kills one, and its reply is no fault
abbrev pub is_plain : Entry → Bool
is_plain e = (is_some e.session || is_killing e.act) && not (is_fault e.reply)

-- a legal journal of sessions and kills alone, from rows that are told: no evict or restart, and no fault; the k-th entry has tick k
pub record IsUndisturbed (script : Script) (start : Tables) (h : Journal) : Type 0 where
  pub legal : IsLegal script (Some start) h
  pub numbered : IsNumbered h
  pub plain : list_all is_plain h ≡ true

abbrev pub step_by : Option ℕ → Act → Step
step_by by (Act.Kill s) = Step.Kill s
step_by by a = Step.Own (unwrap_or by 0)

-- the step that an entry is
abbrev pub step_of : Entry → Step
step_of e = step_by e.session e.act

-- the step of each entry, in their order
abbrev pub steps_in : List Entry → List Step
steps_in es = map step_of es

-- what a step does after a journal, if it may come: a session's next act, or the kill of an open one
abbrev pub act_due : Script → Journal → Step → Option Act
act_due script h (Step.Own s) = if was_killed s h then None else next script s (own s h)
act_due script h (Step.Kill s) = if is_open s h then Some (Act.Kill s) else None

abbrev pub is_due : Script → Journal → Step → Bool
is_due script h t = is_some (act_due script h t)

-- the session that an entry of a step names
abbrev pub named_by : Step → Option ℕ
named_by (Step.Own s) = Some s
named_by (Step.Kill s) = None

-- the journal after one more step, if it may come
abbrev pub with_act : Script → Tables → Step → Journal → Option Act → Journal
with_act script start t h None = h
with_act script start t h (Some a) =
    entry_at (length h + 1) (named_by t) a (reply_of script start h (unwrap_or (named_by t) 0) (length h + 1) a) ∷ h

abbrev pub with_step : Script → Tables → Step → Journal → Journal
with_step script start t h = with_act script start t h (act_due script h t)

-- the journal that an order makes, the newest step first
abbrev pub made : Script → Tables → List Step → Journal
made script start [] = []
made script start (t ∷ ts) = with_step script start t (made script start ts)

-- each of these first steps may come at its turn, after a journal; the oldest step first
abbrev pub can_begin : Script → Tables → Journal → List Step → Bool
can_begin script start h [] = true
can_begin script start h (t ∷ ts) = is_due script h t && can_begin script start (with_step script start t h) ts

-- a step of a session is in an order
abbrev pub comes : ℕ → List Step → Bool
comes s ts = list_any (λ t. whose t == s) ts

-- the step after one of s leaves s: it is another session's, and s comes again later; the oldest step first
abbrev pub leaves : ℕ → List Step → Bool
leaves s [] = false
leaves s (t ∷ rest) = not (whose t == s) && comes s rest

-- how many steps of an order leave a session that comes again later; the oldest step first
abbrev pub switches : List Step → ℕ
switches [] = 0
switches (t ∷ rest) = (if leaves (whose t) rest then 1 else 0) + switches rest

abbrev pub is_kill_step : Step → Bool
is_kill_step (Step.Kill s) = true
is_kill_step (Step.Own s) = false

-- how many steps of an order kill a session
abbrev pub kills : List Step → ℕ
kills [] = 0
kills (t ∷ rest) = (if is_kill_step t then 1 else 0) + kills rest

-- entries, the oldest first, after a journal
abbrev pub onto : List Entry → Journal → Journal
onto [] h = h
onto (e ∷ es) h = onto es (e ∷ h)

-- an order begins so
abbrev pub begins : List Step → List Step → Bool
begins [] order = true
begins (s ∷ ss) [] = false
begins (s ∷ ss) (t ∷ ts) = same_step s t && begins ss ts

-- how another order than that of these entries, which come after a journal, may begin: with some of its first steps, so many at least, and
-- then with another step, which may come there
abbrev pub IsOther : Script → Journal → ℕ → List Entry → List Step → Type 0
IsOther script h n es [] = ⊥
IsOther script h zero [] (t ∷ ts) = (ts ≡ []) × (is_due script h t ≡ true)
IsOther script h (suc n) [] (t ∷ ts) = ⊥
IsOther script h (suc n) (e ∷ es) (t ∷ ts) = (step_of e ≡ t) × IsOther script (e ∷ h) n es ts
IsOther script h zero (e ∷ es) (t ∷ ts) =
    ((step_of e ≡ t) × IsOther script (e ∷ h) zero es ts) ⊎ ((ts ≡ []) × (same_step (step_of e) t ≡ false) × (is_due script h t ≡ true))

-- the switches among the first steps of another order, by this order: it shares all of them but the last. If no step is a kill after those
-- that they share at least, then each session that comes later here comes later there
abbrev pub cost : List Step → List Step → ℕ
cost order [] = 0
cost [] (t ∷ ts) = 0
cost (s ∷ ss) (t ∷ []) = 0
cost (s ∷ ss) (t ∷ u ∷ ts) = (if not (whose u == whose t) && comes (whose t) ss then 1 else 0) + cost ss (u ∷ ts)

-- a run of sessions in which each is at its end or killed, with so many kills at most; its entries, the oldest first
pub record IsRun (script : Script) (start : Tables) (most_kills : ℕ) (es : List Entry) : Type 0 where
  pub undisturbed : IsUndisturbed script start (onto es [])
  pub over : (s : ℕ) → has_next script (onto es []) s ≡ false
  pub few_kills : kills (steps_in es) ≤ most_kills

-- so, with so many switches at most
pub record IsWithin (script : Script) (start : Tables) (most_kills most : ℕ) (es : List Entry) : Type 0 where
  pub run : IsRun script start most_kills es
  pub within : switches (steps_in es) ≤ most

-- no step is a kill after the first ones, so many
abbrev pub is_unkilled : ℕ → List Step → Bool
is_unkilled n order = list_all (λ t. not (is_kill_step t)) (drop n order)

-- what an act does to its session
abbrev pub turn_by : Act → Turn
turn_by Act.Begin = Turn.Opens
turn_by Act.End = Turn.Closes
turn_by _ = Turn.GoesOn

-- so of each entry
abbrev pub turns_in : List Entry → List Turn
turns_in es = map (λ (e : Entry). turn_by e.act) es
