-- Sessions that are killed one after the other, and what is due in one that isn't there.
use Rattle.std.proofs.Common.{◌≡◌, ◌==◌, ◌<◌, ◌≤◌, ◌+◌, ℕ, Bool, true, false, cond, not, ◌&&◌, List, [], ◌∷◌, ◌++◌, length, slice_get, Some, None, Option, is_some, refl, ap, sym, ◌∙◌, subst, inl, inr, append_assoc, arith}
use Rattle.std.specs.List.{list_all}
use Rattle.std.proofs.lemmas.Bool.{and_from, false≢true}
use Rattle.std.proofs.lemmas.Bool.Decides.{nat_tests}
use Rattle.std.proofs.lemmas.List.{append-nil}
use Rattle.std.proofs.lemmas.List.Folds.{list_all-append}
use Rattle.std.proofs.lemmas.Option.{slice_get_past}
use Rattle.hib_base.proofs.Tables.{Tested, tested}
use Rattle.hib_base.specs.declared.scripts.Order.{Order}
use Rattle.hib_journal.specs.Kept.{past}
use Rattle.hib_journal.specs.Next.{next, plan_of}
use Rattle.hib_journal.specs.Plan.{Plan, after, first_act, left_of}
use Rattle.hib_journal.specs.Played.{Playing, has_next, is_kill, play_order}
use Rattle.hib_journal.specs.Sessions.{Journal, is_open, open_after, own, was_killed}
use Rattle.hib_journal.specs.Types.{Act, Entry, Script}
use Rattle.hib_core.specs.Playing.{Leads, played}
use Rattle.hib_law.proofs.Basics.{none_some, some_same}
use Rattle.hib_live.specs.Live.{LiveState}
use Rattle.hib_serve.specs.Sessions.{HasOnlyKilled, is_killing}
use Rattle.hib_serve.proofs.Grown.{led, same_list}

kill_is : (n : ℕ) (a : Act) → is_kill n a ≡ true → a ≡ Act.Kill n
kill_is n (Act.Kill m) p = ap Act.Kill (same m n p)
  where
    same : (m n : ℕ) → (m == n) ≡ true → m ≡ n
    same m n e = grind (arith, nat_tests, e)
kill_is n _ p = absurd (false≢true p)

-- what was added to kill session n, and which sessions are open then
record Kills (n : ℕ) (old new added : Journal) : Type 0 where
  kills : list_all (λ (e : Entry). is_killing e.act) added ≡ true
  leaves : (m : ℕ) → is_open m new ≡ cond (n == m) false (is_open m old)

killed_one : (n : ℕ) (h : Journal) (e : Entry) → is_kill n e.act ≡ true → Kills n h (e ∷ h) (e ∷ [])
killed_one n h e k =
    let q : e.act ≡ Act.Kill n = kill_is n e.act k in
    record {
      kills = rw q refl;
      leaves = λ m. ap (λ (a : Act). open_after m e.session a (is_open m h)) q;
    }

killed_none : (n : ℕ) (h : Journal) → is_open n h ≡ false → Kills n h h []
killed_none n h f = record { kills = refl; leaves = λ m. by m (tested (n == m)) }
  where
    same : (n m : ℕ) → (n == m) ≡ true → n ≡ m
    same n m e = grind (arith, nat_tests, e)

    by : (m : ℕ) → Tested (n == m) → is_open m h ≡ cond (n == m) false (is_open m h)
    by m (inl e) = rw e (subst (λ (i : ℕ). is_open i h ≡ false) (same n m e) f)
    by m (inr e) = rw e refl

killed_by : (n : ℕ) (script : Script) (old new added : Journal) → play_order script (Order.Kill n) old (added ++ []) ≡ Some (new, []) → Kills n old new added
killed_by n script old new [] q = by (tested (is_open n old)) q
  where
    by : Tested (is_open n old) → cond {A = Option Playing} (is_open n old) None (Some (old, [])) ≡ Some (new, []) → Kills n old new []
    by (inl t) q = none_some (rw t at q)
    by (inr t) q = subst (λ (h : Journal). Kills n old h []) (ap (λ (p : Playing). p.0) (some_same (rw t at q))) (killed_none n old t)
killed_by n script old new (e ∷ es) q = by (tested (is_open n old)) q
  where
    none : (l : Journal) → l ++ [] ≡ [] → l ≡ []
    none l p = sym (append-nil l) ∙ p

    not_none : {A : Type 0} (x : A) (xs : List A) → (x ∷ xs) ≡ [] → ⊥
    not_none x xs p = false≢true (sym (ap (λ l. is_cons l) p))
      where
        is_cons : {A : Type 0} → List A → Bool
        is_cons [] = false
        is_cons (x ∷ xs) = true

    one : Tested (is_kill n e.act) → cond {A = Option Playing} (is_kill n e.act) (Some (e ∷ old, es ++ [])) None ≡ Some (new, []) → Kills n old new (e ∷ es)
    one (inl k) q =
        let p : (e ∷ old, es ++ []) ≡ (new, []) = some_same (rw k at q) in
        subst (λ (l : Journal). Kills n old new (e ∷ l)) (sym (none es (ap (λ (p : Playing). p.1) p)))
        (subst (λ (h : Journal). Kills n old h (e ∷ [])) (ap (λ (p : Playing). p.0) p) (killed_one n old e k))
    one (inr k) q = none_some (rw k at q)

    by : Tested (is_open n old) → cond {A = Option Playing} (is_open n old) (cond {A = Option Playing} (is_kill n e.act) (Some (e ∷ old, es ++ [])) None) (Some (old, e ∷ (es ++ []))) ≡ Some (new, []) → Kills n old new (e ∷ es)
    by (inl t) q = one (tested (is_kill n e.act)) (rw t at q)
    by (inr t) q = absurd (not_none e (es ++ []) (ap (λ (p : Playing). p.1) (some_same (rw t at q))))

killed : (n : ℕ) (script : Script) (old new : Journal) (l : Leads (play_order script (Order.Kill n)) played old new) → Kills n old new l.added
killed n script old new l = killed_by n script old new l.added (l.plays [])

-- the sessions before n are closed, and so is n once it is killed
pub closed_more : (n : ℕ) (script : Script) (old new : Journal) → Leads (play_order script (Order.Kill n)) played old new → ((m : ℕ) → m < n → is_open m old ≡ false) →
    (m : ℕ) → m < n + 1 → is_open m new ≡ false
closed_more n script old new l before m less = (killed n script old new l).leaves m ∙ by (tested (n == m))
  where
    lower : (n m : ℕ) → (n == m) ≡ false → m < n + 1 → m < n
    lower n m e less = grind (arith, nat_tests, e, less)

    by : Tested (n == m) → cond (n == m) false (is_open m old) ≡ false
    by (inl e) = rw e refl
    by (inr e) = rw e (before m (lower n m e less))

-- one kill more
pub kills_more : (n : ℕ) (x y z : LiveState) → HasOnlyKilled x y → z.script ≡ y.script → Leads (play_order y.script (Order.Kill n)) played (past y.journal) (past z.journal) → HasOnlyKilled x z
kills_more n x y z r s l =
    record {
      asked = s ∙ r.asked;
      added = r.added ++ l.added;
      grown = led (play_order y.script (Order.Kill n)) y.journal z.journal l ∙ ap (λ (es : List Entry). es ++ l.added) r.grown ∙ append_assoc x.journal.list r.added l.added;
      kills = rw (list_all-append (λ (e : Entry). is_killing e.act) r.added l.added) (and_from (list_all (λ (e : Entry). is_killing e.act) r.added) (list_all (λ (e : Entry). is_killing e.act) l.added) r.kills (killed n y.script (past y.journal) (past z.journal) l).kills);
    }

-- no kill more
pub kills_same : (x y z : LiveState) → HasOnlyKilled x y → z.script ≡ y.script → past z.journal ≡ past y.journal → HasOnlyKilled x z
kills_same x y z r s e = record { asked = s ∙ r.asked; added = r.added; grown = same_list y.journal z.journal e ∙ r.grown; kills = r.kills }

-- ---- nothing is due in a session that isn't there

over_left : (m : Journal) → left_of Plan.Over m ≡ Plan.Over
over_left [] = refl
over_left (e ∷ m) = ap (λ p. after p e) (over_left m)

no_plan : (script : Script) (n : ℕ) → length script.sessions ≤ n → plan_of script n ≡ Plan.Over
no_plan script n p = let q : slice_get script.sessions n ≡ None = slice_get_past script.sessions n p in rw q refl

no_act : (script : Script) (n : ℕ) (mine : Journal) → length script.sessions ≤ n → next script n mine ≡ None
unfolding next
no_act script n mine p = ap (λ q. first_act (left_of q mine)) (no_plan script n p) ∙ ap first_act (over_left mine)

pub none_due : (script : Script) (h : Journal) (n : ℕ) → length script.sessions ≤ n → has_next script h n ≡ false
none_due script h n p = ap (λ (o : Option Act). not (was_killed n h) && is_some o) (no_act script n (own n h) p) ∙ never (not (was_killed n h))
  where
    never : (b : Bool) → (b && false) ≡ false
    never true = refl
    never false = refl
