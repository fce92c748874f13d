-- What is evicted from outside has an identifier, by each order that has one, and in the steps of sessions.
use Rattle.std.proofs.Common.{◌≡◌, ℕ, ◌≤◌, Bool, true, false, cond, [], ◌∷◌, ◌++◌, Some, None, Option, Result, Ok, Err, OnOk, OnErr, refl, sym, ap, ◌∙◌, subst, arith, inl, inr}
use Rattle.std.specs.Prelude.{⊤}
use Rattle.std.specs.declared.alloc.AllocError.{AllocError}
use Rattle.std.proofs.lemmas.Bool.{false≢true, and_from}
use Rattle.hib_base.specs.Fits.{is_identifier}
use Rattle.hib_base.proofs.Tables.{Tested, tested, same_key_eq}
use Rattle.hib_journal.specs.Types.{Key, Order, Script, Act, Entry}
use Rattle.hib_journal.specs.Kept.{past}
use Rattle.hib_journal.specs.Sessions.{Journal, is_open, is_restart}
use Rattle.hib_journal.specs.Played.{Playing, play_one, is_kill, is_evict, play_order}
use Rattle.hib_journal.specs.Runs.{names_identifier, name_identifiers}
use Rattle.hib_core.specs.Bound.{one_if_none, outside_count}
use Rattle.hib_core.specs.Factory.{FactoryState}
use Rattle.hib_core.specs.Playing.{Play, played, GoesOn, Leads, AreNamed}
use Rattle.hib_core.proofs.Playing.{goes_by}

-- ---- steps of sessions alone

count_grows : (added h : Journal) → outside_count h ≤ outside_count (added ++ h)
count_grows [] h = omega arith
count_grows (e ∷ es) h = let l : outside_count h ≤ outside_count (es ++ h) = count_grows es h in omega (arith, l)

by_session : (o : Option ℕ) (a : Act) → one_if_none o ≤ 0 → names_identifier o a ≡ true
by_session None a l = absurd (omega (arith, l))
by_session (Some s) a l = refl

added_named : (added h : Journal) → outside_count (added ++ h) ≤ outside_count h → AreNamed h (added ++ h)
added_named [] h l n = n
added_named (e ∷ es) h l n =
    let g : outside_count h ≤ outside_count (es ++ h) = count_grows es h in
    and_from (names_identifier e.session e.act) (name_identifiers (es ++ h)) (by_session e.session e.act (omega (arith, l, g))) (added_named es h (omega (arith, l)) n)

pub inside_named : (old new : Journal) → GoesOn old new → outside_count new ≡ outside_count old → AreNamed old new
inside_named old new g e =
    subst (λ j. AreNamed old j) (sym g.1) (added_named g.0 old (let c : outside_count (g.0 ++ old) ≡ outside_count old = sym (ap outside_count g.1) ∙ e in omega (arith, c)))

-- a journal of sessions alone
pub all_named : (h : Journal) → outside_count h ≡ 0 → name_identifiers h ≡ true
all_named [] l = refl
all_named (e ∷ h) l = and_from (names_identifier e.session e.act) (name_identifiers h) (by_session e.session e.act (omega (arith, l))) (all_named h (omega (arith, l)))

pub steps_named : (all : Play) (old new : Journal) (r : Result ⊤ AllocError) → OnOk r (Leads all played old new) → OnErr r (GoesOn old new) → outside_count new ≡ outside_count old → AreNamed old new
steps_named all old new (Ok u) p g e = inside_named old new (goes_by all played old new p) e
steps_named all old new (Err x) p g e = inside_named old new g e

-- ---- an order that a session has no part in

-- it evicts nothing, or by an identifier
abbrev pub Names : Order → Type 0
Names (Order.Run s n) = ⊥
Names (Order.Evict k) = is_identifier k.id ≡ true
Names _ = Unit {0}

kill_names : (s : ℕ) (o : Option ℕ) (a : Act) → is_kill s a ≡ true → names_identifier o a ≡ true
kill_names s (Some n) a p = refl
kill_names s None (Act.Evict k) p = absurd (false≢true p)
kill_names s None _ p = refl

evict_names : (k : Key) (o : Option ℕ) (a : Act) → is_identifier k.id ≡ true → is_evict k a ≡ true → names_identifier o a ≡ true
evict_names k (Some n) a i p = refl
evict_names k None (Act.Evict j) i p = subst (λ (z : Key). is_identifier z.id ≡ true) (sym (same_key_eq j k p)) i
evict_names k None _ i p = refl

restart_names : (o : Option ℕ) (a : Act) → is_restart a ≡ true → names_identifier o a ≡ true
restart_names (Some n) a p = refl
restart_names None (Act.Evict k) p = absurd (false≢true p)
restart_names None _ p = refl

one_named : (p : Entry → Bool) (h rest new : Journal) → ((e : Entry) → p e ≡ true → names_identifier e.session e.act ≡ true) → play_one p h rest ≡ Some (new, []) → AreNamed h new
one_named p h [] new f q = absurd (none q)
  where
    none : ◌≡◌ {A = Option Playing} None (Some (new, [])) → ⊥
    none x = cc
one_named p h (e ∷ rest) new f q = by (p e) refl q
  where
    by : (b : Bool) → p e ≡ b → cond {A = Option Playing} b (Some (e ∷ h, rest)) None ≡ Some (new, []) → AreNamed h new
    by true t x = λ n. subst (λ j. name_identifiers j ≡ true) (ap (λ (y : Playing). y.0) (same x)) (and_from (names_identifier e.session e.act) (name_identifiers h) (f e t) n)
      where
        same : ◌≡◌ {A = Option Playing} (Some (e ∷ h, rest)) (Some (new, [])) → ◌≡◌ {A = Playing} (e ∷ h, rest) (new, [])
        same y = cc
    by false t x = absurd (none x)
      where
        none : ◌≡◌ {A = Option Playing} None (Some (new, [])) → ⊥
        none y = cc

same_named : (h new rest : Journal) → ◌≡◌ {A = Option Playing} (Some (h, rest)) (Some (new, [])) → AreNamed h new
same_named h new rest q n = subst (λ j. name_identifiers j ≡ true) (ap (λ (y : Playing). y.0) (same q)) n
  where
    same : ◌≡◌ {A = Option Playing} (Some (h, rest)) (Some (new, [])) → ◌≡◌ {A = Playing} (h, rest) (new, [])
    same y = cc

order_named : (script : Script) (o : Order) (old new : Journal) → Names o → Leads (play_order script o) played old new → AreNamed old new
order_named script o old new n w = by o n (w.plays [])
  where
    by : (o : Order) → Names o → play_order script o old (w.added ++ []) ≡ Some (new, []) → AreNamed old new
    by (Order.Run s k) n q = absurd n
    by (Order.Kill s) n q = on (is_open s old) q
      where
        on : (b : Bool) → cond b (play_one (λ e. is_kill s e.act) old (w.added ++ [])) (Some (old, w.added ++ [])) ≡ Some (new, []) → AreNamed old new
        on true x = one_named (λ e. is_kill s e.act) old (w.added ++ []) new (λ e t. kill_names s e.session e.act t) x
        on false x = same_named old new (w.added ++ []) x
    by (Order.Evict k) n q = one_named (λ e. is_evict k e.act) old (w.added ++ []) new (λ e t. evict_names k e.session e.act n t) q
    by Order.Restart n q = one_named (λ e. is_restart e.act) old (w.added ++ []) new (λ e t. restart_names e.session e.act t) q

-- by what a call of the factory says of itself
pub outside_named : (script : Script) (o : Order) (old new : FactoryState) (r : Result ⊤ AllocError) → Names o → OnOk r (Leads (play_order script o) played (past old.journal) (past new.journal)) →
    OnErr r (new.deaf ≡ old.deaf → past new.journal ≡ past old.journal) →
    OnErr r (old.deaf ≡ false → new.deaf ≡ true → Leads (play_order script o) played (past old.journal) (past new.journal)) → (old.deaf ≡ true → new ≡ old) →
    AreNamed (past old.journal) (past new.journal)
outside_named script o old new (Ok u) n p s w d = order_named script o (past old.journal) (past new.journal) n p
outside_named script o old new (Err x) n p s w d = by (tested old.deaf) (tested new.deaf)
  where
    stays : past new.journal ≡ past old.journal → AreNamed (past old.journal) (past new.journal)
    stays e m = subst (λ j. name_identifiers j ≡ true) (sym e) m

    by : Tested old.deaf → Tested new.deaf → AreNamed (past old.journal) (past new.journal)
    by (inl t) _ = stays (ap (λ (f : FactoryState). past f.journal) (d t))
    by (inr t) (inl u) = order_named script o (past old.journal) (past new.journal) n (w t u)
    by (inr t) (inr u) = stays (s (u ∙ sym t))
