-- A hit of a query lists what the query gave at its moment, and each commit since then on its tables is unstamped.
use Rattle.std.specs.Prelude.{unwrap_or, option_map}
use Rattle.std.specs.Option.{option_map_or}
use Rattle.std.proofs.Common.{◌≡◌, ℕ, ◌<◌, ◌≤◌, ◌⊎◌, inl, inr, Bool, true, false, cond, not, ◌&&◌, ◌==◌, nat_lt, List, [], ◌∷◌, length, slice_get, Some, None, Option, refl, ap, sym, ◌∙◌, subst, arith, eq-eqb}
use Rattle.std.proofs.lemmas.Bool.{true≢false, false≢true, and_parts, or_right, eqb-true, ltb-true}
use Rattle.std.specs.List.{list_any, filter}
use Rattle.hib_journal.specs.Types.{Cell, Change, Commit, Query, Checked, Script, Act, Reply, Entry}
use Rattle.hib_base.specs.Tables.{Tables}
use Rattle.hib_journal.specs.Sessions.{Journal, is_by, is_session, own, changes, changes_in, is_open, is_restart, is_begun, was_killed, committed, committer, views, time, time_in, last_tick}
use Rattle.hib_journal.specs.Stamps.{stamp, names, check, check_one}
use Rattle.hib_journal.specs.Results.{Result, others, result, last_kept, kept_after}
use Rattle.hib_journal.specs.Query
use Rattle.hib_journal.specs.Next.{tables_in, tables_of, is_in_tables}
use Rattle.hib_journal.specs.Legal.{IsLegal, IsStep, IsReply, reply_of, fault_of, is_outside}
use Rattle.hib_journal.specs.Sound.{commits, unstamped, with_commit, stamped_by, up_to, kept_moment, moment, keeps_by}
use Rattle.hib_journal.specs.Query.{gives}
use Rattle.hib_law.specs.Prefixes.{AtEachEntry}
use Rattle.hib_base.specs.Scripts.{is_declared}
use Rattle.hib_law.specs.Hits.{IsHitTrue, AreHitsTrue}
use Rattle.hib_base.proofs.Tables.{Tested, tested}
use Rattle.hib_journal.proofs.Sessions.{by, is_some_session, time_le_tick}
use Rattle.hib_law.proofs.Guarded.{In}
use Rattle.hib_law.proofs.Coherent.{ordered}
use Rattle.hib_journal.proofs.Open.{begun_open}
use Rattle.hib_law.specs.Standing.{AreResultsTrue}
use Rattle.hib_law.proofs.Stamped.{IsAtLeast, stamp_last, stamp_kept}
use Rattle.hib_law.proofs.Orderly.{Doer, doer}
use Rattle.hib_law.proofs.QueryRules.{owed, owed_by, MayKeep, MayCheck, AllowedQuery, allowed_query}
use Rattle.hib_journal.proofs.Untouched.{touches, gives_same}
use Rattle.hib_law.proofs.Given.{untouched, touched_one, in_tables, in_changed, declared_reads}
use Rattle.hib_law.proofs.Basics.{none_some, some_same}
use Rattle.hib_law.proofs.Past.{later_in_session, nil_cons, IsPast, past_refl, past_step, past_trans, legal_past, past_tick, at_each_since, up_own}

-- an entry stands in a list of sessions and ticks
abbrev is_listed : Entry → List (ℕ × ℕ) → Bool
is_listed c us = list_any (λ u. is_session u.0 c.session && (u.1 == c.tick)) us

-- the last Keep of a query
pub up_keep : (q t : ℕ) (l : List Cell) (h : Journal) → last_kept q h ≡ Some (t, l) →
    (d : Entry) × (g : Journal) × (up_to (λ x. keeps_by q x.act) h ≡ d ∷ g) × (d.act ≡ Act.Keep q t l) × IsPast (d ∷ g) h
up_keep q t l [] e = none_some e
up_keep q t l (d ∷ h) e = by_act d.act refl e (up_keep q t l h)
  where
    on : is_restart d.act ≡ false → keeps_by q d.act ≡ false → ((c : Entry) × (g : Journal) × (up_to (λ x. keeps_by q x.act) h ≡ c ∷ g) × (c.act ≡ Act.Keep q t l) × IsPast (c ∷ g) h) →
        (c : Entry) × (g : Journal) × (up_to (λ x. keeps_by q x.act) (d ∷ h) ≡ c ∷ g) × (c.act ≡ Act.Keep q t l) × IsPast (c ∷ g) (d ∷ h)
    on n k i = (i.0, i.1, rw k (i.2), i.3, inr (n, i.4))

    keep_is : (p : ℕ) (u : ℕ) (x : List Cell) → d.act ≡ Act.Keep p u x → Tested (p == q) → cond (p == q) (Some (u, x)) (last_kept q h) ≡ Some (t, l) →
        (last_kept q h ≡ Some (t, l) → (c : Entry) × (g : Journal) × (up_to (λ x. keeps_by q x.act) h ≡ c ∷ g) × (c.act ≡ Act.Keep q t l) × IsPast (c ∷ g) h) →
        (c : Entry) × (g : Journal) × (up_to (λ x. keeps_by q x.act) (d ∷ h) ≡ c ∷ g) × (c.act ≡ Act.Keep q t l) × IsPast (c ∷ g) (d ∷ h)
    keep_is p u x y (inl z) e i =
        let g : Some (u, x) ≡ Some (t, l) = rw z at e in
        let f : (u, x) ≡ (t, l) = some_same g in
        let a : u ≡ t = ap (λ w. w.0) f in
        let b : x ≡ l = ap (λ w. w.1) f in
        let c : p ≡ q = eqb-true p q z in
        (d, h, rw (y, z) refl, y ∙ (ap (λ w. Act.Keep w u x) c ∙ (ap (λ w. Act.Keep q w x) a ∙ ap (λ w. Act.Keep q t w) b)), inl refl)
    keep_is p u x y (inr z) e i = let g : last_kept q h ≡ Some (t, l) = rw z at e in on (rw y refl) (rw (y, z) refl) (i g)

    by_act : (a : Act) → d.act ≡ a → kept_after q a (last_kept q h) ≡ Some (t, l) →
        (last_kept q h ≡ Some (t, l) → (c : Entry) × (g : Journal) × (up_to (λ x. keeps_by q x.act) h ≡ c ∷ g) × (c.act ≡ Act.Keep q t l) × IsPast (c ∷ g) h) →
        (c : Entry) × (g : Journal) × (up_to (λ x. keeps_by q x.act) (d ∷ h) ≡ c ∷ g) × (c.act ≡ Act.Keep q t l) × IsPast (c ∷ g) (d ∷ h)
    by_act (Act.Keep p u x) y e i = keep_is p u x y (tested (p == q)) e i
    by_act Act.Restart y e i = none_some e
    by_act _ y e i = on (rw y refl) (rw y refl) (i e)

-- a stamp below a time

abbrev IsBelow : ℕ → Option ℕ → Type 0
IsBelow time None = Unit {0}
IsBelow time (Some v) = v < time

fresh_below : (timeout time n : ℕ) (ts : List ℕ) (h : Journal) → In n ts → check timeout time ts h ≡ Checked.Fresh → IsBelow time (stamp timeout n h)
fresh_below timeout time n [] h i e = absurd i
fresh_below timeout time n (t ∷ ts) h i e = by_place i (stamp timeout t h) refl e (λ j r. fresh_below timeout time n ts h j r)
  where
    stale : {u v : ℕ} → Checked.Stale u v ≡ Checked.Fresh → ⊥
    stale p = cc

    parts : (o : Option ℕ) (rest : Checked) → check_one time t o rest ≡ Checked.Fresh → IsBelow time o × (rest ≡ Checked.Fresh)
    parts None rest e = (tt, e)
    parts (Some v) rest e = by_test (tested (nat_lt v time)) e
      where
        by_test : Tested (nat_lt v time) → cond (nat_lt v time) rest (Checked.Stale t v) ≡ Checked.Fresh → (v < time) × (rest ≡ Checked.Fresh)
        by_test (inl p) e = (ltb-true v time p, rw p at e)
        by_test (inr p) e = let g : Checked.Stale t v ≡ Checked.Fresh = rw p at e in absurd (stale g)

    by_place : In n (t ∷ ts) → (o : Option ℕ) → stamp timeout t h ≡ o → check timeout time (t ∷ ts) h ≡ Checked.Fresh →
        (In n ts → check timeout time ts h ≡ Checked.Fresh → IsBelow time (stamp timeout n h)) → IsBelow time (stamp timeout n h)
    by_place (inl q) o p e f = subst (λ y. IsBelow time (stamp timeout y h)) q (parts (stamp timeout t h) (check timeout time ts h) e).0
    by_place (inr j) o p e f = f j (parts (stamp timeout t h) (check timeout time ts h) e).1

-- unstamped entries, over one more

any_filter : (T p : ℕ × ℕ → Bool) (us : List (ℕ × ℕ)) → ((u : ℕ × ℕ) → T u ≡ true → p u ≡ true) → list_any T us ≡ true → list_any T (filter p us) ≡ true
any_filter T p [] f e = e
any_filter T p (u ∷ us) f e = by_test (tested (T u)) (tested (p u)) e (any_filter T p us f)
  where
    by_test : Tested (T u) → Tested (p u) → list_any T (u ∷ us) ≡ true → (list_any T us ≡ true → list_any T (filter p us) ≡ true) → list_any T (filter p (u ∷ us)) ≡ true
    by_test (inl x) (inl y) e i = rw (y, x) refl
    by_test (inl x) (inr y) e i = absurd (true≢false (sym (f u x) ∙ y))
    by_test (inr x) (inl y) e i = let g : list_any T us ≡ true = rw x at e in rw (y, x) (i g)
    by_test (inr x) (inr y) e i = let g : list_any T us ≡ true = rw x at e in rw y (i g)

with_kept : (T : ℕ × ℕ → Bool) (b : Bool) (o : Option ℕ) (now : ℕ) (us : List (ℕ × ℕ)) → list_any T us ≡ true → list_any T (with_commit b o now us) ≡ true
with_kept T true (Some s) now us e = or_right (T (s, now)) (list_any T us) e
with_kept T true None now us e = e
with_kept T false o now us e = e

pub data Pays (script : Script) (a : Act) (r : Reply) : Type 0 where
  Anew : a ≡ Act.Begin → Pays script a r
  Commits : a ≡ Act.Commit → Pays script a r
  Stamps : (ts : List ℕ) → a ≡ Act.Stamp ts → Pays script a r
  Not : ((cs : List Change) (ts : List ℕ) → owed_by script cs a r ts ≡ ts) → ((o : Option ℕ) (us : List (ℕ × ℕ)) → stamped_by a o us ≡ us) → Pays script a r

pays : (script : Script) (a : Act) (r : Reply) → Pays script a r
pays script Act.Begin r = Pays.Anew refl
pays script Act.Commit r = Pays.Commits refl
pays script (Act.Stamp ts) r = Pays.Stamps ts refl
pays script _ r = Pays.Not (λ cs ts. refl) (λ o us. refl)

in_names : (n : ℕ) (ts : List ℕ) → In n ts → names n ts ≡ true
in_names n [] i = absurd i
in_names n (t ∷ ts) (inl q) = rw (eq-eqb t n q) refl
in_names n (t ∷ ts) (inr j) = or_right (t == n) (names n ts) (in_names n ts j)

in_none : {P : Type 0} (n : ℕ) (ts : List ℕ) → ts ≡ [] → In n ts → P
in_none n [] e i = absurd i
in_none n (t ∷ ts) e i = absurd (no e)
  where
    no : t ∷ ts ≡ [] → ⊥
    no e = cc

module _ (script : Script) (start : Tables) (ts : List ℕ) (c : Entry) (g : Journal) (u n : ℕ) where
  abbrev Test : ℕ × ℕ → Bool
  Test x = is_session x.0 c.session && (x.1 == c.tick)

  -- since its commit the entry is unstamped, and its session owes the table; or the table's stamp is as late
  abbrev IsOut : Journal → Type 0
  IsOut h = (list_any Test (unstamped ts h) ≡ true) × In n (owed script (own u h))

  abbrev State : Journal → Type 0
  State h = IsOut h ⊎ IsAtLeast c.tick (stamp script.timeout n h)

  out_step : c.session ≡ Some u → (h : Journal) (e : Entry) → IsLegal script (Some start) h → IsStep script (Some start) h e → c.tick ≤ e.tick → IsOut h → State (e ∷ h)
  out_step cu h e l t k o = by_session (tested (is_by u e))
    where
      not_other : (a b : ℕ) → (a == u) ≡ false → (u == a) ≡ false
      not_other a b e = by_test (tested (u == a))
        where
          by_test : Tested (u == a) → (u == a) ≡ false
          by_test (inl p) = absurd (true≢false (sym (eq-eqb a u (sym (eqb-true u a p))) ∙ e))
          by_test (inr p) = p

      is_u : (x : ℕ × ℕ) → Test x ≡ true → u ≡ x.0
      is_u x p =
          let q : is_session x.0 c.session ≡ true = (and_parts (is_session x.0 c.session) (x.1 == c.tick) p).0 in
          some_same (sym cu ∙ is_some_session x.0 c.session q)

      others : (s : ℕ) → (s == u) ≡ false → (x : ℕ × ℕ) → Test x ≡ true → not (x.0 == s) ≡ true
      others s d x p = rw (← (is_u x p), not_other s s d) refl

      stamped_other : (a : Act) (s : Option ℕ) → is_session u s ≡ false → list_any Test (unstamped ts h) ≡ true → list_any Test (stamped_by a s (unstamped ts h)) ≡ true
      stamped_other (Act.Stamp us) (Some s) d x = any_filter Test (λ y. not (y.0 == s)) (unstamped ts h) (others s d) x
      stamped_other (Act.Stamp us) None d x = x
      stamped_other _ s d x = x

      with_e : list_any Test (stamped_by e.act e.session (unstamped ts h)) ≡ true → list_any Test (unstamped ts (e ∷ h)) ≡ true
      with_e x = with_kept Test (commits (λ d. is_in_tables ts (d ∷ [])) h e) e.session e.tick (stamped_by e.act e.session (unstamped ts h)) x

      mine : is_by u e ≡ true → AllowedQuery script (own u h) e.act → Pays script e.act e.reply → State (e ∷ h)
      mine p w (Pays.Anew x) =
          let y : owed script (own u h) ≡ [] = subst (λ a. AllowedQuery script (own u h) a) x w in in_none n (owed script (own u h)) y o.1
      mine p w (Pays.Commits x) =
          let y : owed script (own u h) ≡ [] = subst (λ a. AllowedQuery script (own u h) a) x w in in_none n (owed script (own u h)) y o.1
      mine p w (Pays.Stamps us x) =
          let y : (owed script (own u h) ≡ []) ⊎ (owed script (own u h) ≡ us) = subst (λ a. AllowedQuery script (own u h) a) x w in
          elim y [
            | inl z ↦ in_none n (owed script (own u h)) z o.1
            | inr z ↦
                let i : In n us = subst (λ v. In n v) z o.1 in
                inr (at_least (stamp script.timeout n (e ∷ h)) (stamp_last script.timeout n e h (rw x (in_names n us i))))
          ]
        where
          at_least : (v : Option ℕ) → IsAtLeast e.tick v → IsAtLeast c.tick v
          at_least None a = a
          at_least (Some v) a = omega arith
      mine p w (Pays.Not x y) =
          inl (with_e (rw (y e.session (unstamped ts h)) (o.0)), rw p (subst (λ v. In n v) (sym (x (changes_in (own u h)) (owed script (own u h)))) o.1))

      by_session : Tested (is_by u e) → State (e ∷ h)
      by_session (inr p) = inl (with_e (stamped_other e.act e.session p o.0), rw p (o.1))
      by_session (inl p) = mine p (allowed_query script start u h e l t p) (pays script e.act e.reply)

  along : c.session ≡ Some u → State (c ∷ g) → (h : Journal) → IsLegal script (Some start) h → IsPast (c ∷ g) h → State h
  along cu z [] l p = nil_cons (sym p)
  along cu z (e ∷ h) l (inl q) = subst (λ y. State y) q z
  along cu z (e ∷ h) l (inr q) = by_state (along cu z h l.0 q.1)
    where
      late : c.tick ≤ e.tick
      late =
          let a : c.tick ≤ last_tick (λ d. true) h = past_tick c g h (ordered script start h l.0) q.1 in
          let b : last_tick (λ d. true) h ≤ e.tick = l.1.tick.ordered in omega arith

      no_restart : e.act ≡ Act.Restart → ⊥
      no_restart r = let x : true ≡ false = rw r at q.0 in true≢false x

      by_state : State h → State (e ∷ h)
      by_state (inl o) = out_step cu h e l.0 l.1 late o
      by_state (inr o) = inr (stamp_kept script.timeout n c.tick e h late o no_restart)

is_committed_by : (a : Act) (r : Reply) (o : Option ℕ) (u : ℕ) → committer a r o ≡ Some u → (a ≡ Act.Commit) × (r ≡ Reply.Commit Commit.Committed) × (o ≡ Some u)
is_committed_by Act.Commit (Reply.Commit Commit.Committed) o u e = (refl, refl, e)
is_committed_by _ _ o u e = none_some e

module _ (script : Script) (start : Tables) where
  -- a commit since time on one of these tables, if they are fresh, is unstamped
  since_fresh : (q time : ℕ) (c : Entry) (g h : Journal) → IsLegal script (Some start) h → IsPast (c ∷ g) h → time < c.tick →
      check script.timeout time (tables_of script q) h ≡ Checked.Fresh → commits (λ x. is_in_tables (tables_of script q) (x ∷ [])) g c ≡ true →
      is_listed c (unstamped (tables_of script q) h) ≡ true
  since_fresh q time c g h l p k f m = by_committer (committer c.act c.reply c.session) refl m
    where
      ts : List ℕ
      ts = tables_of script q

      by_committer : (o : Option ℕ) → committer c.act c.reply c.session ≡ o → option_map_or (λ s. list_any (λ x. is_in_tables (tables_of script q) (x ∷ [])) (changes s g)) o false ≡ true →
          is_listed c (unstamped (tables_of script q) h) ≡ true
      by_committer None e m = absurd (false≢true m)
      by_committer (Some u) e m =
          let b : (c.act ≡ Act.Commit) × (c.reply ≡ Reply.Commit Commit.Committed) × (c.session ≡ Some u) = is_committed_by c.act c.reply c.session u e in
          let t : (n : ℕ) × In n (tables_of script q) × (touches n (changes u g) ≡ true) = touched_one (tables_of script q) (changes u g) m in
          let i : In t.0 (tables_in script (changes u g)) = in_changed script t.0 (slice_get script.queries q) (changes u g) t.1 t.2 in
          let mine : is_by u c ≡ true = rw b.2 (eq-eqb u u refl) in
          let o : In t.0 (owed script (own u (c ∷ g))) = rw (mine, b.0, b.1) i in
          let x : list_any (Test script start (tables_of script q) c g u t.0) (unstamped (tables_of script q) (c ∷ g)) ≡ true = first u e b.2 m in
          by_state u t.0 t.1 (along script start (tables_of script q) c g u t.0 b.2 (inl (x, o)) h l p)
        where
          first : (u : ℕ) → committer c.act c.reply c.session ≡ Some u → c.session ≡ Some u →
              option_map_or (λ s. list_any (λ x. is_in_tables (tables_of script q) (x ∷ [])) (changes s g)) (Some u) false ≡ true →
              list_any (λ x. is_session x.0 c.session && (x.1 == c.tick)) (unstamped (tables_of script q) (c ∷ g)) ≡ true
          first u e s m =
              let d : commits (λ x. is_in_tables (tables_of script q) (x ∷ [])) g c ≡ true = rw e (m) in
              rw (d, s, eq-eqb u u refl, eq-eqb c.tick c.tick refl) refl

          by_state : (u n : ℕ) → In n (tables_of script q) → State script start (tables_of script q) c g u n h → is_listed c (unstamped (tables_of script q) h) ≡ true
          by_state u n i (inl o) = o.0
          by_state u n i (inr o) = absurd (too_late (stamp script.timeout n h) o (fresh_below script.timeout time n (tables_of script q) h i f))
            where
              too_late : (v : Option ℕ) → IsAtLeast c.tick v → IsBelow time v → ⊥
              too_late None a b = a
              too_late (Some v) a b = omega arith

  -- what is answered

  look_says : (h : Journal) (e : Entry) (q t : ℕ) (l : List Cell) → IsReply script (Some start) h e → e.act ≡ Act.Look q → e.reply ≡ Reply.Found t l → last_kept q h ≡ Some (t, l)
  unfolding result
  look_says h e q t l r p d = elim r [
    | inl x ↦
        let g : e.reply ≡ option_map_or (λ r. Reply.Found r.0 r.1) (result script.results q h) Reply.Absent = subst (λ a. e.reply ≡ reply_of script start h (unwrap_or e.session 0) e.tick a) p x in
        kept_by (nat_lt (length (others q h)) script.results) (last_kept q h) (sym g ∙ d)
    | inr f ↦
        let g : fault_of (changes (unwrap_or e.session 0) h) (Act.Look q) ≡ Some e.reply = subst (λ a. fault_of (changes (unwrap_or e.session 0) h) a ≡ Some e.reply) p f in
        none_some g
  ]
    where
      by_result : (o : Option Result) → option_map_or (λ r. Reply.Found r.0 r.1) o Reply.Absent ≡ Reply.Found t l → o ≡ Some (t, l)
      by_result None e = absurd (cc)
      by_result (Some x) e = let a : x.0 ≡ t = cc in let b : x.1 ≡ l = cc in ap Some (λ i. (a i, b i))

      kept_by : (b : Bool) (o : Option Result) → option_map_or (λ r. Reply.Found r.0 r.1) (cond b o None) Reply.Absent ≡ Reply.Found t l → o ≡ Some (t, l)
      kept_by true o e = by_result o e
      kept_by false o e = absurd (cc)

  list_says : (h : Journal) (e : Entry) (q s : ℕ) (l : List Cell) (d : Query) → IsReply script (Some start) h e → e.session ≡ Some s → e.act ≡ Act.List q → e.reply ≡ Reply.Listed l →
      slice_get script.queries q ≡ Some d → l ≡ Query.gives d (views start h s)
  list_says h e q s l d r w p x y = elim r [
    | inl z ↦
        let g : e.reply ≡ option_map_or (λ d. Reply.Listed (gives d (views start h (unwrap_or e.session 0)))) (slice_get script.queries q) Reply.Fault = subst (λ a. e.reply ≡ reply_of script start h (unwrap_or e.session 0) e.tick a) p z in
        let f : Reply.Listed l ≡ Reply.Listed (Query.gives d (views start h s)) =
        sym x ∙ (g ∙ (ap (λ o. option_map_or (λ d. Reply.Listed (gives d (views start h (unwrap_or e.session 0)))) o Reply.Fault) y ∙ ap (λ o. Reply.Listed (Query.gives d (views start h (unwrap_or o 0)))) w)) in cc
    | inr f ↦
        let g : Some Reply.Fault ≡ Some e.reply = subst (λ a. fault_of (changes (unwrap_or e.session 0) h) a ≡ Some e.reply) p f in
        let k : Reply.Fault ≡ Reply.Listed l = some_same g ∙ x in absurd (cc)
  ]

  check_says : (h : Journal) (e : Entry) (q t : ℕ) → IsReply script (Some start) h e → e.act ≡ Act.Check q t → e.reply ≡ Reply.Check Checked.Fresh →
      check script.timeout t (tables_of script q) h ≡ Checked.Fresh
  check_says h e q t r p d = elim r [
    | inl x ↦
        let g : e.reply ≡ Reply.Check (check script.timeout t (tables_of script q) h) = subst (λ a. e.reply ≡ reply_of script start h (unwrap_or e.session 0) e.tick a) p x in
        same (sym g ∙ d)
    | inr f ↦
        let g : fault_of (changes (unwrap_or e.session 0) h) (Act.Check q t) ≡ Some e.reply = subst (λ a. fault_of (changes (unwrap_or e.session 0) h) a ≡ Some e.reply) p f in
        none_some g
  ]
    where
      same : {a b : Checked} → Reply.Check a ≡ Reply.Check b → a ≡ b
      same e = cc

  -- the List before a Keep
  pub record IsKeptFrom (d : Entry) (g : Journal) (q t : ℕ) (l : List Cell) : Type 0 where
    pub entry : Entry
    pub journal : Journal
    pub session : ℕ
    pub by_keep : d.session ≡ Some session
    pub by_list : entry.session ≡ Some session
    pub act : entry.act ≡ Act.List q
    pub reply : entry.reply ≡ Reply.Listed l
    pub up : up_to (is_by session) g ≡ entry ∷ journal
    pub past : IsPast (entry ∷ journal) g
    pub clear : is_in_tables (tables_of script q) (changes session journal) ≡ false
    pub early : t < entry.tick

  keep_from : (g : Journal) (d : Entry) (q t : ℕ) (l : List Cell) → IsLegal script (Some start) g → IsStep script (Some start) g d → d.act ≡ Act.Keep q t l → IsKeptFrom d g q t l
  keep_from g d q t l lg st a = by_doer (doer script start g d st)
    where
      outside_not : is_outside d.act ≡ true → ⊥
      outside_not x = let y : false ≡ true = rw a at x in false≢true y

      by_own : (s : ℕ) → d.session ≡ Some s → was_killed s g ≡ false → (m : Journal) → own s g ≡ m → MayKeep script m q t l → IsKeptFrom d g q t l
      by_own s c w [] o x = absurd x
      by_own s c w (v ∷ m) o x =
          let b : is_begun (own s g) ≡ true = rw (o, x.0) (x.4) in
          let z : is_open s g ≡ true = begun_open s g w ∙ b in
          let u : (f : Journal) × (up_to (is_by s) g ≡ v ∷ f) × (own s f ≡ m) × IsPast (v ∷ f) g × (is_by s v ≡ true) = up_own s v m g z o in
          let lv : IsLegal script (Some start) (v ∷ u.0) = legal_past script start (v ∷ u.0) g u.3 lg in
          let r1 : last_tick (by s) u.0 < v.tick = later_in_session s v u.0 lv.1.tick u.4 in
          let r2 : time s u.0 ≤ last_tick (by s) u.0 = time_le_tick s u.0 (ordered script start u.0 lv.0) in
          let r3 : t ≡ time s u.0 = x.2 ∙ ap time_in (sym u.2) in
          record {
            entry = v;
            journal = u.0;
            session = s;
            by_keep = c;
            by_list = is_some_session s v.session u.4;
            act = x.0;
            reply = x.1;
            up = u.1;
            past = u.3;
            clear = subst (λ y. is_in_tables (tables_of script q) (changes_in y) ≡ false) (sym u.2) x.3;
            early = omega arith;
          }

      by_doer : Doer script g d → IsKeptFrom d g q t l
      by_doer (Doer.Outside x y) = absurd (outside_not y)
      by_doer (Doer.Session s c b w) = by_own s c w (own s g) refl (subst (λ z. AllowedQuery script (own s g) z) a (allowed_query script start s g d lg st b))

  -- its list is what the query gave over the committed rows
  list_given : (d : Entry) (g : Journal) (q t : ℕ) (l : List Cell) (f : IsKeptFrom d g q t l) → IsStep script (Some start) f.journal f.entry →
      (qd : Query) → slice_get script.queries q ≡ Some qd → is_declared script qd ≡ true → l ≡ Query.gives qd (committed start (f.entry ∷ f.journal))
  list_given d g q t l f sv qd y z =
      let a1 : l ≡ Query.gives qd (views start f.journal f.session) = list_says f.journal f.entry q f.session l qd sv.reply f.by_list f.act f.reply y in
      let a2 : Query.gives qd (views start f.journal f.session) ≡ Query.gives qd (committed start f.journal) =
      gives_same qd (changes f.session f.journal) (committed start f.journal) (λ n i. untouched n (tables_of script q) (changes f.session f.journal) (in_here n i) f.clear) in
      let a3 : committed start (f.entry ∷ f.journal) ≡ committed start f.journal = rw f.act refl in
      a1 ∙ (a2 ∙ ap (λ w. Query.gives qd w) (sym a3))
    where
      in_here : (n : ℕ) → Query.reads qd n ≡ true → In n (tables_of script q)
      in_here n i = rw y (in_tables n (length script.mapping) qd i (declared_reads script qd n z i))

  -- a Check that is answered Fresh is a true hit
  pub hit_true : (h : Journal) (e : Entry) (s q t : ℕ) → IsLegal script (Some start) h → IsStep script (Some start) h e → e.session ≡ Some s → e.act ≡ Act.Check q t →
      e.reply ≡ Reply.Check Checked.Fresh → IsHitTrue script start s q t h
  hit_true h e s q t l st c a r = by_doer (doer script start h e st)
    where
      outside_not : is_outside e.act ≡ true → ⊥
      outside_not x = let y : false ≡ true = rw a at x in false≢true y

      not_restart : (d : Entry) (x : Act) → d.act ≡ x → is_restart x ≡ false → is_restart d.act ≡ false
      not_restart d x p n = rw p n

      from_keep : (w : Entry) (g1 : Journal) (x : List Cell) → option_map (λ e. e.reply) (slice_get (own s h) 0) ≡ Some (Reply.Found t x) → up_to (is_by s) h ≡ w ∷ g1 → IsPast g1 h →
          (d : Entry) (g2 : Journal) → up_to (λ x. keeps_by q x.act) g1 ≡ d ∷ g2 → d.act ≡ Act.Keep q t x → IsPast (d ∷ g2) g1 → IsKeptFrom d g2 q t x → IsHitTrue script start s q t h
      from_keep w g1 x fo u1 p1 d g2 u2 k p2 f =
          let lv : IsLegal script (Some start) (f.entry ∷ f.journal) = legal_past script start (f.entry ∷ f.journal) h whole l in
          record {
            list = x;
            found = fo;
            listed = (f.entry, f.journal, mo, f.act, f.reply);
            given = λ qd y z. list_given d g2 q t x f lv.1 qd y z ∙ ap (λ w. Query.gives qd (committed start w)) (sym mo);
            since = subst (λ m. AtEachEntry (λ g c. length m ≤ length g → commits (λ y. is_in_tables (tables_of script q) (y ∷ [])) g c ≡ true →
                is_listed c (unstamped (tables_of script q) h) ≡ true) h) (sym mo)
                (at_each_since (λ g c. commits (λ y. is_in_tables (tables_of script q) (y ∷ [])) g c ≡ true → is_listed c (unstamped (tables_of script q) h) ≡ true)
                h (f.entry ∷ f.journal) h (past_refl h) whole later);
          }
        where
          n2 : is_restart d.act ≡ false
          n2 = not_restart d (Act.Keep q t x) k refl

          whole : IsPast (f.entry ∷ f.journal) h
          whole = past_trans (f.entry ∷ f.journal) g1 h (past_trans (f.entry ∷ f.journal) g2 g1 f.past (past_step d g2 g1 n2 p2)) p1

          mo : moment s q h ≡ f.entry ∷ f.journal
          mo = rw (u1, u2, f.by_keep) (f.up)

          later : (c : Entry) (g : Journal) → IsPast (f.entry ∷ f.journal) g → IsPast (c ∷ g) h →
              commits (λ y. is_in_tables (tables_of script q) (y ∷ [])) g c ≡ true → is_listed c (unstamped (tables_of script q) h) ≡ true
          later c g p w m =
              let lc : IsLegal script (Some start) (c ∷ g) = legal_past script start (c ∷ g) h w l in
              let a1 : f.entry.tick ≤ last_tick (λ d. true) g = past_tick f.entry f.journal g (ordered script start g lc.0) p in
              let a2 : last_tick (λ d. true) g ≤ c.tick = lc.1.tick.ordered in
              let a3 : t < f.entry.tick = f.early in
              since_fresh q t c g h l w (omega arith) (check_says h e q t st.reply a r) m

      by_own : was_killed s h ≡ false → (m : Journal) → own s h ≡ m → MayCheck m q t → IsHitTrue script start s q t h
      by_own k [] o x = absurd x
      by_own k (w ∷ m) o x =
          let b : is_begun (own s h) ≡ true = rw (o, x.0) (x.2) in
          let z : is_open s h ≡ true = begun_open s h k ∙ b in
          let u : (f : Journal) × (up_to (is_by s) h ≡ w ∷ f) × (own s f ≡ m) × IsPast (w ∷ f) h × (is_by s w ≡ true) = up_own s w m h z o in
          let lw : IsLegal script (Some start) (w ∷ u.0) = legal_past script start (w ∷ u.0) h u.3 l in
          let kept : last_kept q u.0 ≡ Some (t, x.1.0) = look_says u.0 w q t x.1.0 lw.1.reply x.0 x.1.1 in
          let v : (d : Entry) × (f : Journal) × (up_to (λ x. keeps_by q x.act) u.0 ≡ d ∷ f) × (d.act ≡ Act.Keep q t x.1.0) × IsPast (d ∷ f) u.0 = up_keep q t x.1.0 u.0 kept in
          let ld : IsLegal script (Some start) (v.0 ∷ v.1) = legal_past script start (v.0 ∷ v.1) u.0 v.4 lw.0 in
          from_keep w u.0 x.1.0 (rw o (ap (λ r. Some r) x.1.1)) u.1 (past_step w u.0 h (not_restart w (Act.Look q) x.0 refl) u.3) v.0 v.1 v.2 v.3 v.4
          (keep_from v.1 v.0 q t x.1.0 ld.0 ld.1 v.3)

      by_doer : Doer script h e → IsHitTrue script start s q t h
      by_doer (Doer.Outside x y) = absurd (outside_not y)
      by_doer (Doer.Session p x b w) =
          let i : p ≡ s = some_same (sym x ∙ c) in
          let b2 : is_by s e ≡ true = subst (λ z. is_by z e ≡ true) i b in
          by_own (subst (λ z. was_killed z h ≡ false) i w) (own s h) refl
          (subst (λ z. AllowedQuery script (own s h) z) a (allowed_query script start s h e l st b2))

  pub hits_true : (h : Journal) → IsLegal script (Some start) h → AreHitsTrue script start h
  hits_true [] l = tt
  hits_true (e ∷ h) l = ((λ s q t c a r. hit_true h e s q t l.0 l.1 c a r), hits_true h l.0)

  -- a result that is kept is what its List has answered
  pub results_true : (h : Journal) → IsLegal script (Some start) h → AreResultsTrue script start h
  results_true h lg q t l p =
      let v : (d : Entry) × (g : Journal) × (up_to (λ x. keeps_by q x.act) h ≡ d ∷ g) × (d.act ≡ Act.Keep q t l) × IsPast (d ∷ g) h = up_keep q t l h p in
      let ld : IsLegal script (Some start) (v.0 ∷ v.1) = legal_past script start (v.0 ∷ v.1) h v.4 lg in
      let f : IsKeptFrom v.0 v.1 q t l = keep_from v.1 v.0 q t l ld.0 ld.1 v.3 in
      let lv : IsLegal script (Some start) (f.entry ∷ f.journal) = legal_past script start (f.entry ∷ f.journal) v.1 f.past ld.0 in
      let mo : kept_moment q h ≡ f.entry ∷ f.journal = rw (v.2, f.by_keep) (f.up) in
      record {
        listed = (f.entry, f.journal, mo, f.act, f.reply, f.early);
        given = λ qd y z. list_given v.0 v.1 q t l f lv.1 qd y z ∙ ap (λ w. Query.gives qd (committed start w)) (sym mo);
      }
