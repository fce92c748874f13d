-- What is legal by parts and by sessions is legal, and the other way round.
use Rattle.std.specs.Prelude.{unwrap_or, option_map}
use Rattle.std.proofs.Common.{◌≡◌, ◌<◌, ◌≤◌, ℕ, Bool, true, false, cond, ◌||◌, [], ◌∷◌, Some, None, Option, IsSome, refl, sym, ap, ◌∙◌, subst, eq-eqb, arith}
use Rattle.std.proofs.lemmas.Bool.{true≢false, false≢true, eqb-true}
use Rattle.hib_base.specs.Tables.{Tables}
use Rattle.hib_journal.specs.Types.{Script, Part, Act, Entry}
use Rattle.hib_journal.specs.Sessions.{Journal, own, is_by, is_session, is_open, was_killed, killed_by, changes, deferred, same_part, same_session, last_tick, IsTimely}
use Rattle.hib_journal.specs.Plan.{InOrder}
use Rattle.hib_journal.specs.Next.{plan_of, next, is_cached}
use Rattle.hib_journal.specs.Legal.{part_of, is_outside, due, due_by, may_come, IsReply, IsStep, IsLegal}
use Rattle.hib_journal.proofs.Sessions.{own_self, is_some_session}
use Rattle.hib_journal.proofs.Steps.{next_is, next_act, steps_in_order}
use Rattle.hib_journal.specs.Due.{asks_store, IsAllowed}
use Rattle.hib_journal.specs.Lists.{of_part, stops, seen_by, unsaved, IsStoreReply}
use Rattle.hib_journal.proofs.Due.{allowed_due}
use Rattle.hib_split_law.specs.Apart.{is_of_session, IsPartStep, IsPartLegal, IsOwnStep, IsOwnLegal, HaveSessions, AreLater, is_own}
use Rattle.hib_split_law.proofs.Local.{Fits, AllFit}
use Rattle.hib_split_law.proofs.Replies.{reply_in, reply_out, mine_in, mine_out}
use Rattle.hib_split_law.proofs.Unsaved.{unsaved_step, unsaved_legal}

pub by_self : (e : Entry) (s : ℕ) → e.session ≡ Some s → is_by s e ≡ true
by_self e s q = ap (is_session s) q ∙ eq-eqb s s refl

pub same_self : (p : Part) → same_part p p ≡ true
same_self Part.Registry = refl
same_self Part.Store = refl
same_self Part.Stamps = refl
same_self Part.Results = refl
same_self (Part.Region n) = eq-eqb n n refl
same_self (Part.Own n) = eq-eqb n n refl

pub same_is : (p q : Part) → same_part p q ≡ true → p ≡ q
same_is Part.Registry Part.Registry t = refl
same_is Part.Store Part.Store t = refl
same_is Part.Stamps Part.Stamps t = refl
same_is Part.Results Part.Results t = refl
same_is (Part.Region n) (Part.Region m) t = ap Part.Region (eqb-true n m t)
same_is (Part.Own n) (Part.Own m) t = ap Part.Own (eqb-true n m t)
same_is _ _ t = absurd (false≢true t)

-- ticks

-- the entries that a test picks, of one part or of one session
abbrev pub Picks : (Journal → Journal) → (Entry → Bool) → Type 0
Picks f t = (e : Entry) (h : Journal) → f (e ∷ h) ≡ cond (t e) (e ∷ f h) (f h)

pub last_picked : (f : Journal → Journal) (t : Entry → Bool) → Picks f t → f [] ≡ [] → (h : Journal) → last_tick t h ≡ last_tick (λ _. true) (f h)
last_picked f t k n [] = ap (λ l. last_tick (λ _. true) l) (sym n)
last_picked f t k n (e ∷ h) = by (t e) (last_picked f t k n h) ∙ ap (λ l. last_tick (λ _. true) l) (sym (k e h))
  where
    by : (b : Bool) → last_tick t h ≡ last_tick (λ _. true) (f h) → cond b e.tick (last_tick t h) ≡ last_tick (λ _. true) (cond b (e ∷ f h) (f h))
    by true i = refl
    by false i = i

tick_of_part : (p : Part) (h : Journal) → last_tick (λ d. same_part p d.part) h ≡ last_tick (λ _. true) (of_part p h)
tick_of_part p h = last_picked (of_part p) (λ d. same_part p d.part) (λ e l. refl) refl h

tick_of_own : (s : ℕ) (h : Journal) → last_tick (λ d. same_session (Some s) d.session) h ≡ last_tick (λ _. true) (own s h)
tick_of_own s h = last_picked (own s) (λ d. same_session (Some s) d.session) (λ e l. refl) refl h

-- a session's own entries rise with the session

not_own : (a : Act) (s : ℕ) → is_of_session a ≡ false → is_own (part_of a s) ≡ false
not_own (Act.Find k) s o = absurd (true≢false o)
not_own (Act.Persist k r) s o = absurd (true≢false o)
not_own (Act.Set k cells) s o = absurd (true≢false o)
not_own (Act.Remove k) s o = absurd (true≢false o)
not_own Act.Clear s o = absurd (true≢false o)
not_own _ s o = refl

own_part : (a : Act) (s : ℕ) → is_own (part_of a s) ≡ true → part_of a s ≡ Part.Own s
own_part (Act.Find k) s o = refl
own_part (Act.Persist k r) s o = refl
own_part (Act.Set k cells) s o = refl
own_part (Act.Remove k) s o = refl
own_part Act.Clear s o = refl
own_part _ s o = absurd (false≢true o)

-- an entry of a session that does no outside act
pub record Inner (e : Entry) : Type 0 where
  pub session : e.session ≡ Some (unwrap_or e.session 0)
  pub inside : is_outside e.act ≡ false

abbrev pub AllInner : Journal → Type 0
AllInner [] = Unit {0}
AllInner (e ∷ h) = AllInner h × Inner e

stops_none : (a : Act) → is_outside a ≡ false → stops a ≡ false
stops_none (Act.Kill n) o = absurd (true≢false o)
stops_none Act.Restart o = absurd (true≢false o)
stops_none _ o = refl

-- without kills and restarts a part sees its entries alone
pub seen_part : (p : Part) (h : Journal) → AllInner h → seen_by p h ≡ of_part p h
seen_part p [] a = refl
seen_part p (e ∷ h) a = rw (stops_none e.act a.1.inside) (by (same_part p e.part) (seen_part p h a.0))
  where
    by : (b : Bool) → seen_by p h ≡ of_part p h → cond (b || false) (e ∷ seen_by p h) (seen_by p h) ≡ cond b (e ∷ of_part p h) (of_part p h)
    by true i = ap (λ l. e ∷ l) i
    by false i = i

-- and the store defers what the sessions have written
unsaved_inner : (n : ℕ) (h : Journal) → AllInner h → unsaved n h ≡ deferred (own n h)
unsaved_inner n [] a = refl
unsaved_inner n (e ∷ h) a = unsaved_step n e h (stops_none e.act a.1.inside) (unsaved_inner n h a.0)

fits_own : (e : Entry) (h : Journal) → Fits e h → is_own e.part ≡ true → e.part ≡ Part.Own (unwrap_or e.session 0)
fits_own e h f o = sym f.part ∙ own_part e.act (unwrap_or e.session 0) (ap is_own f.part ∙ o)

last_least : (p : Entry → Bool) (h : Journal) → AreLater h → last_tick p h ≤ last_tick (λ _. true) h
last_least p [] t = omega arith
last_least p (e ∷ h) t = by (p e) (last_least p h t.0)
  where
    by : (b : Bool) → last_tick p h ≤ last_tick (λ _. true) h → cond b e.tick (last_tick p h) ≤ e.tick
    by true i = omega arith
    by false i = let o : last_tick (λ _. true) h ≤ e.tick = t.1.ordered in omega arith

last_below : (p q : Entry → Bool) → ((e : Entry) (h : Journal) → Fits e h → Inner e → p e ≡ true → q e ≡ true) → (h : Journal) → AllFit h → AllInner h → AreLater h → last_tick p h ≤ last_tick q h
last_below p q f [] a b t = omega arith
last_below p q f (e ∷ h) a b t = by (p e) (q e) (f e h a.1 b.1) (last_below p q f h a.0 b.0 t.0)
  where
    by : (b c : Bool) → (b ≡ true → c ≡ true) → last_tick p h ≤ last_tick q h → cond b e.tick (last_tick p h) ≤ cond c e.tick (last_tick q h)
    by true true g i = omega arith
    by true false g i = absurd (false≢true (g refl))
    by false true g i =
        let l : last_tick p h ≤ last_tick (λ _. true) h = last_least p h t.0 in
        let o : last_tick (λ _. true) h ≤ e.tick = t.1.ordered in
        omega arith
    by false false g i = i

own_rises : (s : ℕ) (h : Journal) → AllFit h → AllInner h → AreLater h → last_tick (λ d. same_part (Part.Own s) d.part) h ≤ last_tick (λ _. true) (own s h)
own_rises s h a b t = subst (λ n. last_tick (λ d. same_part (Part.Own s) d.part) h ≤ n) (tick_of_own s h)
    (last_below (λ d. same_part (Part.Own s) d.part) (λ d. same_session (Some s) d.session) by_part h a b t)
  where
    by_part : (e : Entry) (j : Journal) → Fits e j → Inner e → same_part (Part.Own s) e.part ≡ true → same_session (Some s) e.session ≡ true
    by_part e j f i p =
        let q : Part.Own s ≡ e.part = same_is (Part.Own s) e.part p in
        let r : Part.Own s ≡ Part.Own (unwrap_or e.session 0) = q ∙ fits_own e j f (sym (ap is_own q)) in
        by_self e s (i.session ∙ ap Some (sym (same s (unwrap_or e.session 0) r)))
      where
        same : (n m : ℕ) → Part.Own n ≡ Part.Own m → n ≡ m
        same n m x = cc

-- no session is killed

not_killed : (s : ℕ) (a : Act) (o : Bool) → is_outside a ≡ false → killed_by s a o ≡ false
not_killed s (Act.Kill n) o p = absurd (true≢false p)
not_killed s Act.Restart o p = absurd (true≢false p)
not_killed s _ o p = refl

none_killed : (s : ℕ) (h : Journal) → AllInner h → was_killed s h ≡ false
none_killed s [] a = refl
none_killed s (e ∷ h) a = rw (not_killed s e.act (is_open s h) a.1.inside, none_killed s h a.0)

comes : (script : Script) (h : Journal) (a : Act) → is_outside a ≡ false → may_come script h (Some a) ≡ Some a
comes script h (Act.Kill n) p = absurd (true≢false p)
comes script h (Act.Evict k) p = absurd (true≢false p)
comes script h _ p = refl

outside_asks : (a : Act) → asks_store a ≡ true → is_outside a ≡ false
outside_asks (Act.Kill n) y = absurd (false≢true y)
outside_asks Act.Restart y = absurd (false≢true y)
outside_asks (Act.Evict k) y = absurd (false≢true y)
outside_asks _ y = refl

due_act : (script : Script) (h : Journal) (x : Option Act) (a : Act) → may_come script h x ≡ Some a → x ≡ Some a
due_act script h None a p = p
due_act script h (Some (Act.Kill n)) a p = by (is_open n h) p
  where
    by : (b : Bool) → cond b (Some (Act.Kill n)) None ≡ Some a → Some (Act.Kill n) ≡ Some a
    by true q = q
    by false q = cc
due_act script h (Some (Act.Evict k)) a p = by (is_cached script k.entity) p
  where
    by : (b : Bool) → cond b (Some (Act.Evict k)) None ≡ Some a → Some (Act.Evict k) ≡ Some a
    by true q = q
    by false q = cc
due_act script h (Some _) a p = p

module _ (script : Script) where
  due_is : (s : ℕ) (e : Entry) (h : Journal) → e.session ≡ Some s → was_killed s h ≡ false → next script s (own s h) ≡ Some e.act → due script h e ≡ Some e.act
  due_is s e h q w n = subst (λ o. due_by script h o e.act ≡ Some e.act) (sym q) (rw w n)

  -- the parts of a list that is legal by itself

  part_tail : (told : Option Tables) (p : Part) (e : Entry) (h : Journal) → IsPartLegal script told (of_part p (e ∷ h)) → IsPartLegal script told (of_part p h)
  part_tail told p e h l = by (same_part p e.part) l
    where
      by : (b : Bool) → IsPartLegal script told (cond b (e ∷ of_part p h) (of_part p h)) → IsPartLegal script told (of_part p h)
      by true l = l.0
      by false l = l

  part_head : (told : Option Tables) (e : Entry) (h : Journal) → IsPartLegal script told (of_part e.part (e ∷ h)) → IsPartStep script told (of_part e.part h) e
  part_head told e h l = (rw (same_self e.part) at l).1

  mine_tail : (s : ℕ) (e : Entry) (h : Journal) → IsOwnLegal script s (own s (e ∷ h)) → IsOwnLegal script s (own s h)
  mine_tail s e h l = by (is_by s e) l
    where
      by : (b : Bool) → IsOwnLegal script s (cond b (e ∷ own s h) (own s h)) → IsOwnLegal script s (own s h)
      by true l = l.0
      by false l = l

  mine_head : (s : ℕ) (e : Entry) (h : Journal) → e.session ≡ Some s → IsOwnLegal script s (own s (e ∷ h)) → IsOwnStep script s (own s h) e
  mine_head s e h q l = (subst (λ m. IsOwnLegal script s m) (own_self s e h (by_self e s q)) l).1

  mine_order : (s : ℕ) (m : Journal) → IsOwnLegal script s m → InOrder (plan_of script s) m
  mine_order s [] l = tt
  mine_order s (e ∷ m) l = (mine_order s m l.0, next_is script s m e.act l.1.act)

  -- each entry fits, and is a session's

  mine_due : (e : Entry) (h : Journal) → e.session ≡ Some (unwrap_or e.session 0) → IsOwnLegal script (unwrap_or e.session 0) (own (unwrap_or e.session 0) (e ∷ h)) →
      IsAllowed script (unwrap_or e.session 0) (own (unwrap_or e.session 0) h) e.act
  mine_due e h q l =
      let m : IsOwnStep script (unwrap_or e.session 0) (own (unwrap_or e.session 0) h) e = mine_head (unwrap_or e.session 0) e h q l in
      allowed_due script (unwrap_or e.session 0) (own (unwrap_or e.session 0) h) e.act (mine_order (unwrap_or e.session 0) (own (unwrap_or e.session 0) h) (mine_tail (unwrap_or e.session 0) e h l)) m.act

  pub fits_mine : (e : Entry) (h : Journal) → AllInner h → e.session ≡ Some (unwrap_or e.session 0) → IsOwnLegal script (unwrap_or e.session 0) (own (unwrap_or e.session 0) (e ∷ h)) → Fits e h
  fits_mine e h a q l = record {
    part = (mine_head (unwrap_or e.session 0) e h q l).part;
    same = λ y. unsaved_inner (unwrap_or e.session 0) h a ∙ (mine_due e h q l).deferred y;
  }

  inner_mine : (e : Entry) (h : Journal) → e.session ≡ Some (unwrap_or e.session 0) → IsOwnLegal script (unwrap_or e.session 0) (own (unwrap_or e.session 0) (e ∷ h)) → Inner e
  inner_mine e h q l = record { session = q; inside = (mine_due e h q l).inside }

  pub inner_all : (h : Journal) → HaveSessions h → ((s : ℕ) → IsOwnLegal script s (own s h)) → AllInner h
  inner_all [] q l = tt
  inner_all (e ∷ h) q l = (inner_all h q.0 (λ s. mine_tail s e h (l s)), inner_mine e h q.1 (l (unwrap_or e.session 0)))

  pub all_mine : (h : Journal) → HaveSessions h → ((s : ℕ) → IsOwnLegal script s (own s h)) → AllFit h
  all_mine [] q l = tt
  all_mine (e ∷ h) q l = (all_mine h q.0 (λ s. mine_tail s e h (l s)), fits_mine e h (inner_all h q.0 (λ s. mine_tail s e h (l s))) q.1 (l (unwrap_or e.session 0)))

  -- legal apart, so legal

  pub together : (told : Option Tables) (h : Journal) → HaveSessions h → AreLater h → ((p : Part) → is_own p ≡ false → IsPartLegal script told (of_part p h)) →
      ((s : ℕ) → IsOwnLegal script s (own s h)) → IsLegal script told h
  together told [] q t ps ss = tt
  together told (e ∷ h) q t ps ss = (together told h q.0 t.0 (λ p o. part_tail told p e h (ps p o)) (λ s. mine_tail s e h (ss s)), step)
    where
      fit : AllFit h
      fit = all_mine h q.0 (λ s. mine_tail s e h (ss s))

      all_inner : AllInner h
      all_inner = inner_all h q.0 (λ s. mine_tail s e h (ss s))

      fits : Fits e h
      fits = fits_mine e h all_inner q.1 (ss (unwrap_or e.session 0))

      part : is_own e.part ≡ false → IsPartStep script told (of_part e.part h) e
      part o = part_head told e h (ps e.part o)

      mine : IsOwnStep script (unwrap_or e.session 0) (own (unwrap_or e.session 0) h) e
      mine = mine_head (unwrap_or e.session 0) e h q.1 (ss (unwrap_or e.session 0))

      is_due : due script h e ≡ Some e.act
      is_due = due_is (unwrap_or e.session 0) e h q.1 (none_killed (unwrap_or e.session 0) h all_inner) mine.act

      in_part : (b : Bool) → is_own e.part ≡ b → last_tick (λ d. same_part e.part d.part) h < e.tick
      in_part true o =
          let l : last_tick (λ d. same_part (Part.Own (unwrap_or e.session 0)) d.part) h ≤ last_tick (λ _. true) (own (unwrap_or e.session 0) h) = own_rises (unwrap_or e.session 0) h fit all_inner t.0 in
          let m : last_tick (λ _. true) (own (unwrap_or e.session 0) h) < e.tick = mine.tick in
          subst (λ p. last_tick (λ d. same_part p d.part) h < e.tick) (sym (fits_own e h fits o)) (omega arith)
      in_part false o = subst (λ n. n < e.tick) (sym (tick_of_part e.part h)) (part o).tick

      timely : IsTimely e h
      timely = record {
        positive = let m : last_tick (λ _. true) (own (unwrap_or e.session 0) h) < e.tick = mine.tick in omega arith;
        bounded = t.1.bounded;
        ordered = t.1.ordered;
        in_part = in_part (is_own e.part) refl;
        in_session = subst (λ o. last_tick (λ d. same_session o d.session) h < e.tick) (sym q.1)
            (subst (λ n. n < e.tick) (sym (tick_of_own (unwrap_or e.session 0) h)) mine.tick);
      }

      reply : (b : Bool) → is_of_session e.act ≡ b → IsReply script told h e
      reply true o = mine_out script e h o told (mine.reply o)
      reply false o = reply_out script e h fit fits o told (subst (λ l. IsStoreReply script told l e) (sym (seen_part e.part h all_inner))
          ((part (ap is_own (sym fits.part) ∙ not_own e.act (unwrap_or e.session 0) o)).reply o))

      step : IsStep script told h e
      step = record {
        tick = timely;
        session = subst (λ o. IsSome o) (sym is_due) refl;
        part = subst (λ o. option_map (λ a. part_of a (unwrap_or e.session 0)) o ≡ Some e.part) (sym is_due) (ap Some mine.part);
        act = subst (λ o. may_come script h o ≡ Some e.act) (sym is_due) (comes script h e.act (mine_due e h q.1 (ss (unwrap_or e.session 0))).inside);
        reply = reply (is_of_session e.act) refl;
      }

  -- legal, so legal apart

  module _ (told : Option Tables) where
    is_due : (e : Entry) (h : Journal) → IsStep script told h e → due script h e ≡ Some e.act
    is_due e h l = due_act script h (due script h e) e.act l.act

    part_is : (e : Entry) (h : Journal) → IsStep script told h e → part_of e.act (unwrap_or e.session 0) ≡ e.part
    part_is e h l = same (subst (λ o. option_map (λ a. part_of a (unwrap_or e.session 0)) o ≡ Some e.part) (is_due e h l) l.part)
      where
        same : Some (part_of e.act (unwrap_or e.session 0)) ≡ Some e.part → part_of e.act (unwrap_or e.session 0) ≡ e.part
        same x = cc

    step_due : (s : ℕ) (e : Entry) (h : Journal) → e.session ≡ Some s → IsLegal script told h → IsStep script told h e → IsAllowed script s (own s h) e.act
    step_due s e h q l i = allowed_due script s (own s h) e.act (steps_in_order script told s h l) (next_act script told h e s i (by_self e s q)).1

    pub fits_legal : (e : Entry) (h : Journal) → IsLegal script told h → IsStep script told h e → Fits e h
    fits_legal e h l i = record { part = part_is e h i; same = same e.session refl }
      where
        none : (b : Bool) → b ≡ false → cond b (Some e.act) None ≡ Some e.act → ⊥
        none true q x = absurd (true≢false q)
        none false q x = cc

        same : (o : Option ℕ) → e.session ≡ o → asks_store e.act ≡ true → unsaved (unwrap_or e.session 0) h ≡ changes (unwrap_or e.session 0) h
        same None q y = absurd (none (is_outside e.act) (outside_asks e.act y) (subst (λ o. due_by script h o e.act ≡ Some e.act) q (is_due e h i)))
        same (Some s) q y = subst (λ n. unsaved n h ≡ changes n h) (sym (ap (λ o. unwrap_or o 0) q))
            (unsaved_legal script told s h l (next_act script told h e s i (by_self e s q)).0 ∙ (step_due s e h q l i).deferred y)

    pub all_legal : (h : Journal) → IsLegal script told h → AllFit h
    all_legal [] l = tt
    all_legal (e ∷ h) l = (all_legal h l.0, fits_legal e h l.0 l.1)

    pub inner_legal : (h : Journal) → HaveSessions h → IsLegal script told h → AllInner h
    inner_legal [] q l = tt
    inner_legal (e ∷ h) q l = (inner_legal h q.0 l.0, record { session = q.1; inside = (step_due (unwrap_or e.session 0) e h q.1 l.0 l.1).inside })

    pub reply_is_parts : (e : Entry) (h : Journal) → IsLegal script told (e ∷ h) → is_of_session e.act ≡ false → IsStoreReply script told (seen_by e.part h) e
    reply_is_parts e h l o = reply_in script e h (all_legal h l.0) (fits_legal e h l.0 l.1) o told l.1.reply

    part_step : (e : Entry) (h : Journal) → HaveSessions (e ∷ h) → IsLegal script told (e ∷ h) → IsPartStep script told (of_part e.part h) e
    part_step e h q l = record {
      tick = subst (λ n. n < e.tick) (tick_of_part e.part h) l.1.tick.in_part;
      reply = λ o. subst (λ j. IsStoreReply script told j e) (seen_part e.part h (inner_legal h q.0 l.0)) (reply_is_parts e h l o);
    }

    pub parts_apart : (p : Part) (h : Journal) → HaveSessions h → IsLegal script told h → IsPartLegal script told (of_part p h)
    parts_apart p [] q l = tt
    parts_apart p (e ∷ h) q l = by (same_part p e.part) refl (parts_apart p h q.0 l.0)
      where
        by : (b : Bool) → same_part p e.part ≡ b → IsPartLegal script told (of_part p h) → IsPartLegal script told (of_part p (e ∷ h))
        by true x i = rw x (i, subst (λ r. IsPartStep script told (of_part r h) e) (sym (same_is p e.part x)) (part_step e h q l))
        by false x i = rw x i

    mine_step : (e : Entry) (h : Journal) → HaveSessions (e ∷ h) → IsLegal script told (e ∷ h) → IsOwnStep script (unwrap_or e.session 0) (own (unwrap_or e.session 0) h) e
    mine_step e h q l = record {
      tick = subst (λ n. n < e.tick) (tick_of_own (unwrap_or e.session 0) h) (subst (λ o. last_tick (λ d. same_session o d.session) h < e.tick) q.1 l.1.tick.in_session);
      act = (next_act script told h e (unwrap_or e.session 0) l.1 (by_self e (unwrap_or e.session 0) q.1)).1;
      part = part_is e h l.1;
      reply = λ o. mine_in script e h o told l.1.reply;
    }

    pub sessions_apart : (s : ℕ) (h : Journal) → HaveSessions h → IsLegal script told h → IsOwnLegal script s (own s h)
    sessions_apart s [] q l = tt
    sessions_apart s (e ∷ h) q l = by (is_by s e) refl (sessions_apart s h q.0 l.0)
      where
        by : (b : Bool) → is_by s e ≡ b → IsOwnLegal script s (own s h) → IsOwnLegal script s (own s (e ∷ h))
        by true x i = rw x (i, subst (λ n. IsOwnStep script n (own n h) e) (ap (λ o. unwrap_or o 0) (is_some_session s e.session x)) (mine_step e h q l))
        by false x i = rw x i

pub later_legal : (script : Script) (told : Option Tables) (h : Journal) → IsLegal script told h → AreLater h
later_legal script told [] l = tt
later_legal script told (e ∷ h) l = (later_legal script told h l.0, record { bounded = l.1.tick.bounded; ordered = l.1.tick.ordered })
