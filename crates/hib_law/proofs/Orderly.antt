-- In a legal journal each entry keeps to the rules of its session; so a sound read-write key is coherent at every entry.
use Rattle.std.specs.Prelude.{option_and_then}
use Rattle.std.proofs.Common.{◌≡◌, ℕ, ◌≤◌, ◌⊎◌, inl, inr, Bool, true, false, cond, ◌&&◌, List, [], ◌∷◌, Some, None, Option, refl, ap, sym, ◌∙◌, subst, eq-eqb}
use Rattle.std.proofs.lemmas.Bool.{true≢false, false≢true}
use Rattle.hib_journal.specs.Types.{Key, Row, Change, Commit, Strategy, Script, Act, Reply, Entry}
use Rattle.hib_base.specs.Tables.{Tables, row_at, first_on, last_on, row_left}
use Rattle.hib_journal.specs.Sessions.{Journal, is_by, own, changes, changes_in, changes_after, is_open, was_killed, time, time_in, floor_in, committed, committer}
use Rattle.hib_journal.specs.Slot.{Touch, touch, key_in, touch_at}
use Rattle.hib_journal.specs.Held.{is_begin}
use Rattle.hib_journal.specs.Next.{strategy, is_in, lock_id}
use Rattle.hib_journal.specs.Legal.{IsLegal, IsStep, due_by, may_come, is_outside}
use Rattle.hib_journal.specs.Coherence.{holders, is_done, done_in, done_after, last_row, Seen}
use Rattle.hib_base.proofs.Tables.{Tested, tested, same_key_refl, left_by, row_at_changes}
use Rattle.hib_journal.proofs.Sessions.{is_some_session}
use Rattle.hib_law.proofs.Floors.{floors_le}
use Rattle.hib_law.proofs.Guarded.{In}
use Rattle.hib_law.proofs.Effects.{floor_named, is_remove}
use Rattle.hib_law.proofs.Touches.{here_or_victim}
use Rattle.hib_law.proofs.Views.{IsOrderly, IsReady}
use Rattle.hib_law.proofs.HeldRows.{HasRead}
use Rattle.hib_law.proofs.Working.{Allowed, holds, IsReadyIn}
use Rattle.hib_journal.specs.Sessions.{is_begun}
use Rattle.hib_journal.proofs.Steps.{next_act}
use Rattle.hib_journal.proofs.Open.{begun_open}
use Rattle.hib_law.proofs.Blocks.{allowed_act}
use Rattle.hib_law.proofs.Holders.{holds_holder, holder_holds}
use Rattle.hib_law.proofs.Basics.{none_some, some_same}

-- what an act does to what is known of a session

pub data Kind (a : Act) (r : Reply) : Type 0 where
  Begins : a ≡ Act.Begin → Kind a r
  Writes : (c : Change) → a ≡ Act.Write c → Kind a r
  Commits : a ≡ Act.Commit → r ≡ Reply.Commit Commit.Committed → Kind a r
  Other : ((d : Bool) → done_after a r d ≡ d) → ((cs : List Change) → changes_after a cs ≡ cs) → ((by : Option ℕ) → committer a r by ≡ None) → Kind a r

pub kind : (a : Act) (r : Reply) → Kind a r
kind Act.Begin r = Kind.Begins refl
kind (Act.Write c) r = Kind.Writes c refl
kind Act.Commit (Reply.Commit Commit.Committed) = Kind.Commits refl refl
kind _ _ = Kind.Other (λ d. refl) (λ cs. refl) (λ by. refl)

-- an entry is an outside act, or that of a session that was not killed
pub data Doer (script : Script) (h : Journal) (e : Entry) : Type 0 where
  Outside : e.session ≡ None → is_outside e.act ≡ true → Doer script h e
  Session : (s : ℕ) → e.session ≡ Some s → is_by s e ≡ true → was_killed s h ≡ false → Doer script h e

pub doer : (script : Script) (start : Tables) (h : Journal) (e : Entry) → IsStep script (Some start) h e → Doer script h e
doer script start h e t = by_session e.session refl
  where
    out : (b : Bool) → may_come script h (cond b (Some e.act) None) ≡ Some e.act → b ≡ true
    out true p = refl
    out false p = none_some p

    by_session : (o : Option ℕ) → e.session ≡ o → Doer script h e
    by_session None p =
        Doer.Outside p (out (is_outside e.act) (subst (λ o. may_come script h (due_by script h o e.act) ≡ Some e.act) p t.act))
    by_session (Some s) p =
        let b : is_by s e ≡ true = rw p (eq-eqb s s refl) in
        Doer.Session s p b (next_act script (Some start) h e s t b).0

same_session : {s t : ℕ} {o : Option ℕ} → o ≡ Some s → o ≡ Some t → s ≡ t
same_session p q = some_same (sym p ∙ q)

-- what has been seen, over one more entry
pub seen_on : (start : Tables) (k : Key) (s : ℕ) (b : Row) (e : Entry) (h : Journal) → (is_by s e && is_begin e.act) ≡ false → Seen start k s b h → Seen start k s b (e ∷ h)
seen_on start k s b e h p z = rw p (inr z)

pub seen_now : (start : Tables) (k : Key) (s : ℕ) (b : Row) (e : Entry) (h : Journal) → is_by s e ≡ true → is_begin e.act ≡ false →
    row_at (committed start (e ∷ h)) k ≡ Some b → Seen start k s b (e ∷ h)
seen_now start k s b e h p n z = rw (p, n) (inl (refl, z))

module _ (script : Script) (start : Tables) (k : Key) (rw_k : strategy script k.entity ≡ Strategy.ReadWrite) where
  -- a session that has committed has seen what its last change left
  pub done_seen : (s : ℕ) (r : Row) (h : Journal) → IsLegal script (Some start) h → is_done s h ≡ true → last_row k s h ≡ Some r → Seen start k s r h
  done_seen s r [] l d q = absurd (false≢true d)
  done_seen s r (e ∷ h) l d q = by_session (tested (is_by s e)) (done_seen s r h l.0)
    where
      IH : Type 0
      IH = is_done s h ≡ true → last_row k s h ≡ Some r → Seen start k s r h

      left_some : (o : Option Change) (x : Option Row) → option_and_then row_left o ≡ Some r → left_by o x ≡ Some r
      left_some None x p = none_some p
      left_some (Some c) x p = p

      mine : is_by s e ≡ true → e.session ≡ Some s → Allowed script k (own s h) e.act → Kind e.act e.reply → IH → Seen start k s r (e ∷ h)
      mine p w a (Kind.Begins x) i = let g : false ≡ true = rw (p, x) at d in absurd (false≢true g)
      mine p w a (Kind.Writes c x) i =
          let g : is_done s h ≡ true = rw (p, x) at d in
          let f : Allowed script k (own s h) (Act.Write c) = subst (λ y. Allowed script k (own s h) y) x a in
          absurd (true≢false (sym g ∙ f.0))
      mine p w a (Kind.Commits x y) i =
          let g : option_and_then row_left (last_on k (changes s h)) ≡ Some r = rw (p, x) at q in
          let c : row_at (committed start (e ∷ h)) k ≡ left_by (last_on k (changes s h)) (row_at (committed start h) k) =
          rw (x, y, w) (row_at_changes (changes s h) (committed start h) k) in
          seen_now start k s r e h p (rw x refl) (c ∙ left_some (last_on k (changes s h)) (row_at (committed start h) k) g)
      mine p w a (Kind.Other x y z) i = by_begin (tested (is_begin e.act))
        where
          by_begin : Tested (is_begin e.act) → Seen start k s r (e ∷ h)
          by_begin (inl b) = let g : done_after e.act e.reply (done_in (own s h)) ≡ true = rw p at d in
              absurd (false≢true (sym (begin_not e.act e.reply (done_in (own s h)) b) ∙ g))
            where
              begin_not : (a : Act) (r : Reply) (d : Bool) → is_begin a ≡ true → done_after a r d ≡ false
              begin_not Act.Begin r d p = refl
              begin_not _ r d p = absurd (false≢true p)
          by_begin (inr b) =
              let g : done_after e.act e.reply (done_in (own s h)) ≡ true = rw p at d in
              let f : option_and_then row_left (last_on k (changes_after e.act (changes_in (own s h)))) ≡ Some r = rw p at q in
              let g2 : is_done s h ≡ true = sym (x (done_in (own s h))) ∙ g in
              let f2 : last_row k s h ≡ Some r = sym (ap (λ cs. option_and_then row_left (last_on k cs)) (y (changes_in (own s h)))) ∙ f in
              seen_on start k s r e h (rw (p, b) refl) (i g2 f2)

      by_session : Tested (is_by s e) → IH → Seen start k s r (e ∷ h)
      by_session (inr p) i =
          let g : is_done s h ≡ true = rw p at d in
          let f : last_row k s h ≡ Some r = rw p at q in
          seen_on start k s r e h (rw p refl) (i g f)
      by_session (inl p) i =
          mine p (is_some_session s e.session p) (allowed_act script start k s rw_k h e l.0 l.1 p) (kind e.act e.reply) i

  -- no item of the key is removed
  pub removes_none : (h : Journal) (e : Entry) → IsLegal script (Some start) (e ∷ h) → (x : Touch) → touch k e ≡ Some x → is_remove e.act ≡ false
  removes_none h e l x t = by_doer (doer script start h e l.1)
    where
      outside_not : (a : Act) → is_outside a ≡ true → is_remove a ≡ false
      outside_not (Act.RegionRemove j) p = absurd (false≢true p)
      outside_not _ p = refl

      not_here : (a : Act) (j : Key) (m : Journal) → option_and_then (λ j. touch_at k j a e.reply) (key_in a) ≡ Some x → Allowed script k m a → a ≡ Act.RegionRemove j → ⊥
      not_here a j m t w p =
          let u : option_and_then (λ x. touch_at k x (Act.RegionRemove j) e.reply) (Some j) ≡ Some x = subst (λ z. option_and_then (λ j. touch_at k j z e.reply) (key_in z) ≡ Some x) p t in
          let v : strategy script j.entity ≡ Strategy.ReadWrite → ⊥ = subst (λ z. Allowed script k m z) p w in
          elim (here_or_victim k j (Act.RegionRemove j) e.reply x u) [
            | inl y ↦ v (subst (λ z. strategy script z.entity ≡ Strategy.ReadWrite) (sym y.0) rw_k)
            | inr y ↦ v (subst (λ z. strategy script z ≡ Strategy.ReadWrite) (sym y.0) rw_k)
          ]

      session_not : (a : Act) → e.act ≡ a → (m : Journal) → Allowed script k m a → is_remove a ≡ false
      session_not (Act.RegionRemove j) p m w = absurd (not_here (Act.RegionRemove j) j m (subst (λ z. option_and_then (λ j. touch_at k j z e.reply) (key_in z) ≡ Some x) p t) w refl)
      session_not _ p m w = refl

      by_doer : Doer script h e → is_remove e.act ≡ false
      by_doer (Doer.Outside p q) = outside_not e.act q
      by_doer (Doer.Session s p b w) = session_not e.act refl (own s h) (allowed_act script start k s rw_k h e l.0 l.1 b)

  -- what an open session has read of a key that is not in its changes, it has seen committed
  abbrev pub Reads : Journal → Type 0
  Reads h = (s : ℕ) (b : Row) → is_open s h ≡ true → HasRead k b (own s h) → is_in k (changes s h) ≡ false → Seen start k s b h

  module _ (h : Journal) (e : Entry) (l : IsLegal script (Some start) h) (t : IsStep script (Some start) h e) (reads : Reads h) where
    outside_none : {P : Type 0} (a : Act) → e.act ≡ a → is_outside a ≡ false → is_outside e.act ≡ true → P
    outside_none a p n q = absurd (false≢true (sym n ∙ (ap is_outside (sym p) ∙ q)))

    open_now : (s : ℕ) → was_killed s h ≡ false → is_begun (own s h) ≡ true → is_open s h ≡ true
    open_now s w b = begun_open s h w ∙ b

    allowed : (s : ℕ) (a : Act) → is_by s e ≡ true → e.act ≡ a → Allowed script k (own s h) a
    allowed s a b p = subst (λ z. Allowed script k (own s h) z) p (allowed_act script start k s rw_k h e l t b)

    puts : (r : Row) (u f : ℕ) → e.act ≡ Act.Put k r u f → (s : ℕ) × (is_open s h ≡ true) × Seen start k s r h × (u ≡ time s h)
    puts r u f p = by_doer (doer script start h e t)
      where
        by_doer : Doer script h e → (s : ℕ) × (is_open s h ≡ true) × Seen start k s r h × (u ≡ time s h)
        by_doer (Doer.Outside c q) = outside_none (Act.Put k r u f) p refl q
        by_doer (Doer.Session s c b w) =
            let a : HasRead k r (own s h) × (u ≡ time_in (own s h)) × (f ≡ floor_in (own s h)) × (is_begun (own s h) ≡ true) × (is_in k (changes_in (own s h)) ≡ false) =
            allowed s (Act.Put k r u f) b p (same_key_refl k) in
            let o : is_open s h ≡ true = open_now s w a.3 in
            (s, o, reads s r o a.0 a.4, a.1)

    inserts : (r : Row) (f : ℕ) → e.act ≡ Act.AfterInsert k r f → (s : ℕ) × (is_open s h ≡ true) × Seen start k s r h
    inserts r f p = by_doer (doer script start h e t)
      where
        by_doer : Doer script h e → (s : ℕ) × (is_open s h ≡ true) × Seen start k s r h
        by_doer (Doer.Outside c q) = outside_none (Act.AfterInsert k r f) p refl q
        by_doer (Doer.Session s c b w) =
            let a : (done_in (own s h) ≡ true) × (option_and_then row_left (last_on k (changes_in (own s h))) ≡ Some r) × (f ≡ floor_in (own s h)) × (is_begun (own s h) ≡ true) =
            allowed s (Act.AfterInsert k r f) b p (same_key_refl k) in
            (s, open_now s w a.3, done_seen s r h l a.0 a.1)

    updates : (i : ℕ) (r : Row) → e.act ≡ Act.AfterUpdate k i r →
        (s : ℕ) × (e.session ≡ Some s) × In s (holders k h) × (is_done s h ≡ true) × (last_row k s h ≡ Some r)
    updates i r p = by_doer (doer script start h e t)
      where
        by_doer : Doer script h e → (s : ℕ) × (e.session ≡ Some s) × In s (holders k h) × (is_done s h ≡ true) × (last_row k s h ≡ Some r)
        by_doer (Doer.Outside c q) = outside_none (Act.AfterUpdate k i r) p refl q
        by_doer (Doer.Session s c b w) =
            let a : (holds k (own s h) ≡ true) × (done_in (own s h) ≡ true) × (option_and_then row_left (last_on k (changes_in (own s h))) ≡ Some r) × (is_begun (own s h) ≡ true) × (i ≡ lock_id k (own s h)) =
            allowed s (Act.AfterUpdate k i r) b p (same_key_refl k) in
            (s, c, holds_holder script start k rw_k s h l (open_now s w a.3) a.0, a.1, a.2)

    unlocks : (i : ℕ) → e.act ≡ Act.Unlock k i → (s : ℕ) × (e.session ≡ Some s) × In s (holders k h)
    unlocks i p = by_doer (doer script start h e t)
      where
        by_doer : Doer script h e → (s : ℕ) × (e.session ≡ Some s) × In s (holders k h)
        by_doer (Doer.Outside c q) = outside_none (Act.Unlock k i) p refl q
        by_doer (Doer.Session s c b w) =
            let a : (holds k (own s h) ≡ true) × (is_begun (own s h) ≡ true) × (i ≡ lock_id k (own s h)) = allowed s (Act.Unlock k i) b p (same_key_refl k) in
            (s, c, holds_holder script start k rw_k s h l (open_now s w a.1) a.0)

    locks : (v : Option ℕ) (f : ℕ) → e.act ≡ Act.Lock k v f → (s : ℕ) × (e.session ≡ Some s) × (is_open s h ≡ true) × (is_done s (e ∷ h) ≡ false)
        × ((v ≡ None) ⊎ ((b : Row) × Seen start k s b h × (b.version ≡ v)))
    locks v f p = by_doer (doer script start h e t)
      where
        by_doer : Doer script h e → (s : ℕ) × (e.session ≡ Some s) × (is_open s h ≡ true) × (is_done s (e ∷ h) ≡ false)
            × ((v ≡ None) ⊎ ((b : Row) × Seen start k s b h × (b.version ≡ v)))
        by_doer (Doer.Outside c q) = outside_none (Act.Lock k v f) p refl q
        by_doer (Doer.Session s c b w) =
            let a : (done_in (own s h) ≡ false) × (f ≡ floor_in (own s h)) × (is_begun (own s h) ≡ true) × ((v ≡ None) ⊎ ((b : Row) × HasRead k b (own s h) × (b.version ≡ v)))
            × (is_in k (changes_in (own s h)) ≡ false) × (holds k (own s h) ≡ false) =
            allowed s (Act.Lock k v f) b p (same_key_refl k) in
            let o : is_open s h ≡ true = open_now s w a.2 in
            (s, c, o, rw (b, p) (a.0), elim a.3 [ inl x ↦ inl x | inr x ↦ inr (x.0, reads s x.0 o x.1 a.4, x.2) ])

    -- the floor that is named to a read-write region
    floor_own : (j : Key) (f : ℕ) (m : Journal) (a : Act) → key_in a ≡ Some j → floor_named a ≡ Some f → Allowed script j m a → (f ≡ floor_in m) × (is_begun m ≡ true)
    floor_own j f m (Act.Put i r u g) p q w =
        let a : HasRead j r m × (u ≡ time_in m) × (g ≡ floor_in m) × (is_begun m ≡ true) × (is_in j (changes_in m) ≡ false) = w (rw (some_same p) (same_key_refl j)) in
        (sym (some_same q) ∙ a.2, a.3)
    floor_own j f m (Act.Lock i v g) p q w =
        let a : (done_in m ≡ false) × (g ≡ floor_in m) × (is_begun m ≡ true) × ((v ≡ None) ⊎ ((b : Row) × HasRead j b m × (b.version ≡ v)))
        × (is_in j (changes_in m) ≡ false) × (holds j m ≡ false) = w (rw (some_same p) (same_key_refl j)) in
        (sym (some_same q) ∙ a.1, a.2)
    floor_own j f m (Act.AfterInsert i r g) p q w =
        let a : (done_in m ≡ true) × (option_and_then row_left (last_on j (changes_in m)) ≡ Some r) × (g ≡ floor_in m) × (is_begun m ≡ true) = w (rw (some_same p) (same_key_refl j)) in
        (sym (some_same q) ∙ a.2, a.3)
    floor_own j f m _ p q w = none_some q

    floors : (j : Key) (f : ℕ) → key_in e.act ≡ Some j → j.entity ≡ k.entity → floor_named e.act ≡ Some f → (u : ℕ) → is_open u h ≡ true → f ≤ time u h
    floors j f p q g u o = by_doer (doer script start h e t)
      where
        outside_no : (a : Act) → is_outside a ≡ true → floor_named a ≡ Some f → ⊥
        outside_no (Act.Put i r v y) x g = false≢true x
        outside_no (Act.Lock i v y) x g = false≢true x
        outside_no (Act.AfterInsert i r y) x g = false≢true x
        outside_no _ x g = none_some g

        by_doer : Doer script h e → f ≤ time u h
        by_doer (Doer.Outside c x) = absurd (outside_no e.act x g)
        by_doer (Doer.Session s c b w) =
            let rw_j : strategy script j.entity ≡ Strategy.ReadWrite = subst (λ z. strategy script z ≡ Strategy.ReadWrite) (sym q) rw_k in
            let a : (f ≡ floor_in (own s h)) × (is_begun (own s h) ≡ true) =
            floor_own j f (own s h) e.act p g (allowed_act script start j s rw_j h e l t b) in
            subst (λ z. z ≤ time u h) (sym a.0) (floors_le script start h l s u (open_now s w a.1) o)

    steady : committer e.act e.reply e.session ≡ None → (u : ℕ) → In u (holders k h) →
        (is_done u (e ∷ h) ≡ is_done u h) × (is_done u h ≡ true → last_row k u (e ∷ h) ≡ last_row k u h)
    steady c u i = by_session (tested (is_by u e))
      where
        mine : is_by u e ≡ true → Kind e.act e.reply → (is_done u (e ∷ h) ≡ is_done u h) × (is_done u h ≡ true → last_row k u (e ∷ h) ≡ last_row k u h)
        mine p (Kind.Begins x) =
            absurd (true≢false (sym (holder_holds script start k rw_k u h l i) ∙ allowed u Act.Begin p x))
        mine p (Kind.Writes d x) = (rw (p, x) refl, λ y. absurd (true≢false (sym y ∙ (allowed u (Act.Write d) p x).0)))
        mine p (Kind.Commits x y) =
            let g : ◌≡◌ {A = Option ℕ} (Some u) None = rw (x, y, is_some_session u e.session p) at c in none_some (sym g)
        mine p (Kind.Other x y z) = (rw p (x (is_done u h)), λ w. rw p (ap (λ cs. option_and_then row_left (last_on k cs)) (y (changes u h))))

        by_session : Tested (is_by u e) → (is_done u (e ∷ h) ≡ is_done u h) × (is_done u h ≡ true → last_row k u (e ∷ h) ≡ last_row k u h)
        by_session (inr p) = (rw p refl, λ y. rw p refl)
        by_session (inl p) = mine p (kind e.act e.reply)

    ready_of : (s : ℕ) → is_open s h ≡ true → (o : Option Change) → IsReadyIn k (own s h) o → IsReady k h s o
    ready_of s o None r = tt
    ready_of s o (Some (Change.Insert j x)) r = tt
    ready_of s o (Some (Change.Update j v x)) r = (r.0, holds_holder script start k rw_k s h l o r.1)
    ready_of s o (Some (Change.Delete j v)) r = (r.0, holds_holder script start k rw_k s h l o r.1)

    commits : (s : ℕ) → committer e.act e.reply e.session ≡ Some s → (is_done s h ≡ false) × IsReady k h s (first_on k (changes s h))
    commits s c = by_doer (doer script start h e t)
      where
        commit_is : (a : Act) (r : Reply) (by : Option ℕ) → committer a r by ≡ Some s → (a ≡ Act.Commit) × (by ≡ Some s)
        commit_is Act.Commit (Reply.Commit Commit.Committed) by q = (refl, q)
        commit_is _ _ by q = none_some q

        here : (a : Act) → e.act ≡ a → a ≡ Act.Commit → is_outside a ≡ false
        here a p q = rw q refl

        by_doer : Doer script h e → (is_done s h ≡ false) × IsReady k h s (first_on k (changes s h))
        by_doer (Doer.Outside x q) = none_some (sym x ∙ (commit_is e.act e.reply e.session c).1)
        by_doer (Doer.Session u x b w) =
            let p : (e.act ≡ Act.Commit) × (e.session ≡ Some s) = commit_is e.act e.reply e.session c in
            let q : u ≡ s = same_session x p.1 in
            let b2 : is_by s e ≡ true = subst (λ z. is_by z e ≡ true) q b in
            let w2 : was_killed s h ≡ false = subst (λ z. was_killed z h ≡ false) q w in
            let a : (done_in (own s h) ≡ false) × IsReadyIn k (own s h) (first_on k (changes_in (own s h))) × (is_begun (own s h) ≡ true) = allowed s Act.Commit b2 p.0 in
            (a.0, ready_of s (open_now s w2 a.2) (first_on k (changes s h)) a.1)

    -- each entry keeps to the rules of its session
    pub orderly : IsOrderly start k h e
    orderly = record {
      puts = puts;
      inserts = inserts;
      updates = updates;
      unlocks = unlocks;
      locks = locks;
      floors = floors;
      removes = λ x y. removes_none h e (l, t) x y;
      steady = steady;
      commits = commits;
    }
