-- What isn't told of rows, regions, tables, sessions and locks stays.
use Rattle.std.specs.Prelude.{option_to_list}
use Rattle.std.specs.List.{list_any}
use Rattle.std.specs.Option.{option_map_or}
use Rattle.std.proofs.Common.{ℕ, ◌≡◌, ◌+◌, ◌==◌, Bool, true, false, cond, ◌&&◌, ◌||◌, List, [], ◌∷◌, ◌++◌, Some, None, Option, is_some, refl, sym, ap, ◌∙◌, inl, inr, append-nil}
use Rattle.std.proofs.Math.Bool.{and-false, or-false}
use Rattle.std.proofs.lemmas.Bool.{true≢false}
use Rattle.hib_base.specs.Keys.{same_key}
use Rattle.hib_base.specs.Tables.{Tables, key_of, last_on, row_at, after_changes}
use Rattle.hib_base.proofs.Tables.{Tested, tested, row_at_changes, left_by}
use Rattle.hib_journal.specs.Types.{Key, Change, Act, Reply, Entry, Script, Strategy}
use Rattle.hib_journal.specs.Coherence.{holders, takes, gives_back}
use Rattle.hib_journal.specs.Held.{is_begin}
use Rattle.hib_journal.specs.Next.{strategy}
use Rattle.hib_journal.specs.Sessions.{Journal, is_by, is_session, is_restart, own, time, floor_in, floor_after, changes, changes_in, changes_after, committer, committed, is_open, open_after}
use Rattle.hib_journal.specs.Slot.{Slot, history, slot_from, touch}
use Rattle.hib_journal.specs.Room.{item}
use Rattle.hib_journal.specs.Stamps.{names, stamp, stamp_after}
use Rattle.hib_journal.proofs.Sessions.{own_self, own_other, time_same}
use Rattle.hib_follow.specs.Cached.{cached, cached_by, item_slot}
use Rattle.hib_follow.specs.Desks.{change_in}
use Rattle.hib_follow.specs.Holders.{locked_in}
use Rattle.hib_follow.specs.Newest.{tables_in}
use Rattle.hib_follow.specs.Touched.{touched_keys}
use Rattle.hib_follow.proofs.Touching.{touched_any}
use Rattle.hib_states.specs.States.{sessions_in}
use Rattle.hib_states.proofs.Choices.{and_true, or_false, settled}
use Rattle.hib_states.proofs.Taken.{changes_by}

-- ---- what isn't told stays

none_on : (j : Key) (cs : List Change) → list_any (λ c. same_key (key_of c) j) cs ≡ false → last_on j cs ≡ None
none_on j [] p = refl
none_on j (c ∷ cs) p =
    let both : (same_key (key_of c) j ≡ false) × (list_any (λ d. same_key (key_of d) j) cs ≡ false) = or_false (same_key (key_of c) j) (list_any (λ d. same_key (key_of d) j) cs) p in
    rw (none_on j cs both.1, both.0) refl

pub rows_next : (start : Tables) (h : Journal) (e : Entry) (j : Key) →
    cond (list_any (λ c. same_key (key_of c) j) (changes_by h (committer e.act e.reply e.session))) (row_at (committed start (e ∷ h)) j) (row_at (committed start h) j)
    ≡ row_at (committed start (e ∷ h)) j
rows_next start h e j = by (committer e.act e.reply e.session)
  where
    by : (o : Option ℕ) → cond (list_any (λ c. same_key (key_of c) j) (changes_by h o))
        (row_at (option_map_or (λ n. after_changes (changes n h) (committed start h)) o (committed start h)) j) (row_at (committed start h) j)
        ≡ row_at (option_map_or (λ n. after_changes (changes n h) (committed start h)) o (committed start h)) j
    by None = refl
    by (Some n) =
        settled (list_any (λ c. same_key (key_of c) j) (changes n h)) (row_at (after_changes (changes n h) (committed start h)) j) (row_at (committed start h) j)
        (λ p. sym (row_at_changes (changes n h) (committed start h) j ∙ ap (λ o. left_by o (row_at (committed start h) j)) (none_on j (changes n h) p)))

none_of : {A : Type 0} (o : Option A) → is_some o ≡ false → o ≡ None
none_of None p = refl
none_of (Some a) p = absurd (true≢false p)

history_kept : (j : Key) (e : Entry) (h : Journal) → is_restart e.act ≡ false → touch j e ≡ None → history j (e ∷ h) ≡ history j h
history_kept j e h n t = rw (n, t) refl

history_gone : (j : Key) (e : Entry) (h : Journal) → is_restart e.act ≡ true → history j (e ∷ h) ≡ []
history_gone j e h r = rw r refl

vacant_first : (timeout : ℕ) → Slot.Vacant ≡ slot_from timeout []
unfolding slot_from
vacant_first timeout = refl

cached_gone : (script : Script) (j : Key) (h : Journal) → history j h ≡ [] → Slot.Vacant ≡ cached script j h
cached_gone script j h p = by (strategy script j.entity)
  where
    by : (g : Strategy) → Slot.Vacant ≡ cached_by g script.timeout j h
    by Strategy.ReadWrite = vacant_first script.timeout ∙ sym (ap (slot_from script.timeout) p)
    by Strategy.ReadOnly = sym (ap (λ s. item_slot (item s)) p)
    by Strategy.Nonstrict = sym (ap (λ s. item_slot (item s)) p)
    by Strategy.Uncached = sym (ap (λ s. item_slot (item s)) p)

cached_kept : (script : Script) (j : Key) (g h : Journal) → history j g ≡ history j h → cached script j h ≡ cached script j g
cached_kept script j g h p = by (strategy script j.entity)
  where
    by : (s : Strategy) → cached_by s script.timeout j h ≡ cached_by s script.timeout j g
    by Strategy.ReadWrite = sym (ap (slot_from script.timeout) p)
    by Strategy.ReadOnly = sym (ap (λ s. item_slot (item s)) p)
    by Strategy.Nonstrict = sym (ap (λ s. item_slot (item s)) p)
    by Strategy.Uncached = sym (ap (λ s. item_slot (item s)) p)

pub slots_next : (script : Script) (h : Journal) (e : Entry) (j : Key) →
    cond (list_any (λ k. same_key k j) (touched_keys e)) (cached script j (e ∷ h)) (cond (is_restart e.act) Slot.Vacant (cached script j h)) ≡ cached script j (e ∷ h)
slots_next script h e j =
    settled (list_any (λ k. same_key k j) (touched_keys e)) (cached script j (e ∷ h)) (cond (is_restart e.act) Slot.Vacant (cached script j h))
    (λ p. by (none_of (touch j e) (sym (touched_any j e) ∙ p)) (tested (is_restart e.act)))
  where
    by : touch j e ≡ None → Tested (is_restart e.act) → cond (is_restart e.act) Slot.Vacant (cached script j h) ≡ cached script j (e ∷ h)
    by t (inl r) = ap (λ b. cond b Slot.Vacant (cached script j h)) r ∙ cached_gone script j (e ∷ h) (history_gone j e h r)
    by t (inr n) = ap (λ b. cond b Slot.Vacant (cached script j h)) n ∙ cached_kept script j (e ∷ h) h (history_kept j e h n t)

pub stamps_next : (script : Script) (h : Journal) (e : Entry) (t : ℕ) →
    cond (names t (tables_in e.act)) (stamp script.timeout t (e ∷ h)) (cond (is_restart e.act) None (stamp script.timeout t h)) ≡ stamp script.timeout t (e ∷ h)
stamps_next script h e t =
    settled (names t (tables_in e.act)) (stamp script.timeout t (e ∷ h)) (cond (is_restart e.act) None (stamp script.timeout t h)) (by e.act (stamp script.timeout t h))
  where
    kept : (b : Bool) (x v : Option ℕ) → b ≡ false → v ≡ cond b x v
    kept b x v p = sym (ap (λ c. cond c x v) p)

    by : (a : Act) (v : Option ℕ) → names t (tables_in a) ≡ false → cond (is_restart a) None v ≡ stamp_after script.timeout t a e.tick v
    by (Act.Pre ts) v p = kept (names t ts) (Some (e.tick + script.timeout)) v p
    by (Act.Stamp ts) v p = kept (names t ts) (Some e.tick) v p
    by Act.Restart v p = refl
    by _ v p = refl

-- ---- sessions

named_one : (n m : ℕ) → names m (n ∷ []) ≡ false → (n == m) ≡ false
named_one n m p = sym (or-false (n == m)) ∙ p

pub open_next : (h : Journal) (e : Entry) (m : ℕ) →
    cond (names m (sessions_in e.act e.session)) (is_open m (e ∷ h)) (cond (is_restart e.act) false (is_open m h)) ≡ is_open m (e ∷ h)
open_next h e m =
    settled (names m (sessions_in e.act e.session)) (is_open m (e ∷ h)) (cond (is_restart e.act) false (is_open m h)) (by e.act e.session (is_open m h))
  where
    by : (a : Act) (o : Option ℕ) (b : Bool) → names m (sessions_in a o) ≡ false → cond (is_restart a) false b ≡ open_after m o a b
    by Act.Begin None b p = refl
    by Act.Begin (Some n) b p = ap (λ c. c || b) (sym (named_one n m p))
    by Act.End None b p = refl
    by Act.End (Some n) b p = ap (λ c. cond c false b) (sym (named_one n m p))
    by (Act.Kill n) o b p = ap (λ c. cond c false b) (sym (named_one n m p))
    by Act.Restart o b p = refl
    by _ o b p = refl

begins_none : (m : ℕ) (a : Act) (o : Option ℕ) → names m (sessions_in a o) ≡ false → (is_session m o && is_begin a) ≡ false
begins_none m Act.Begin None p = refl
begins_none m Act.Begin (Some n) p = ap (λ b. b && true) (named_one n m p)
begins_none m _ o p = and-false (is_session m o)

pub times_next : (h : Journal) (e : Entry) (m : ℕ) → cond (names m (sessions_in e.act e.session)) (time m (e ∷ h)) (time m h) ≡ time m (e ∷ h)
times_next h e m = settled (names m (sessions_in e.act e.session)) (time m (e ∷ h)) (time m h) (λ p. sym (time_same m e h (begins_none m e.act e.session p)))

floor_kept : (a : Act) (r : Reply) (f : ℕ) → is_begin a ≡ false → floor_after a r f ≡ f
floor_kept Act.Begin r f p = absurd (true≢false p)
floor_kept _ r f p = refl

floor_same : (m : ℕ) (e : Entry) (h : Journal) → (is_by m e && is_begin e.act) ≡ false → floor_in (own m (e ∷ h)) ≡ floor_in (own m h)
floor_same m e h p = by (tested (is_by m e))
  where
    by : Tested (is_by m e) → floor_in (own m (e ∷ h)) ≡ floor_in (own m h)
    by (inl b) = ap floor_in (own_self m e h b) ∙ floor_kept e.act e.reply (floor_in (own m h)) (sym (ap (λ c. c && is_begin e.act) b) ∙ p)
    by (inr b) = ap floor_in (own_other m e h b)

pub floors_next : (h : Journal) (e : Entry) (m : ℕ) →
    cond (names m (sessions_in e.act e.session)) (floor_in (own m (e ∷ h))) (floor_in (own m h)) ≡ floor_in (own m (e ∷ h))
floors_next h e m =
    settled (names m (sessions_in e.act e.session)) (floor_in (own m (e ∷ h))) (floor_in (own m h)) (λ p. sym (floor_same m e h (begins_none m e.act e.session p)))

-- what a session has written, if it begins with its entry, and else
abbrev emptied : ℕ → Act → Option ℕ → Bool → Bool
emptied m a o b = names m (sessions_in a o) && open_after m o a b

ends_open : (c b : Bool) → ((c || false) && cond c false b) ≡ false
ends_open true b = refl
ends_open false b = refl

begins_open : (c b : Bool) → ((c || false) && (c || b)) ≡ c
begins_open true b = refl
begins_open false b = refl

emptied_is : (m : ℕ) (a : Act) (o : Option ℕ) (b : Bool) → emptied m a o b ≡ (is_session m o && is_begin a)
emptied_is m Act.Begin None b = refl
emptied_is m Act.Begin (Some n) b = begins_open (n == m) b ∙ sym (and_true (n == m))
emptied_is m Act.End None b = refl
emptied_is m Act.End (Some n) b = ends_open (n == m) b ∙ sym (and-false (n == m))
emptied_is m (Act.Kill n) o b = ends_open (n == m) b ∙ sym (and-false (is_session m o))
emptied_is m _ o b = sym (and-false (is_session m o))

written_next : (a : Act) (cs : List Change) → cond (is_begin a) [] cs ++ option_to_list (change_in a) ≡ changes_after a cs
written_next Act.Begin cs = refl
written_next (Act.Write c) cs = refl
written_next _ cs = append-nil cs

pub changes_next : (h : Journal) (e : Entry) (m : ℕ) →
    cond (is_by m e) (cond (names m (sessions_in e.act e.session) && is_open m (e ∷ h)) [] (changes m h) ++ option_to_list (change_in e.act))
    (cond (names m (sessions_in e.act e.session) && is_open m (e ∷ h)) [] (changes m h)) ≡ changes m (e ∷ h)
changes_next h e m =
    ap (λ b. cond (is_by m e) (cond b [] (changes m h) ++ option_to_list (change_in e.act)) (cond b [] (changes m h))) (emptied_is m e.act e.session (is_open m h))
    ∙ by (tested (is_by m e))
  where
    by : Tested (is_by m e) → cond (is_by m e) (cond (is_by m e && is_begin e.act) [] (changes m h) ++ option_to_list (change_in e.act))
        (cond (is_by m e && is_begin e.act) [] (changes m h)) ≡ changes m (e ∷ h)
    by (inl p) =
        ap (λ b. cond b (cond (b && is_begin e.act) [] (changes m h) ++ option_to_list (change_in e.act)) (cond (b && is_begin e.act) [] (changes m h))) p
        ∙ written_next e.act (changes m h) ∙ sym (ap changes_in (own_self m e h p))
    by (inr p) =
        ap (λ b. cond b (cond (b && is_begin e.act) [] (changes m h) ++ option_to_list (change_in e.act)) (cond (b && is_begin e.act) [] (changes m h))) p
        ∙ sym (ap changes_in (own_other m e h p))

-- ---- locks

lock_none : (a : Act) (j : Key) → list_any (λ k. same_key k j) (option_to_list (locked_in a)) ≡ false → (takes j a ≡ false) × (gives_back j a ≡ false)
lock_none (Act.Lock k v f) j p = (sym (or-false (same_key k j)) ∙ p, refl)
lock_none (Act.Unlock k i) j p = (refl, sym (or-false (same_key k j)) ∙ p)
lock_none (Act.AfterUpdate k i r) j p = (refl, sym (or-false (same_key k j)) ∙ p)
lock_none _ j p = (refl, refl)

pub holders_next : (h : Journal) (e : Entry) (j : Key) →
    cond (list_any (λ k. same_key k j) (option_to_list (locked_in e.act))) (holders j (e ∷ h)) (cond (is_restart e.act) [] (holders j h)) ≡ holders j (e ∷ h)
holders_next h e j =
    settled (list_any (λ k. same_key k j) (option_to_list (locked_in e.act))) (holders j (e ∷ h)) (cond (is_restart e.act) [] (holders j h))
    (λ p. rw ((lock_none e.act j p).0, (lock_none e.act j p).1) refl)
