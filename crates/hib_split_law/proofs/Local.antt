-- What an entry of another part leaves as it is: what a part's reply reads of a journal is the same over the part's list.
use Rattle.std.specs.Prelude.{is_some, option_map, unwrap_or, option_and_then}
use Rattle.std.specs.Option.{option_map_or}
use Rattle.std.proofs.Common.{◌≡◌, ℕ, min, Bool, true, false, cond, not, ◌&&◌, ◌||◌, ◌==◌, nat_lt, List, [], ◌∷◌, length, Some, None, Option, refl, sym, ap, ◌∙◌, subst, arith}
use Rattle.std.proofs.lemmas.Bool.{true≢false, or_parts}
use Rattle.std.proofs.lemmas.Bool.Decides.{nat_tests}
use Rattle.std.specs.List.{filter, find, range_with_len}
use Rattle.hib_base.specs.Tables.{Tables, after_changes}
use Rattle.hib_journal.specs.Types.{Key, Change, Commit, Part, Act, Reply, Entry}
use Rattle.hib_journal.specs.Sessions.{Journal, own, is_by, is_session, changes, deferred_after, time, time_in, time_after, is_open, open_after, is_live, least_live, floor, is_restart, committer, committed, same_part}
use Rattle.hib_journal.specs.Slot.{history, touch, touch_at, key_in, slot_from}
use Rattle.hib_journal.specs.Room.{key, add_key, named, place, has_entry, may_leave, first_placed, victim, room, item, oldest}
use Rattle.hib_journal.specs.Stamps.{stamp_after, stamp, check_one, check}
use Rattle.hib_journal.specs.Results.{used, others_after, others, kept_after, last_kept, result, dropped}
use Rattle.hib_journal.specs.Legal.{part_of}
use Rattle.hib_journal.specs.Due.{asks_store}
use Rattle.hib_journal.specs.Lists.{stops, seen_by, unsaved, unsaved_after, stored_by, stored}
use Rattle.hib_split_law.proofs.Unsaved.{unsaved_own}

-- an entry in its act's part, which asks the store only while it defers all changes
pub record Fits (e : Entry) (h : Journal) : Type 0 where
  pub part : part_of e.act (unwrap_or e.session 0) ≡ e.part
  pub same : asks_store e.act ≡ true → unsaved (unwrap_or e.session 0) h ≡ changes (unwrap_or e.session 0) h

abbrev pub AllFit : Journal → Type 0
AllFit [] = Unit {0}
AllFit (e ∷ h) = AllFit h × Fits e h

abbrev Skips : {X : Type 0} → (Journal → X) → Part → Type 0
Skips f p = (e : Entry) (h : Journal) → same_part p (part_of e.act (unwrap_or e.session 0)) ≡ false → stops e.act ≡ false → f (e ∷ h) ≡ f h

abbrev Keeps : {X : Type 0} → (Journal → X) → Type 0
Keeps f = (e : Entry) (h l : Journal) → f h ≡ f l → f (e ∷ h) ≡ f (e ∷ l)

-- what entries of other parts leave as it is, hangs on the part's list
local : {X : Type 0} (f : Journal → X) (p : Part) → Skips f p → Keeps f → (h : Journal) → AllFit h → f h ≡ f (seen_by p h)
local f p skip keep [] a = refl
local f p skip keep (e ∷ h) a = by (same_part p e.part || stops e.act) refl (local f p skip keep h a.0)
  where
    by : (b : Bool) → (same_part p e.part || stops e.act) ≡ b → f h ≡ f (seen_by p h) → f (e ∷ h) ≡ f (seen_by p (e ∷ h))
    by true q i = rw q (keep e h (seen_by p h) i)
    by false q i =
        let r : (same_part p e.part ≡ false) × (stops e.act ≡ false) = or_parts (same_part p e.part) (stops e.act) q in
        rw q (skip e h (ap (same_part p) a.1.part ∙ r.0) r.1 ∙ i)

-- the same of one session's entries
local_own : {X : Type 0} (g : Journal → X) (p : Part) → Skips g p → Keeps g → (s : ℕ) (h : Journal) → AllFit h → g (own s h) ≡ g (own s (seen_by p h))
local_own g p skip keep s h a = local (λ j. g (own s j)) p (λ e j q o. passed (is_by s e) e j q o) (λ e j l i. kept (is_by s e) e j l i) h a
  where
    passed : (b : Bool) (e : Entry) (j : Journal) → same_part p (part_of e.act (unwrap_or e.session 0)) ≡ false → stops e.act ≡ false → g (cond b (e ∷ own s j) (own s j)) ≡ g (own s j)
    passed true e j q o = skip e (own s j) q o
    passed false e j q o = refl

    kept : (b : Bool) (e : Entry) (j l : Journal) → g (own s j) ≡ g (own s l) → g (cond b (e ∷ own s j) (own s j)) ≡ g (cond b (e ∷ own s l) (own s l))
    kept true e j l i = keep e (own s j) (own s l) i
    kept false e j l i = i

-- what stops no session is no restart
no_restart : (a : Act) → stops a ≡ false → is_restart a ≡ false
no_restart Act.Restart o = absurd (true≢false o)
no_restart _ o = refl

flip : (a b : ℕ) → (a == b) ≡ false → (b == a) ≡ false
flip a b p = grind (arith, nat_tests)

-- stamps

stamp_skip : (timeout t : ℕ) (a : Act) (s now : ℕ) (v : Option ℕ) → same_part Part.Stamps (part_of a s) ≡ false → stops a ≡ false → stamp_after timeout t a now v ≡ v
stamp_skip timeout t (Act.Pre ts) s now v p o = absurd (true≢false p)
stamp_skip timeout t (Act.Stamp ts) s now v p o = absurd (true≢false p)
stamp_skip timeout t Act.Restart s now v p o = absurd (true≢false o)
stamp_skip timeout t _ s now v p o = refl

stamp_local : (timeout t : ℕ) (h : Journal) → AllFit h → stamp timeout t h ≡ stamp timeout t (seen_by Part.Stamps h)
stamp_local timeout t h a = local (stamp timeout t) Part.Stamps (λ e j p o. stamp_skip timeout t e.act (unwrap_or e.session 0) e.tick (stamp timeout t j) p o)
    (λ e j l i. ap (stamp_after timeout t e.act e.tick) i) h a

pub check_local : (timeout time : ℕ) (ts : List ℕ) (h : Journal) → AllFit h → check timeout time ts h ≡ check timeout time ts (seen_by Part.Stamps h)
check_local timeout time [] h a = refl
check_local timeout time (t ∷ ts) h a = λ x. check_one time t (stamp_local timeout t h a x) (check_local timeout time ts h a x)

-- results

used_skip : (a : Act) (r : Reply) (s : ℕ) → same_part Part.Results (part_of a s) ≡ false → used a r ≡ None
used_skip (Act.Keep q t l) r s p = absurd (true≢false p)
used_skip (Act.Look q) r s p = absurd (true≢false p)
used_skip _ r s p = refl

others_local : (q : ℕ) (h : Journal) → AllFit h → others q h ≡ others q (seen_by Part.Results h)
others_local q h a = local (others q) Part.Results (λ e j p o. skip e j p o) (λ e j l i. ap (λ z. cond (is_restart e.act) [] (others_after q (used e.act e.reply) z)) i) h a
  where
    skip : Skips (others q) Part.Results
    skip e j p o = let u : used e.act e.reply ≡ None = used_skip e.act e.reply (unwrap_or e.session 0) p in rw (no_restart e.act o, u)

kept_skip : (q : ℕ) (a : Act) (s : ℕ) (r : Option (ℕ × List _)) → same_part Part.Results (part_of a s) ≡ false → stops a ≡ false → kept_after q a r ≡ r
kept_skip q (Act.Keep p t l) s r n o = absurd (true≢false n)
kept_skip q Act.Restart s r n o = absurd (true≢false o)
kept_skip q _ s r n o = refl

last_kept_local : (q : ℕ) (h : Journal) → AllFit h → last_kept q h ≡ last_kept q (seen_by Part.Results h)
last_kept_local q h a = local (last_kept q) Part.Results (λ e j p o. kept_skip q e.act (unwrap_or e.session 0) (last_kept q j) p o) (λ e j l i. ap (kept_after q e.act) i) h a

pub result_local : (capacity q : ℕ) (h : Journal) → AllFit h → result capacity q h ≡ result capacity q (seen_by Part.Results h)
unfolding result
result_local capacity q h a = λ x. cond (nat_lt (length (others_local q h a x)) capacity) (last_kept_local q h a x) None

pub dropped_local : (capacity queries q : ℕ) (h : Journal) → AllFit h → dropped capacity queries q h ≡ dropped capacity queries q (seen_by Part.Results h)
unfolding dropped
dropped_local capacity queries q h a =
    λ x. find (λ p. is_some (result_local capacity p h a x) && not (nat_lt (length (others_after p (Some q) (others_local p h a x))) capacity)) (range_with_len 0 queries)

-- regions

touch_elsewhere : (k j : Key) (a : Act) (r : Reply) → (k.entity == j.entity) ≡ false → touch_at k j a r ≡ None
touch_elsewhere k j a r p = rw (flip k.entity j.entity p)

touch_skip : (k : Key) (a : Act) (r : Reply) (s : ℕ) → same_part (Part.Region k.entity) (part_of a s) ≡ false → option_and_then (λ j. touch_at k j a r) (key_in a) ≡ None
touch_skip k (Act.Get j t) r s p = touch_elsewhere k j (Act.Get j t) r p
touch_skip k (Act.Put j y t f) r s p = touch_elsewhere k j (Act.Put j y t f) r p
touch_skip k (Act.AfterInsert j y f) r s p = touch_elsewhere k j (Act.AfterInsert j y f) r p
touch_skip k (Act.AfterUpdate j i y) r s p = touch_elsewhere k j (Act.AfterUpdate j i y) r p
touch_skip k (Act.Lock j v f) r s p = touch_elsewhere k j (Act.Lock j v f) r p
touch_skip k (Act.Unlock j i) r s p = touch_elsewhere k j (Act.Unlock j i) r p
touch_skip k (Act.RegionRemove j) r s p = touch_elsewhere k j (Act.RegionRemove j) r p
touch_skip k (Act.Evict j) r s p = touch_elsewhere k j (Act.Evict j) r p
touch_skip k _ r s p = refl

pub history_local : (k : Key) (h : Journal) → AllFit h → history k h ≡ history k (seen_by (Part.Region k.entity) h)
history_local k h a = local (history k) (Part.Region k.entity) (λ e j p o. skip e j p o) (λ e j l i. ap (λ z. cond (is_restart e.act) [] (option_map_or (λ t. (t, e.tick) ∷ z) (touch k e) z)) i) h a
  where
    skip : Skips (history k) (Part.Region k.entity)
    skip e j p o = let u : touch k e ≡ None = touch_skip k e.act e.reply (unwrap_or e.session 0) p in rw (no_restart e.act o, u)

name_elsewhere : (n : ℕ) (j : Key) (ids : List ℕ) → (n == j.entity) ≡ false → add_key n (Some j) ids ≡ ids
name_elsewhere n j ids p = rw (flip n j.entity p)

name_skip : (n : ℕ) (a : Act) (s : ℕ) (ids : List ℕ) → same_part (Part.Region n) (part_of a s) ≡ false → add_key n (key_in a) ids ≡ ids
name_skip n (Act.Get j t) s ids p = name_elsewhere n j ids p
name_skip n (Act.Put j y t f) s ids p = name_elsewhere n j ids p
name_skip n (Act.AfterInsert j y f) s ids p = name_elsewhere n j ids p
name_skip n (Act.AfterUpdate j i y) s ids p = name_elsewhere n j ids p
name_skip n (Act.Lock j v f) s ids p = name_elsewhere n j ids p
name_skip n (Act.Unlock j i) s ids p = name_elsewhere n j ids p
name_skip n (Act.RegionRemove j) s ids p = name_elsewhere n j ids p
name_skip n (Act.Evict j) s ids p = name_elsewhere n j ids p
name_skip n _ s ids p = refl

named_local : (n : ℕ) (h : Journal) → AllFit h → named n h ≡ named n (seen_by (Part.Region n) h)
named_local n h a = local (named n) (Part.Region n) (λ e j p o. name_skip n e.act (unwrap_or e.session 0) (named n j) p) (λ e j l i. ap (add_key n (key_in e.act)) i) h a

pub room_local : (timeout capacity n f : ℕ) (h : Journal) → AllFit h → room timeout capacity n f h ≡ room timeout capacity n f (seen_by (Part.Region n) h)
unfolding room victim
room_local timeout capacity n f h a = λ x. cond (nat_lt (length (filter (λ i. has_entry (slot_from timeout (history_local (key n i) h a x))) (named_local n h a x))) capacity) (Some None) (option_map (λ y. Some y) (first_placed (λ i. place (history_local (key n i) h a x)) (filter (λ i. may_leave f (slot_from timeout (history_local (key n i) h a x))) (named_local n h a x))))

pub oldest_local : (capacity n : ℕ) (h : Journal) → AllFit h → oldest capacity n h ≡ oldest capacity n (seen_by (Part.Region n) h)
unfolding oldest
oldest_local capacity n h a = λ x. cond
    (nat_lt (length (filter (λ i. is_some (item (history_local (key n i) h a x))) (named_local n h a x))) capacity) None
    (first_placed (λ i. option_map (λ p. p.1) (item (history_local (key n i) h a x))) (filter (λ i. is_some (item (history_local (key n i) h a x))) (named_local n h a x)))

-- the registry

open_skip : (s : ℕ) (by : Option ℕ) (a : Act) (n : ℕ) (o : Bool) → same_part Part.Registry (part_of a n) ≡ false → open_after s by a o ≡ o
open_skip s by Act.Begin n o p = absurd (true≢false p)
open_skip s by Act.End n o p = absurd (true≢false p)
open_skip s by (Act.Kill m) n o p = absurd (true≢false p)
open_skip s by Act.Restart n o p = absurd (true≢false p)
open_skip s by _ n o p = refl

open_local : (s : ℕ) (h : Journal) → AllFit h → is_open s h ≡ is_open s (seen_by Part.Registry h)
open_local s h a = local (is_open s) Part.Registry (λ e j p o. open_skip s e.session e.act (unwrap_or e.session 0) (is_open s j) p) (λ e j l i. ap (open_after s e.session e.act) i) h a

time_skip : (a : Act) (n now t : ℕ) → same_part Part.Registry (part_of a n) ≡ false → time_after a now t ≡ t
time_skip Act.Begin n now t p = absurd (true≢false p)
time_skip _ n now t p = refl

time_local : (s : ℕ) (h : Journal) → AllFit h → time s h ≡ time s (seen_by Part.Registry h)
time_local s h a = local_own time_in Part.Registry (λ e j p o. time_skip e.act (unwrap_or e.session 0) e.tick (time_in j) p) (λ e j l i. ap (time_after e.act e.tick) i) s h a

module _ (v w : Journal) (o : (s : ℕ) → is_open s v ≡ is_open s w) (t : (s : ℕ) → time s v ≡ time s w) where
  live_same : (a : Act) (by : Option ℕ) (tick : ℕ) → is_live v a by tick ≡ is_live w a by tick
  live_same Act.Begin (Some s) tick = λ x. o s x && (t s x == tick)
  live_same Act.Begin None tick = refl
  live_same _ by tick = refl

  least_same : (h : Journal) (now : ℕ) → least_live v h now ≡ least_live w h now
  least_same [] now = refl
  least_same (e ∷ h) now = λ x. cond (live_same e.act e.session e.tick x) (min e.tick (least_same h now x)) (least_same h now x)

live_skip : (w : Journal) (a : Act) (by : Option ℕ) (tick n : ℕ) → same_part Part.Registry (part_of a n) ≡ false → is_live w a by tick ≡ false
live_skip w Act.Begin by tick n p = absurd (true≢false p)
live_skip w _ by tick n p = refl

least_local : (w : Journal) (now : ℕ) (h : Journal) → AllFit h → least_live w h now ≡ least_live w (seen_by Part.Registry h) now
least_local w now h a = local (λ j. least_live w j now) Part.Registry (λ e j p o. skip e j p o)
    (λ e j l i. ap (λ z. cond (is_live w e.act e.session e.tick) (min e.tick z) z) i) h a
  where
    skip : Skips (λ j. least_live w j now) Part.Registry
    skip e j p o = rw (live_skip w e.act e.session e.tick (unwrap_or e.session 0) p)

pub floor_local : (h : Journal) (now : ℕ) → AllFit h → floor h now ≡ floor (seen_by Part.Registry h) now
floor_local h now a =
    least_same h (seen_by Part.Registry h) (λ s. open_local s h a) (λ s. time_local s h a) h now ∙ least_local (seen_by Part.Registry h) now h a

-- the store

deferred_skip : (a : Act) (s : ℕ) (cs : List Change) → same_part Part.Store (part_of a s) ≡ false → deferred_after a cs ≡ cs
deferred_skip (Act.Write c) s cs p = absurd (true≢false p)
deferred_skip Act.Commit s cs p = absurd (true≢false p)
deferred_skip Act.Rollback s cs p = absurd (true≢false p)
deferred_skip _ s cs p = refl

unsaved_skip : (n : ℕ) (by : Option ℕ) (a : Act) (s : ℕ) (cs : List Change) → same_part Part.Store (part_of a s) ≡ false → stops a ≡ false → unsaved_after n by a cs ≡ cs
unsaved_skip n by a s cs p o = unsaved_own n by a cs o ∙ by_session (is_session n by)
  where
    by_session : (b : Bool) → cond b (deferred_after a cs) cs ≡ cs
    by_session true = deferred_skip a s cs p
    by_session false = refl

pub unsaved_local : (n : ℕ) (h : Journal) → AllFit h → unsaved n h ≡ unsaved n (seen_by Part.Store h)
unsaved_local n h a = local (unsaved n) Part.Store (λ e j p o. unsaved_skip n e.session e.act (unwrap_or e.session 0) (unsaved n j) p o)
    (λ e j l i. ap (unsaved_after n e.session e.act) i) h a

committer_skip : (a : Act) (r : Reply) (by : Option ℕ) (s : ℕ) → same_part Part.Store (part_of a s) ≡ false → committer a r by ≡ None
committer_skip Act.Commit r by s p = absurd (true≢false p)
committer_skip _ r by s p = refl

committer_asks : (a : Act) (r : Reply) (by : Option ℕ) (n : ℕ) → committer a r by ≡ Some n → (asks_store a ≡ true) × (by ≡ Some n)
committer_asks Act.Commit (Reply.Commit Commit.Committed) by n p = (refl, p)
committer_asks _ _ by n p = absurd (none p)
  where
    none : ◌≡◌ {A = Option ℕ} None (Some n) → ⊥
    none q = cc

pub committed_local : (start : Tables) (h : Journal) → AllFit h → committed start h ≡ stored start (seen_by Part.Store h)
committed_local start [] a = refl
committed_local start (e ∷ h) a = by (same_part Part.Store e.part || stops e.act) refl (committed_local start h a.0)
  where
    asked : (n : ℕ) → committer e.act e.reply e.session ≡ Some n → changes n h ≡ unsaved n (seen_by Part.Store h)
    asked n p =
        let r : (asks_store e.act ≡ true) × (e.session ≡ Some n) = committer_asks e.act e.reply e.session n p in
        subst (λ m. changes m h ≡ unsaved m (seen_by Part.Store h)) (ap (λ o. unwrap_or o 0) r.1) (sym (a.1.same r.0) ∙ unsaved_local (unwrap_or e.session 0) h a.0)

    by_committer : (o : Option ℕ) → committer e.act e.reply e.session ≡ o → committed start h ≡ stored start (seen_by Part.Store h) →
        option_map_or (λ s. after_changes (changes s h) (committed start h)) o (committed start h) ≡ stored_by o (seen_by Part.Store h) (stored start (seen_by Part.Store h))
    by_committer None p i = i
    by_committer (Some n) p i = λ x. after_changes (asked n p x) (i x)

    by : (b : Bool) → (same_part Part.Store e.part || stops e.act) ≡ b → committed start h ≡ stored start (seen_by Part.Store h) → committed start (e ∷ h) ≡ stored start (seen_by Part.Store (e ∷ h))
    by true q i = rw q (by_committer (committer e.act e.reply e.session) refl i)
    by false q i =
        let r : (same_part Part.Store e.part ≡ false) × (stops e.act ≡ false) = or_parts (same_part Part.Store e.part) (stops e.act) q in
        rw (q, committer_skip e.act e.reply e.session (unwrap_or e.session 0) (ap (same_part Part.Store) a.1.part ∙ r.0)) i
