-- The unsound keys of a report are all that there are: each read-write key that is not sound is among them.
use Rattle.std.specs.Prelude.{option_and_then}
use Rattle.std.specs.Option.{option_map_or}
use Rattle.std.proofs.Common.{◌≡◌, refl, inl, inr, ℕ, Bool, true, false, not, cond, ◌&&◌, ◌||◌, ◌==◌, Some, None, Option, List, [], ◌∷◌}
use Rattle.std.specs.List.{list_any, list_all}
use Rattle.std.proofs.lemmas.Bool.{or_parts}
use Rattle.std.proofs.lemmas.Map.Views.{any-filter_same}
use Rattle.hib_base.specs.Keys.{same_key, is_before}
use Rattle.hib_base.specs.Tables.{key_of}
use Rattle.hib_base.proofs.Tables.{Tested, tested, same_key_eq, same_key_refl}
use Rattle.hib_journal.specs.Types.{Key, Change, Act, Reply, Script}
use Rattle.hib_journal.specs.Sessions.{Journal, is_by, changes, committer, is_restart}
use Rattle.hib_journal.specs.Slot.{Touch, key_in, evicted_in, history, touch_at}
use Rattle.hib_journal.specs.Next.{strategy}
use Rattle.hib_journal.specs.Sound.{deletes_key, inserts_key, commits, was_deleted, was_reused, is_sound, is_calm, leaves_calm}
use Rattle.hib_report.specs.Unsound.{named, is_read_write, with_key, with_named, keys_in, unsound}
use Rattle.hib_report.proofs.Passed.{calm_more, wrote_by, wrote_more}

abbrev pub is_there : Key → List Key → Bool
is_there k ks = list_any (λ j. same_key j k) ks

abbrev names : Key → Option Key → Bool
names k None = false
names k (Some j) = same_key j k

abbrev is_named : Key → Journal → Bool
is_named k past = list_any (λ e. names k (named e.act)) past

-- a key that was put among others is there

put_there : (k : Key) (ks : List Key) → is_there k (with_key k ks) ≡ true
put_there k [] = rw (same_key_refl k)
put_there k (j ∷ js) = at_key (tested (same_key j k)) (tested (is_before k j)) (put_there k js)
  where
    at_key : Tested (same_key j k) → Tested (is_before k j) → is_there k (with_key k js) ≡ true → is_there k (with_key k (j ∷ js)) ≡ true
    at_key (inl p) b h = rw (p, p)
    at_key (inr p) (inl b) h = rw (p, b, same_key_refl k)
    at_key (inr p) (inr b) h = rw (p, b, p) h

-- and the others stay

stays : (k i : Key) (ks : List Key) → is_there k ks ≡ true → is_there k (with_key i ks) ≡ true
stays k i [] h = absurd (cc)
stays k i (j ∷ js) h = at_key (tested (same_key j i)) (tested (is_before i j)) (tested (same_key j k)) (tested (same_key i k)) (stays k i js)
  where
    at_key : Tested (same_key j i) → Tested (is_before i j) → Tested (same_key j k) → Tested (same_key i k) →
        (is_there k js ≡ true → is_there k (with_key i js) ≡ true) → is_there k (with_key i (j ∷ js)) ≡ true
    at_key (inl p) b c d g = rw p h
    at_key (inr p) (inl b) c (inl d) g = rw (p, b, d)
    at_key (inr p) (inl b) c (inr d) g = rw (p, b, d) h
    at_key (inr p) (inr b) (inl c) d g = rw (p, b, c)
    at_key (inr p) (inr b) (inr c) d g = rw (p, b, c) (g (rw c at h))

stays_with : (script : Script) (k : Key) (o : Option Key) (ks : List Key) → is_there k ks ≡ true → is_there k (with_named script o ks) ≡ true
stays_with script k None ks h = h
stays_with script k (Some j) ks h = at_test (tested (is_read_write (strategy script j.entity)))
  where
    at_test : Tested (is_read_write (strategy script j.entity)) → is_there k (with_named script (Some j) ks) ≡ true
    at_test (inl p) = rw p (stays k j ks h)
    at_test (inr p) = rw p h

comes_with : (script : Script) (k : Key) (o : Option Key) (ks : List Key) → is_read_write (strategy script k.entity) ≡ true → names k o ≡ true →
    is_there k (with_named script o ks) ≡ true
comes_with script k None ks w h = absurd (cc)
comes_with script k (Some j) ks w h = rw (same_key_eq j k h, w) (put_there k ks)

there : (script : Script) (k : Key) (past : Journal) → is_read_write (strategy script k.entity) ≡ true → is_named k past ≡ true →
    is_there k (keys_in script past) ≡ true
there script k [] w h = absurd (cc)
there script k (e ∷ past) w h = at_entry (tested (names k (named e.act))) (there script k past w)
  where
    at_entry : Tested (names k (named e.act)) → (is_named k past ≡ true → is_there k (keys_in script past) ≡ true) →
        is_there k (keys_in script (e ∷ past)) ≡ true
    at_entry (inl p) g = comes_with script k (named e.act) (keys_in script past) w p
    at_entry (inr p) g = stays_with script k (named e.act) (keys_in script past) (g (rw p at h))

-- a key that no act names is calm

cond_same : {X : Type 0} → (b : Bool) (x y : X) → x ≡ y → cond b y x ≡ y
cond_same true x y h = refl
cond_same false x y h = h

left_alone : (b : Bool) → leaves_calm (cond b (Some Touch.Leaves) None) ≡ true
left_alone true = refl
left_alone false = refl

calm_elsewhere : (k : Key) (o : Option Key) (a : Act) (r : Reply) → names k o ≡ false → leaves_calm (option_and_then (λ j. touch_at k j a r) o) ≡ true
calm_elsewhere k None a r h = refl
calm_elsewhere k (Some j) a r h = rw h (left_alone ((j.entity == k.entity) && option_map_or (λ v. v == k.id) (evicted_in r) false))

unnamed_here : (k : Key) (a : Act) → names k (named a) ≡ false → names k (key_in a) ≡ false
unnamed_here k (Act.Write c) h = refl
unnamed_here k _ h = h

calm_unnamed : (k : Key) (past : Journal) → is_named k past ≡ false → list_all (λ t. is_calm t.0) (history k past) ≡ true
calm_unnamed k [] h = refl
calm_unnamed k (e ∷ past) h =
    let p : (names k (named e.act) ≡ false) × (is_named k past ≡ false) = or_parts (names k (named e.act)) (is_named k past) h in
    rw (calm_more k e past, calm_elsewhere k (key_in e.act) e.act e.reply (unnamed_here k e.act p.0), calm_unnamed k past p.1)
    (cond_same (is_restart e.act) true true refl)

-- and no commit deleted it

spares : (k : Key) (c : Change) → same_key (key_of c) k ≡ false → deletes_key k c ≡ false
spares k (Change.Delete j v) h = h
spares k (Change.Insert j r) h = refl
spares k (Change.Update j v r) h = refl

spared_by : (k : Key) (a : Act) → names k (named a) ≡ false → wrote_by (deletes_key k) a false ≡ false
spared_by k (Act.Write c) h = rw (spares k c h)
spared_by k _ h = refl

undeleted : (k : Key) (s : ℕ) (past : Journal) → is_named k past ≡ false → list_any (deletes_key k) (changes s past) ≡ false
undeleted k s [] h = refl
undeleted k s (e ∷ past) h =
    let p : (names k (named e.act) ≡ false) × (is_named k past ≡ false) = or_parts (names k (named e.act)) (is_named k past) h in
    rw (wrote_more (deletes_key k) s e past, undeleted k s past p.1, spared_by k e.act p.0) (cond_same (is_by s e) false false refl)

no_commit : (k : Key) (past : Journal) (o : Option ℕ) → is_named k past ≡ false → option_map_or (λ s. list_any (deletes_key k) (changes s past)) o false ≡ false
no_commit k past None h = refl
no_commit k past (Some s) h = undeleted k s past h

never_deleted : (k : Key) (past : Journal) → is_named k past ≡ false → was_deleted k past ≡ false
never_deleted k [] h = refl
never_deleted k (e ∷ past) h =
    let p : (names k (named e.act) ≡ false) × (is_named k past ≡ false) = or_parts (names k (named e.act)) (is_named k past) h in
    rw (no_commit k past (committer e.act e.reply e.session) p.1, never_deleted k past p.1) (cond_same (is_restart e.act) false false refl)

not_both : (b : Bool) → ((b && false) || false) ≡ false
not_both true = refl
not_both false = refl

never_reused : (k : Key) (past : Journal) → is_named k past ≡ false → was_reused k past ≡ false
never_reused k [] h = refl
never_reused k (e ∷ past) h =
    let p : (names k (named e.act) ≡ false) × (is_named k past ≡ false) = or_parts (names k (named e.act)) (is_named k past) h in
    rw (never_deleted k past p.1, never_reused k past p.1)
    (cond_same (is_restart e.act) _ false (not_both (commits (inserts_key k) past e)))

sound_unnamed : (k : Key) (past : Journal) → is_named k past ≡ false → is_sound k past ≡ true
unfolding is_sound
sound_unnamed k past h = rw (calm_unnamed k past h, never_reused k past h)

-- a read-write key that is not sound is printed
pub unsound_there : (script : Script) (k : Key) (past : Journal) → is_read_write (strategy script k.entity) ≡ true → is_sound k past ≡ false →
    is_there k (unsound script past) ≡ true
unsound_there script k past w h = at_test (tested (is_named k past))
  where
    same_test : (j : Key) → same_key j k ≡ true → not (is_sound j past) ≡ true
    same_test j e = rw (same_key_eq j k e, h)

    at_test : Tested (is_named k past) → is_there k (unsound script past) ≡ true
    at_test (inl p) = rw (any-filter_same (λ j. same_key j k) (λ j. not (is_sound j past)) true same_test (keys_in script past)) (there script k past w p)
    at_test (inr p) = absurd (let s : is_sound k past ≡ true = sound_unnamed k past p in cc)
