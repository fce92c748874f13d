-- A key of which nothing is told stays sound, or isn't.
use Rattle.std.specs.Prelude.{option_to_list}
use Rattle.std.specs.List.{filter, list_any, list_all}
use Rattle.std.specs.Option.{option_map_or}
use Rattle.std.proofs.Common.{ℕ, ◌≡◌, ◌+◌, ◌==◌, Bool, true, false, cond, not, ◌&&◌, ◌||◌, List, [], ◌∷◌, length, Some, None, Option, is_some, refl, sym, ap, ◌∙◌, inl, inr}
use Rattle.std.proofs.Math.Bool.{and-false, or-false}
use Rattle.hib_base.specs.Keys.{same_key}
use Rattle.hib_base.proofs.Tables.{Tested, tested, same_key_eq}
use Rattle.hib_journal.specs.Types.{Key, Change, Entry, Script}
use Rattle.hib_journal.specs.Sessions.{Journal, is_restart, changes, committer}
use Rattle.hib_journal.specs.Slot.{Touch, history, key_in, touch, touch_here, touch_at, evicted_in}
use Rattle.hib_journal.specs.Sound.{commits, deletes_key, inserts_key, is_calm, is_sound, leaves_calm, was_deleted, was_reused}
use Rattle.hib_follow.specs.Deleted.{last_deleted}
use Rattle.hib_states.specs.States.{is_guarded}
use Rattle.hib_states.proofs.Choices.{and_true}
use Rattle.hib_states.proofs.Taken.{changes_by, reuses}

deleted_is : (k : Key) (h : Journal) → is_some (last_deleted k h) ≡ was_deleted k h
deleted_is k [] = refl
deleted_is k (e ∷ h) = by (is_restart e.act) (commits (deletes_key k) h e) (deleted_is k h)
  where
    by : (r c : Bool) → is_some (last_deleted k h) ≡ was_deleted k h →
        is_some (cond r None (cond c (Some (length h + 1)) (last_deleted k h))) ≡ cond r false (c || was_deleted k h)
    by true c p = refl
    by false true p = refl
    by false false p = p

reuse_one : (script : Script) (h : Journal) (j : Key) (c : Change) → reuses script h j c ≡ (is_guarded script j && (inserts_key j c && was_deleted j h))
reuse_one script h j (Change.Insert k r) = by (tested (same_key k j))
  where
    swapped : (g d : Bool) → (g && (d && true)) ≡ (g && (true && d))
    swapped true true = refl
    swapped true false = refl
    swapped false d = refl

    by : Tested (same_key k j) → (is_guarded script k && (is_some (last_deleted k h) && same_key k j)) ≡ (is_guarded script j && (same_key k j && was_deleted j h))
    by (inl p) =
        rw p (ap (λ (i : Key). is_guarded script i && (is_some (last_deleted i h) && true)) (same_key_eq k j p)
        ∙ ap (λ d. is_guarded script j && (d && true)) (deleted_is j h) ∙ swapped (is_guarded script j) (was_deleted j h))
    by (inr p) = rw (p, and-false (is_some (last_deleted k h)), and-false (is_guarded script k)) (sym (and-false (is_guarded script j)))
reuse_one script h j (Change.Update k v r) = sym (and-false (is_guarded script j))
reuse_one script h j (Change.Delete k v) = sym (and-false (is_guarded script j))

apart : (g x y d : Bool) → ((g && (x && d)) || (g && (y && d))) ≡ (g && ((x || y) && d))
apart false x y d = refl
apart true true true true = refl
apart true true false true = refl
apart true true y false = and-false y
apart true false y d = refl

reuse_any : (script : Script) (h : Journal) (j : Key) (cs : List Change) →
    list_any (reuses script h j) cs ≡ (is_guarded script j && (list_any (inserts_key j) cs && was_deleted j h))
reuse_any script h j [] = sym (and-false (is_guarded script j))
reuse_any script h j (c ∷ cs) =
    (λ i. reuse_one script h j c i || reuse_any script h j cs i) ∙ apart (is_guarded script j) (inserts_key j c) (list_any (inserts_key j) cs) (was_deleted j h)

reuse_at : (script : Script) (h : Journal) (j : Key) (e : Entry) →
    list_any (reuses script h j) (changes_by h (committer e.act e.reply e.session)) ≡ (is_guarded script j && (commits (inserts_key j) h e && was_deleted j h))
reuse_at script h j e = by (committer e.act e.reply e.session)
  where
    by : (o : Option ℕ) → list_any (reuses script h j) (changes_by h o)
        ≡ (is_guarded script j && (option_map_or (λ s. list_any (inserts_key j) (changes s h)) o false && was_deleted j h))
    by None = sym (and-false (is_guarded script j))
    by (Some n) = reuse_any script h j (changes n h)

filter_one : (p : Key → Bool) (k j : Key) → list_any (λ m. same_key m j) (filter p (k ∷ [])) ≡ (p k && same_key k j)
filter_one p k j = by (tested (p k))
  where
    by : Tested (p k) → list_any (λ m. same_key m j) (filter p (k ∷ [])) ≡ (p k && same_key k j)
    by (inl t) = rw t (or-false (same_key k j))
    by (inr n) = rw n refl

left_calm : (b : Bool) → leaves_calm (cond b (Some Touch.Leaves) None) ≡ true
left_calm true = refl
left_calm false = refl

expired_any : (script : Script) (j : Key) (e : Entry) →
    list_any (λ k. same_key k j) (filter (λ k. is_guarded script k && not (leaves_calm (touch_here e.act e.reply))) (option_to_list (key_in e.act)))
    ≡ (is_guarded script j && not (leaves_calm (touch j e)))
expired_any script j e = by (key_in e.act) refl
  where
    bad : Bool
    bad = not (leaves_calm (touch_here e.act e.reply))

    at : (here : Key) → Tested (same_key here j) → ((is_guarded script here && bad) && same_key here j) ≡ (is_guarded script j && not (leaves_calm (touch_at j here e.act e.reply)))
    at here (inl p) = rw p (and_true (is_guarded script here && bad) ∙ ap (λ (k : Key). is_guarded script k && bad) (same_key_eq here j p))
    at here (inr p) =
        rw (p, and-false (is_guarded script here && bad), left_calm ((here.entity == j.entity) && option_map_or (λ i. i == j.id) (evicted_in e.reply) false))
        (sym (and-false (is_guarded script j)))

    by : (o : Option Key) → key_in e.act ≡ o →
        list_any (λ k. same_key k j) (filter (λ k. is_guarded script k && bad) (option_to_list (key_in e.act))) ≡ (is_guarded script j && not (leaves_calm (touch j e)))
    by None p = rw p (sym (and-false (is_guarded script j)))
    by (Some here) p = rw p (filter_one (λ k. is_guarded script k && bad) here j ∙ at here (tested (same_key here j)))

both_sound : (x l b u : Bool) → ((x && l) && not (b || u)) ≡ (x && (not b && (l && not u)))
both_sound false l b u = refl
both_sound true l true u = and-false l
both_sound true l false u = refl

calm_next : (j : Key) (e : Entry) (h : Journal) → is_restart e.act ≡ false →
    list_all (λ (t : Touch × ℕ). is_calm t.0) (history j (e ∷ h)) ≡ (leaves_calm (touch j e) && list_all (λ (t : Touch × ℕ). is_calm t.0) (history j h))
calm_next j e h n = by (touch j e) refl
  where
    by : (o : Option Touch) → touch j e ≡ o →
        list_all (λ (t : Touch × ℕ). is_calm t.0) (history j (e ∷ h)) ≡ (leaves_calm (touch j e) && list_all (λ (t : Touch × ℕ). is_calm t.0) (history j h))
    by None p = rw (n, p) refl
    by (Some t) p = rw (n, p) refl

sound_next : (j : Key) (e : Entry) (h : Journal) →
    is_sound j (e ∷ h) ≡ cond (is_restart e.act) true (leaves_calm (touch j e) && (not (commits (inserts_key j) h e && was_deleted j h) && is_sound j h))
unfolding is_sound
sound_next j e h = by (tested (is_restart e.act))
  where
    calm : Journal → Bool
    calm g = list_all (λ (t : Touch × ℕ). is_calm t.0) (history j g)

    by : Tested (is_restart e.act) → (calm (e ∷ h) && not (was_reused j (e ∷ h)))
        ≡ cond (is_restart e.act) true (leaves_calm (touch j e) && (not (commits (inserts_key j) h e && was_deleted j h) && (calm h && not (was_reused j h))))
    by (inl r) = rw r refl
    by (inr n) =
        ap (λ b. b && not (was_reused j (e ∷ h))) (calm_next j e h n)
        ∙ rw n (both_sound (leaves_calm (touch j e)) (calm h) (commits (inserts_key j) h e && was_deleted j h) (was_reused j h))

told_sound : (r g b x s : Bool) → cond r true (cond (g && b) false (cond (g && not x) false (cond g s true))) ≡ cond g (cond r true (x && (not b && s))) true
told_sound true true b x s = refl
told_sound true false b x s = refl
told_sound false false b x s = refl
told_sound false true true true s = refl
told_sound false true true false s = refl
told_sound false true false true s = refl
told_sound false true false false s = refl

pub unsound_next : (script : Script) (h : Journal) (e : Entry) (j : Key) →
    cond (is_restart e.act) true (cond (list_any (reuses script h j) (changes_by h (committer e.act e.reply e.session))) false
    (cond (list_any (λ k. same_key k j) (filter (λ k. is_guarded script k && not (leaves_calm (touch_here e.act e.reply))) (option_to_list (key_in e.act)))) false
    (cond (is_guarded script j) (is_sound j h) true)))
    ≡ cond (is_guarded script j) (is_sound j (e ∷ h)) true
unsound_next script h e j =
    (λ i. cond (is_restart e.act) true (cond (reuse_at script h j e i) false (cond (expired_any script j e i) false (cond (is_guarded script j) (is_sound j h) true))))
    ∙ told_sound (is_restart e.act) (is_guarded script j) (commits (inserts_key j) h e && was_deleted j h) (leaves_calm (touch j e)) (is_sound j h)
    ∙ ap (λ b. cond (is_guarded script j) b true) (sym (sound_next j e h))
