-- Keys that a commit deletes, one change after another; and when a key was deleted, with one entry more.
use Rattle.std.specs.Prelude.{slice_get}
use Rattle.std.specs.Borrow.{Bor}
use Rattle.std.specs.List.{list_any}
use Rattle.std.specs.Map.{lookup}
use Rattle.std.specs.Option.{option_map_or}
use Rattle.std.proofs.Common.{◌≡◌, ℕ, ◌+◌, ◌<◌, ◌||◌, Bool, true, false, cond, List, [], ◌∷◌, ◌++◌, length, get_or, take, Some, None, Option, refl, sym, ap, ◌∙◌}
use Rattle.std.proofs.Math.Bool.{or-false}
use Rattle.std.proofs.lemmas.List.{take_more, map-append}
use Rattle.std.proofs.lemmas.List.Folds.{list_any-append}
use Rattle.hib_base.specs.Keys.{same_key}
use Rattle.hib_journal.specs.Types.{Key, Change, Entry}
use Rattle.hib_journal.specs.Sessions.{Journal, own, changes, changes_in, committer, is_restart}
use Rattle.hib_journal.specs.Sound.{commits, deletes_key}
use Rattle.hib_follow.specs.Deleted.{AreDeleted, changes_of, committed_at}
use Rattle.hib_follow.specs.Desks.{changes_at, IsKnown, AreDesks}
use Rattle.hib_follow.specs.declared.desk.Desk.{Desk}

any_more : (k : Key) (x : Bor Change) (xs : List (Bor Change)) (i : ℕ) → i < length xs → x ≡ get_or xs i x →
    list_any (deletes_key k) (changes_at (take (i + 1) xs)) ≡ (list_any (deletes_key k) (changes_at (take i xs)) || deletes_key k x.now)
any_more k x xs i l is =
    ap (λ (ys : List (Bor Change)). list_any (deletes_key k) (changes_at ys)) (take_more xs i x l ∙ ap (λ (y : Bor Change). take i xs ++ y ∷ []) (sym is))
    ∙ ap (list_any (deletes_key k)) (map-append (λ (c : Bor Change). c.now) (take i xs) (x ∷ []))
    ∙ list_any-append (deletes_key k) (changes_at (take i xs)) (x.now ∷ [])
    ∙ ap (λ b. list_any (deletes_key k) (changes_at (take i xs)) || b) (or-false (deletes_key k x.now))

either : (a b : Bool) (s old mid new : Option ℕ) → mid ≡ cond a s old → new ≡ cond b s mid → new ≡ cond (a || b) s old
either true true s old mid new m n = n
either true false s old mid new m n = n ∙ m
either false true s old mid new m n = n
either false false s old mid new m n = n ∙ m

pub delete_step : (k : Key) (x : Bor Change) (xs : List (Bor Change)) (i : ℕ) (s old mid new : Option ℕ) → i < length xs → x ≡ get_or xs i x →
    mid ≡ cond (list_any (deletes_key k) (changes_at (take i xs))) s old → new ≡ cond (deletes_key k x.now) s mid →
    new ≡ cond (list_any (deletes_key k) (changes_at (take (i + 1) xs))) s old
delete_step k x xs i s old mid new l is m e =
    either (list_any (deletes_key k) (changes_at (take i xs))) (deletes_key k x.now) s old mid new m e
    ∙ ap (λ b. cond b s old) (sym (any_more k x xs i l is))

-- what is known of the session that commits is what it had written
changes_known : (es : List Entry) (m : Journal) (o : Option Desk) → IsKnown es m o → changes_of o ≡ changes_in m
changes_known es m None k = sym (ap changes_in k)
changes_known es m (Some d) k = k.written

commits_known : (es : List Entry) (k : Key) (h : Journal) (e : Entry) (ds : List Desk) → AreDesks es h ds →
    list_any (deletes_key k) (committed_at ds (committer e.act e.reply e.session)) ≡ commits (deletes_key k) h e
commits_known es k h e ds a = by (committer e.act e.reply e.session)
  where
    by : (o : Option ℕ) → list_any (deletes_key k) (committed_at ds o) ≡ option_map_or (λ s. list_any (deletes_key k) (changes s h)) o false
    by None = refl
    by (Some s) = ap (list_any (deletes_key k)) (changes_known es (own s h) (slice_get ds s) (a s))

pub deleted_more : (es : List Entry) (e : Entry) (h : Journal) (n : ℕ) (ds : List Desk) (m m2 : List (Key × ℕ)) → length h + 1 ≡ n → AreDesks es h ds →
    ((k : Key) → lookup (same_key k) m2 ≡ cond (is_restart e.act) None
    (cond (list_any (deletes_key k) (committed_at ds (committer e.act e.reply e.session))) (Some n) (lookup (same_key k) m))) →
    AreDeleted h m → AreDeleted (e ∷ h) m2
deleted_more es e h n ds m m2 p d f a = λ k.
    f k ∙ ap (λ b. cond (is_restart e.act) None (cond b (Some n) (lookup (same_key k) m))) (commits_known es k h e ds d)
    ∙ ap (λ i. cond (is_restart e.act) None (cond (commits (deletes_key k) h e) (Some i) (lookup (same_key k) m))) (sym p)
    ∙ ap (λ o. cond (is_restart e.act) None (cond (commits (deletes_key k) h e) (Some (length h + 1)) o)) (a k)

pub deleted_first : AreDeleted [] []
deleted_first = λ k. refl
