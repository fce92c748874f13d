-- The pass over a journal: what it knows of keys and of sessions, after one more key or one more entry.
use Rattle.std.specs.Option.{option_map_or}
use Rattle.std.proofs.Common.{Result, Ok, Err, OnOk, ◌≡◌, ℕ, ◌+◌, ◌<◌, inl, inr, Bool, true, false, cond, not, ◌&&◌, ◌||◌, List, [], ◌∷◌, ◌++◌, take, length, get_or, Some, None, Option, refl, sym, ap, ◌∙◌}
use Rattle.std.specs.List.{list_any, list_all}
use Rattle.std.proofs.Math.Bool.{or_comm, or-false}
use Rattle.std.proofs.lemmas.Bool.{false≢true}
use Rattle.std.proofs.lemmas.List.{take_more}
use Rattle.std.proofs.lemmas.List.Folds.{list_any-append}
use Rattle.hib_base.specs.Keys.{same_key}
use Rattle.hib_base.proofs.Tables.{Tested, tested, same_key_eq}
use Rattle.hib_journal.specs.Types.{Key, Change, Act, Reply, Entry}
use Rattle.hib_journal.specs.Sessions.{Journal, is_by, is_restart, committer, changes}
use Rattle.hib_journal.specs.Slot.{touch, history}
use Rattle.hib_journal.specs.Sound.{was_deleted, was_reused, inserts_key, deletes_key, is_calm, is_sound, leaves_calm}
use Rattle.hib_report.specs.declared.watch.Course.{Course}
use Rattle.hib_report.specs.declared.watch.Written.{Written}
use Rattle.hib_report.specs.Watch.{Courses, Writers, fresh, course_at, written_at, reused_if, calm_if, committed_by, act_noted, names_key, Watches}
use Rattle.hib_report.proofs.Passed.{calm_more, wrote_by, wrote_more}

-- one more key of a list
pub named_more : (k d : Key) (ks : List Key) (i : ℕ) → i < length ks → names_key k (take (i + 1) ks) ≡ (names_key k (take i ks) || same_key (get_or ks i d) k)
named_more k d ks i l =
    ap (names_key k) (take_more ks i d l) ∙ list_any-append (λ j. same_key j k) (take i ks) (get_or ks i d ∷ [])
    ∙ ap (λ b. names_key k (take i ks) || b) (or-false (same_key (get_or ks i d) k))

reused_or : (r x y d : Bool) → ((r || (x && d)) || (y && d)) ≡ (r || ((x || y) && d))
reused_or true x y d = refl
reused_or false true true true = refl
reused_or false true true false = refl
reused_or false true false true = refl
reused_or false true false false = refl
reused_or false false y d = refl

-- a key that is inserted by two of the keys is inserted once
pub reused_twice : (x y : Bool) (c : Course) → reused_if y (reused_if x c) ≡ reused_if (x || y) c
reused_twice x y c = ap (λ b. record c { reused = b }) (reused_or c.reused x y c.deleted)

-- one key more is inserted: a is what was known of it, b what is known of k, which the keys before it have changed
pub insert_step : (j k : Key) (x : Bool) (a b c n : Course) → (same_key j k ≡ true → a ≡ b) → b ≡ reused_if x c →
    n ≡ cond (same_key j k) (reused_if true a) b → n ≡ reused_if (x || same_key j k) c
insert_step j k x a b c n same was now = by (tested (same_key j k))
  where
    by : Tested (same_key j k) → n ≡ reused_if (x || same_key j k) c
    by (inl p) =
        let e : n ≡ reused_if true a = rw p at now in
        let f : a ≡ reused_if x c = same p ∙ was in
        rw p (e ∙ (ap (reused_if true) f ∙ reused_twice x true c))
    by (inr p) =
        let e : n ≡ b = rw p at now in
        rw p (e ∙ (was ∙ ap (λ y. reused_if y c) (sym (or-false x))))

-- an entry more

calm_committed : (o : Option ℕ) (ws : Writers) (k : Key) (c : Course) → (committed_by o ws k c).calm ≡ c.calm
calm_committed None ws k c = refl
calm_committed (Some s) ws k c = refl

calm_answered : (r b : Bool) (c : Course) → (cond r fresh (calm_if b c)).calm ≡ cond r true (b && c.calm)
calm_answered true b c = refl
calm_answered false b c = refl

deleted_answered : (r b : Bool) (c : Course) → (cond r fresh (calm_if b c)).deleted ≡ cond r false c.deleted
deleted_answered true b c = refl
deleted_answered false b c = refl

reused_answered : (r b : Bool) (c : Course) → (cond r fresh (calm_if b c)).reused ≡ cond r false c.reused
reused_answered true b c = refl
reused_answered false b c = refl

no_commit : (a : Act) (r : Reply) (s : Option ℕ) → is_restart a ≡ true → committer a r s ≡ None
no_commit Act.Restart r s e = refl
no_commit _ r s e = absurd (false≢true e)

module _ (courses : Courses) (written : Writers) (h : Journal) (w : Watches courses written h) (k : Key) where
  deleted_by : (r : Bool) (o : Option ℕ) (c : Course) → (r ≡ true → o ≡ None) → c.deleted ≡ cond r false (was_deleted k h) →
      (committed_by o written k c).deleted ≡ cond r false (option_map_or (λ s. list_any (deletes_key k) (changes s h)) o false || was_deleted k h)
  deleted_by true o c n e = rw (n refl) e
  deleted_by false None c n e = e
  deleted_by false (Some s) c n e = ap (λ b. b || c.deleted) (w.deletes s k) ∙ ap (λ b. list_any (deletes_key k) (changes s h) || b) e

  reused_by : (r : Bool) (o : Option ℕ) (c : Course) → (r ≡ true → o ≡ None) → c.deleted ≡ cond r false (was_deleted k h) → c.reused ≡ cond r false (was_reused k h) →
      (committed_by o written k c).reused ≡ cond r false ((option_map_or (λ s. list_any (inserts_key k) (changes s h)) o false && was_deleted k h) || was_reused k h)
  reused_by true o c n d e = rw (n refl) e
  reused_by false None c n d e = e
  reused_by false (Some s) c n d e =
      ap (λ b. c.reused || (b && c.deleted)) (w.inserts s k)
      ∙ ap (λ b. c.reused || (list_any (inserts_key k) (changes s h) && b)) d
      ∙ ap (λ b. b || (list_any (inserts_key k) (changes s h) && was_deleted k h)) e
      ∙ or_comm (was_reused k h) (list_any (inserts_key k) (changes s h) && was_deleted k h)

-- a change that is noted

one_more : (k j : Key) (ks : List Key) → names_key k (ks ++ j ∷ []) ≡ (same_key j k || names_key k ks)
one_more k j ks =
    list_any-append (λ i. same_key i k) ks (j ∷ []) ∙ or_comm (names_key k ks) (same_key j k || false) ∙ ap (λ b. b || names_key k ks) (or-false (same_key j k))

inserted_noted : (k : Key) (a : Act) (x : Written) → names_key k (act_noted a x).inserted ≡ wrote_by (inserts_key k) a (names_key k x.inserted)
inserted_noted k (Act.Write (Change.Insert j r)) x = one_more k j x.inserted
inserted_noted k (Act.Write (Change.Update j v r)) x = refl
inserted_noted k (Act.Write (Change.Delete j v)) x = refl
inserted_noted k _ x = refl

deleted_noted : (k : Key) (a : Act) (x : Written) → names_key k (act_noted a x).deleted ≡ wrote_by (deletes_key k) a (names_key k x.deleted)
deleted_noted k (Act.Write (Change.Insert j r)) x = refl
deleted_noted k (Act.Write (Change.Update j v r)) x = refl
deleted_noted k (Act.Write (Change.Delete j v)) x = one_more k j x.deleted
deleted_noted k _ x = refl

inserted_if : (mine : Bool) (k : Key) (a : Act) (x : Written) →
    names_key k (cond mine (act_noted a x) x).inserted ≡ cond mine (wrote_by (inserts_key k) a (names_key k x.inserted)) (names_key k x.inserted)
inserted_if true k a x = inserted_noted k a x
inserted_if false k a x = refl

deleted_if_mine : (mine : Bool) (k : Key) (a : Act) (x : Written) →
    names_key k (cond mine (act_noted a x) x).deleted ≡ cond mine (wrote_by (deletes_key k) a (names_key k x.deleted)) (names_key k x.deleted)
deleted_if_mine true k a x = deleted_noted k a x
deleted_if_mine false k a x = refl

-- what is known stands for one more entry, if its answer, its commit and its change are noted
pub watches_more : (cs answered committed : Courses) (ws noted : Writers) (e : Entry) (h : Journal) →
    ((k : Key) → course_at answered k ≡ cond (is_restart e.act) fresh (calm_if (leaves_calm (touch k e)) (course_at cs k))) →
    ((k : Key) → course_at committed k ≡ committed_by (committer e.act e.reply e.session) ws k (course_at answered k)) →
    ((s : ℕ) → written_at noted s ≡ cond (is_by s e) (act_noted e.act (written_at ws s)) (written_at ws s)) →
    Watches cs ws h → Watches committed noted (e ∷ h)
watches_more cs answered committed ws noted e h a b n w = record {
  calm = λ k. ap (λ (c : Course). c.calm) (b k) ∙ calm_committed by ws k (course_at answered k)
      ∙ ap (λ (c : Course). c.calm) (a k) ∙ calm_answered restarted (leaves_calm (touch k e)) (course_at cs k)
      ∙ ap (λ x. cond restarted true (leaves_calm (touch k e) && x)) (w.calm k) ∙ sym (calm_more k e h);
  deleted = λ k. ap (λ (c : Course). c.deleted) (b k) ∙ deleted_by cs ws h w k restarted by (course_at answered k) none (was_gone k);
  reused = λ k. ap (λ (c : Course). c.reused) (b k) ∙ reused_by cs ws h w k restarted by (course_at answered k) none (was_gone k) (was_back k);
  inserts = λ s k. ap (λ (x : Written). names_key k x.inserted) (n s) ∙ inserted_if (is_by s e) k e.act (written_at ws s)
      ∙ ap (λ x. cond (is_by s e) (wrote_by (inserts_key k) e.act x) x) (w.inserts s k) ∙ sym (wrote_more (inserts_key k) s e h);
  deletes = λ s k. ap (λ (x : Written). names_key k x.deleted) (n s) ∙ deleted_if_mine (is_by s e) k e.act (written_at ws s)
      ∙ ap (λ x. cond (is_by s e) (wrote_by (deletes_key k) e.act x) x) (w.deletes s k) ∙ sym (wrote_more (deletes_key k) s e h);
}
  where
    restarted : Bool
    restarted = is_restart e.act

    by : Option ℕ
    by = committer e.act e.reply e.session

    none : restarted ≡ true → by ≡ None
    none r = no_commit e.act e.reply e.session r

    was_gone : (k : Key) → (course_at answered k).deleted ≡ cond restarted false (was_deleted k h)
    was_gone k = ap (λ (c : Course). c.deleted) (a k) ∙ deleted_answered restarted (leaves_calm (touch k e)) (course_at cs k) ∙ ap (cond restarted false) (w.deleted k)

    was_back : (k : Key) → (course_at answered k).reused ≡ cond restarted false (was_reused k h)
    was_back k = ap (λ (c : Course). c.reused) (a k) ∙ reused_answered restarted (leaves_calm (touch k e)) (course_at cs k) ∙ ap (cond restarted false) (w.reused k)

pub same_course : (cs : Courses) (j k : Key) → same_key j k ≡ true → course_at cs j ≡ course_at cs k
same_course cs j k e = ap (course_at cs) (same_key_eq j k e)

pub on_ok : {T E : Type 0} (r : Result T E) {P Q : Type 0} → (P → Q) → OnOk r P → OnOk r Q
on_ok (Ok x) f p = f p
on_ok (Err e) f p = tt

-- a key of which nothing is known is sound
pub quiet_sound : (cs : Courses) (ws : Writers) (past : Journal) (k : Key) → cs ≡ [] → Watches cs ws past → is_sound k past ≡ true
unfolding is_sound
quiet_sound cs ws past k e w =
    let a : list_all (λ t. is_calm t.0) (history k past) ≡ true = sym (w.calm k) ∙ ap (λ (xs : Courses). (course_at xs k).calm) e in
    let b : was_reused k past ≡ false = sym (w.reused k) ∙ ap (λ (xs : Courses). (course_at xs k).reused) e in
    λ i. a i && not (b i)
