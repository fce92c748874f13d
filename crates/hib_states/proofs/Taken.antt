-- What each list of what is told leaves of a state.
use Rattle.std.specs.Prelude.{map, flat_map, option_map, option_to_list}
use Rattle.std.specs.List.{list_any}
use Rattle.std.specs.Option.{option_map_or}
use Rattle.std.proofs.Common.{ℕ, ◌≡◌, ◌+◌, ◌==◌, Bool, true, false, cond, ◌&&◌, ◌||◌, List, [], ◌∷◌, ◌++◌, Some, None, Option, is_some, refl, sym, ap, ◌∙◌, inl, inr, append-nil}
use Rattle.std.proofs.Math.Bool.{and-false}
use Rattle.std.proofs.lemmas.Bool.{eqb-true}
use Rattle.hib_base.specs.Keys.{same_key}
use Rattle.hib_base.specs.Tables.{Tables, key_of, row_at}
use Rattle.hib_base.proofs.Tables.{Tested, tested, same_key_eq}
use Rattle.hib_journal.specs.Types.{Key, Row, Change, Act, Reply, Entry, Script, Put, Inserted, Checked}
use Rattle.hib_journal.specs.Coherence.{holders}
use Rattle.hib_journal.specs.Held.{held, is_break}
use Rattle.hib_journal.specs.Legal.{row_of}
use Rattle.hib_journal.specs.Results.{result}
use Rattle.hib_journal.specs.Sessions.{Journal, is_session, is_restart, own, time, floor_in, changes, committer, committed, is_open}
use Rattle.hib_journal.specs.Slot.{Slot}
use Rattle.hib_journal.specs.Stamps.{names}
use Rattle.hib_follow.specs.Deleted.{last_deleted}
use Rattle.hib_follow.specs.Desks.{change_in}
use Rattle.hib_states.specs.Facts.{Fact}
use Rattle.hib_states.specs.Here.{written_here}
use Rattle.hib_states.specs.Last.{State, taken, all_taken}
use Rattle.hib_states.specs.States.{cause_in, reused_by, reused_facts, restart_facts, session_fact, committed_by, committed_facts, kept_facts, copied_by, copied_facts, copied_in, emptied_by, queries_in, is_guarded}
use Rattle.hib_states.proofs.Choices.{key_again, num_again, num_here}

one_by_one : (xs ys : List Fact) (s : State) → all_taken (xs ++ ys) s ≡ all_taken ys (all_taken xs s)
one_by_one [] ys s = refl
one_by_one (x ∷ xs) ys s = one_by_one xs ys (taken x s)

pub joined : (xs ys : List Fact) (a b c : State) → all_taken xs a ≡ b → all_taken ys b ≡ c → all_taken (xs ++ ys) a ≡ c
joined xs ys a b c p q = one_by_one xs ys a ∙ ap (all_taken ys) p ∙ q

-- one list after another, from whatever state
pub then_taken : (xs ys : List Fact) {f g : State → State} → ((s : State) → all_taken xs s ≡ f s) → ((s : State) → all_taken ys s ≡ g s) →
    (s : State) → all_taken (xs ++ ys) s ≡ g (f s)
then_taken xs ys {f} {g} p q s = joined xs ys s (f s) (g (f s)) (p s) (q (f s))

pub causes : (script : Script) (h : Journal) (a : Act) (r : Reply) (s : State) → all_taken (cause_in script h a r) s ≡ s
causes script h (Act.Get k t) (Reply.Miss m) s = refl
causes script h (Act.Put k w t f) (Reply.Put (Put.Stored v late)) s = refl
causes script h (Act.Put k w t f) (Reply.Put _) s = refl
causes script h (Act.AfterInsert k w f) (Reply.Inserted (Inserted.Stored v)) s = refl
causes script h (Act.AfterInsert k w f) (Reply.Inserted _) s = refl
causes script h (Act.Check q t) (Reply.Check Checked.Fresh) s = refl
causes script h (Act.Check q t) (Reply.Check (Checked.Stale n v)) s = refl
causes script h (Act.Look q) Reply.Absent s = refl
causes script h _ _ s = refl

pub expired_all : (ks : List Key) (s : State) →
    all_taken (map (λ k. Fact.Unsound k None) ks) s ≡ record s { sound = λ j. cond (list_any (λ k. same_key k j) ks) false (s.sound j) }
expired_all [] s = refl
expired_all (k ∷ ks) s =
    expired_all ks (taken (Fact.Unsound k None) s)
    ∙ ap (λ (f : Key → Bool). record s { sound = f }) (λ i j. key_again (λ _. false) k j (list_any (λ m. same_key m j) ks) (s.sound j) i)

abbrev pub reuses : Script → Journal → Key → Change → Bool
reuses script h j (Change.Insert k r) = is_guarded script k && (is_some (last_deleted k h) && same_key k j)
reuses script h j _ = false

reused_one : (script : Script) (h : Journal) (c : Change) (s : State) →
    all_taken (reused_by script h c) s ≡ record s { sound = λ j. cond (reuses script h j c) false (s.sound j) }
reused_one script h (Change.Insert k r) s = by (is_guarded script k) (last_deleted k h)
  where
    by : (g : Bool) (o : Option ℕ) → all_taken (cond g (option_to_list (option_map (λ n. Fact.Unsound k (Some n)) o)) []) s
        ≡ record s { sound = λ j. cond (g && (is_some o && same_key k j)) false (s.sound j) }
    by true (Some n) = refl
    by true None = refl
    by false o = refl
reused_one script h (Change.Update k v r) s = refl
reused_one script h (Change.Delete k v) s = refl

either_false : (a b x : Bool) → cond b false (cond a false x) ≡ cond (a || b) false x
either_false true true x = refl
either_false true false x = refl
either_false false b x = refl

reused_all : (script : Script) (h : Journal) (cs : List Change) (s : State) →
    all_taken (flat_map (reused_by script h) cs) s ≡ record s { sound = λ j. cond (list_any (reuses script h j) cs) false (s.sound j) }
reused_all script h [] s = refl
reused_all script h (c ∷ cs) s =
    one_by_one (reused_by script h c) (flat_map (reused_by script h) cs) s
    ∙ ap (all_taken (flat_map (reused_by script h) cs)) (reused_one script h c s)
    ∙ reused_all script h cs (record s { sound = λ j. cond (reuses script h j c) false (s.sound j) })
    ∙ ap (λ (f : Key → Bool). record s { sound = f }) (λ i j. either_false (reuses script h j c) (list_any (reuses script h j) cs) (s.sound j) i)

abbrev pub changes_by : Journal → Option ℕ → List Change
changes_by h o = option_map_or (λ n. changes n h) o []

pub reused_at : (script : Script) (h : Journal) (e : Entry) (s : State) →
    all_taken (reused_facts script h e) s
    ≡ record s { sound = λ j. cond (list_any (reuses script h j) (changes_by h (committer e.act e.reply e.session))) false (s.sound j) }
reused_at script h e s = by (committer e.act e.reply e.session)
  where
    by : (o : Option ℕ) → all_taken (option_map_or (λ n. flat_map (reused_by script h) (changes n h)) o []) s
        ≡ record s { sound = λ j. cond (list_any (reuses script h j) (changes_by h o)) false (s.sound j) }
    by None = refl
    by (Some n) = reused_all script h (changes n h) s

pub restarted : (a : Act) (s : State) → all_taken (restart_facts a) s ≡ record s {
  slots = λ k. cond (is_restart a) Slot.Vacant (s.slots k);
  stamps = λ t. cond (is_restart a) None (s.stamps t);
  opened = λ n. cond (is_restart a) false (s.opened n);
  holders = λ k. cond (is_restart a) [] (s.holders k);
  sound = λ k. cond (is_restart a) true (s.sound k);
}
restarted Act.Restart s = refl
restarted _ s = refl

begun_twice : (n m : ℕ) (on : ℕ → Bool) (b : Bool) (x : List Change) →
    cond (b && on m) [] (cond (on n && (n == m)) [] x) ≡ cond (((n == m) || b) && on m) [] x
begun_twice n m on b x = by (tested (n == m))
  where
    both : (b o : Bool) → cond (b && o) [] (cond (o && true) [] x) ≡ cond o [] x
    both true true = refl
    both true false = refl
    both false true = refl
    both false false = refl

    by : Tested (n == m) → cond (b && on m) [] (cond (on n && (n == m)) [] x) ≡ cond (((n == m) || b) && on m) [] x
    by (inl p) = rw p (ap (λ o. cond (b && on m) [] (cond (o && true) [] x)) (ap on (eqb-true n m p)) ∙ both b (on m))
    by (inr p) = rw (p, and-false (on n)) refl

pub sessions_all : (g : Journal) (ns : List ℕ) (s : State) → all_taken (map (session_fact g) ns) s ≡ record s {
  opened = λ m. cond (names m ns) (is_open m g) (s.opened m);
  times = λ m. cond (names m ns) (time m g) (s.times m);
  floors = λ m. cond (names m ns) (floor_in (own m g)) (s.floors m);
  changes = λ m. cond (names m ns && is_open m g) [] (s.changes m);
}
sessions_all g [] s = refl
sessions_all g (n ∷ ns) s =
    sessions_all g ns (taken (session_fact g n) s)
    ∙ (λ i. record s {
      opened = λ m. num_again (λ j. is_open j g) n m (names m ns) (s.opened m) i;
      times = λ m. num_again (λ j. time j g) n m (names m ns) (s.times m) i;
      floors = λ m. num_again (λ j. floor_in (own j g)) n m (names m ns) (s.floors m) i;
      changes = λ m. begun_twice n m (λ j. is_open j g) (names m ns) (s.changes m) i;
    })

nothing_more : (b : Bool) (xs : List Change) → xs ≡ cond b (xs ++ []) xs
nothing_more true xs = sym (append-nil xs)
nothing_more false xs = refl

pub written_at : (a : Act) (by : Option ℕ) (s : State) →
    all_taken (written_here a by) s ≡ record s { changes = λ m. cond (is_session m by) (s.changes m ++ option_to_list (change_in a)) (s.changes m) }
written_at (Act.Write c) (Some n) s = ap (λ (f : ℕ → List Change). record s { changes = f }) (λ i m. num_here (λ j. s.changes j ++ c ∷ []) n m (s.changes m) i)
written_at (Act.Write c) None s = refl
written_at _ by s = ap (λ (f : ℕ → List Change). record s { changes = f }) (λ i m. nothing_more (is_session m by) (s.changes m) i)

rows_all : (v : Key → Option Row) (cs : List Change) (s : State) →
    all_taken (map (λ c. Fact.Committed (key_of c) (v (key_of c))) cs) s ≡ record s { rows = λ j. cond (list_any (λ c. same_key (key_of c) j) cs) (v j) (s.rows j) }
rows_all v [] s = refl
rows_all v (c ∷ cs) s =
    rows_all v cs (taken (Fact.Committed (key_of c) (v (key_of c))) s)
    ∙ ap (λ (f : Key → Option Row). record s { rows = f }) (λ i j. key_again v (key_of c) j (list_any (λ d. same_key (key_of d) j) cs) (s.rows j) i)

pub rows_at : (start : Tables) (h : Journal) (e : Entry) (s : State) → all_taken (committed_facts start h e) s ≡ record s {
  rows = λ j. cond (list_any (λ c. same_key (key_of c) j) (changes_by h (committer e.act e.reply e.session))) (row_at (committed start (e ∷ h)) j) (s.rows j);
}
rows_at start h e s = by (committer e.act e.reply e.session)
  where
    by : (o : Option ℕ) → all_taken (option_map_or (committed_by start h e) o []) s
        ≡ record s { rows = λ j. cond (list_any (λ c. same_key (key_of c) j) (changes_by h o)) (row_at (committed start (e ∷ h)) j) (s.rows j) }
    by None = refl
    by (Some n) = rows_all (row_at (committed start (e ∷ h))) (changes n h) s

pub slots_all : (v : Key → Slot) (ks : List Key) (s : State) →
    all_taken (map (λ k. Fact.Cached k (v k)) ks) s ≡ record s { slots = λ j. cond (list_any (λ k. same_key k j) ks) (v j) (s.slots j) }
slots_all v [] s = refl
slots_all v (k ∷ ks) s =
    slots_all v ks (taken (Fact.Cached k (v k)) s)
    ∙ ap (λ (f : Key → Slot). record s { slots = f }) (λ i j. key_again v k j (list_any (λ m. same_key m j) ks) (s.slots j) i)

pub stamps_all : (v : ℕ → Option ℕ) (ts : List ℕ) (s : State) →
    all_taken (map (λ t. Fact.Stamped t (v t)) ts) s ≡ record s { stamps = λ u. cond (names u ts) (v u) (s.stamps u) }
stamps_all v [] s = refl
stamps_all v (t ∷ ts) s =
    stamps_all v ts (taken (Fact.Stamped t (v t)) s)
    ∙ ap (λ (f : ℕ → Option ℕ). record s { stamps = f }) (λ i u. num_again v t u (names u ts) (s.stamps u) i)

pub results_all : (script : Script) (h : Journal) (e : Entry) (s : State) → all_taken (kept_facts script h e) s ≡ s
results_all script h e s = by (queries_in e.act e.reply) s
  where
    by : (qs : List ℕ) (s : State) → all_taken (map (λ q. Fact.Kept q (result script.results q (e ∷ h))) qs) s ≡ s
    by [] s = refl
    by (q ∷ qs) s = by qs s

pub holders_all : (v : Key → List ℕ) (ks : List Key) (s : State) →
    all_taken (map (λ k. Fact.Holders k (v k)) ks) s ≡ record s { holders = λ j. cond (list_any (λ k. same_key k j) ks) (v j) (s.holders j) }
holders_all v [] s = refl
holders_all v (k ∷ ks) s =
    holders_all v ks (taken (Fact.Holders k (v k)) s)
    ∙ ap (λ (f : Key → List ℕ). record s { holders = f }) (λ i j. key_again v k j (list_any (λ m. same_key m j) ks) (s.holders j) i)

-- a session's copies
copy_again : (v : Key → Option Row) (k j : Key) (b : Bool) (x : Option Row) → cond (same_key k j && b) (v k) x ≡ cond ((same_key k j || false) && b) (v j) x
copy_again v k j b x = by (tested (same_key k j))
  where
    by : Tested (same_key k j) → cond (same_key k j && b) (v k) x ≡ cond ((same_key k j || false) && b) (v j) x
    by (inl p) = rw p (ap (λ (y : Option Row). cond b y x) (ap v (same_key_eq k j p)))
    by (inr p) = rw p refl

abbrev pub has_key : Option Key → Key → Bool
has_key o j = list_any (λ k. same_key k j) (option_to_list o)

copied_all : (n : ℕ) (v : Key → Option Row) (o : Option Key) (s : State) →
    all_taken (map (λ k. Fact.Copied n k (v k)) (option_to_list o)) s ≡ record s { copies = λ m j. cond (has_key o j && (n == m)) (v j) (s.copies m j) }
copied_all n v None s = refl
copied_all n v (Some k) s = ap (λ (f : ℕ → Key → Option Row). record s { copies = f }) (λ i m j. copy_again v k j (n == m) (s.copies m j) i)

emptied_all : (a : Act) (r : Reply) (n : ℕ) (s : State) →
    all_taken (emptied_by a r n) s ≡ record s { copies = λ m j. cond (is_break a r && (n == m)) None (s.copies m j) }
emptied_all a r n s = by (is_break a r)
  where
    by : (b : Bool) → all_taken (cond b (Fact.Emptied n ∷ []) []) s ≡ record s { copies = λ m j. cond (b && (n == m)) None (s.copies m j) }
    by true = refl
    by false = refl

abbrev pub copy_after : Journal → Entry → Option ℕ → ℕ → Key → Option Row → Option Row
copy_after h e None m j x = x
copy_after h e (Some n) m j x =
    cond (is_break e.act e.reply && (n == m)) None (cond (has_key (copied_in e.act e.reply) j && (n == m)) (row_of (held (own n (e ∷ h)) j)) x)

pub copies_all : (h : Journal) (e : Entry) (s : State) → all_taken (copied_facts h e) s ≡ record s { copies = λ m j. copy_after h e e.session m j (s.copies m j) }
copies_all h e s = by e.session
  where
    -- with the key that has another copy
    copied : ℕ → State
    copied n = record s { copies = λ m j. cond (has_key (copied_in e.act e.reply) j && (n == m)) (row_of (held (own n (e ∷ h)) j)) (s.copies m j) }

    -- and where all are lost
    emptied : ℕ → State
    emptied n = record s { copies = λ m j. copy_after h e (Some n) m j (s.copies m j) }

    by : (o : Option ℕ) → all_taken (option_map_or (λ n. copied_by (e ∷ h) n (copied_in e.act e.reply) ++ emptied_by e.act e.reply n) o []) s
        ≡ record s { copies = λ m j. copy_after h e o m j (s.copies m j) }
    by None = refl
    by (Some n) =
        joined (copied_by (e ∷ h) n (copied_in e.act e.reply)) (emptied_by e.act e.reply n) s (copied n) (emptied n)
        (copied_all n (λ k. row_of (held (own n (e ∷ h)) k)) (copied_in e.act e.reply) s) (emptied_all e.act e.reply n (copied n))
