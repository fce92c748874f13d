-- What is known of a legal journal gives the facts of its next entry.
use Rattle.std.specs.Prelude.{nat_lt, map, drop, slice_get, flat_map, option_and_then, option_map, option_to_list, unwrap_or}
use Rattle.std.specs.List.{find, range_with_len}
use Rattle.std.specs.Map.{lookup}
use Rattle.std.specs.Option.{option_map_or}
use Rattle.std.specs.Borrow.{Bor}
use Rattle.std.proofs.Common.{◌≡◌, ℕ, zero, suc, ◌+◌, Bool, true, false, cond, not, ◌&&◌, List, [], ◌∷◌, ◌++◌, length, Some, None, Option, is_some, refl, sym, ap, ◌∙◌, subst, ◌⊎◌, inl, inr, eq-eqb, append_assoc, append-nil, arith}
use Rattle.std.proofs.lemmas.Bool.{false≢true, and_parts}
use Rattle.std.proofs.lemmas.Grind.{flat_map-append}
use Rattle.std.proofs.lemmas.List.{drop_all, map-append}
use Rattle.hib_base.specs.Tables.{Tables, key_of, row_left, row_at, last_on, after_changes}
use Rattle.hib_base.specs.Keys.{same_key}
use Rattle.hib_base.proofs.Tables.{Tested, tested, same_key_refl, row_at_changes, left_by}
use Rattle.hib_journal.specs.Types.{Key, Cell, Change, Commit, Checked, Put, Inserted, Script, Act, Reply, Entry}
use Rattle.hib_journal.specs.Sessions.{Journal, is_by, own, time, time_in, floor_in, changes, changes_in, changes_after, committer, committed, is_open}
use Rattle.hib_journal.specs.Legal.{IsLegal, reply_of, fault_of}
use Rattle.hib_journal.specs.Results.{Result, result, dropped, stays, others, others_after}
use Rattle.hib_journal.proofs.Sessions.{own_self}
use Rattle.hib_journal.specs.Coherence.{holders}
use Rattle.hib_follow.specs.Deleted.{last_deleted, changes_of, committed_at}
use Rattle.hib_follow.specs.Holders.{locked_in}
use Rattle.hib_follow.specs.Desks.{change_in, changes_at, last_at, IsKnown, AreDesks}
use Rattle.hib_follow.specs.Known.{Knows}
use Rattle.hib_follow.specs.Marks.{Stamps, value_at}
use Rattle.hib_follow.specs.Shelves.{Shelves, kept_slot, kept_at}
use Rattle.hib_follow.specs.Newest.{tables_in}
use Rattle.hib_follow.specs.Touched.{touched_keys, touched_by, leaving}
use Rattle.hib_journal.specs.Slot.{key_in, touch_here, evicted_in}
use Rattle.hib_follow.specs.declared.desk.Desk.{Desk}
use Rattle.hib_follow.specs.declared.known.Known.{Known}
use Rattle.hib_states.specs.Facts.{Fact}
use Rattle.hib_states.specs.States.{committed_facts, kept_facts, session_facts, session_fact, sessions_in, queries_in, written_facts, facts_after, entry_text, restart_facts, expired_facts, is_guarded, reused_by, reused_facts, unsound_facts, copied_by, copied_facts, copied_in, emptied_by, cause_in, key_cause, put_cause, insert_cause, check_cause}
use Rattle.hib_states.specs.Texts.{fact_line, fact_text}
use Rattle.hib_states.specs.Here.{committed_of, committed_here, cached_here, stamped_here, kept_now, kept_here, time_at, floor_at, session_here, written_here, facts_here, reused_here, unsound_here, key_here, put_here, insert_here, check_here, cause_here}

-- ---- lists

pub told_map : {A : Type 0} (f : Fact → List ℕ) (g : A → Fact) (xs : List A) → flat_map f (map g xs) ≡ flat_map (λ x. f (g x)) xs
told_map f g [] = refl
told_map f g (x ∷ xs) = ap (λ (l : List ℕ). f (g x) ++ l) (told_map f g xs)

pub told_flat : {A : Type 0} (f : Fact → List ℕ) (g : A → List Fact) (xs : List A) → flat_map f (flat_map g xs) ≡ flat_map (λ x. flat_map f (g x)) xs
told_flat f g [] = refl
told_flat f g (x ∷ xs) = flat_map-append f (g x) (flat_map g xs) ∙ ap (λ (l : List ℕ). flat_map f (g x) ++ l) (told_flat f g xs)

drop_front : {A : Type 0} (xs ys : List A) → drop (length xs) (xs ++ ys) ≡ ys
drop_front [] ys = refl
drop_front (x ∷ xs) ys = drop_front xs ys

-- ---- sessions

some_is : (a b : ℕ) → ◌≡◌ {A = Option ℕ} (Some a) (Some b) → a ≡ b
some_is a b e = ap (λ (o : Option ℕ). unwrap_or o 0) e

not_true : (b : Bool) → not b ≡ true → b ≡ false
not_true true e = absurd (false≢true e)
not_true false e = refl

no_reply : (r : Reply) → ◌≡◌ {A = Option Reply} None (Some r) → ⊥
no_reply r e = cc

no_session : (s : ℕ) → ◌≡◌ {A = Option ℕ} None (Some s) → ⊥
no_session s e = cc

-- a commit is by its session, and writes nothing
commits_by : (a : Act) (r : Reply) (by : Option ℕ) (s : ℕ) → committer a r by ≡ Some s → by ≡ Some s
commits_by Act.Commit (Reply.Commit Commit.Committed) by s p = p
commits_by _ _ by s p = absurd (no_session s p)

commits_only : (a : Act) (r : Reply) (by : Option ℕ) (s : ℕ) (cs : List Change) → committer a r by ≡ Some s → changes_after a cs ≡ cs
commits_only Act.Commit r by s cs p = refl
commits_only _ r by s cs p = absurd (no_session s p)

is_own : (s : ℕ) (e : Entry) → e.session ≡ Some s → is_by s e ≡ true
is_own s e p = rw p (eq-eqb s s refl)

changes_next : (s : ℕ) (e : Entry) (h : Journal) → e.session ≡ Some s → changes s (e ∷ h) ≡ changes_after e.act (changes s h)
changes_next s e h p = ap changes_in (own_self s e h (is_own s e p))

changes_kept : (s : ℕ) (e : Entry) (h : Journal) → committer e.act e.reply e.session ≡ Some s → changes s (e ∷ h) ≡ changes s h
changes_kept s e h p =
    changes_next s e h (commits_by e.act e.reply e.session s p) ∙ commits_only e.act e.reply e.session s (changes s h) p

drop_none : {A : Type 0} (n : ℕ) → drop {A = A} n [] ≡ []
drop_none zero = refl
drop_none (suc n) = refl

new_change : (a : Act) (cs : List Change) → drop (length cs) (changes_after a cs) ≡ option_to_list (change_in a)
new_change Act.Begin cs = drop_none (length cs)
new_change (Act.Write c) cs = drop_front cs (c ∷ [])
new_change _ cs = drop_all (length cs) cs (omega arith)

written_by : (s : ℕ) (a : Act) → map (Fact.Written s) (option_to_list (change_in a)) ≡ written_here a (Some s)
written_by s (Act.Write c) = refl
written_by s _ = refl

none_written : (a : Act) → written_here a None ≡ []
none_written (Act.Write c) = refl
none_written _ = refl

pub written_is : (h : Journal) (e : Entry) → written_here e.act e.session ≡ written_facts h e
written_is h e = by e.session refl
  where
    by : (o : Option ℕ) → e.session ≡ o → written_here e.act e.session ≡ written_facts h e
    by None p = rw p (none_written e.act)
    by (Some s) p =
        let c : drop (length (changes s h)) (changes s (e ∷ h)) ≡ option_to_list (change_in e.act) =
        ap (drop (length (changes s h))) (changes_next s e h p) ∙ new_change e.act (changes s h) in
        let f : map (Fact.Written s) (drop (length (changes s h)) (changes s (e ∷ h))) ≡ written_here e.act (Some s) =
        ap (map (Fact.Written s)) c ∙ written_by s e.act in
        ap (written_here e.act) p ∙ sym f ∙ sym (ap (λ (o : Option ℕ). option_map_or (λ (n : ℕ). map (Fact.Written n) (drop (length (changes n h)) (changes n (e ∷ h)))) o []) p)

time_is : (es : List Entry) (m : Journal) (o : Option Desk) → IsKnown es m o → option_map_or (λ (d : Desk). d.time) o 0 ≡ time_in m
time_is es m None k = sym (ap time_in k)
time_is es m (Some d) k = k.time

floor_is : (es : List Entry) (m : Journal) (o : Option Desk) → IsKnown es m o → option_map_or (λ (d : Desk). d.floor) o 0 ≡ floor_in m
floor_is es m None k = sym (ap floor_in k)
floor_is es m (Some d) k = k.floor

session_by : (ds : List Desk) (f : ℕ → Fact) (x : Act) (o : Option ℕ) →
    ((s : ℕ) → x ≡ Act.Begin → o ≡ Some s → Fact.Session s true (time_at ds s) (floor_at ds s) ≡ f s) →
    ((s : ℕ) → x ≡ Act.End → o ≡ Some s → Fact.Session s false (time_at ds s) (floor_at ds s) ≡ f s) →
    ((s : ℕ) → x ≡ Act.Kill s → Fact.Session s false (time_at ds s) (floor_at ds s) ≡ f s) → session_here ds x o ≡ map f (sessions_in x o)
session_by ds f Act.Begin None b e k = refl
session_by ds f Act.Begin (Some s) b e k = ap (λ (y : Fact). y ∷ []) (b s refl refl)
session_by ds f Act.End None b e k = refl
session_by ds f Act.End (Some s) b e k = ap (λ (y : Fact). y ∷ []) (e s refl refl)
session_by ds f (Act.Kill s) o b e k = ap (λ (y : Fact). y ∷ []) (k s refl)
session_by ds f _ o b e k = refl

session_is : (es : List Entry) (h : Journal) (e : Entry) (ds : List Desk) → AreDesks es (e ∷ h) ds → session_here ds e.act e.session ≡ session_facts h e
session_is es h e ds a =
    session_by ds (session_fact (e ∷ h)) e.act e.session
    (λ s p q. told s true (rw (p, q) (rw (eq-eqb s s refl) refl)))
    (λ s p q. told s false (rw (p, q) (rw (eq-eqb s s refl) refl)))
    (λ s p. told s false (rw p (rw (eq-eqb s s refl) refl)))
  where
    told : (s : ℕ) (on : Bool) → on ≡ is_open s (e ∷ h) → Fact.Session s on (time_at ds s) (floor_at ds s) ≡ session_fact (e ∷ h) s
    told s on o =
        λ i. Fact.Session s (o i) (time_is es (own s (e ∷ h)) (slice_get ds s) (a s) i) (floor_is es (own s (e ∷ h)) (slice_get ds s) (a s) i)

-- ---- committed rows

last_there : (k : Key) (before : List Change) (c : Change) (rest : List Change) → same_key (key_of c) k ≡ true → (d : Change) × (last_on k (before ++ c ∷ rest) ≡ Some d)
last_there k [] c rest e = by (last_on k rest) refl
  where
    by : (o : Option Change) → last_on k rest ≡ o → (d : Change) × (last_on k (c ∷ rest) ≡ Some d)
    by None p = (c, rw (p, e) refl)
    by (Some d) p = (d, rw p refl)
last_there k (b ∷ before) c rest e = let w : (d : Change) × (last_on k (before ++ c ∷ rest) ≡ Some d) = last_there k before c rest e in (w.0, rw (w.1) refl)

row_is : (cs : List Change) (t : Tables) (k : Key) (d : Change) → last_on k cs ≡ Some d → option_and_then row_left (last_on k cs) ≡ row_at (after_changes cs t) k
row_is cs t k d p = ap (option_and_then row_left) p ∙ sym (row_at_changes cs t k ∙ ap (λ (o : Option Change). left_by o (row_at t k)) p)

rows_are : (all : List Change) (t : Tables) (before rest : List Change) → all ≡ before ++ rest →
    map (λ c. Fact.Committed (key_of c) (option_and_then row_left (last_on (key_of c) all))) rest
    ≡ map (λ c. Fact.Committed (key_of c) (row_at (after_changes all t) (key_of c))) rest
rows_are all t before [] e = refl
rows_are all t before (c ∷ rest) e = two here (rows_are all t (before ++ c ∷ []) rest (e ∙ sym (append_assoc before (c ∷ []) rest)))
  where
    there : (d : Change) × (last_on (key_of c) (before ++ c ∷ rest) ≡ Some d)
    there = last_there (key_of c) before c rest (same_key_refl (key_of c))

    here : Fact.Committed (key_of c) (option_and_then row_left (last_on (key_of c) all)) ≡ Fact.Committed (key_of c) (row_at (after_changes all t) (key_of c))
    here = ap (Fact.Committed (key_of c)) (row_is all t (key_of c) there.0 (ap (last_on (key_of c)) e ∙ there.1))

    two : {x y : Fact} {xs ys : List Fact} → x ≡ y → xs ≡ ys → x ∷ xs ≡ y ∷ ys
    two p q = cc

desk_rows : (es : List Entry) (m : Journal) (o : Option Desk) → IsKnown es m o →
    option_map_or (committed_of es) o [] ≡ map (λ c. Fact.Committed (key_of c) (option_and_then row_left (last_on (key_of c) (changes_in m)))) (changes_in m)
desk_rows es m None k = sym (ap (λ (g : Journal). map (λ c. Fact.Committed (key_of c) (option_and_then row_left (last_on (key_of c) (changes_in g)))) (changes_in g)) k)
desk_rows es m (Some d) k =
    (λ i. map (λ c. Fact.Committed (key_of c) (option_and_then row_left (k.last (key_of c) i))) (changes_at d.written.items))
    ∙ ap (map (λ c. Fact.Committed (key_of c) (option_and_then row_left (last_on (key_of c) (changes_in m))))) k.written

committed_is : (start : Tables) (es : List Entry) (h : Journal) (e : Entry) (ds : List Desk) → AreDesks es (e ∷ h) ds →
    committed_here es ds (committer e.act e.reply e.session) ≡ committed_facts start h e
committed_is start es h e ds a = by (committer e.act e.reply e.session) refl
  where
    by : (o : Option ℕ) → committer e.act e.reply e.session ≡ o → committed_here es ds (committer e.act e.reply e.session) ≡ committed_facts start h e
    by None p = rw p refl
    by (Some s) p =
        let t : Tables = committed start h in
        let cs : List Change = changes s h in
        let rows : option_map_or (committed_of es) (slice_get ds s) [] ≡ map (λ c. Fact.Committed (key_of c) (option_and_then row_left (last_on (key_of c) cs))) cs =
        desk_rows es (own s (e ∷ h)) (slice_get ds s) (a s)
        ∙ ap (λ (l : List Change). map (λ c. Fact.Committed (key_of c) (option_and_then row_left (last_on (key_of c) l))) l) (changes_kept s e h p) in
        let after : committed start (e ∷ h) ≡ after_changes cs t = ap (λ (o : Option ℕ). option_map_or (λ (n : ℕ). after_changes (changes n h) t) o t) p in
        ap (committed_here es ds) p ∙ rows ∙ rows_are cs t [] cs refl
        ∙ ap (λ (u : Tables). map (λ c. Fact.Committed (key_of c) (row_at u (key_of c))) cs) (sym after)
        ∙ sym (ap (λ (o : Option ℕ). option_map_or (λ (n : ℕ). map (λ c. Fact.Committed (key_of c) (row_at (committed start (e ∷ h)) (key_of c))) (changes n h)) o []) p)

-- ---- queries

find_passes : (P : ℕ → Bool) (xs : List ℕ) (p : ℕ) → find P xs ≡ Some p → P p ≡ true
find_passes P [] p e = absurd (no_session p e)
find_passes P (x ∷ xs) p e = by (tested (P x)) (find_passes P xs p)
  where
    by : Tested (P x) → (find P xs ≡ Some p → P p ≡ true) → P p ≡ true
    by (inl t) later = let f : ◌≡◌ {A = Option ℕ} (Some x) (Some p) = rw t at e in subst (λ (n : ℕ). P n ≡ true) (some_is x p f) t
    by (inr n) later = later (rw n at e)

-- what is kept now
kept_is : (script : Script) (q t : ℕ) (l : List Cell) (e : Entry) (h : Journal) → e.act ≡ Act.Keep q t l → kept_now script t l ≡ result script.results q (e ∷ h)
unfolding result
kept_is script q t l e h a = rw a (rw (eq-eqb q q refl) refl)

-- what has left
left_is : (script : Script) (n q p t : ℕ) (l : List Cell) (e : Entry) (h : Journal) → e.act ≡ Act.Keep q t l → dropped script.results n q h ≡ Some p →
    None ≡ result script.results p (e ∷ h)
unfolding result dropped
left_is script n q p t l e h a d = rw a (rw gone refl)
  where
    both : (is_some (result script.results p h) ≡ true) × (not (stays script.results q p h) ≡ true)
    both = and_parts (is_some (result script.results p h)) (not (stays script.results q p h))
        (find_passes (λ r. is_some (result script.results r h) && not (stays script.results q r h)) (range_with_len 0 n) p d)

    gone : nat_lt (length (others_after p (Some q) (others p h))) script.results ≡ false
    gone = not_true (stays script.results q p h) both.1

abbrev kept_in : Reply → Option ℕ
kept_in (Reply.Kept o) = o
kept_in _ = None

kept_answer : (script : Script) (start : Tables) (h : Journal) (e : Entry) (q t : ℕ) (l : List Cell) (o : Option ℕ) → IsLegal script (Some start) (e ∷ h) →
    e.act ≡ Act.Keep q t l → e.reply ≡ Reply.Kept o → dropped script.results (length script.queries) q h ≡ o
unfolding dropped
kept_answer script start h e q t l o g a r = by g.1.reply
  where
    by : (e.reply ≡ reply_of script start h (unwrap_or e.session 0) e.tick e.act) ⊎ (fault_of (changes (unwrap_or e.session 0) h) e.act ≡ Some e.reply) →
        dropped script.results (length script.queries) q h ≡ o
    by (inl p) = let f : e.reply ≡ Reply.Kept (dropped script.results (length script.queries) q h) = rw a at p in ap kept_in (sym f ∙ r)
    by (inr p) = let f : ◌≡◌ {A = Option Reply} None (Some e.reply) = rw a at p in absurd (no_reply e.reply f)

queries_are : (script : Script) (start : Tables) (h : Journal) (e : Entry) → IsLegal script (Some start) (e ∷ h) → kept_here script e.act e.reply ≡ kept_facts script h e
queries_are script start h e g = by e.act e.reply refl refl
  where
    left : (q t : ℕ) (l : List Cell) (o : Option ℕ) → e.act ≡ Act.Keep q t l → dropped script.results (length script.queries) q h ≡ o →
        map (λ p. Fact.Kept p None) (option_to_list o) ≡ map (λ p. Fact.Kept p (result script.results p (e ∷ h))) (option_to_list o)
    left q t l None a d = refl
    left q t l (Some p) a d = ap (λ (r : Option Result). Fact.Kept p r ∷ []) (left_is script (length script.queries) q p t l e h a d)

    by : (a : Act) (r : Reply) → e.act ≡ a → e.reply ≡ r → kept_here script a r ≡ map (λ q. Fact.Kept q (result script.results q (e ∷ h))) (queries_in a r)
    by (Act.Keep q t l) (Reply.Kept o) a r =
        (λ i. Fact.Kept q (kept_is script q t l e h a i) ∷ left q t l o a (kept_answer script start h e q t l o g a r) i)
    by _ _ a r = refl

-- ---- all of them

pub here_is : (script : Script) (start : Tables) (es : List Entry) (h : Journal) (e : Entry) (x : Known) → IsLegal script (Some start) (e ∷ h) → Knows script es (e ∷ h) x →
    facts_here script es x e ≡ facts_after script start h e
here_is script start es h e x g k = λ i.
    restart_facts e.act ++ (session_is es h e x.desks.all.items k.desks i ++ (written_is h e i ++ (committed_is start es h e x.desks.all.items k.desks i
    ++ (map (λ j. Fact.Cached j (k.shelf.slots j i)) (touched_keys e) ++ (map (λ t. Fact.Stamped t (k.stamps.values t i)) (tables_in e.act)
    ++ (queries_are script start h e g i ++ map (λ j. Fact.Holders j (k.holders j i)) (option_to_list (locked_in e.act))))))))

pub cause_is : (script : Script) (es : List Entry) (h : Journal) (x : Known) (a : Act) (r : Reply) → Knows script es h x → cause_here es x a r ≡ cause_in script h a r
cause_is script es h x a r k = by a r
  where
    key : (j : Key) → key_here es x j ≡ key_cause script h j
    key j = λ i. Fact.KeyCause j (k.shelf.slots j i) (k.shelf.since j i) ∷ []

    puts : (j : Key) (p : Put) → put_here es x j p ≡ put_cause script h j p
    puts j (Put.Stored v late) = refl
    puts j _ = key j

    inserts : (j : Key) (p : Inserted) → insert_here es x j p ≡ insert_cause script h j p
    inserts j (Inserted.Stored v) = refl
    inserts j _ = key j

    checks : (c : Checked) → check_here x c ≡ check_cause script h c
    checks Checked.Fresh = refl
    checks (Checked.Stale t v) = λ i. Fact.TableCause t (k.stamps.values t i) (k.stamps.since t i) ∷ []

    by : (a : Act) (r : Reply) → cause_here es x a r ≡ cause_in script h a r
    by (Act.Get j t) (Reply.Miss m) = key j
    by (Act.Put j w t f) (Reply.Put p) = puts j p
    by (Act.AfterInsert j w f) (Reply.Inserted p) = inserts j p
    by (Act.Check q t) (Reply.Check c) = checks c
    by (Act.Look q) Reply.Absent = λ i. Fact.QueryCause q (k.keeps q i) ∷ []
    by _ _ = refl

-- ---- keys that aren't sound any more

deleted_at : (script : Script) (h : Journal) (m : List (Key × ℕ)) (c : Change) → ((k : Key) → lookup (same_key k) m ≡ last_deleted k h) →
    reused_here script m c ≡ reused_by script h c
deleted_at script h m (Change.Insert k r) a = ap (λ (o : Option ℕ). cond (is_guarded script k) (option_to_list (option_map (λ n. Fact.Unsound k (Some n)) o)) []) (a k)
deleted_at script h m (Change.Update k v r) a = refl
deleted_at script h m (Change.Delete k v) a = refl

deleted_all : (script : Script) (h : Journal) (m : List (Key × ℕ)) (cs : List Change) → ((k : Key) → lookup (same_key k) m ≡ last_deleted k h) →
    flat_map (reused_here script m) cs ≡ flat_map (reused_by script h) cs
deleted_all script h m [] a = refl
deleted_all script h m (c ∷ cs) a = λ i. deleted_at script h m c a i ++ deleted_all script h m cs a i

changes_known : (es : List Entry) (m : Journal) (o : Option Desk) → IsKnown es m o → changes_of o ≡ changes_in m
changes_known es m None k = sym (ap changes_in k)
changes_known es m (Some d) k = k.written

reused_is : (script : Script) (es : List Entry) (h : Journal) (e : Entry) (x : Known) → Knows script es h x →
    flat_map (reused_here script x.deleted.numbers.entries) (committed_at x.desks.all.items (committer e.act e.reply e.session)) ≡ reused_facts script h e
reused_is script es h e x k = by (committer e.act e.reply e.session)
  where
    by : (o : Option ℕ) → flat_map (reused_here script x.deleted.numbers.entries) (committed_at x.desks.all.items o)
        ≡ option_map_or (λ s. flat_map (reused_by script h) (changes s h)) o []
    by None = refl
    by (Some s) =
        ap (flat_map (reused_here script x.deleted.numbers.entries)) (changes_known es (own s h) (slice_get x.desks.all.items s) (k.desks s))
        ∙ deleted_all script h x.deleted.numbers.entries (changes s h) k.deleted

pub unsound_is : (script : Script) (es : List Entry) (h : Journal) (e : Entry) (x : Known) → Knows script es h x → unsound_here script x e ≡ unsound_facts script h e
unsound_is script es h e x k = ap (λ (fs : List Fact). expired_facts script e ++ fs) (reused_is script es h e x k)

four : (f : Fact → List ℕ) (a b c d : List Fact) (o : List ℕ) →
    (((o ++ flat_map f a) ++ flat_map f b) ++ flat_map f c) ++ flat_map f d ≡ o ++ flat_map f (a ++ (b ++ (c ++ d)))
four f a b c d o = simp (flat_map-append, append_assoc)

-- the lines of an entry, in four steps
pub entry_put : (script : Script) (start : Tables) (es : List Entry) (h : Journal) (e : Entry) (n : ℕ) (x y : Known) (o0 o1 o2 o3 o4 : List ℕ) → length h ≡ n →
    IsLegal script (Some start) (e ∷ h) → Knows script es h x → Knows script es (e ∷ h) y →
    o1 ≡ o0 ++ fact_text script (n + 1) (cause_here es x e.act e.reply) → o2 ≡ o1 ++ fact_text script (n + 1) (unsound_here script x e) →
    o3 ≡ o2 ++ fact_text script (n + 1) (facts_here script es y e) → o4 ≡ o3 ++ fact_text script (n + 1) (copied_facts h e) → o4 ≡ o0 ++ entry_text script start h e
entry_put script start es h e n x y o0 o1 o2 o3 o4 p l k m a b c d =
    d ∙ ap (λ (o : List ℕ). o ++ flat_map line (copied_facts h e)) (c ∙ ap (λ (o : List ℕ). o ++ flat_map line later) (b ∙ ap (λ (o : List ℕ). o ++ flat_map line upset) a))
    ∙ four line why upset later (copied_facts h e) o0
    ∙ (λ i. o0 ++ flat_map (fact_line script (q i + 1))
    (cause_is script es h x e.act e.reply k i ++ (unsound_is script es h e x k i ++ (here_is script start es h e y l m i ++ copied_facts h e))))
  where
    line : Fact → List ℕ
    line = fact_line script (n + 1)

    why : List Fact
    why = cause_here es x e.act e.reply

    upset : List Fact
    upset = unsound_here script x e

    later : List Fact
    later = facts_here script es y e

    q : n ≡ length h
    q = sym p

-- what a session holds, in two steps
pub copies_put : (script : Script) (n : ℕ) (h : Journal) (e : Entry) (s : ℕ) (o0 o1 o2 : List ℕ) → e.session ≡ Some s →
    o1 ≡ o0 ++ fact_text script n (copied_by (e ∷ h) s (copied_in e.act e.reply)) → o2 ≡ o1 ++ fact_text script n (emptied_by e.act e.reply s) →
    o2 ≡ o0 ++ fact_text script n (copied_facts h e)
copies_put script n h e s o0 o1 o2 p a b =
    b ∙ ap (λ (o : List ℕ). o ++ fact_text script n (emptied_by e.act e.reply s)) a
    ∙ append_assoc o0 (fact_text script n (copied_by (e ∷ h) s (copied_in e.act e.reply))) (fact_text script n (emptied_by e.act e.reply s))
    ∙ ap (λ (t : List ℕ). o0 ++ t) (sym (flat_map-append (fact_line script n) (copied_by (e ∷ h) s (copied_in e.act e.reply)) (emptied_by e.act e.reply s)))
    ∙ ap (λ (o : Option ℕ). o0 ++ fact_text script n (option_map_or (λ t. copied_by (e ∷ h) t (copied_in e.act e.reply) ++ emptied_by e.act e.reply t) o [])) (sym p)

pub copies_none : (script : Script) (n : ℕ) (h : Journal) (e : Entry) (o : List ℕ) → e.session ≡ None → o ≡ o ++ fact_text script n (copied_facts h e)
copies_none script n h e o p =
    sym (append-nil o)
    ∙ ap (λ (by : Option ℕ). o ++ fact_text script n (option_map_or (λ t. copied_by (e ∷ h) t (copied_in e.act e.reply) ++ emptied_by e.act e.reply t) by [])) (sym p)

-- ---- what is put

pub committed_put : (script : Script) (n : ℕ) (es : List Entry) (ds : List Desk) (by : Option ℕ) (s : ℕ) (d : Desk) (o0 o1 : List ℕ) → by ≡ Some s → slice_get ds s ≡ Some d →
    o1 ≡ o0 ++ flat_map (λ (c : Bor Change). fact_line script n (Fact.Committed (key_of c.now) (option_and_then row_left (last_at es d.last.entries (key_of c.now))))) d.written.items →
    o1 ≡ o0 ++ fact_text script n (committed_here es ds by)
committed_put script n es ds by s d o0 o1 p q o =
    o ∙ ap (λ (t : List ℕ). o0 ++ t) (sym twice) ∙ ap (λ (fs : List Fact). o0 ++ fact_text script n fs) (sym here)
  where
    told : Change → Fact
    told c = Fact.Committed (key_of c) (option_and_then row_left (last_at es d.last.entries (key_of c)))

    now_map : (xs : List (Bor Change)) → flat_map (λ c. fact_line script n (told c)) (changes_at xs) ≡ flat_map (λ (c : Bor Change). fact_line script n (told c.now)) xs
    now_map [] = refl
    now_map (x ∷ xs) = ap (λ (l : List ℕ). fact_line script n (told x.now) ++ l) (now_map xs)

    twice : fact_text script n (committed_of es d) ≡ flat_map (λ (c : Bor Change). fact_line script n (told c.now)) d.written.items
    twice = told_map (fact_line script n) told (changes_at d.written.items) ∙ now_map d.written.items

    here : committed_here es ds by ≡ committed_of es d
    here = ap (committed_here es ds) p ∙ ap (λ (o : Option Desk). option_map_or (committed_of es) o []) q

pub regrouped : (f : Fact → List ℕ) (a b c d e g k t : List Fact) (o : List ℕ) →
    (((((((o ++ flat_map f a) ++ flat_map f b) ++ flat_map f c) ++ flat_map f d) ++ flat_map f e) ++ flat_map f g) ++ flat_map f k) ++ flat_map f t
    ≡ o ++ flat_map f (a ++ (b ++ (c ++ (d ++ (e ++ (g ++ (k ++ t)))))))
regrouped f a b c d e g k t o = simp (flat_map-append, append_assoc)

pub changed_put : (script : Script) (n : ℕ) (a b c d e g k t : List Fact) (o0 o1 o2 o3 o4 o5 o6 o7 o8 : List ℕ) → o1 ≡ o0 ++ fact_text script n a → o2 ≡ o1 ++ fact_text script n b →
    o3 ≡ o2 ++ fact_text script n c → o4 ≡ o3 ++ fact_text script n d → o5 ≡ o4 ++ fact_text script n e → o6 ≡ o5 ++ fact_text script n g → o7 ≡ o6 ++ fact_text script n k →
    o8 ≡ o7 ++ fact_text script n t → o8 ≡ o0 ++ fact_text script n (a ++ (b ++ (c ++ (d ++ (e ++ (g ++ (k ++ t)))))))
changed_put script n a b c d e g k t o0 o1 o2 o3 o4 o5 o6 o7 o8 p1 p2 p3 p4 p5 p6 p7 p8 =
    p8
    ∙ ap (λ (o : List ℕ). o ++ fact_text script n t) (p7
    ∙ ap (λ (o : List ℕ). o ++ fact_text script n k) (p6
    ∙ ap (λ (o : List ℕ). o ++ fact_text script n g) (p5
    ∙ ap (λ (o : List ℕ). o ++ fact_text script n e) (p4
    ∙ ap (λ (o : List ℕ). o ++ fact_text script n d) (p3
    ∙ ap (λ (o : List ℕ). o ++ fact_text script n c) (p2
    ∙ ap (λ (o : List ℕ). o ++ fact_text script n b) p1))))))
    ∙ regrouped (fact_line script n) a b c d e g k t o0

-- of the session that commits
pub reused_put : (script : Script) (n : ℕ) (m : List (Key × ℕ)) (ds : List Desk) (by : Option ℕ) (s : ℕ) (d : Desk) (o0 o1 : List ℕ) → by ≡ Some s → slice_get ds s ≡ Some d →
    o1 ≡ o0 ++ flat_map (λ (c : Bor Change). fact_text script n (reused_here script m c.now)) d.written.items →
    o1 ≡ o0 ++ fact_text script n (flat_map (reused_here script m) (committed_at ds by))
reused_put script n m ds by s d o0 o1 p q o =
    o ∙ ap (λ (t : List ℕ). o0 ++ t) (sym (told_flat (fact_line script n) (reused_here script m) (changes_at d.written.items) ∙ now_map d.written.items))
    ∙ ap (λ (cs : List Change). o0 ++ fact_text script n (flat_map (reused_here script m) cs)) (sym (ap (committed_at ds) p ∙ ap changes_of q))
  where
    now_map : (xs : List (Bor Change)) →
        flat_map (λ c. fact_text script n (reused_here script m c)) (changes_at xs) ≡ flat_map (λ (c : Bor Change). fact_text script n (reused_here script m c.now)) xs
    now_map [] = refl
    now_map (x ∷ xs) = ap (λ (l : List ℕ). fact_text script n (reused_here script m x.now) ++ l) (now_map xs)

pub stamped_put : (script : Script) (n : ℕ) (m : Stamps) (ts : List ℕ) (o0 o1 : List ℕ) → o1 ≡ o0 ++ flat_map (λ t. fact_line script n (Fact.Stamped t (value_at m t))) ts →
    o1 ≡ o0 ++ fact_text script n (stamped_here m ts)
stamped_put script n m ts o0 o1 o = o ∙ ap (λ (t : List ℕ). o0 ++ t) (sym (told_map (fact_line script n) (λ t. Fact.Stamped t (value_at m t)) ts))

pub touched_put : (script : Script) (n : ℕ) (es : List Entry) (m : Shelves) (e : Entry) (k : Key) (o0 o1 o2 : List ℕ) → key_in e.act ≡ Some k →
    o1 ≡ o0 ++ fact_text script n (cached_here es m (option_to_list (cond (is_some (touch_here e.act e.reply)) (Some k) None))) →
    o2 ≡ o1 ++ fact_text script n (cached_here es m (option_to_list (leaving k (evicted_in e.reply)))) →
    o2 ≡ o0 ++ fact_text script n (cached_here es m (touched_keys e))
touched_put script n es m e k o0 o1 o2 p a b =
    b ∙ ap (λ (o : List ℕ). o ++ fact_text script n (cached_here es m left)) a
    ∙ append_assoc o0 (fact_text script n (cached_here es m own)) (fact_text script n (cached_here es m left))
    ∙ ap (λ (t : List ℕ). o0 ++ t) (sym (flat_map-append (fact_line script n) (cached_here es m own) (cached_here es m left)))
    ∙ ap (λ (fs : List Fact). o0 ++ fact_text script n fs) (sym (map-append (λ j. Fact.Cached j (kept_slot es (kept_at m j))) own left))
    ∙ ap (λ (o : Option Key). o0 ++ fact_text script n (cached_here es m (option_map_or (touched_by e.act e.reply) o []))) (sym p)
  where
    own : List Key
    own = option_to_list (cond (is_some (touch_here e.act e.reply)) (Some k) None)

    left : List Key
    left = option_to_list (leaving k (evicted_in e.reply))
