-- What the store answers is due, and afterwards it stands for the list with the entry.
use Rattle.std.specs.Prelude.{unwrap_or}
use Rattle.std.proofs.Common.{◌≡◌, ◌≢◌, ◌⊎◌, inl, inr, ℕ, ◌+◌, ◌≤◌, ◌==◌, Bool, true, false, cond, not, List, [], ◌∷◌, ◌++◌, Some, None, Option, IfSome, refl, sym, ap, ◌∙◌, subst, slice_get, eq-eqb, arith}
use Rattle.std.proofs.lemmas.Bool.{true≢false, false≢true, eqb-true, not-false, false_from_ne_true}
use Rattle.std.specs.Option.{option_map, option_map_or}
use Rattle.hib_base.specs.Tables.{Tables, row_at, after_changes, commit_answer}
use Rattle.hib_base.proofs.Tables.{Tested, tested}
use Rattle.hib_journal.specs.Types.{Key, Row, Change, Commit, Query, Part, Act, Reply, Script}
use Rattle.hib_journal.specs.Sessions.{Journal, is_session, deferred_after, committer, is_empty}
use Rattle.hib_journal.specs.Lists.{entry_at, stops, unsaved, stored, stored_by, IsStoreReply}
use Rattle.hib_journal.specs.Runs.{is_fault, asks}
use Rattle.hib_journal.specs.Query.{gives}
use Rattle.hib_store.specs.Stores.{StoreState, changes_of, is_in, IsView, IsListed, tables_answered}
use Rattle.hib_store.specs.declared.asking.Loaded.{Loaded}
use Rattle.hib_store.specs.declared.store.Listed.{Listed}
use Rattle.hib_engines.specs.Counts.{RoseWithin}
use Rattle.hib_engines.specs.Served.{is_for}
use Rattle.hib_engines.proofs.Bridge.{unsaved_own}
use Rattle.hib_engines.specs.Store.{IsStored, IsStoreServed, reply_of_loaded, reply_of_listed}

-- the list with one entry more

more : (l : Journal) (now s : ℕ) (a : Act) (r : Reply) (old new : StoreState) → stops a ≡ false → ((n : ℕ) → changes_of old n ≡ unsaved n l) → changes_of new s ≡ deferred_after a (changes_of old s) →
    ((n : ℕ) → n ≢ s → changes_of new n ≡ changes_of old n) → (n : ℕ) → changes_of new n ≡ unsaved n (entry_at now (Some s) a r ∷ l)
more l now s a r old new i k c o n = by (tested (s == n)) ∙ sym (unsaved_own n (Some s) a (unsaved n l) i)
  where
    by : Tested (s == n) → changes_of new n ≡ cond (s == n) (deferred_after a (unsaved n l)) (unsaved n l)
    by (inl p) = rw p (subst (λ m. changes_of new m ≡ deferred_after a (unsaved m l)) (eqb-true s n p) (c ∙ ap (deferred_after a) (k s)))
    by (inr p) = rw p (o n (λ e. true≢false (sym (eq-eqb s n (sym e)) ∙ p)) ∙ k n)

rows_same : (told : Option Tables) (l : Journal) (now : ℕ) (by : Option ℕ) (a : Act) (r : Reply) → committer a r by ≡ None →
    option_map (λ start. stored start l) told ≡ option_map (λ start. stored start (entry_at now by a r ∷ l)) told
rows_same None l now by a r p = refl
rows_same (Some start) l now by a r p = sym (ap (λ z. Some (stored_by z l (stored start l))) p)

-- an entry that commits nothing
keeps : (told : Option Tables) (l : Journal) (now s : ℕ) (a : Act) (r : Reply) (old new : StoreState) → IsStored told l old → stops a ≡ false → committer a r (Some s) ≡ None →
    new.tables ≡ old.tables → changes_of new s ≡ deferred_after a (changes_of old s) → ((n : ℕ) → n ≢ s → changes_of new n ≡ changes_of old n) →
    IsStored told (entry_at now (Some s) a r ∷ l) new
keeps told l now s a r old new k i d t c o = record {
  rows = t ∙ (k.rows ∙ rows_same told l now (Some s) a r d);
  changes = more l now s a r old new i k.changes c o;
}

-- and one that leaves the changes too
keeps_all : (told : Option Tables) (l : Journal) (now s : ℕ) (a : Act) (r : Reply) (old new : StoreState) → IsStored told l old → stops a ≡ false → committer a r (Some s) ≡ None →
    ((cs : List Change) → deferred_after a cs ≡ cs) → new.tables ≡ old.tables → new.written ≡ old.written → IsStored told (entry_at now (Some s) a r ∷ l) new
keeps_all told l now s a r old new k i d f t w = keeps told l now s a r old new k i d t (same s ∙ sym (f (changes_of old s))) (λ n x. same n)
  where
    same : (n : ℕ) → changes_of new n ≡ changes_of old n
    same n = ap (λ x. Rattle.hib_store.specs.Stores.changes_in x n) w

-- ---- a load

fault_if : (b : Bool) (r : Reply) → b ≡ false → cond b None (Some r) ≡ Some r
fault_if true r p = absurd (true≢false p)
fault_if false r p = refl

row_is : (x y : Option Row) → Loaded.Row x ≡ Loaded.Row y → x ≡ y
row_is x y e = cc

no_row : (x : Option Row) → Loaded.Fault ≡ Loaded.Row x → ⊥
no_row x e = cc

load_reply : (script : Script) (told : Option Tables) (l : Journal) (now s : ℕ) (k : Key) (loaded : Loaded) (store : StoreState) → IsStored told l store →
    IsView store.tables (changes_of store s) k loaded → (is_in k (changes_of store s) ≡ true → (t : Tables) → loaded ≡ Loaded.Row (row_at (after_changes (changes_of store s) t) k)) →
    IsStoreReply script told l (entry_at now (Some s) (Act.Load k) (reply_of_loaded loaded))
load_reply script told l now s k loaded store kept view mine = by_told told loaded kept.rows (subst (λ cs. IsView store.tables cs k loaded) (kept.changes s) view)
    (subst (λ cs. is_in k cs ≡ true → (t : Tables) → loaded ≡ Loaded.Row (row_at (after_changes cs t) k)) (kept.changes s) mine)
  where
    by_told : (told : Option Tables) (loaded : Loaded) → store.tables ≡ option_map (λ start. stored start l) told → IsView store.tables (unsaved s l) k loaded →
        (is_in k (unsaved s l) ≡ true → (t : Tables) → loaded ≡ Loaded.Row (row_at (after_changes (unsaved s l) t) k)) → IsStoreReply script told l (entry_at now (Some s) (Act.Load k) (reply_of_loaded loaded))
    by_told None (Loaded.Row row) rows v m = (refl, λ q. inl (ap (λ x. Reply.Row x) (row_is row (row_at (after_changes (unsaved s l) (stored [] l)) k) (m (not-false (is_in k (unsaved s l)) q) (stored [] l)))))
    by_told None Loaded.Fault rows v m = (refl, λ q. absurd (no_row (row_at (after_changes (unsaved s l) []) k) (m (not-false (is_in k (unsaved s l)) q) [])))
    by_told (Some start) (Loaded.Row row) rows v m = inl (ap (λ x. Reply.Row x) (subst (λ t. IsView t (unsaved s l) k (Loaded.Row row)) rows v))
    by_told (Some start) Loaded.Fault rows v m = inr (fault_if (is_in k (unsaved s l)) Reply.Fault (false_from_ne_true (is_in k (unsaved s l)) (λ p. no_row (row_at (after_changes (unsaved s l) []) k) (m p []))))

load_commits : (k : Key) (loaded : Loaded) (s : ℕ) → committer (Act.Load k) (reply_of_loaded loaded) (Some s) ≡ None
load_commits k loaded s = refl

pub load_served : (script : Script) (told : Option Tables) (l : Journal) (now s : ℕ) (k : Key) (loaded : Loaded) (x y : StoreState) → IsStored told l x →
    IsView x.tables (changes_of x s) k loaded → (is_in k (changes_of x s) ≡ true → (t : Tables) → loaded ≡ Loaded.Row (row_at (after_changes (changes_of x s) t) k)) →
    y.tables ≡ x.tables → y.written ≡ x.written → IsStoreServed script told l now s (Act.Load k) (reply_of_loaded loaded) y
load_served script told l now s k loaded x y kept view mine t w = record {
  reply = load_reply script told l now s k loaded x kept view mine;
  stands = keeps_all told l now s (Act.Load k) (reply_of_loaded loaded) x y kept refl refl (λ cs. refl) t w;
}

pub load_faults : (loaded : Loaded) → is_fault (reply_of_loaded loaded) ≡ true → loaded ≡ Loaded.Fault
load_faults (Loaded.Row row) p = absurd (false≢true p)
load_faults Loaded.Fault p = refl

-- the keeper is asked once at most, and not at all of a key that the session has changed
pub load_asks : (s : ℕ) (k : Key) (old new : StoreState) → (is_in k (changes_of old s) ≡ true → new.asked ≡ old.asked) → old.asked ≤ new.asked → new.asked ≤ old.asked + 1 →
    RoseWithin old.asked (cond (asks (changes_of old s) (Act.Load k)) 1 0) new.asked
load_asks s k old new quiet later few = by_test (is_in k (changes_of old s)) quiet
  where
    by_test : (b : Bool) → (b ≡ true → new.asked ≡ old.asked) → RoseWithin old.asked (cond (not b) 1 0) new.asked
    by_test true q = record { later = later; few = omega (arith, q refl) }
    by_test false q = record { later = later; few = few }

-- ---- a list

list_reply_due : (script : Script) (told : Option Tables) (l : Journal) (now s q : ℕ) (d : Query) (listed : Listed) (store : StoreState) → IsStored told l store →
    slice_get script.queries q ≡ Some d → IsListed store.tables (changes_of store s) d listed → IsStoreReply script told l (entry_at now (Some s) (Act.List q) (reply_of_listed listed))
list_reply_due script told l now s q d listed store kept there view = by_told told listed kept.rows (subst (λ cs. IsListed store.tables cs d listed) (kept.changes s) view)
  where
    by_told : (told : Option Tables) (listed : Listed) → store.tables ≡ option_map (λ start. stored start l) told → IsListed store.tables (unsaved s l) d listed →
        IsStoreReply script told l (entry_at now (Some s) (Act.List q) (reply_of_listed listed))
    by_told None (Listed.List cells) rows v = (refl, λ p. absurd (true≢false p))
    by_told None Listed.Fault rows v = (refl, λ p. absurd (true≢false p))
    by_told (Some start) (Listed.List cells) rows v = inl (ap (λ c. Reply.Listed c) (subst (λ t. IsListed t (unsaved s l) d (Listed.List cells)) rows v)
        ∙ sym (ap (λ o. option_map_or (λ d. Reply.Listed (gives d (after_changes (unsaved s l) (stored start l)))) o Reply.Fault) there))
    by_told (Some start) Listed.Fault rows v = inr refl

pub list_served : (script : Script) (told : Option Tables) (l : Journal) (now s q : ℕ) (d : Query) (listed : Listed) (x y : StoreState) → IsStored told l x →
    slice_get script.queries q ≡ Some d → IsListed x.tables (changes_of x s) d listed → y.tables ≡ x.tables → y.written ≡ x.written →
    IsStoreServed script told l now s (Act.List q) (reply_of_listed listed) y
list_served script told l now s q d listed x y kept there view t w = record {
  reply = list_reply_due script told l now s q d listed x kept there view;
  stands = keeps_all told l now s (Act.List q) (reply_of_listed listed) x y kept refl refl (λ cs. refl) t w;
}

pub list_faults : (listed : Listed) → is_fault (reply_of_listed listed) ≡ true → listed ≡ Listed.Fault
list_faults (Listed.List cells) p = absurd (false≢true p)
list_faults Listed.Fault p = refl

-- ---- a write and a rollback

any_reply : (script : Script) (told : Option Tables) (l : Journal) (now s : ℕ) (c : Change) → IsStoreReply script told l (entry_at now (Some s) (Act.Write c) Reply.Written)
any_reply script None l now s c = (refl, λ q. inl refl)
any_reply script (Some start) l now s c = inl refl

pub write_served : (script : Script) (told : Option Tables) (l : Journal) (now s : ℕ) (c : Change) (x y : StoreState) → IsStored told l x →
    changes_of y s ≡ changes_of x s ++ c ∷ [] → ((n : ℕ) → n ≢ s → changes_of y n ≡ changes_of x n) → y.tables ≡ x.tables →
    IsStoreServed script told l now s (Act.Write c) Reply.Written y
write_served script told l now s c x y kept w o t = record {
  reply = any_reply script told l now s c;
  stands = keeps told l now s (Act.Write c) Reply.Written x y kept refl refl t w o;
}

done_reply : (script : Script) (told : Option Tables) (l : Journal) (now s : ℕ) → IsStoreReply script told l (entry_at now (Some s) Act.Rollback Reply.Done)
done_reply script None l now s = (refl, λ q. inl refl)
done_reply script (Some start) l now s = inl refl

pub rollback_served : (script : Script) (told : Option Tables) (l : Journal) (now s : ℕ) (x y : StoreState) → IsStored told l x →
    changes_of y s ≡ [] → ((n : ℕ) → n ≢ s → changes_of y n ≡ changes_of x n) → y.tables ≡ x.tables → IsStoreServed script told l now s Act.Rollback Reply.Done y
rollback_served script told l now s x y kept w o t = record {
  reply = done_reply script told l now s;
  stands = keeps told l now s Act.Rollback Reply.Done x y kept refl refl t w o;
}

-- ---- a commit

pub empty_nil : (cs : List Change) → is_empty cs ≡ true → cs ≡ []
empty_nil [] p = refl
empty_nil (c ∷ cs) p = absurd (false≢true p)

fault_or : (c : Commit) → (c ≡ Commit.Fault) ⊎ (c ≢ Commit.Fault)
fault_or Commit.Fault = inl refl
fault_or Commit.Committed = inr (λ e. no e)
  where
    no : Commit.Committed ≡ Commit.Fault → ⊥
    no x = cc
fault_or (Commit.Stale k v) = inr (λ e. no e)
  where
    no : Commit.Stale k v ≡ Commit.Fault → ⊥
    no x = cc
fault_or (Commit.Duplicate k) = inr (λ e. no e)
  where
    no : Commit.Duplicate k ≡ Commit.Fault → ⊥
    no x = cc

committed_fault : Commit.Committed ≡ Commit.Fault → ⊥
committed_fault x = cc

commit_reply : (script : Script) (told : Option Tables) (l : Journal) (now s : ℕ) (c : Commit) (store : StoreState) → IsStored told l store →
    (c ≢ Commit.Fault → IfSome store.tables (λ m. c ≡ commit_answer (changes_of store s) m)) → (changes_of store s ≡ [] → c ≡ Commit.Committed) →
    IsStoreReply script told l (entry_at now (Some s) Act.Commit (Reply.Commit c))
commit_reply script told l now s c store kept answer none = by_told told kept.rows
    (subst (λ cs. c ≢ Commit.Fault → IfSome store.tables (λ m. c ≡ commit_answer cs m)) (kept.changes s) answer) (subst (λ cs. cs ≡ [] → c ≡ Commit.Committed) (kept.changes s) none)
  where
    by_told : (told : Option Tables) → store.tables ≡ option_map (λ start. stored start l) told → (c ≢ Commit.Fault → IfSome store.tables (λ m. c ≡ commit_answer (unsaved s l) m)) →
        (unsaved s l ≡ [] → c ≡ Commit.Committed) → IsStoreReply script told l (entry_at now (Some s) Act.Commit (Reply.Commit c))
    by_told None rows a n = (
      refl,
      λ q. let e : unsaved s l ≡ [] = empty_nil (unsaved s l) (not-false (is_empty (unsaved s l)) q) in
          inl (ap (λ x. Reply.Commit x) (n e ∙ ap (λ cs. commit_answer cs (stored [] l)) (sym e))),
    )
    by_told (Some start) rows a n = by_answer (fault_or c)
      where
        by_answer : (c ≡ Commit.Fault) ⊎ (c ≢ Commit.Fault) → IsStoreReply script (Some start) l (entry_at now (Some s) Act.Commit (Reply.Commit c))
        by_answer (inr f) = inl (ap (λ x. Reply.Commit x) (subst (λ t. IfSome t (λ m. c ≡ commit_answer (unsaved s l) m)) rows (a f)))
        by_answer (inl p) = inr (fault_if (is_empty (unsaved s l)) (Reply.Commit Commit.Fault) (false_from_ne_true (is_empty (unsaved s l)) (λ q. committed_fault (sym (n (empty_nil (unsaved s l) q)) ∙ p)))
            ∙ ap (λ x. Some (Reply.Commit x)) (sym p))

commit_keeps : (told : Option Tables) (l : Journal) (now s : ℕ) (c : Commit) (old new : StoreState) → IsStored told l old →
    new.tables ≡ tables_answered c (changes_of old s) old.tables → changes_of new s ≡ [] → ((n : ℕ) → n ≢ s → changes_of new n ≡ changes_of old n) →
    IsStored told (entry_at now (Some s) Act.Commit (Reply.Commit c) ∷ l) new
commit_keeps told l now s c old new kept t w o = record {
  rows = t ∙ (ap (tables_answered c (changes_of old s)) kept.rows ∙ by_answer c told);
  changes = more l now s Act.Commit (Reply.Commit c) old new refl kept.changes w o;
}
  where
    by_answer : (x : Commit) (u : Option Tables) → tables_answered x (changes_of old s) (option_map (λ start. stored start l) u) ≡ option_map (λ start. stored start (entry_at now (Some s) Act.Commit (Reply.Commit x) ∷ l)) u
    by_answer Commit.Committed None = refl
    by_answer Commit.Committed (Some start) = ap (λ cs. Some (after_changes cs (stored start l))) (kept.changes s)
    by_answer (Commit.Stale j v) None = refl
    by_answer (Commit.Stale j v) (Some start) = refl
    by_answer (Commit.Duplicate j) None = refl
    by_answer (Commit.Duplicate j) (Some start) = refl
    by_answer Commit.Fault None = refl
    by_answer Commit.Fault (Some start) = refl

pub commit_served : (script : Script) (told : Option Tables) (l : Journal) (now s : ℕ) (c : Commit) (x y : StoreState) → IsStored told l x →
    (c ≢ Commit.Fault → IfSome x.tables (λ m. c ≡ commit_answer (changes_of x s) m)) → (changes_of x s ≡ [] → c ≡ Commit.Committed) →
    y.tables ≡ tables_answered c (changes_of x s) x.tables → changes_of y s ≡ [] → ((n : ℕ) → n ≢ s → changes_of y n ≡ changes_of x n) →
    IsStoreServed script told l now s Act.Commit (Reply.Commit c) y
commit_served script told l now s c x y kept answer none t w o = record {
  reply = commit_reply script told l now s c x kept answer none;
  stands = commit_keeps told l now s c x y kept t w o;
}

pub commit_faults : (c : Commit) → is_fault (Reply.Commit c) ≡ true → c ≡ Commit.Fault
commit_faults Commit.Fault p = refl
commit_faults Commit.Committed p = absurd (false≢true p)
commit_faults (Commit.Stale k v) p = absurd (false≢true p)
commit_faults (Commit.Duplicate k) p = absurd (false≢true p)

-- ---- entries of others

-- a kill of a session, and a restart

pub kill_stored : (told : Option Tables) (l : Journal) (now s : ℕ) (x y : StoreState) → IsStored told l x → changes_of y s ≡ [] → ((n : ℕ) → n ≢ s → changes_of y n ≡ changes_of x n) →
    y.tables ≡ x.tables → IsStored told (entry_at now None (Act.Kill s) Reply.Done ∷ l) y
kill_stored told l now s x y k w o t = record { rows = t ∙ (k.rows ∙ rows_same told l now None (Act.Kill s) Reply.Done refl); changes = λ n. by n (tested (s == n)) }
  where
    by : (n : ℕ) → Tested (s == n) → changes_of y n ≡ cond (s == n) [] (unsaved n l)
    by n (inl p) = rw p (subst (λ m. changes_of y m ≡ []) (eqb-true s n p) w)
    by n (inr p) = rw p (o n (λ e. true≢false (sym (eq-eqb s n (sym e)) ∙ p)) ∙ k.changes n)

pub restart_stored : (told : Option Tables) (l : Journal) (now : ℕ) (x y : StoreState) → IsStored told l x → ((n : ℕ) → changes_of y n ≡ []) → y.tables ≡ x.tables →
    IsStored told (entry_at now None Act.Restart Reply.Done ∷ l) y
restart_stored told l now x y k w t = record { rows = t ∙ (k.rows ∙ rows_same told l now None Act.Restart Reply.Done refl); changes = w }

untouched : (a : Act) (r : Reply) (by : Option ℕ) (s : ℕ) → is_for Part.Store a s ≡ false → (committer a r by ≡ None) × ((cs : List Change) → deferred_after a cs ≡ cs)
untouched (Act.Write c) r by s p = absurd (true≢false p)
untouched Act.Commit r by s p = absurd (true≢false p)
untouched Act.Rollback r by s p = absurd (true≢false p)
untouched _ r by s p = (refl, λ cs. refl)

if_same : (b : Bool) (cs : List Change) → cond b cs cs ≡ cs
if_same true cs = refl
if_same false cs = refl

-- an entry of another part that is neither
pub store_stays : (told : Option Tables) (l : Journal) (by : Option ℕ) (now : ℕ) (a : Act) (r : Reply) (x : StoreState) → IsStored told l x → is_for Part.Store a (unwrap_or by 0) ≡ false →
    stops a ≡ false → IsStored told (entry_at now by a r ∷ l) x
store_stays told l by now a r x k p i =
    let u : (committer a r by ≡ None) × ((cs : List Change) → deferred_after a cs ≡ cs) = untouched a r by (unwrap_or by 0) p in
    record {
      rows = k.rows ∙ rows_same told l now by a r u.0;
      changes = λ n. k.changes n ∙ sym (unsaved_own n by a (unsaved n l) i ∙ (ap (λ cs. cond (is_session n by) cs (unsaved n l)) (u.1 (unsaved n l)) ∙ if_same (is_session n by) (unsaved n l)));
    }
