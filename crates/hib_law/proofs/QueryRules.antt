-- What a session's own entries allow it to do with stamps and results.
use Rattle.std.specs.Option.{option_map_or}
use Rattle.std.proofs.Common.{◌≡◌, ℕ, ◌⊎◌, inl, inr, Bool, true, false, List, [], ◌∷◌, ◌++◌, slice_get, Some, refl, ◌∙◌, subst}
use Rattle.std.proofs.lemmas.Bool.{false≢true}
use Rattle.std.specs.List.{flat_map}
use Rattle.hib_journal.specs.Types.{Cell, Change, Commit, Mode, Script, Act, Reply, Checked, Entry}
use Rattle.hib_base.specs.Tables.{Tables}
use Rattle.hib_journal.specs.Sessions.{Journal, own, is_by, changes_in, time_in, is_begun, begun_after}
use Rattle.hib_journal.specs.Plan.{one}
use Rattle.hib_journal.specs.Next
use Rattle.hib_journal.specs.Next.{tables_in, tables_of, is_in_tables, is_committed_reply, mode_reads, mode_puts, keys_of, complete, stamps_of, completion}
use Rattle.hib_journal.specs.Legal.{IsLegal, IsStep}
use Rattle.hib_journal.proofs.Plans.{Runs, Allows, allows_join, runs_each, runs_if}
use Rattle.hib_law.proofs.Walks
use Rattle.hib_law.proofs.Walks.{AreGood, not_in_test, runs_test, allows_as, allow_keys, is_find_act, is_flush_act, is_end_act, is_own_act}

-- the tables of the last commit that was answered Committed, until a Stamp
abbrev pub owed_by : Script → List Change → Act → Reply → List ℕ → List ℕ
owed_by script cs Act.Commit (Reply.Commit Commit.Committed) ts = tables_in script cs
owed_by script cs (Act.Stamp us) r ts = []
owed_by script cs _ r ts = ts

abbrev pub owed : Script → Journal → List ℕ
owed script [] = []
owed script (e ∷ m) = owed_by script (changes_in m) e.act e.reply (owed script m)

-- a Keep is of what a List has just answered, at the session's time, if no table of the query is in the changes
abbrev pub MayKeep : Script → Journal → ℕ → ℕ → List Cell → Type 0
MayKeep script [] q t l = ⊥
MayKeep script (e ∷ m) q t l =
    (e.act ≡ Act.List q) × (e.reply ≡ Reply.Listed l) × (t ≡ time_in m) × (is_in_tables (tables_of script q) (changes_in m) ≡ false) × (is_begun m ≡ true)

-- a Check is at the time that a Look has just found
abbrev pub MayCheck : Journal → ℕ → ℕ → Type 0
MayCheck [] q t = ⊥
MayCheck (e ∷ m) q t = (e.act ≡ Act.Look q) × ((l : List Cell) × (e.reply ≡ Reply.Found t l)) × (is_begun m ≡ true)

abbrev pub AllowedQuery : Script → Journal → Act → Type 0
AllowedQuery script m Act.Begin = owed script m ≡ []
AllowedQuery script m Act.Commit = owed script m ≡ []
AllowedQuery script m (Act.Stamp ts) = (owed script m ≡ []) ⊎ (owed script m ≡ ts)
AllowedQuery script m (Act.Keep q t l) = MayKeep script m q t l
AllowedQuery script m (Act.Check q t) = MayCheck m q t
AllowedQuery script m _ = Unit {0}

abbrev pub Anyhow : Journal → Entry → Type 0
Anyhow m e = Unit {0}

-- acts that are always allowed, and change nothing of what counts here
abbrev pub is_quiet : Act → Bool
is_quiet Act.Begin = false
is_quiet Act.End = false
is_quiet Act.Commit = false
is_quiet (Act.Stamp ts) = false
is_quiet (Act.Keep q t l) = false
is_quiet (Act.Check q t) = false
is_quiet _ = true

find_quiet : (a : Act) → is_find_act a ≡ true → is_quiet a ≡ true
find_quiet (Act.Find k) p = refl
find_quiet (Act.Get k t) p = refl
find_quiet (Act.Load k) p = refl
find_quiet (Act.Put k r t f) p = refl
find_quiet _ p = absurd (false≢true p)

flush_quiet : (a : Act) → is_flush_act a ≡ true → is_quiet a ≡ true
flush_quiet (Act.Pre ts) p = refl
flush_quiet (Act.Lock k v f) p = refl
flush_quiet (Act.RegionRemove k) p = refl
flush_quiet (Act.Write c) p = refl
flush_quiet _ p = absurd (false≢true p)

end_quiet : (a : Act) → is_end_act a ≡ true → is_quiet a ≡ true
end_quiet (Act.AfterInsert k r f) p = refl
end_quiet (Act.AfterUpdate k i r) p = refl
end_quiet (Act.Unlock k i) p = refl
end_quiet (Act.RegionRemove k) p = refl
end_quiet _ p = absurd (false≢true p)

own_quiet : (a : Act) → is_own_act a ≡ true → is_quiet a ≡ true
own_quiet (Act.Set k cells) p = refl
own_quiet (Act.Remove k) p = refl
own_quiet Act.Clear p = refl
own_quiet _ p = absurd (false≢true p)

quiet_begun : (a : Act) (x : Bool) → is_quiet a ≡ true → begun_after a x ≡ x
quiet_begun Act.Begin x p = absurd (false≢true p)
quiet_begun Act.End x p = absurd (false≢true p)
quiet_begun _ x p = refl

module _ (script : Script) where
  quiet_owed : (cs : List Change) (a : Act) (r : Reply) (ts : List ℕ) → is_quiet a ≡ true → owed_by script cs a r ts ≡ ts
  quiet_owed cs Act.Commit r ts p = absurd (false≢true p)
  quiet_owed cs (Act.Stamp us) r ts p = absurd (false≢true p)
  quiet_owed cs _ r ts p = refl

  quiet_allowed : (m : Journal) (a : Act) → is_quiet a ≡ true → AllowedQuery script m a
  quiet_allowed m Act.Begin p = absurd (false≢true p)
  quiet_allowed m Act.Commit p = absurd (false≢true p)
  quiet_allowed m (Act.Stamp ts) p = absurd (false≢true p)
  quiet_allowed m (Act.Keep q t l) p = absurd (false≢true p)
  quiet_allowed m (Act.Check q t) p = absurd (false≢true p)
  quiet_allowed m _ p = tt

  -- in a transaction, and these tables are to be stamped
  abbrev At : List ℕ → Journal → Type 0
  At ts m = (is_begun m ≡ true) × (owed script m ≡ ts)

  at_on : (ts : List ℕ) (m : Journal) (e : Entry) → At ts m → is_quiet e.act ≡ true → At ts (e ∷ m)
  at_on ts m e w p = (quiet_begun e.act (is_begun m) p ∙ w.0, quiet_owed (changes_in m) e.act e.reply (owed script m) p ∙ w.1)

  keeps_quiet : (ts : List ℕ) (a : Act) → is_quiet a ≡ true → Walks.Keeps (AllowedQuery script) Anyhow (At ts) a
  keeps_quiet ts a p m w = (quiet_allowed m a p, λ e q r. at_on ts m e w (rw q p))

  -- nothing is to be stamped, or these tables are
  abbrev Owes : List ℕ → Journal → Type 0
  Owes ts m = (owed script m ≡ []) ⊎ (owed script m ≡ ts)

  -- before a Begin
  abbrev IsOver : Journal → Type 0
  IsOver m = owed script m ≡ []

  allow_stamps : (ts : List ℕ) (m : Journal) → Owes ts m → Allows (AllowedQuery script) Anyhow (stamps_of ts) m IsOver
  allow_stamps [] m w = elim w [ inl x ↦ x | inr x ↦ x ]
  allow_stamps (t ∷ ts) m w = (w, λ e p r. rw p refl)

  abbrev Ended : Journal → Type 0
  Ended m = (is_begun m ≡ true) × Owes (tables_in script (changes_in m)) m

  allow_completion : (mode : Mode) (d : Bool) (m : Journal) → Ended m → Allows (AllowedQuery script) Anyhow (completion script mode d m) m IsOver
  allow_completion mode d m w =
      allows_join (AllowedQuery script) Anyhow (keys ++ stamps_of (tables_in script (changes_in m))) (Act.End ∷ []) m IsOver IsOver
      (allows_join (AllowedQuery script) Anyhow keys (stamps_of (tables_in script (changes_in m))) m (Owes (tables_in script (changes_in m))) IsOver
      (by_owed w.1) (λ n x. allow_stamps (tables_in script (changes_in m)) n x))
      (λ n x. (tt, λ e p r. rw p x))
    where
      keys : List Act
      keys = flat_map (λ k. complete script mode m d (changes_in m) k) (keys_of (changes_in m))

      by_owed : Owes (tables_in script (changes_in m)) m → Allows (AllowedQuery script) Anyhow keys m (Owes (tables_in script (changes_in m)))
      by_owed (inl x) = allows_as (AllowedQuery script) Anyhow keys m (At []) (Owes (tables_in script (changes_in m))) (λ n y. inl y.1)
          (allow_keys (AllowedQuery script) Anyhow (At []) script mode (λ a p. keeps_quiet [] a (end_quiet a p)) m d (changes_in m) (keys_of (changes_in m)) m (w.0, x))
      by_owed (inr x) = allows_as (AllowedQuery script) Anyhow keys m (At (tables_in script (changes_in m))) (Owes (tables_in script (changes_in m))) (λ n y. inr y.1)
          (allow_keys (AllowedQuery script) Anyhow (At (tables_in script (changes_in m))) script mode (λ a p. keeps_quiet (tables_in script (changes_in m)) a (end_quiet a p))
          m d (changes_in m) (keys_of (changes_in m)) m (w.0, x))

  after_commit : (m : Journal) (e : Entry) → At [] m → e.act ≡ Act.Commit → Ended (e ∷ m)
  after_commit m e w p = (rw p (w.0), subst (λ cs. Owes (tables_in script cs) (e ∷ m)) c (rw p (by_reply e.reply)))
    where
      c : changes_in m ≡ changes_in (e ∷ m)
      c = rw p refl

      by_commit : (x : Commit) → (owed_by script (changes_in m) Act.Commit (Reply.Commit x) (owed script m) ≡ []) ⊎ (owed_by script (changes_in m) Act.Commit (Reply.Commit x) (owed script m) ≡ tables_in script (changes_in m))
      by_commit Commit.Committed = inr refl
      by_commit (Commit.Stale j v) = inl w.1
      by_commit (Commit.Duplicate j) = inl w.1
      by_commit Commit.Fault = inl w.1

      by_reply : (x : Reply) → (owed_by script (changes_in m) Act.Commit x (owed script m) ≡ []) ⊎ (owed_by script (changes_in m) Act.Commit x (owed script m) ≡ tables_in script (changes_in m))
      by_reply (Reply.Commit x) = by_commit x
      by_reply _ = inl w.1

  module _ (mode : Mode) (q : ℕ) where
    -- after a List
    goes_keep : (m : Journal) (e : Entry) → At [] (e ∷ m) → e.act ≡ Act.List q → (r : Reply) → e.reply ≡ r →
        Runs (AllowedQuery script) Anyhow (Next.keep_listed script mode q r) (e ∷ m) (At [])
    goes_keep m e w p (Reply.Listed l) x =
        runs_test (AllowedQuery script) Anyhow (Next.is_free script q (mode_puts mode) (e ∷ m)) (one (Act.Keep q (time_in (e ∷ m)) l)) (λ d n. n d) (e ∷ m) (At [])
        (λ t go g. (may t, λ d u r. g (d ∷ e ∷ m) (rw u (w.0), rw u (w.1)))) (λ t go g. g (e ∷ m) w)
      where
        may : Next.is_free script q (mode_puts mode) (e ∷ m) ≡ true → MayKeep script (e ∷ m) q (time_in (e ∷ m)) l
        may t =
            let n : is_in_tables (tables_of script q) (changes_in (e ∷ m)) ≡ false =
            not_in_test (option_map_or (λ d. d.cached) (slice_get script.queries q) false) (mode_puts mode) (is_in_tables (tables_of script q) (changes_in (e ∷ m))) t in
            let c : is_in_tables (tables_of script q) (changes_in m) ≡ false = rw p at n in
            let b : is_begun m ≡ true = rw p at w.0 in
            (p, x, rw p refl, c, b)
    goes_keep m e w p _ x = λ go g. g (e ∷ m) w

    goes_store : Walks.Goes (AllowedQuery script) Anyhow (Next.list_store script mode q) (At []) (At [])
    goes_store m w go g = (tt, λ e p r. goes_keep m e (at_on [] m e w (rw p refl)) p e.reply refl go g)

    goes_unless_fresh : (r : Reply) → Walks.Goes (AllowedQuery script) Anyhow (Next.list_unless_fresh script mode q r) (At []) (At [])
    goes_unless_fresh (Reply.Check Checked.Fresh) m w = λ go g. g m w
    goes_unless_fresh (Reply.Check (Checked.Stale t v)) m w = goes_store m w
    goes_unless_fresh _ m w = goes_store m w

    -- after a Look
    goes_found : (m : Journal) (e : Entry) → At [] (e ∷ m) → e.act ≡ Act.Look q → (r : Reply) → e.reply ≡ r →
        Runs (AllowedQuery script) Anyhow (Next.check_found script mode q r) (e ∷ m) (At [])
    goes_found m e w p (Reply.Found t l) x = λ go g.
        let b : is_begun m ≡ true = rw p at w.0 in
        ((p, (l, x), b), λ d u r. goes_unless_fresh d.reply (d ∷ e ∷ m) (rw u (w.0), rw u (w.1)) go g)
    goes_found m e w p _ x = goes_store (e ∷ m) w

    goes_answer : Walks.Goes (AllowedQuery script) Anyhow (Next.answer script mode q) (At []) (At [])
    goes_answer m w = runs_if (AllowedQuery script) Anyhow (Next.is_free script q (mode_reads mode) m) (Next.look script mode q) (Next.list_store script mode q) m (At [])
        (λ go g. (tt, λ e p r. goes_found m e (at_on [] m e w (rw p refl)) p e.reply refl go g)) (goes_store m w)

  good : AreGood (AllowedQuery script) Anyhow script IsOver (At [])
  good = record {
    find = λ mode k. Walks.goes_find (AllowedQuery script) Anyhow (At []) script mode (λ a p. keeps_quiet [] a (find_quiet a p)) k;
    persist = λ j r p. keeps_quiet [] (Act.Persist j r) refl;
    own = λ a p. keeps_quiet [] a (own_quiet a p);
    flush = Walks.goes_flush (AllowedQuery script) Anyhow (At []) script (λ a p. keeps_quiet [] a (flush_quiet a p));
    answer = goes_answer;
    commit = λ mode m w go g. (
      w.1,
      λ e p r.
          runs_each (AllowedQuery script) Anyhow (completion script mode (is_committed_reply e.reply) (e ∷ m)) (e ∷ m) IsOver
          (allow_completion mode (is_committed_reply e.reply) (e ∷ m) (after_commit m e w p)) go g,
    );
    rollback = λ mode m w go g. (
      tt,
      λ e p r.
          runs_each (AllowedQuery script) Anyhow (completion script mode false (e ∷ m)) (e ∷ m) IsOver
          (allow_completion mode false (e ∷ m) (rw p (w.0), inl (rw p (w.1)))) go g,
    );
    begins = λ m w go g. (w, λ e p r. g (e ∷ m) (rw p refl, rw p w));
  }

  -- in a legal journal each act of a session is allowed by what the session did before
  pub allowed_query : (start : Tables) (s : ℕ) (h : Journal) (e : Entry) → IsLegal script (Some start) h → IsStep script (Some start) h e → is_by s e ≡ true →
      AllowedQuery script (own s h) e.act
  allowed_query start s h e l t p = Walks.allowed (AllowedQuery script) Anyhow script IsOver (At []) good (Some start) s (λ g d u q. tt) refl h e l t p
