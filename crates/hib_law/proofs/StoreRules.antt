-- What a session's own entries allow it to store, of any key and whatever the strategy.
use Rattle.std.specs.Prelude.{option_and_then, is_some, cond}
use Rattle.std.proofs.Common.{◌≡◌, ℕ, Bool, true, false, ◌&&◌, List, [], ◌∷◌, ◌++◌, Some, None, Option, refl, ◌∙◌}
use Rattle.std.proofs.lemmas.Bool.{false≢true}
use Rattle.std.specs.List.{flat_map}
use Rattle.hib_journal.specs.Types.{Key, Row, Change, Strategy, Mode, Script, Act, Reply, Entry}
use Rattle.hib_base.specs.Tables.{Tables, first_on, last_on, row_left}
use Rattle.hib_journal.specs.Sessions.{Journal, own, is_by, changes_in, changes_after, time_in, floor_in, is_begun, begun_after}
use Rattle.hib_journal.specs.Held.{held}
use Rattle.hib_journal.specs.Plan.{one, InOrder}
use Rattle.hib_journal.specs.Next
use Rattle.hib_journal.specs.Next.{plan_of, next, tables_in, is_in, mode_puts, strategy, is_committed_reply, keys_of, complete, stamps_of, completion}
use Rattle.hib_journal.specs.Legal.{IsLegal, IsStep}
use Rattle.hib_journal.specs.Coherence.{done_in, done_after}
use Rattle.hib_journal.proofs.Plans.{AllRight, Runs, Allows, allows_join, runs_each, runs_if}
use Rattle.hib_law.proofs.Walks
use Rattle.hib_law.proofs.Walks.{AreGood, runs_test, goes_act, not_in_test, is_list_act, is_flush_act, is_own_act}
use Rattle.hib_law.proofs.Ends.{put_back, done_reply}

-- a Put is of what a Load has just answered, of a key that is not in the changes
abbrev pub MayPut : Journal → Key → Row → Type 0
MayPut [] k r = ⊥
MayPut (e ∷ m) k r = (e.act ≡ Act.Load k) × (e.reply ≡ Reply.Row (Some r)) × (is_in k (changes_in m) ≡ false) × (is_begun m ≡ true)

-- after a commit a row is stored that the last change on its key left
abbrev pub MayStore : Journal → Key → Row → Type 0
MayStore m k r = (is_begun m ≡ true) × (done_in m ≡ true) × (option_and_then row_left (last_on k (changes_in m)) ≡ Some r)

abbrev pub AllowedStore : Journal → Act → Type 0
AllowedStore m (Act.Put k r t f) = MayPut m k r
AllowedStore m (Act.AfterInsert k r f) = MayStore m k r
AllowedStore m (Act.AfterUpdate k i r) = MayStore m k r
AllowedStore m (Act.Write c) = done_in m ≡ false
AllowedStore m _ = Unit {0}

abbrev pub Anyhow : Journal → Entry → Type 0
Anyhow m e = Unit {0}

-- acts before the end of a transaction that store nothing
abbrev pub is_work : Act → Bool
is_work Act.Begin = false
is_work Act.End = false
is_work Act.Commit = false
is_work Act.Rollback = false
is_work (Act.Put k r t f) = false
is_work (Act.AfterInsert k r f) = false
is_work (Act.AfterUpdate k i r) = false
is_work _ = true

-- acts of the completion
abbrev pub is_end : Act → Bool
is_end (Act.AfterInsert k r f) = true
is_end (Act.AfterUpdate k i r) = true
is_end (Act.Unlock k i) = true
is_end (Act.RegionRemove k) = true
is_end (Act.Stamp ts) = true
is_end _ = false

list_work : (a : Act) → is_list_act a ≡ true → is_work a ≡ true
list_work (Act.Look q) p = refl
list_work (Act.Check q t) p = refl
list_work (Act.List q) p = refl
list_work (Act.Keep q t l) p = refl
list_work _ p = absurd (false≢true p)

flush_work : (a : Act) → is_flush_act a ≡ true → is_work a ≡ true
flush_work (Act.Pre ts) p = refl
flush_work (Act.Lock k v f) p = refl
flush_work (Act.RegionRemove k) p = refl
flush_work (Act.Write c) p = refl
flush_work _ p = absurd (false≢true p)

own_work : (a : Act) → is_own_act a ≡ true → is_work a ≡ true
own_work (Act.Set k cells) p = refl
own_work (Act.Remove k) p = refl
own_work Act.Clear p = refl
own_work _ p = absurd (false≢true p)

work_begun : (a : Act) (x : Bool) → is_work a ≡ true → begun_after a x ≡ x
work_begun Act.Begin x p = absurd (false≢true p)
work_begun Act.End x p = absurd (false≢true p)
work_begun _ x p = refl

work_done : (a : Act) (r : Reply) (d : Bool) → is_work a ≡ true → done_after a r d ≡ d
work_done Act.Begin r d p = absurd (false≢true p)
work_done Act.Commit r d p = absurd (false≢true p)
work_done _ r d p = refl

end_begun : (a : Act) (x : Bool) → is_end a ≡ true → begun_after a x ≡ x
end_begun Act.Begin x p = absurd (false≢true p)
end_begun Act.End x p = absurd (false≢true p)
end_begun _ x p = refl

end_done : (a : Act) (r : Reply) (d : Bool) → is_end a ≡ true → done_after a r d ≡ d
end_done Act.Begin r d p = absurd (false≢true p)
end_done Act.Commit r d p = absurd (false≢true p)
end_done _ r d p = refl

end_changes : (a : Act) (cs : List Change) → is_end a ≡ true → changes_after a cs ≡ cs
end_changes Act.Begin cs p = absurd (false≢true p)
end_changes (Act.Write c) cs p = absurd (false≢true p)
end_changes _ cs p = refl

-- in a transaction, before its end
abbrev pub IsBusy : Journal → Type 0
IsBusy m = (is_begun m ≡ true) × (done_in m ≡ false)

work_allowed : (m : Journal) (a : Act) → IsBusy m → is_work a ≡ true → AllowedStore m a
work_allowed m (Act.Put k r t f) w p = absurd (false≢true p)
work_allowed m (Act.AfterInsert k r f) w p = absurd (false≢true p)
work_allowed m (Act.AfterUpdate k i r) w p = absurd (false≢true p)
work_allowed m (Act.Write c) w p = w.1
work_allowed m _ w p = tt

busy_on : (m : Journal) (e : Entry) → IsBusy m → is_work e.act ≡ true → IsBusy (e ∷ m)
busy_on m e w p = (work_begun e.act (is_begun m) p ∙ w.0, work_done e.act e.reply (done_in m) p ∙ w.1)

keeps_work : (a : Act) → is_work a ≡ true → Walks.Keeps AllowedStore Anyhow IsBusy a
keeps_work a p m w = (work_allowed m a w p, λ e q r. busy_on m e w (rw q p))

abbrev Allow : List Act → Journal → (Journal → Type 0) → Type 0
Allow = Allows AllowedStore Anyhow

module _ (script : Script) where
  -- the end of a transaction
  abbrev Ending : List Change → Bool → Journal → Type 0
  Ending cs d m = (is_begun m ≡ true) × (changes_in m ≡ cs) × (done_in m ≡ d)

  ending_on : (cs : List Change) (d : Bool) (m : Journal) (e : Entry) → Ending cs d m → is_end e.act ≡ true → Ending cs d (e ∷ m)
  ending_on cs d m e w p =
      (end_begun e.act (is_begun m) p ∙ w.0, end_changes e.act (changes_in m) p ∙ w.1, end_done e.act e.reply (done_in m) p ∙ w.2)

  allow_end : (cs : List Change) (d : Bool) (a : Act) (m : Journal) → Ending cs d m → is_end a ≡ true → AllowedStore m a → Allow (a ∷ []) m (Ending cs d)
  allow_end cs d a m w p x = (x, λ e q r. ending_on cs d m e w (rw q (p)))

  allow_complete : (mode : Mode) (past : Journal) (d : Bool) (cs : List Change) (k : Key) (m : Journal) → Ending cs d m →
      Allow (complete script mode past d cs k) m (Ending cs d)
  allow_complete mode past d cs k m w = by_first (first_on k cs) (strategy script k.entity) (cond (d && mode_puts mode) (option_and_then row_left (last_on k cs)) None) refl
    where
      store : (r : Row) → cond (d && mode_puts mode) (option_and_then row_left (last_on k cs)) None ≡ Some r → MayStore m k r
      store r p =
          let b : (d ≡ true) × (option_and_then row_left (last_on k cs) ≡ Some r) = put_back d (mode_puts mode) (last_on k cs) r p in
          (w.0, w.2 ∙ b.0, rw (w.1) (b.1))

      by_insert : (g : Strategy) (o : Option Row) → cond (d && mode_puts mode) (option_and_then row_left (last_on k cs)) None ≡ o → Allow (Next.complete_insert g k o (floor_in past)) m (Ending cs d)
      by_insert Strategy.ReadOnly (Some r) p = allow_end cs d (Act.AfterInsert k r (floor_in past)) m w refl (store r p)
      by_insert Strategy.ReadWrite (Some r) p = allow_end cs d (Act.AfterInsert k r (floor_in past)) m w refl (store r p)
      by_insert Strategy.Nonstrict (Some r) p = w
      by_insert Strategy.Uncached (Some r) p = w
      by_insert Strategy.ReadOnly None p = w
      by_insert Strategy.ReadWrite None p = w
      by_insert Strategy.Nonstrict None p = w
      by_insert Strategy.Uncached None p = w

      by_release : (i : ℕ) (o : Option Row) → cond (d && mode_puts mode) (option_and_then row_left (last_on k cs)) None ≡ o → Allow (Next.release_of k i o) m (Ending cs d)
      by_release i (Some r) p = allow_end cs d (Act.AfterUpdate k i r) m w refl (store r p)
      by_release i None p = allow_end cs d (Act.Unlock k i) m w refl tt

      by_update : (g : Strategy) (i : ℕ) (o : Option Row) → cond (d && mode_puts mode) (option_and_then row_left (last_on k cs)) None ≡ o → Allow (Next.complete_update g k i o) m (Ending cs d)
      by_update Strategy.ReadWrite i o p = by_release i o p
      by_update Strategy.Uncached i o p = w
      by_update Strategy.ReadOnly i o p = allow_end cs d (Act.RegionRemove k) m w refl tt
      by_update Strategy.Nonstrict i o p = allow_end cs d (Act.RegionRemove k) m w refl tt

      by_first : (c : Option Change) (g : Strategy) (o : Option Row) → cond (d && mode_puts mode) (option_and_then row_left (last_on k cs)) None ≡ o →
          Allow (Next.complete_by c g k (Next.lock_id k past) (floor_in past) o) m (Ending cs d)
      by_first None g o p = w
      by_first (Some (Change.Insert j x)) g o p = by_insert g o p
      by_first (Some (Change.Update j v x)) g o p = by_update g (Next.lock_id k past) o p
      by_first (Some (Change.Delete j v)) g o p = by_update g (Next.lock_id k past) o p

  allow_keys : (mode : Mode) (past : Journal) (d : Bool) (cs : List Change) (ks : List Key) (m : Journal) → Ending cs d m →
      Allow (flat_map (λ k. complete script mode past d cs k) ks) m (Ending cs d)
  allow_keys mode past d cs ks m w = Walks.allow_flat AllowedStore Anyhow (Ending cs d) (λ k. complete script mode past d cs k) (λ k n v. allow_complete mode past d cs k n v) ks m w

  allow_stamps : (cs : List Change) (d : Bool) (ts : List ℕ) (m : Journal) → Ending cs d m → Allow (stamps_of ts) m (Ending cs d)
  allow_stamps cs d [] m w = w
  allow_stamps cs d (t ∷ ts) m w = allow_end cs d (Act.Stamp (t ∷ ts)) m w refl tt

  abbrev Any : Journal → Type 0
  Any m = Unit {0}

  allow_completion : (mode : Mode) (d : Bool) (m : Journal) → is_begun m ≡ true → done_in m ≡ d → Allow (completion script mode d m) m Any
  allow_completion mode d m b w =
      allows_join AllowedStore Anyhow (flat_map (λ k. complete script mode m d (changes_in m) k) (keys_of (changes_in m)) ++ stamps_of (tables_in script (changes_in m))) (Act.End ∷ []) m
      (Ending (changes_in m) d) Any
      (allows_join AllowedStore Anyhow (flat_map (λ k. complete script mode m d (changes_in m) k) (keys_of (changes_in m))) (stamps_of (tables_in script (changes_in m))) m
      (Ending (changes_in m) d) (Ending (changes_in m) d)
      (allow_keys mode m d (changes_in m) (keys_of (changes_in m)) m (b, refl, w))
      (λ n x. allow_stamps (changes_in m) d (tables_in script (changes_in m)) n x))
      (λ n x. (tt, λ e p r. tt))

  module _ (mode : Mode) (k : Key) where
    -- after a Load
    goes_put : (m : Journal) (e : Entry) → IsBusy (e ∷ m) → e.act ≡ Act.Load k → (r : Reply) → e.reply ≡ r →
        Runs AllowedStore Anyhow (Next.put_loaded script mode k r) (e ∷ m) IsBusy
    goes_put m e w p (Reply.Row (Some x)) q =
        runs_test AllowedStore Anyhow (Next.may_put script mode k (e ∷ m)) (one (Act.Put k x (time_in (e ∷ m)) (floor_in (e ∷ m)))) (λ d n. n d) (e ∷ m) IsBusy
        (λ t go g. (may t, λ d u r. g (d ∷ e ∷ m) (rw u (w.0), rw u (w.1)))) (λ t go g. g (e ∷ m) w)
      where
        may : Next.may_put script mode k (e ∷ m) ≡ true → MayPut (e ∷ m) k x
        may t =
            let n : is_in k (changes_in (e ∷ m)) ≡ false = not_in_test (Next.is_cached script k.entity) (mode_puts mode) (is_in k (changes_in (e ∷ m))) t in
            let c : is_in k (changes_in m) ≡ false = rw p at n in
            let b : is_begun m ≡ true = rw p at w.0 in
            (p, q, c, b)
    goes_put m e w p (Reply.Row None) q = λ go g. g (e ∷ m) w
    goes_put m e w p _ q = λ go g. g (e ∷ m) w

    goes_load : Walks.Goes AllowedStore Anyhow (Next.load script mode k) IsBusy IsBusy
    goes_load m w go g = (tt, λ e p r. goes_put m e (busy_on m e w (rw p refl)) p e.reply refl go g)

    goes_unless_hit : (r : Reply) → Walks.Goes AllowedStore Anyhow (Next.load_unless_hit script mode k r) IsBusy IsBusy
    goes_unless_hit (Reply.Hit r) m w = λ go g. g m w
    goes_unless_hit _ m w = goes_load m w

    goes_find : Walks.Goes AllowedStore Anyhow (Next.find script mode k) IsBusy IsBusy
    goes_find m w =
        runs_if AllowedStore Anyhow (is_some (held m k)) (one (Act.Find k)) (Next.find_away script mode k) m IsBusy
        (goes_act AllowedStore Anyhow IsBusy (Act.Find k) (keeps_work (Act.Find k) refl) m w)
        (runs_if AllowedStore Anyhow (Next.may_read script mode k m) (Next.get script mode k) (Next.load script mode k) m IsBusy
        (λ go g. (tt, λ e p r. goes_unless_hit e.reply (e ∷ m) (busy_on m e w (rw p refl)) go g)) (goes_load m w))

  good : AreGood AllowedStore Anyhow script Any IsBusy
  good = record {
    find = goes_find;
    persist = λ j r p. keeps_work (Act.Persist j r) refl;
    own = λ a p. keeps_work a (own_work a p);
    flush = Walks.goes_flush AllowedStore Anyhow IsBusy script (λ a p. keeps_work a (flush_work a p));
    answer = λ mode q. Walks.goes_answer AllowedStore Anyhow IsBusy script mode (λ a p. keeps_work a (list_work a p)) q;
    commit = λ mode m w go g. (
      tt,
      λ e p r.
          runs_each AllowedStore Anyhow (completion script mode (is_committed_reply e.reply) (e ∷ m)) (e ∷ m) Any
          (allow_completion mode (is_committed_reply e.reply) (e ∷ m) (rw p (w.0)) (rw (p, w.1) (done_reply e.reply))) go g,
    );
    rollback = λ mode m w go g. (
      tt,
      λ e p r.
          runs_each AllowedStore Anyhow (completion script mode false (e ∷ m)) (e ∷ m) Any
          (allow_completion mode false (e ∷ m) (rw p (w.0)) (rw p (w.1))) go g,
    );
    begins = λ m w go g. (tt, λ e p r. g (e ∷ m) (rw p refl, rw p refl));
  }

  anyhow : (m : Journal) → AllRight AllowedStore Anyhow m
  anyhow [] = tt
  anyhow (e ∷ m) = (anyhow m, tt)

  -- an act that is due is allowed, by the session's own entries alone
  pub allowed_store_by : (s : ℕ) (m : Journal) (a : Act) → InOrder (plan_of script s) m → next script s m ≡ Some a → AllowedStore m a
  allowed_store_by s m a f n = Walks.allowed_own AllowedStore Anyhow script Any IsBusy good tt s m a f (anyhow m) n

  -- in a legal journal each act of a session is allowed by what the session did before
  pub allowed_store : (start : Tables) (s : ℕ) (h : Journal) (e : Entry) → IsLegal script (Some start) h → IsStep script (Some start) h e → is_by s e ≡ true →
      AllowedStore (own s h) e.act
  allowed_store start s h e l t p = Walks.allowed AllowedStore Anyhow script Any IsBusy good (Some start) s (λ g d u q. tt) tt h e l t p
