-- What is known of each act that is due: one pass over the blocks of a session.
use Rattle.std.specs.Prelude.{is_some, option_and_then}
use Rattle.std.specs.Option.{option_map_or}
use Rattle.std.proofs.Common.{◌≡◌, ℕ, zero, suc, ◌+◌, ◌≤◌, Bool, true, false, cond, not, ◌&&◌, ◌||◌, ◌==◌, List, [], ◌∷◌, ◌++◌, length, nat_lt, slice_get, Some, None, Option, refl, sym, ap, ◌∙◌, subst, arith}
use Rattle.std.proofs.lemmas.Bool.{false≢true, true≢false, and_parts}
use Rattle.std.proofs.lemmas.Bool.Decides.{nat_tests}
use Rattle.std.specs.List.{filter, flat_map, list_all, list_any, range_with_len}
use Rattle.hib_base.specs.Tables.{key_of, first_on, last_on, row_left}
use Rattle.hib_journal.specs.Types.{Key, Row, Change, Strategy, Mode, Statement, Script, Act, Reply, Checked, Entry}
use Rattle.hib_journal.specs.Sessions.{Journal, time_in, floor_in, floor_after, changes_in, changes_after, deferred, deferred_after, is_begun, begun_after}
use Rattle.hib_journal.specs.Held.{held, pending, is_fresh, is_begin}
use Rattle.hib_journal.specs.Plan.{Plan, Block, one, each, after, left_of, first_act, InOrder}
use Rattle.hib_journal.specs.Next
use Rattle.hib_journal.specs.Next.{strategy, is_cached, plan_of, next, tables_in, ends}
use Rattle.hib_journal.specs.Legal.{is_outside}
use Rattle.hib_journal.specs.Due.{asks_store, found_by, is_removing, is_inserting, asks, is_asked, time_found, Suits, IsAllowed, closes, is_closed}

-- plans of which each act is allowed, and which end if an end is final

module _ (Allowed : Journal → Act → Type 0) (Final : Journal → Type 0) where
  abbrev Good : Plan → Journal → Type 0
  Good Plan.Over done = Final done
  Good (Plan.Do a rest) done = Allowed done a × ((e : Entry) → e.act ≡ a → Good (rest e) (e ∷ done))

  abbrev Runs : Block → Journal → (Journal → Type 0) → Type 0
  Runs b done Post = (go : Journal → Plan) → ((m : Journal) → Post m → Good (go m) m) → Good (b done go) done

  abbrev Allows : List Act → Journal → (Journal → Type 0) → Type 0
  Allows [] done Post = Post done
  Allows (a ∷ acts) done Post = Allowed done a × ((e : Entry) → e.act ≡ a → Allows acts (e ∷ done) Post)

  allows_join : (xs ys : List Act) (done : Journal) (Mid Post : Journal → Type 0) → Allows xs done Mid → ((m : Journal) → Mid m → Allows ys m Post) → Allows (xs ++ ys) done Post
  allows_join [] ys done Mid Post h f = f done h
  allows_join (a ∷ xs) ys done Mid Post h f = (h.0, λ e p. allows_join xs ys (e ∷ done) Mid Post (h.1 e p) f)

  runs_each : (acts : List Act) (done : Journal) (Post : Journal → Type 0) → Allows acts done Post → Runs (each acts) done Post
  runs_each [] done Post h go k = k done h
  runs_each (a ∷ acts) done Post h go k = (h.0, λ e p. runs_each acts (e ∷ done) Post (h.1 e p) go k)

  runs_test : (b : Bool) (p q : Block) (m : Journal) (Post : Journal → Type 0) → (b ≡ true → Runs p m Post) → (b ≡ false → Runs q m Post) → Runs (λ d n. cond b (p d n) (q d n)) m Post
  runs_test true p q m Post f g = f refl
  runs_test false p q m Post f g = g refl

  allow_flat : {X : Type 0} (W : Journal → Type 0) (f : X → List Act) → ((x : X) (m : Journal) → W m → Allows (f x) m W) → (xs : List X) (m : Journal) → W m → Allows (flat_map f xs) m W
  allow_flat W f h [] m w = w
  allow_flat W f h (x ∷ xs) m w = allows_join (f x) (flat_map f xs) m W W (h x m w) (λ n v. allow_flat W f h xs n v)

  good_after : (p : Plan) (m : Journal) (e : Entry) → Good p m → first_act p ≡ Some e.act → Good (after p e) (e ∷ m)
  good_after Plan.Over m e g f = absurd (cc)
  good_after (Plan.Do a rest) m e g f = g.1 e (same f)
    where
      same : Some a ≡ Some e.act → e.act ≡ a
      same x = cc

  good_left : (plan : Plan) (m : Journal) → Good plan [] → InOrder plan m → Good (left_of plan m) m
  good_left plan [] g f = g
  good_left plan (e ∷ m) g f = good_after (left_of plan m) m e (good_left plan m g f.0) f.1

  allowed_first : (p : Plan) (m : Journal) (a : Act) → Good p m → first_act p ≡ Some a → Allowed m a
  allowed_first Plan.Over m a g f = absurd (cc)
  allowed_first (Plan.Do b rest) m a g f = subst (λ z. Allowed m z) (same f) g.0
    where
      same : Some b ≡ Some a → b ≡ a
      same x = cc

  final_end : (p : Plan) (m : Journal) → Good p m → first_act p ≡ None → Final m
  final_end Plan.Over m g f = g
  final_end (Plan.Do b rest) m g f = absurd (cc)

-- within a transaction whose changes the store defers, within one that is completed, and between transactions

record Working (m : Journal) : Type 0 where
  begun : is_begun m ≡ true
  same : deferred m ≡ changes_in m

record Ending (m : Journal) : Type 0 where
  begun : is_begun m ≡ true
  none : deferred m ≡ []

record Resting (m : Journal) : Type 0 where
  begun : is_begun m ≡ false
  none : deferred m ≡ []

abbrev At : Bool → Journal → Type 0
At true m = Resting m
At false m = Working m

-- the acts that leave transactions and changes as they are
abbrev is_quiet : Act → Bool
is_quiet Act.Begin = false
is_quiet Act.End = false
is_quiet (Act.Write c) = false
is_quiet Act.Commit = false
is_quiet Act.Rollback = false
is_quiet _ = true

quiet_begun : (a : Act) (b : Bool) → is_quiet a ≡ true → begun_after a b ≡ b
quiet_begun Act.Begin b q = absurd (false≢true q)
quiet_begun Act.End b q = absurd (false≢true q)
quiet_begun _ b q = refl

quiet_deferred : (a : Act) (cs : List Change) → is_quiet a ≡ true → deferred_after a cs ≡ cs
quiet_deferred (Act.Write c) cs q = absurd (false≢true q)
quiet_deferred Act.Commit cs q = absurd (false≢true q)
quiet_deferred Act.Rollback cs q = absurd (false≢true q)
quiet_deferred _ cs q = refl

quiet_changes : (a : Act) (cs : List Change) → is_quiet a ≡ true → changes_after a cs ≡ cs
quiet_changes Act.Begin cs q = absurd (false≢true q)
quiet_changes (Act.Write c) cs q = absurd (false≢true q)
quiet_changes _ cs q = refl

module _ (a : Act) (q : is_quiet a ≡ true) (m : Journal) (e : Entry) (p : e.act ≡ a) where
  working_more : Working m → Working (e ∷ m)
  working_more w = record {
    begun = quiet_begun e.act (is_begun m) (ap is_quiet p ∙ q) ∙ w.begun;
    same = quiet_deferred e.act (deferred m) (ap is_quiet p ∙ q) ∙ (w.same ∙ sym (quiet_changes e.act (changes_in m) (ap is_quiet p ∙ q)));
  }

  ending_more : Ending m → Ending (e ∷ m)
  ending_more w = record {
    begun = quiet_begun e.act (is_begun m) (ap is_quiet p ∙ q) ∙ w.begun;
    none = quiet_deferred e.act (deferred m) (ap is_quiet p ∙ q) ∙ w.none;
  }

-- the acts between which a transaction lies
abbrev is_bound : Act → Bool
is_bound Act.Begin = true
is_bound Act.End = true
is_bound _ = false

unbound_begin : (a : Act) → is_bound a ≡ false → is_begin a ≡ false
unbound_begin Act.Begin b = absurd (true≢false b)
unbound_begin _ b = refl

-- tables are declared

in_range : (n s m : ℕ) → s + m ≤ n → (p : ℕ → Bool) → list_all (λ t. nat_lt t n) (filter p (range_with_len s m)) ≡ true
in_range n s zero h p = refl
in_range n s (suc m) h p = by (p s) (in_range n (s + 1) m (omega arith) p)
  where
    by : (b : Bool) → list_all (λ t. nat_lt t n) (filter p (range_with_len (s + 1) m)) ≡ true →
        list_all (λ t. nat_lt t n) (cond b (s ∷ filter p (range_with_len (s + 1) m)) (filter p (range_with_len (s + 1) m))) ≡ true
    by true i = let l : nat_lt s n ≡ true = grind (arith, nat_tests) in rw (l, i) refl
    by false i = i

module _ (script : Script) (s : ℕ) where
  abbrev Ok : Journal → Act → Type 0
  Ok m a = IsAllowed script s m a

  abbrev Final : Journal → Type 0
  Final m = is_closed script s ≡ true → is_begun m ≡ false

  abbrev Goes : (Journal → Type 0) → (Journal → Type 0) → Block → Type 0
  Goes Before Behind b = (m : Journal) → Before m → Runs Ok Final b m Behind

  -- an act within a transaction that does not ask the store, or while all its changes are deferred
  working : (a : Act) (m : Journal) → is_bound a ≡ false → is_outside a ≡ false → Suits script s m a → Working m → Ok m a
  working a m b o u w = record {
    begun = w.begun ∙ ap not (sym (unbound_begin a b));
    inside = o;
    deferred = λ _. w.same;
    ended = λ e. absurd (true≢false (sym (ap is_bound e) ∙ b));
    suits = u;
  }

  ending : (a : Act) (m : Journal) → is_begin a ≡ false → is_outside a ≡ false → asks_store a ≡ false → Suits script s m a → Ending m → Ok m a
  ending a m b o n u w = record { begun = w.begun ∙ ap not (sym b); inside = o; deferred = λ y. absurd (true≢false (sym y ∙ n)); ended = λ _. w.none; suits = u }

  goes_act : (a : Act) → is_quiet a ≡ true → is_bound a ≡ false → is_outside a ≡ false → (m : Journal) → Suits script s m a → Working m → Runs Ok Final (one a) m Working
  goes_act a q b o m u w go g = (working a m b o u w, λ e p. g (e ∷ m) (working_more a q m e p w))

  nothing : Goes Working Working (λ d n. n d)
  nothing m w go g = g m w

  module _ (mode : Mode) where
    put_cached : (k : Key) (m : Journal) → Next.may_put script mode k m ≡ true → is_cached script k.entity ≡ true
    put_cached k m t = (and_parts (is_cached script k.entity) (Next.mode_puts mode && not (Next.is_in k (changes_in m))) t).0

    read_cached : (k : Key) (m : Journal) → Next.may_read script mode k m ≡ true → is_cached script k.entity ≡ true
    read_cached k m t = (and_parts (is_cached script k.entity) (Next.mode_reads mode && not (Next.is_in k (changes_in m))) t).0

    goes_put : (k : Key) (r : Reply) → Goes Working Working (Next.put_loaded script mode k r)
    goes_put k (Reply.Row (Some x)) = λ m w. runs_test Ok Final (Next.may_put script mode k m) (one (Act.Put k x (time_in m) (floor_in m))) (λ d n. n d) m Working
        (λ t. goes_act (Act.Put k x (time_in m) (floor_in m)) refl refl refl m (put_cached k m t, refl, refl) w) (λ t. nothing m w)
    goes_put k (Reply.Row None) = nothing
    goes_put k _ = nothing

    goes_load : (k : Key) → Goes Working Working (Next.load script mode k)
    goes_load k m w go g = (working (Act.Load k) m refl refl tt w, λ e p. goes_put k e.reply (e ∷ m) (working_more (Act.Load k) refl m e p w) go g)

    goes_unless_hit : (k : Key) (r : Reply) → Goes Working Working (Next.load_unless_hit script mode k r)
    goes_unless_hit k (Reply.Hit x) = nothing
    goes_unless_hit k _ = goes_load k

    goes_get : (k : Key) (m : Journal) → Next.may_read script mode k m ≡ true → Working m → Runs Ok Final (Next.get script mode k) m Working
    goes_get k m t w go g = (
      working (Act.Get k (time_in m)) m refl refl (read_cached k m t, refl) w,
      λ e p. goes_unless_hit k e.reply (e ∷ m) (working_more (Act.Get k (time_in m)) refl m e p w) go g,
    )

    goes_find : (k : Key) → Goes Working Working (Next.find script mode k)
    goes_find k m w = runs_test Ok Final (is_some (held m k)) (one (Act.Find k)) (Next.find_away script mode k) m Working (λ t. goes_act (Act.Find k) refl refl refl m tt w)
        (λ t. runs_test Ok Final (Next.may_read script mode k m) (Next.get script mode k) (Next.load script mode k) m Working (λ y. goes_get k m y w) (λ y. goes_load k m w))

    module _ (q : ℕ) (asked : is_asked script s q ≡ true) where
      goes_keep : (r : Reply) → Goes Working Working (Next.keep_listed script mode q r)
      goes_keep (Reply.Listed l) = λ m w. runs_test Ok Final (Next.is_free script q (Next.mode_puts mode) m) (one (Act.Keep q (time_in m) l)) (λ d n. n d) m Working
          (λ t. goes_act (Act.Keep q (time_in m) l) refl refl refl m (asked, refl) w) (λ t. nothing m w)
      goes_keep _ = nothing

      goes_store : Goes Working Working (Next.list_store script mode q)
      goes_store m w go g = (working (Act.List q) m refl refl asked w, λ e p. goes_keep e.reply (e ∷ m) (working_more (Act.List q) refl m e p w) go g)

      goes_unless_fresh : (r : Reply) → Goes Working Working (Next.list_unless_fresh script mode q r)
      goes_unless_fresh (Reply.Check Checked.Fresh) = nothing
      goes_unless_fresh (Reply.Check (Checked.Stale t v)) = goes_store
      goes_unless_fresh _ = goes_store

      found_now : (e : Entry) (m : Journal) (t : ℕ) (r : Reply) → e.act ≡ Act.Look q → e.reply ≡ r → found_by q (Act.Look q) r ≡ Some t → time_found q (e ∷ m) ≡ Some t
      found_now e m t r p y f = rw (p, y) f

      same_q : (t : ℕ) → cond (q == q) (Some t) None ≡ Some t
      same_q t = let e : (q == q) ≡ true = grind (arith, nat_tests) in rw e refl

      goes_found : (e : Entry) (m : Journal) → e.act ≡ Act.Look q → (r : Reply) → e.reply ≡ r → Working (e ∷ m) → Runs Ok Final (Next.check_found script mode q r) (e ∷ m) Working
      goes_found e m p (Reply.Found t l) y w go g = (
        working (Act.Check q t) (e ∷ m) refl refl (asked, found_now e m t (Reply.Found t l) p y (same_q t)) w,
        λ d x. goes_unless_fresh d.reply (d ∷ e ∷ m) (working_more (Act.Check q t) refl (e ∷ m) d x w) go g,
      )
      goes_found e m p _ y w go g = goes_store (e ∷ m) w go g

      goes_answer : Goes Working Working (Next.answer script mode q)
      goes_answer m w = runs_test Ok Final (Next.is_free script q (Next.mode_reads mode) m) (Next.look script mode q) (Next.list_store script mode q) m Working
          (λ t go g. (working (Act.Look q) m refl refl asked w, λ e p. goes_found e m p e.reply refl (working_more (Act.Look q) refl m e p w) go g)) (λ t. goes_store m w)

  -- a flush

  write_more : (c : Change) (m : Journal) (e : Entry) → e.act ≡ Act.Write c → Working m → Working (e ∷ m)
  write_more c m e p w = record { begun = rw p w.begun; same = rw (p, w.same) refl }

  allow_write : (c : Change) (m : Journal) → Working m → Allows Ok Final (Act.Write c ∷ []) m Working
  allow_write c m w = (working (Act.Write c) m refl refl tt w, λ e p. write_more c m e p w)

  allow_one : (a : Act) → is_quiet a ≡ true → is_bound a ≡ false → is_outside a ≡ false → (m : Journal) → Suits script s m a → Working m → Allows Ok Final (a ∷ []) m Working
  allow_one a q b o m u w = (working a m b o u w, λ e p. working_more a q m e p w)

  -- an act's floor is that of the flush's start: it stays
  record Flushing (d m : Journal) : Type 0 where
    working : Working m
    floor : floor_in d ≡ floor_in m

  flushing_more : (d : Journal) (a : Act) → is_begin a ≡ false → (m : Journal) (e : Entry) → e.act ≡ a → Working (e ∷ m) → Flushing d m → Flushing d (e ∷ m)
  flushing_more d a b m e p w f = record { working = w; floor = f.floor ∙ sym (kept e.act (ap is_begin p ∙ b)) }
    where
      kept : (x : Act) → is_begin x ≡ false → floor_after x e.reply (floor_in m) ≡ floor_in m
      kept Act.Begin y = absurd (true≢false y)
      kept _ y = refl

  allow_cached : (d : Journal) (k : Key) (v : Option ℕ) (m : Journal) → Flushing d m → Allows Ok Final (Next.before_cached (strategy script k.entity) k v (floor_in d)) m (Flushing d)
  allow_cached d k v m f = by (strategy script k.entity) refl
    where
      by : (g : Strategy) → strategy script k.entity ≡ g → Allows Ok Final (Next.before_cached g k v (floor_in d)) m (Flushing d)
      by Strategy.ReadWrite p = (
        working (Act.Lock k v (floor_in d)) m refl refl (p, f.floor) f.working,
        λ e x. flushing_more d (Act.Lock k v (floor_in d)) refl m e x (working_more (Act.Lock k v (floor_in d)) refl m e x f.working) f,
      )
      by Strategy.Uncached p = f
      by Strategy.ReadOnly p = (working (Act.RegionRemove k) m refl refl (ap is_removing p) f.working, λ e x. flushing_more d (Act.RegionRemove k) refl m e x (working_more (Act.RegionRemove k) refl m e x f.working) f)
      by Strategy.Nonstrict p = (working (Act.RegionRemove k) m refl refl (ap is_removing p) f.working, λ e x. flushing_more d (Act.RegionRemove k) refl m e x (working_more (Act.RegionRemove k) refl m e x f.working) f)

  allow_key : (d : Journal) (k : Key) (v : Option ℕ) (m : Journal) → Flushing d m → Allows Ok Final (Next.before_key script d k v) m (Flushing d)
  allow_key d k v m f = by (Next.is_in k (changes_in d))
    where
      by : (b : Bool) → Allows Ok Final (cond b [] (Next.before_cached (strategy script k.entity) k (cond (is_fresh k d) v None) (floor_in d))) m (Flushing d)
      by true = f
      by false = allow_cached d k (cond (is_fresh k d) v None) m f

  allow_change : (d : Journal) (c : Change) (m : Journal) → Flushing d m → Allows Ok Final (Next.before_write script d c ++ Act.Write c ∷ []) m (Flushing d)
  allow_change d c m f = allows_join Ok Final (Next.before_write script d c) (Act.Write c ∷ []) m (Flushing d) (Flushing d) (by c)
      (λ n x. (working (Act.Write c) n refl refl tt x.working, λ e p. flushing_more d (Act.Write c) refl n e p (write_more c n e p x.working) x))
    where
      by : (c : Change) → Allows Ok Final (Next.before_write script d c) m (Flushing d)
      by (Change.Insert k r) = f
      by (Change.Update k v r) = allow_key d k v m f
      by (Change.Delete k v) = allow_key d k v m f

  -- the tables of changes are declared
  all_declared : (cs : List Change) → list_all (λ t. nat_lt t (length script.mapping)) (tables_in script cs) ≡ true
  all_declared cs = in_range (length script.mapping) 0 (length script.mapping) (omega arith) (λ n. list_any (λ c. (key_of c).entity == n) cs)

  stamp_tables : (ts : List ℕ) (m : Journal) → list_all (λ t. nat_lt t (length script.mapping)) ts ≡ true → Ending m → Allows Ok Final (Next.stamps_of ts) m Ending
  stamp_tables [] m h w = w
  stamp_tables (t ∷ ts) m h w = (ending (Act.Stamp (t ∷ ts)) m refl refl refl h w, λ e p. ending_more (Act.Stamp (t ∷ ts)) refl m e p w)

  -- what completes a key

  record Completing (d m : Journal) : Type 0 where
    ending : Ending m
    floor : floor_in d ≡ floor_in m

  completing_more : (d : Journal) (a : Act) → is_begin a ≡ false → (m : Journal) (e : Entry) → e.act ≡ a → Ending (e ∷ m) → Completing d m → Completing d (e ∷ m)
  completing_more d a b m e p w f = record { ending = w; floor = f.floor ∙ sym (kept e.act (ap is_begin p ∙ b)) }
    where
      kept : (x : Act) → is_begin x ≡ false → floor_after x e.reply (floor_in m) ≡ floor_in m
      kept Act.Begin y = absurd (true≢false y)
      kept _ y = refl

  complete_one : (d : Journal) (a : Act) → is_quiet a ≡ true → is_begin a ≡ false → is_outside a ≡ false → asks_store a ≡ false → (m : Journal) → Suits script s m a → Completing d m →
      Allows Ok Final (a ∷ []) m (Completing d)
  complete_one d a q b o n m u f = (ending a m b o n u f.ending, λ e p. completing_more d a b m e p (ending_more a q m e p f.ending) f)

  allow_complete : (mode : Mode) (d : Journal) (x : Bool) (cs : List Change) (k : Key) (m : Journal) → Completing d m → Allows Ok Final (Next.complete script mode d x cs k) m (Completing d)
  allow_complete mode d x cs k m f = by_first (first_on k cs) (strategy script k.entity) refl (cond (x && Next.mode_puts mode) (option_and_then row_left (last_on k cs)) None)
    where
      by_update : (g : Strategy) → strategy script k.entity ≡ g → (r : Option Row) → Allows Ok Final (Next.complete_update g k (Next.lock_id k d) r) m (Completing d)
      by_update Strategy.ReadWrite p (Some r) = complete_one d (Act.AfterUpdate k (Next.lock_id k d) r) refl refl refl refl m p f
      by_update Strategy.ReadWrite p None = complete_one d (Act.Unlock k (Next.lock_id k d)) refl refl refl refl m p f
      by_update Strategy.Uncached p r = f
      by_update Strategy.ReadOnly p r = complete_one d (Act.RegionRemove k) refl refl refl refl m (ap is_removing p) f
      by_update Strategy.Nonstrict p r = complete_one d (Act.RegionRemove k) refl refl refl refl m (ap is_removing p) f

      by_insert : (g : Strategy) → strategy script k.entity ≡ g → (r : Option Row) → Allows Ok Final (Next.complete_insert g k r (floor_in d)) m (Completing d)
      by_insert Strategy.ReadOnly p (Some r) = complete_one d (Act.AfterInsert k r (floor_in d)) refl refl refl refl m (ap is_inserting p, f.floor) f
      by_insert Strategy.ReadWrite p (Some r) = complete_one d (Act.AfterInsert k r (floor_in d)) refl refl refl refl m (ap is_inserting p, f.floor) f
      by_insert Strategy.Nonstrict p (Some r) = f
      by_insert Strategy.Uncached p (Some r) = f
      by_insert Strategy.ReadOnly p None = f
      by_insert Strategy.ReadWrite p None = f
      by_insert Strategy.Nonstrict p None = f
      by_insert Strategy.Uncached p None = f

      by_first : (o : Option Change) (g : Strategy) → strategy script k.entity ≡ g → (r : Option Row) → Allows Ok Final (Next.complete_by o g k (Next.lock_id k d) (floor_in d) r) m (Completing d)
      by_first None g p r = f
      by_first (Some (Change.Insert j y)) g p r = by_insert g p r
      by_first (Some (Change.Update j v y)) g p r = by_update g p r
      by_first (Some (Change.Delete j v)) g p r = by_update g p r

  allow_end : (m : Journal) → Ending m → Allows Ok Final (Act.End ∷ []) m Resting
  allow_end m w = (ending Act.End m refl refl refl tt w, λ e p. record { begun = rw p refl; none = rw p w.none })

  allow_completion : (mode : Mode) (x : Bool) (m : Journal) → Ending m → Allows Ok Final (Next.completion script mode x m) m Resting
  allow_completion mode x m w =
      allows_join Ok Final (flat_map (λ k. Next.complete script mode m x (changes_in m) k) (Next.keys_of (changes_in m)) ++ Next.stamps_of (tables_in script (changes_in m))) (Act.End ∷ []) m Ending Resting
      (allows_join Ok Final (flat_map (λ k. Next.complete script mode m x (changes_in m) k) (Next.keys_of (changes_in m))) (Next.stamps_of (tables_in script (changes_in m))) m (Completing m) Ending
      (allow_flat Ok Final (Completing m) (λ k. Next.complete script mode m x (changes_in m) k) (λ k n f. allow_complete mode m x (changes_in m) k n f) (Next.keys_of (changes_in m)) m (record { ending = w; floor = refl }))
      (λ n f. stamp_tables (tables_in script (changes_in m)) n (all_declared (changes_in m)) f.ending)) allow_end

  allows_as : (d : Journal) (xs : List Act) (n : Journal) → Allows Ok Final xs n (Flushing d) → Allows Ok Final xs n Working
  allows_as d [] n f = f.working
  allows_as d (y ∷ xs) n f = (f.0, λ e p. allows_as d xs (e ∷ n) (f.1 e p))

  goes_flush : Goes Working Working (Next.flush script)
  goes_flush m w = runs_each Ok Final (Next.flush_of script m (pending m)) m Working (by_pending (pending m) refl)
    where
      by_pending : (cs : List Change) → pending m ≡ cs → Allows Ok Final (Next.flush_of script m cs) m Working
      by_pending [] p = w
      by_pending (c ∷ cs) p = (
        working (Act.Pre (tables_in script (c ∷ cs))) m refl refl (all_declared (c ∷ cs), sym (ap (tables_in script) p)) w,
        λ e x. allows_as m (Next.writes script m (c ∷ cs)) (e ∷ m)
            (allow_flat Ok Final (Flushing m) (λ d. Next.before_write script m d ++ Act.Write d ∷ []) (λ d n f. allow_change m d n f) (c ∷ cs) (e ∷ m)
            (flushing_more m (Act.Pre (tables_in script (c ∷ cs))) refl m e x (working_more (Act.Pre (tables_in script (c ∷ cs))) refl m e x w) (record { working = w; floor = refl }))),
      )

  goes_commit : (mode : Mode) → Goes Working Resting (Next.commit script mode)
  goes_commit mode m w go g = (
    working Act.Commit m refl refl tt w,
    λ e p. runs_each Ok Final (Next.completion script mode (Next.is_committed_reply e.reply) (e ∷ m)) (e ∷ m) Resting
        (allow_completion mode (Next.is_committed_reply e.reply) (e ∷ m) (record { begun = rw p w.begun; none = rw p refl })) go g,
  )

  goes_rollback : (mode : Mode) → Goes Working Resting (Next.rollback script mode)
  goes_rollback mode m w go g = (
    working Act.Rollback m refl refl tt w,
    λ e p. runs_each Ok Final (Next.completion script mode false (e ∷ m)) (e ∷ m) Resting
        (allow_completion mode false (e ∷ m) (record { begun = rw p w.begun; none = rw p refl })) go g,
  )

  goes_list : (mode : Mode) (q : ℕ) → is_asked script s q ≡ true → Goes Working Working (Next.list script mode q)
  goes_list mode q asked m w go g =
      runs_test Ok Final (Next.is_in_tables (Next.tables_of script q) (pending m)) (Next.flush script) (λ d n. n d) m Working (λ t. goes_flush m w) (λ t. nothing m w)
      (λ d. Next.answer script mode q d go) (λ n v. goes_answer mode q asked n v go g)

  goes_block : (mode : Mode) (st : Statement) → ((q : ℕ) → asks q st ≡ true → is_asked script s q ≡ true) → Goes Working (At (ends st)) (Next.block script mode st)
  goes_block mode (Statement.Find k) h = goes_find mode k
  goes_block mode (Statement.Persist k cells) h = λ m w. goes_act (Act.Persist k (record { version = Next.first_version script k.entity; cells = cells })) refl refl refl m tt w
  goes_block mode (Statement.Set k cells) h = λ m w. goes_act (Act.Set k cells) refl refl refl m tt w
  goes_block mode (Statement.Remove k) h = λ m w. goes_act (Act.Remove k) refl refl refl m tt w
  goes_block mode (Statement.List q) h = let e : (q == q) ≡ true = grind (arith, nat_tests) in goes_list mode q (h q e)
  goes_block mode Statement.Flush h = goes_flush
  goes_block mode Statement.Clear h = λ m w. goes_act Act.Clear refl refl refl m tt w
  goes_block mode (Statement.Mode n) h = nothing
  goes_block mode Statement.Commit h = λ m w go g. goes_flush m w (λ d. Next.commit script mode d go) (λ n v. goes_commit mode n v go g)
  goes_block mode Statement.Rollback h = goes_rollback mode

  goes_begin : (b : Bool) → Goes (At b) Working (Next.begin_if b)
  goes_begin true m w go g = (
    record { begun = w.begun; inside = refl; deferred = λ y. absurd (false≢true y); ended = λ y. absurd (true≢false (ap is_begin y)); suits = tt },
    λ e p. g (e ∷ m) (record { begun = rw p refl; same = rw (p, w.none) refl }),
  )
  goes_begin false m w go g = g m w

  good_blocks : (mode : Mode) (b : Bool) (sts : List Statement) (m : Journal) → ((q : ℕ) → list_any (λ st. asks q st) sts ≡ true → is_asked script s q ≡ true) →
      is_closed script s ≡ closes b sts → At b m → Good Ok Final (Next.blocks script mode b sts m) m
  good_blocks mode true [] m h c w = λ x. w.begun
  good_blocks mode false [] m h c w = λ x. absurd (true≢false (sym x ∙ c))
  good_blocks mode b (st ∷ sts) m h c w =
      goes_begin b m w (λ d. Next.block script mode st d (λ x. Next.blocks script (Next.mode_after st mode) (ends st) sts x))
      (λ n j. goes_block mode st (λ q y. h q (rw y refl)) n j (λ x. Next.blocks script (Next.mode_after st mode) (ends st) sts x)
      (λ o u. good_blocks (Next.mode_after st mode) (ends st) sts o (λ q y. h q (later (asks q st) y)) c u))
    where
      later : (a : Bool) {x : Bool} → x ≡ true → (a || x) ≡ true
      later true y = refl
      later false y = y

  good_plan : (m : Journal) → InOrder (plan_of script s) m → Good Ok Final (left_of (plan_of script s) m) m
  good_plan m o = good_left Ok Final (plan_of script s) m
      (good_blocks Mode.Normal true (option_map_or (λ d. d.statements) (slice_get script.sessions s) []) [] (λ q y. y) refl (record { begun = refl; none = refl })) o

  -- the act that is due is allowed
  pub allowed_due : (m : Journal) (a : Act) → InOrder (plan_of script s) m → next script s m ≡ Some a → IsAllowed script s m a
  unfolding next
  allowed_due m a o p = allowed_first Ok Final (left_of (plan_of script s) m) m a (good_plan m o) p

  -- at the end no transaction is open
  pub closed_end : (m : Journal) → InOrder (plan_of script s) m → next script s m ≡ None → is_closed script s ≡ true → is_begun m ≡ false
  unfolding next
  closed_end m o p = final_end Ok Final (left_of (plan_of script s) m) m (good_plan m o) p
