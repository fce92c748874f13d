-- A session's entries are few: each statement pays for the acts that it brings.
use Rattle.std.specs.Prelude.{is_some, option_and_then}
use Rattle.std.specs.Option.{option_map_or}
use Rattle.std.proofs.Common.{◌≡◌, ℕ, suc, ◌+◌, ◌-◌, ◌*◌, ◌≤◌, Bool, true, false, cond, not, ◌&&◌, List, [], ◌∷◌, ◌++◌, length, slice_get, Some, None, Option, refl, sym, ap, ◌∙◌, subst, inl, inr, arith}
use Rattle.std.proofs.lemmas.Bool.{true≢false, false≢true}
use Rattle.std.specs.List.{flat_map}
use Rattle.std.proofs.lemmas.List.{length-append}
use Rattle.hib_base.specs.Keys.{same_key}
use Rattle.hib_base.specs.Tables.{key_of, first_on, last_on, row_left}
use Rattle.hib_base.proofs.Tables.{Tested, tested}
use Rattle.hib_journal.specs.Types.{Key, Row, Change, Mode, Strategy, Statement, Script, Act, Reply, Checked, Entry}
use Rattle.hib_journal.specs.Sessions.{Journal, changes_in, changes_after, time_in, floor_in}
use Rattle.hib_journal.specs.Held.{held, pending, is_fresh, without_key}
use Rattle.hib_journal.specs.Plan.{Plan, after, left_of, first_act, one, each, InOrder}
use Rattle.hib_journal.specs.Next
use Rattle.hib_law.proofs.Basics.{none_some, some_same}
use Rattle.hib_law.proofs.Flushes.{times}
use Rattle.hib_session.proofs.Once.{AllAsk, all_pending, once_pending}
use Rattle.hib_session.proofs.Still.{touched, touched_by, has, filter_few, without_less, asks_not_still, IsCalm, IsDue, calm_start, calm_after, is_pause, ask_pause, ask_write, once_apart, once_rest}
use Rattle.hib_session.specs.Bound.{most_entries}

-- ---- plans of few acts

abbrev pub AtMost : ℕ → Plan → Type 0
AtMost n Plan.Over = Unit {0}
AtMost n (Plan.Do a rest) = (1 ≤ n) × ((e : Entry) → e.act ≡ a → AtMost (n - 1) (rest e))

more : (p : Plan) (n m : ℕ) → n ≤ m → AtMost n p → AtMost m p
more Plan.Over n m l w = tt
more (Plan.Do a rest) n m l w = (omega (arith, l, w.0), λ e q. more (rest e) (n - 1) (m - 1) (omega (arith, l)) (w.1 e q))

step : (p : Plan) (k : ℕ) (e : Entry) → AtMost k p → first_act p ≡ Some e.act → (1 ≤ k) × AtMost (k - 1) (after p e)
step Plan.Over k e w p = none_some p
step (Plan.Do a rest) k e w p = (w.0, w.1 e (sym (some_same p)))

few : (p : Plan) (n : ℕ) (mine : Journal) → AtMost n p → InOrder p mine → (length mine ≤ n) × AtMost (n - length mine) (left_of p mine)
few p n [] w o = (omega arith, subst (λ m. AtMost m p) (let e : n ≡ n - 0 = omega arith in e) w)
few p n (e ∷ m) w o =
    let i : (length m ≤ n) × AtMost (n - length m) (left_of p m) = few p n m w o.0 in
    let s : (1 ≤ n - length m) × AtMost (n - length m - 1) (after (left_of p m) e) = step (left_of p m) (n - length m) e i.1 o.1 in
    (omega (arith, i.0, s.0), subst (λ k. AtMost k (after (left_of p m) e)) (let q : n - length m - 1 ≡ n - length (e ∷ m) = omega arith in q) s.1)

-- ---- what is still to be paid for

-- a key on which something came since it was last written may be locked, written and completed; a change is completed
abbrev pub owed : Journal → ℕ
owed m = 3 * length (touched m) + length (changes_in m)

-- after a transaction nothing is to be completed
abbrev pub owed_by : Bool → Journal → ℕ
owed_by true m = 3 * length (touched m)
owed_by false m = owed m

-- the acts that name a key on which something comes
abbrev gains : Act → ℕ
gains (Act.Persist k r) = 3
gains (Act.Set k cells) = 3
gains (Act.Remove k) = 3
gains _ = 0

abbrev is_write : Act → Bool
is_write (Act.Write c) = true
is_write _ = false

named_few : (k : Key) (ks : List Key) → length (k ∷ without_key k ks) ≤ suc (length ks)
named_few k ks = let i : length (without_key k ks) ≤ length ks = filter_few (λ j. not (same_key j k)) ks in omega (arith, i)

touched_few : (a : Act) (ks : List Key) → 3 * length (touched_by a ks) ≤ 3 * length ks + gains a
touched_few (Act.Persist k r) ks = let i = named_few k ks in omega (arith, i)
touched_few (Act.Set k cells) ks = let i = named_few k ks in omega (arith, i)
touched_few (Act.Remove k) ks = let i = named_few k ks in omega (arith, i)
touched_few (Act.Write c) ks = let i : length (without_key (key_of c) ks) ≤ length ks = filter_few (λ j. not (same_key j (key_of c))) ks in omega (arith, i)
touched_few _ ks = omega arith

changes_few : (a : Act) (cs : List Change) → is_write a ≡ false → length (changes_after a cs) ≤ length cs
changes_few Act.Begin cs w = omega arith
changes_few (Act.Write c) cs w = absurd (true≢false w)
changes_few _ cs w = omega arith

no_write : (a : Act) (m : Journal) → is_write a ≡ false → IsDue m a
no_write a m w c p = absurd (true≢false (sym (ap is_write p) ∙ w))

-- an act that writes nothing
paid : (done : Journal) (e : Entry) (a : Act) → e.act ≡ a → is_write a ≡ false → owed (e ∷ done) ≤ owed done + gains a
paid done e a q w =
    subst (λ b. 3 * length (touched_by b (touched done)) + length (changes_after b (changes_in done)) ≤ owed done + gains a) (sym q)
    (let i = touched_few a (touched done) in let j = changes_few a (changes_in done) w in omega (arith, i, j))

calm_act : (done : Journal) (e : Entry) (a : Act) → e.act ≡ a → is_write a ≡ false → IsCalm done → IsCalm (e ∷ done)
calm_act done e a q w s = calm_after done e s (no_write e.act done (subst (λ b. is_write b ≡ false) (sym q) w))

-- from a calm session on, the acts that are left are owed, or n more
abbrev Goes : Bool → ℕ → (Journal → Plan) → Type 0
Goes b n go = (d : Journal) → IsCalm d → AtMost (owed_by b d + n) (go d)

act_few : (a : Act) (rest : Entry → Plan) (done : Journal) (n : ℕ) → is_write a ≡ false → IsCalm done → ((e : Entry) → e.act ≡ a → IsCalm (e ∷ done) → AtMost (owed (e ∷ done) + n) (rest e)) →
    AtMost (owed done + (n + gains a + 1)) (Plan.Do a rest)
act_few a rest done n w s f = (
  omega arith,
  λ e q. more (rest e) (owed (e ∷ done) + n) (owed done + (n + gains a + 1) - 1) (let i = paid done e a q w in omega (arith, i)) (f e q (calm_act done e a q w s)),
)

-- ---- flushes

each_join : (xs ys : List Act) (done : Journal) (go : Journal → Plan) (n : ℕ) → AtMost n (each xs done (λ d. each ys d go)) → AtMost n (each (xs ++ ys) done go)
each_join [] ys done go n w = w
each_join (x ∷ xs) ys done go n w = (w.0, λ e q. each_join xs ys (e ∷ done) go (n - 1) (w.1 e q))

abbrev ArePauses : List Act → Type 0
ArePauses [] = Unit {0}
ArePauses (a ∷ acts) = (is_pause a ≡ true) × ArePauses acts

pause_no_write : (a : Act) → is_pause a ≡ true → is_write a ≡ false
pause_no_write (Act.Write c) p = absurd (false≢true p)
pause_no_write _ p = refl

pause_gains : (a : Act) → is_pause a ≡ true → gains a ≡ 0
pause_gains (Act.Persist k r) p = absurd (false≢true p)
pause_gains (Act.Set k cells) p = absurd (false≢true p)
pause_gains (Act.Remove k) p = absurd (false≢true p)
pause_gains _ p = refl

pub record IsPause (acts : List Act) : Type 0 where
  pub few : length acts ≤ 1
  pub rests : ArePauses acts

no_pause : IsPause []
no_pause = record { few = omega arith; rests = tt }

one_pause : (a : Act) → is_pause a ≡ true → IsPause (a ∷ [])
one_pause a p = record { few = omega arith; rests = (p, tt) }

pause_cached : (g : Strategy) (k : Key) (v : Option ℕ) (f : ℕ) → IsPause (Next.before_cached g k v f)
pause_cached Strategy.ReadWrite k v f = one_pause (Act.Lock k v f) refl
pause_cached Strategy.Uncached k v f = no_pause
pause_cached Strategy.ReadOnly k v f = one_pause (Act.RegionRemove k) refl
pause_cached Strategy.Nonstrict k v f = one_pause (Act.RegionRemove k) refl

pause_unless : (b : Bool) (acts : List Act) → IsPause acts → IsPause (cond b [] acts)
pause_unless true acts s = no_pause
pause_unless false acts s = s

pause_before : (script : Script) (past : Journal) (k : Key) (v : Option ℕ) → IsPause (Next.before_key script past k v)
pause_before script past k v = pause_unless (Next.is_in k (changes_in past))
    (Next.before_cached (Next.strategy script k.entity) k (cond (is_fresh k past) v None) (floor_in past))
    (pause_cached (Next.strategy script k.entity) k (cond (is_fresh k past) v None) (floor_in past))

pause_write : (script : Script) (past : Journal) (c : Change) → IsPause (Next.before_write script past c)
pause_write script past (Change.Insert k r) = no_pause
pause_write script past (Change.Update k v r) = pause_before script past k v
pause_write script past (Change.Delete k v) = pause_before script past k v

-- a write that was asked for pays for itself, and for one act before it
wrote : (done : Journal) (e : Entry) (c : Change) → e.act ≡ Act.Write c → has (key_of c) (touched done) ≡ true → owed (e ∷ done) + 2 ≤ owed done
wrote done e c q h =
    subst (λ b. 3 * length (touched_by b (touched done)) + length (changes_after b (changes_in done)) + 2 ≤ owed done) (sym q)
    (let i = without_less (key_of c) (touched done) h in let j = length-append (changes_in done) (c ∷ []) in omega (arith, i, j))

due_touched : (done : Journal) (c : Change) → IsCalm done → AllAsk done (c ∷ []) → has (key_of c) (touched done) ≡ true
due_touched done c s a = by_test (tested (has (key_of c) (touched done)))
  where
    by_test : Tested (has (key_of c) (touched done)) → has (key_of c) (touched done) ≡ true
    by_test (inl h) = h
    by_test (inr h) = absurd (asks_not_still (held done (key_of c)) c a.0 (s (key_of c) h))

is_asked : (done : Journal) (e : Entry) (c : Change) (cs : List Change) → e.act ≡ Act.Write c → AllAsk done (c ∷ cs) → IsDue done e.act
is_asked done e c cs q a d p = subst (λ x. Rattle.hib_session.proofs.Once.Asks (held done (key_of x)) x) (same (sym q ∙ p)) a.0
  where
    same : Act.Write c ≡ Act.Write d → c ≡ d
    same g = cc

-- one change, with what comes before its write
change_few : (script : Script) (past : Journal) (c : Change) (cs : List Change) (done : Journal) (next : Journal → Plan) (n : ℕ) → IsCalm done → AllAsk done (c ∷ cs) → ((k : Key) → times k (c ∷ cs) ≤ 1) →
    ((d : Journal) → IsCalm d → AllAsk d cs → AtMost (owed d + n) (next d)) → AtMost (owed done + n) (each (Next.before_write script past c ++ Act.Write c ∷ []) done next)
change_few script past c cs done next n s a o f = each_join acts (Act.Write c ∷ []) done next (owed done + n) (by_pause acts (pause_write script past c))
  where
    acts : List Act
    acts = Next.before_write script past c

    write : Journal → Plan
    write d = each (Act.Write c ∷ []) d next

    now : (d : Journal) → IsCalm d → AllAsk d (c ∷ cs) → (2 ≤ owed d) × AtMost (owed d + n - 1) (write d)
    now d t b =
        let h : has (key_of c) (touched d) ≡ true = due_touched d c t (b.0, tt) in
        let l : length (without_key (key_of c) (touched d)) + 1 ≤ length (touched d) = without_less (key_of c) (touched d) h in (
          omega (arith, l),
          (
            omega (arith, l),
            λ e q.
                let i : owed (e ∷ d) + 2 ≤ owed d = wrote d e c q h in
                more (next (e ∷ d)) (owed (e ∷ d) + n) (owed d + n - 1 - 1) (omega (arith, i))
                (f (e ∷ d) (calm_after d e t (is_asked d e c cs q b)) (ask_write d e c cs q (once_apart c cs (o (key_of c))) b.1)),
          ),
        )

    by_pause : (xs : List Act) → IsPause xs → AtMost (owed done + n) (each xs done write)
    by_pause [] p = more (write done) (owed done + n - 1) (owed done + n) (omega arith) (now done s a).1
    by_pause (x ∷ []) p = (
      let l : 2 ≤ owed done = (now done s a).0 in omega (arith, l),
      λ e q.
          let z : gains x ≡ 0 = pause_gains x p.rests.0 in
          let w : is_write x ≡ false = pause_no_write x p.rests.0 in
          let i : owed (e ∷ done) ≤ owed done + gains x = paid done e x q w in
          more (write (e ∷ done)) (owed (e ∷ done) + n - 1) (owed done + n - 1) (omega (arith, i, z))
          (now (e ∷ done) (calm_act done e x q w s) (ask_pause done e (c ∷ cs) (subst (λ b. is_pause b ≡ true) (sym q) p.rests.0) a)).1,
    )
    by_pause (x ∷ y ∷ xs) p = let l = p.few in absurd (omega (arith, l))

writes_few : (script : Script) (past : Journal) (cs : List Change) (done : Journal) (go : Journal → Plan) (n : ℕ) → IsCalm done → AllAsk done cs → ((k : Key) → times k cs ≤ 1) →
    Goes false n go → AtMost (owed done + n) (each (Next.writes script past cs) done go)
writes_few script past [] done go n s a o f = f done s
writes_few script past (c ∷ cs) done go n s a o f =
    each_join (Next.before_write script past c ++ Act.Write c ∷ []) (Next.writes script past cs) done go (owed done + n)
    (change_few script past c cs done (λ d. each (Next.writes script past cs) d go) n s a o (λ d t b. writes_few script past cs d go n t b (λ k. once_rest k c cs (o k)) f))

flush_few : (script : Script) (done : Journal) (go : Journal → Plan) (n : ℕ) → IsCalm done → Goes false n go → AtMost (owed done + (n + 1)) (Next.flush script done go)
flush_few script done go n s f = by_pending (pending done) (all_pending done) (λ k. once_pending k done)
  where
    by_pending : (cs : List Change) → AllAsk done cs → ((k : Key) → times k cs ≤ 1) → AtMost (owed done + (n + 1)) (each (Next.flush_of script done cs) done go)
    by_pending [] a o = more (go done) (owed done + n) (owed done + (n + 1)) (omega arith) (f done s)
    by_pending (c ∷ cs) a o =
        more (each (Next.flush_of script done (c ∷ cs)) done go) (owed done + (n + 0 + 1)) (owed done + (n + 1)) (omega arith)
        (act_few (Act.Pre (Next.tables_in script (c ∷ cs))) (λ e. each (Next.writes script done (c ∷ cs)) (e ∷ done) go) done n refl s
        (λ e q t. writes_few script done (c ∷ cs) (e ∷ done) go n t (ask_pause done e (c ∷ cs) (subst (λ b. is_pause b ≡ true) (sym q) refl) a) o f))

-- ---- what completes a transaction

abbrev is_mute : Act → Bool
is_mute (Act.AfterInsert k r f) = true
is_mute (Act.AfterUpdate k i r) = true
is_mute (Act.Unlock k i) = true
is_mute (Act.RegionRemove k) = true
is_mute (Act.Stamp ts) = true
is_mute Act.End = true
is_mute _ = false

abbrev AreMute : List Act → Type 0
AreMute [] = Unit {0}
AreMute (a ∷ acts) = (is_mute a ≡ true) × AreMute acts

mute_no_write : (a : Act) → is_mute a ≡ true → is_write a ≡ false
mute_no_write (Act.Write c) p = absurd (false≢true p)
mute_no_write _ p = refl

mute_gains : (a : Act) → is_mute a ≡ true → gains a ≡ 0
mute_gains (Act.Persist k r) p = absurd (false≢true p)
mute_gains (Act.Set k cells) p = absurd (false≢true p)
mute_gains (Act.Remove k) p = absurd (false≢true p)
mute_gains _ p = refl

pub record Short (n : ℕ) (acts : List Act) : Type 0 where
  pub few : length acts ≤ n
  pub mute : AreMute acts

no_acts : (n : ℕ) → Short n []
no_acts n = record { few = omega arith; mute = tt }

one_act : (a : Act) → is_mute a ≡ true → Short 1 (a ∷ [])
one_act a p = record { few = omega arith; mute = (p, tt) }

mute_append : (xs ys : List Act) → AreMute xs → AreMute ys → AreMute (xs ++ ys)
mute_append [] ys k l = l
mute_append (x ∷ xs) ys k l = (k.0, mute_append xs ys k.1 l)

short_append : (n k : ℕ) (xs ys : List Act) → Short n xs → Short k ys → Short (n + k) (xs ++ ys)
short_append n k xs ys s t = record { few = omega (arith, length-append xs ys, s.few, t.few); mute = mute_append xs ys s.mute t.mute }

short_flat : {X : Type 0} (f : X → List Act) → ((x : X) → Short 1 (f x)) → (xs : List X) → Short (length xs) (flat_map f xs)
short_flat f s [] = no_acts 0
short_flat f s (x ∷ xs) = let t = short_append 1 (length xs) (f x) (flat_map f xs) (s x) (short_flat f s xs) in let l = t.few in record { few = omega (arith, l); mute = t.mute }

short_insert : (g : Strategy) (k : Key) (r : Option Row) (f : ℕ) → Short 1 (Next.complete_insert g k r f)
short_insert Strategy.ReadOnly k (Some r) f = one_act (Act.AfterInsert k r f) refl
short_insert Strategy.ReadWrite k (Some r) f = one_act (Act.AfterInsert k r f) refl
short_insert _ k _ f = no_acts 1

short_release : (k : Key) (i : ℕ) (r : Option Row) → Short 1 (Next.release_of k i r)
short_release k i (Some r) = one_act (Act.AfterUpdate k i r) refl
short_release k i None = one_act (Act.Unlock k i) refl

short_update : (g : Strategy) (k : Key) (i : ℕ) (r : Option Row) → Short 1 (Next.complete_update g k i r)
short_update Strategy.ReadWrite k i r = short_release k i r
short_update Strategy.Uncached k i r = no_acts 1
short_update Strategy.ReadOnly k i r = one_act (Act.RegionRemove k) refl
short_update Strategy.Nonstrict k i r = one_act (Act.RegionRemove k) refl

short_complete : (o : Option Change) (g : Strategy) (k : Key) (i f : ℕ) (r : Option Row) → Short 1 (Next.complete_by o g k i f r)
short_complete None g k i f r = no_acts 1
short_complete (Some (Change.Insert j x)) g k i f r = short_insert g k r f
short_complete (Some (Change.Update j v x)) g k i f r = short_update g k i r
short_complete (Some (Change.Delete j v)) g k i f r = short_update g k i r

keys_few : (cs : List Change) → length (Next.keys_of cs) ≤ length cs
keys_few [] = omega arith
keys_few (c ∷ cs) = let i = filter_few (λ j. not (same_key j (key_of c))) (Next.keys_of cs) in let j = keys_few cs in omega (arith, i, j)

short_stamps : (ts : List ℕ) → Short 1 (Next.stamps_of ts)
short_stamps [] = no_acts 1
short_stamps (t ∷ ts) = one_act (Act.Stamp (t ∷ ts)) refl

short_completion : (script : Script) (m : Mode) (b : Bool) (done : Journal) → Short (length (changes_in done) + 2) (Next.completion script m b done)
short_completion script m b done =
    let cs : List Change = changes_in done in
    let ks : List Key = Next.keys_of cs in
    let keys : List Act = flat_map (λ k. Next.complete script m done b cs k) ks in
    let stamps : List Act = Next.stamps_of (Next.tables_in script cs) in
    let s : Short (length ks) keys = short_flat (λ k. Next.complete script m done b cs k)
    (λ k. short_complete (first_on k cs) (Next.strategy script k.entity) k (Next.lock_id k done) (floor_in done) (cond (b && Next.mode_puts m) (option_and_then row_left (last_on k cs)) None)) ks in
    let f = keys_few cs in
    let t : Short (length ks + 1 + 1) (Next.completion script m b done) =
    short_append (length ks + 1) 1 (keys ++ stamps) (Act.End ∷ []) (short_append (length ks) 1 keys stamps s (short_stamps (Next.tables_in script cs))) (one_act Act.End refl) in
    record { few = omega (arith, t.few, f); mute = t.mute }

mute_few : (acts : List Act) (done : Journal) (go : Journal → Plan) (n : ℕ) → AreMute acts → IsCalm done → Goes true n go → AtMost (3 * length (touched done) + (n + length acts)) (each acts done go)
mute_few [] done go n k s f = more (go done) (3 * length (touched done) + n) (3 * length (touched done) + (n + 0)) (omega arith) (f done s)
mute_few (a ∷ acts) done go n k s f = (
  omega arith,
  λ e q.
      let z : gains a ≡ 0 = mute_gains a k.0 in
      let i : 3 * length (touched (e ∷ done)) ≤ 3 * length (touched done) + gains a =
      subst (λ b. 3 * length (touched_by b (touched done)) ≤ 3 * length (touched done) + gains a) (sym q) (touched_few a (touched done)) in
      more (each acts (e ∷ done) go) (3 * length (touched (e ∷ done)) + (n + length acts)) (3 * length (touched done) + (n + length (a ∷ acts)) - 1) (omega (arith, i, z))
      (mute_few acts (e ∷ done) go n k.1 (calm_act done e a q (mute_no_write a k.0) s) f),
)

completion_few : (script : Script) (m : Mode) (b : Bool) (done : Journal) (go : Journal → Plan) (n : ℕ) → IsCalm done → Goes true n go →
    AtMost (owed done + (n + 2)) (each (Next.completion script m b done) done go)
completion_few script m b done go n s f =
    let h = short_completion script m b done in
    let l = h.few in
    more (each (Next.completion script m b done) done go) (3 * length (touched done) + (n + length (Next.completion script m b done))) (owed done + (n + 2)) (omega (arith, l))
    (mute_few (Next.completion script m b done) done go n h.mute s f)

commit_few : (script : Script) (m : Mode) (done : Journal) (go : Journal → Plan) (n : ℕ) → IsCalm done → Goes true n go → AtMost (owed done + (n + 2 + 0 + 1)) (Next.commit script m done go)
commit_few script m done go n s f = act_few Act.Commit (λ e. each (Next.completion script m (Next.is_committed_reply e.reply) (e ∷ done)) (e ∷ done) go) done (n + 2) refl s
    (λ e q t. completion_few script m (Next.is_committed_reply e.reply) (e ∷ done) go n t f)

rollback_few : (script : Script) (m : Mode) (done : Journal) (go : Journal → Plan) (n : ℕ) → IsCalm done → Goes true n go → AtMost (owed done + (n + 2 + 0 + 1)) (Next.rollback script m done go)
rollback_few script m done go n s f = act_few Act.Rollback (λ e. each (Next.completion script m false (e ∷ done)) (e ∷ done) go) done (n + 2) refl s
    (λ e q t. completion_few script m false (e ∷ done) go n t f)

-- ---- statements

if_few : (b : Bool) (p q : Plan) (n : ℕ) → AtMost n p → AtMost n q → AtMost n (cond b p q)
if_few true p q n v w = v
if_few false p q n v w = w

-- one act, and then what comes after it
then_one : (a : Act) (done : Journal) (go : Journal → Plan) (n : ℕ) → is_write a ≡ false → IsCalm done → Goes false n go → AtMost (owed done + (n + gains a + 1)) (one a done go)
then_one a done go n w s f = act_few a (λ e. go (e ∷ done)) done n w s (λ e q t. f (e ∷ done) t)

-- nothing, where some acts are allowed
none_few : (done : Journal) (go : Journal → Plan) (n k : ℕ) → IsCalm done → Goes false n go → AtMost (owed done + (n + k)) (go done)
none_few done go n k s f = more (go done) (owed done + n) (owed done + (n + k)) (omega arith) (f done s)

-- an act that brings nothing
quiet_few : (a : Act) (rest : Entry → Plan) (done : Journal) (n : ℕ) → is_write a ≡ false → gains a ≡ 0 → IsCalm done → ((e : Entry) → IsCalm (e ∷ done) → AtMost (owed (e ∷ done) + n) (rest e)) →
    AtMost (owed done + (n + 1)) (Plan.Do a rest)
quiet_few a rest done n w g s f = more (Plan.Do a rest) (owed done + (n + gains a + 1)) (owed done + (n + 1)) (omega (arith, g)) (act_few a rest done n w s (λ e q t. f e t))

quiet_one : (a : Act) (done : Journal) (go : Journal → Plan) (n : ℕ) → is_write a ≡ false → gains a ≡ 0 → IsCalm done → Goes false n go → AtMost (owed done + (n + 1)) (one a done go)
quiet_one a done go n w g s f = quiet_few a (λ e. go (e ∷ done)) done n w g s (λ e t. f (e ∷ done) t)

put_few : (script : Script) (m : Mode) (k : Key) (r : Reply) (done : Journal) (go : Journal → Plan) (n : ℕ) → IsCalm done → Goes false n go → AtMost (owed done + (n + 1)) (Next.put_loaded script m k r done go)
put_few script m k (Reply.Row (Some r)) done go n s f = if_few (Next.may_put script m k done) (one (Act.Put k r (time_in done) (floor_in done)) done go) (go done) (owed done + (n + 1))
    (quiet_one (Act.Put k r (time_in done) (floor_in done)) done go n refl refl s f) (none_few done go n 1 s f)
put_few script m k _ done go n s f = none_few done go n 1 s f

load_few : (script : Script) (m : Mode) (k : Key) (done : Journal) (go : Journal → Plan) (n : ℕ) → IsCalm done → Goes false n go → AtMost (owed done + (n + 1 + 1)) (Next.load script m k done go)
load_few script m k done go n s f = quiet_few (Act.Load k) (λ e. Next.put_loaded script m k e.reply (e ∷ done) go) done (n + 1) refl refl s
    (λ e t. put_few script m k e.reply (e ∷ done) go n t f)

unless_hit_few : (script : Script) (m : Mode) (k : Key) (r : Reply) (done : Journal) (go : Journal → Plan) (n : ℕ) → IsCalm done → Goes false n go →
    AtMost (owed done + (n + 1 + 1)) (Next.load_unless_hit script m k r done go)
unless_hit_few script m k (Reply.Hit x) done go n s f = more (go done) (owed done + n) (owed done + (n + 1 + 1)) (omega arith) (f done s)
unless_hit_few script m k _ done go n s f = load_few script m k done go n s f

get_few : (script : Script) (m : Mode) (k : Key) (done : Journal) (go : Journal → Plan) (n : ℕ) → IsCalm done → Goes false n go → AtMost (owed done + (n + 1 + 1 + 1)) (Next.get script m k done go)
get_few script m k done go n s f = quiet_few (Act.Get k (time_in done)) (λ e. Next.load_unless_hit script m k e.reply (e ∷ done) go) done (n + 1 + 1) refl refl s
    (λ e t. unless_hit_few script m k e.reply (e ∷ done) go n t f)

find_few : (script : Script) (m : Mode) (k : Key) (done : Journal) (go : Journal → Plan) (n : ℕ) → IsCalm done → Goes false n go → AtMost (owed done + (n + 1 + 1 + 1)) (Next.find script m k done go)
find_few script m k done go n s f =
    if_few (is_some (held done k)) (one (Act.Find k) done go) (Next.find_away script m k done go) (owed done + (n + 1 + 1 + 1))
    (more (one (Act.Find k) done go) (owed done + (n + 1)) (owed done + (n + 1 + 1 + 1)) (omega arith) (quiet_one (Act.Find k) done go n refl refl s f))
    (if_few (Next.may_read script m k done) (Next.get script m k done go) (Next.load script m k done go) (owed done + (n + 1 + 1 + 1)) (get_few script m k done go n s f)
    (more (Next.load script m k done go) (owed done + (n + 1 + 1)) (owed done + (n + 1 + 1 + 1)) (omega arith) (load_few script m k done go n s f)))

keep_few : (script : Script) (m : Mode) (q : ℕ) (r : Reply) (done : Journal) (go : Journal → Plan) (n : ℕ) → IsCalm done → Goes false n go → AtMost (owed done + (n + 1)) (Next.keep_listed script m q r done go)
keep_few script m q (Reply.Listed l) done go n s f = if_few (Next.is_free script q (Next.mode_puts m) done) (one (Act.Keep q (time_in done) l) done go) (go done) (owed done + (n + 1))
    (quiet_one (Act.Keep q (time_in done) l) done go n refl refl s f) (none_few done go n 1 s f)
keep_few script m q _ done go n s f = none_few done go n 1 s f

store_few : (script : Script) (m : Mode) (q : ℕ) (done : Journal) (go : Journal → Plan) (n : ℕ) → IsCalm done → Goes false n go → AtMost (owed done + (n + 1 + 1)) (Next.list_store script m q done go)
store_few script m q done go n s f = quiet_few (Act.List q) (λ e. Next.keep_listed script m q e.reply (e ∷ done) go) done (n + 1) refl refl s
    (λ e t. keep_few script m q e.reply (e ∷ done) go n t f)

unless_fresh_few : (script : Script) (m : Mode) (q : ℕ) (r : Reply) (done : Journal) (go : Journal → Plan) (n : ℕ) → IsCalm done → Goes false n go →
    AtMost (owed done + (n + 1 + 1)) (Next.list_unless_fresh script m q r done go)
unless_fresh_few script m q (Reply.Check Checked.Fresh) done go n s f = more (go done) (owed done + n) (owed done + (n + 1 + 1)) (omega arith) (f done s)
unless_fresh_few script m q _ done go n s f = store_few script m q done go n s f

check_few : (script : Script) (m : Mode) (q t : ℕ) (done : Journal) (go : Journal → Plan) (n : ℕ) → IsCalm done → Goes false n go → AtMost (owed done + (n + 1 + 1 + 1)) (Next.check script m q t done go)
check_few script m q t done go n s f = quiet_few (Act.Check q t) (λ e. Next.list_unless_fresh script m q e.reply (e ∷ done) go) done (n + 1 + 1) refl refl s
    (λ e u. unless_fresh_few script m q e.reply (e ∷ done) go n u f)

found_few : (script : Script) (m : Mode) (q : ℕ) (r : Reply) (done : Journal) (go : Journal → Plan) (n : ℕ) → IsCalm done → Goes false n go →
    AtMost (owed done + (n + 1 + 1 + 1)) (Next.check_found script m q r done go)
found_few script m q (Reply.Found t l) done go n s f = check_few script m q t done go n s f
found_few script m q _ done go n s f = more (Next.list_store script m q done go) (owed done + (n + 1 + 1)) (owed done + (n + 1 + 1 + 1)) (omega arith) (store_few script m q done go n s f)

look_few : (script : Script) (m : Mode) (q : ℕ) (done : Journal) (go : Journal → Plan) (n : ℕ) → IsCalm done → Goes false n go → AtMost (owed done + (n + 1 + 1 + 1 + 1)) (Next.look script m q done go)
look_few script m q done go n s f = quiet_few (Act.Look q) (λ e. Next.check_found script m q e.reply (e ∷ done) go) done (n + 1 + 1 + 1) refl refl s
    (λ e u. found_few script m q e.reply (e ∷ done) go n u f)

answer_few : (script : Script) (m : Mode) (q : ℕ) (done : Journal) (go : Journal → Plan) (n : ℕ) → IsCalm done → Goes false n go → AtMost (owed done + (n + 4)) (Next.answer script m q done go)
answer_few script m q done go n s f = if_few (Next.is_free script q (Next.mode_reads m) done) (Next.look script m q done go) (Next.list_store script m q done go) (owed done + (n + 4))
    (more (Next.look script m q done go) (owed done + (n + 1 + 1 + 1 + 1)) (owed done + (n + 4)) (omega arith) (look_few script m q done go n s f))
    (more (Next.list_store script m q done go) (owed done + (n + 1 + 1)) (owed done + (n + 4)) (omega arith) (store_few script m q done go n s f))

list_few : (script : Script) (m : Mode) (q : ℕ) (done : Journal) (go : Journal → Plan) (n : ℕ) → IsCalm done → Goes false n go → AtMost (owed done + (n + 4 + 1)) (Next.list script m q done go)
list_few script m q done go n s f = if_few (Next.is_in_tables (Next.tables_of script q) (pending done)) (Next.flush script done (λ d. Next.answer script m q d go)) (Next.answer script m q done go)
    (owed done + (n + 4 + 1))
    (flush_few script done (λ d. Next.answer script m q d go) (n + 4) s (λ d t. answer_few script m q d go n t f))
    (more (Next.answer script m q done go) (owed done + (n + 4)) (owed done + (n + 4 + 1)) (omega arith) (answer_few script m q done go n s f))

-- the acts that a statement pays for, at most
abbrev cost : Statement → ℕ
cost (Statement.Find k) = 3
cost (Statement.Persist k cells) = 4
cost (Statement.Set k cells) = 4
cost (Statement.Remove k) = 4
cost (Statement.List q) = 5
cost Statement.Flush = 1
cost Statement.Clear = 1
cost (Statement.Mode x) = 0
cost Statement.Commit = 4
cost Statement.Rollback = 3

block_few : (script : Script) (m : Mode) (st : Statement) (done : Journal) (go : Journal → Plan) (n : ℕ) → IsCalm done → Goes (Next.ends st) n go →
    AtMost (owed done + (n + cost st)) (Next.block script m st done go)
block_few script m (Statement.Find k) done go n s f = more (Next.find script m k done go) (owed done + (n + 1 + 1 + 1)) (owed done + (n + 3)) (omega arith) (find_few script m k done go n s f)
block_few script m (Statement.Persist k cells) done go n s f =
    let a : Act = Act.Persist k (record { version = Next.first_version script k.entity; cells = cells }) in
    more (one a done go) (owed done + (n + 3 + 1)) (owed done + (n + 4)) (omega arith) (then_one a done go n refl s f)
block_few script m (Statement.Set k cells) done go n s f = more (one (Act.Set k cells) done go) (owed done + (n + 3 + 1)) (owed done + (n + 4)) (omega arith) (then_one (Act.Set k cells) done go n refl s f)
block_few script m (Statement.Remove k) done go n s f = more (one (Act.Remove k) done go) (owed done + (n + 3 + 1)) (owed done + (n + 4)) (omega arith) (then_one (Act.Remove k) done go n refl s f)
block_few script m (Statement.List q) done go n s f = more (Next.list script m q done go) (owed done + (n + 4 + 1)) (owed done + (n + 5)) (omega arith) (list_few script m q done go n s f)
block_few script m Statement.Flush done go n s f = flush_few script done go n s f
block_few script m Statement.Clear done go n s f = quiet_one Act.Clear done go n refl refl s f
block_few script m (Statement.Mode x) done go n s f = none_few done go n 0 s f
block_few script m Statement.Commit done go n s f = more (Next.flush script done (λ d. Next.commit script m d go)) (owed done + (n + 2 + 0 + 1 + 1)) (owed done + (n + 4)) (omega arith)
    (flush_few script done (λ d. Next.commit script m d go) (n + 2 + 0 + 1) s (λ d t. commit_few script m d go n t f))
block_few script m Statement.Rollback done go n s f = more (Next.rollback script m done go) (owed done + (n + 2 + 0 + 1)) (owed done + (n + 3)) (omega arith) (rollback_few script m done go n s f)

-- ---- sessions: a Begin is due
abbrev one_if : Bool → ℕ
one_if true = 1
one_if false = 0

-- a statement that ends a transaction pays for the next Begin
cost_few : (st : Statement) → cost st + one_if (Next.ends st) ≤ 5
cost_few Statement.Commit = omega arith
cost_few Statement.Rollback = omega arith
cost_few (Statement.Find k) = omega arith
cost_few (Statement.Persist k cells) = omega arith
cost_few (Statement.Set k cells) = omega arith
cost_few (Statement.Remove k) = omega arith
cost_few (Statement.List q) = omega arith
cost_few Statement.Flush = omega arith
cost_few Statement.Clear = omega arith
cost_few (Statement.Mode x) = omega arith

-- after Begin nothing is to be completed
begun_few : (b : Bool) (done : Journal) (go : Journal → Plan) (n : ℕ) → IsCalm done → Goes false n go → AtMost (owed_by b done + (n + one_if b)) (Next.begin_if b done go)
begun_few true done go n s f = (
  omega arith,
  λ e q.
      let i : owed (e ∷ done) ≤ 3 * length (touched done) =
      subst (λ b. 3 * length (touched_by b (touched done)) + length (changes_after b (changes_in done)) ≤ 3 * length (touched done)) (sym q) (omega arith) in
      more (go (e ∷ done)) (owed (e ∷ done) + n) (3 * length (touched done) + (n + 1) - 1) (omega (arith, i)) (f (e ∷ done) (calm_act done e Act.Begin q refl s)),
)
begun_few false done go n s f = none_few done go n 0 s f

blocks_few : (script : Script) (m : Mode) (b : Bool) (sts : List Statement) (done : Journal) → IsCalm done → AtMost (owed_by b done + (5 * length sts + one_if b)) (Next.blocks script m b sts done)
blocks_few script m b [] done s = tt
blocks_few script m b (st ∷ sts) done s =
    let c = cost_few st in
    more (Next.blocks script m b (st ∷ sts) done) (owed_by b done + (5 * length sts + one_if (Next.ends st) + cost st + one_if b)) (owed_by b done + (5 * length (st ∷ sts) + one_if b)) (omega (arith, c))
    (begun_few b done (λ d. Next.block script m st d (λ x. Next.blocks script (Next.mode_after st m) (Next.ends st) sts x)) (5 * length sts + one_if (Next.ends st) + cost st) s
    (λ d t. block_few script m st d (λ x. Next.blocks script (Next.mode_after st m) (Next.ends st) sts x) (5 * length sts + one_if (Next.ends st)) t
    (λ x u. blocks_few script (Next.mode_after st m) (Next.ends st) sts x u)))

pub entries_few : (script : Script) (s : ℕ) (mine : Journal) → InOrder (Next.plan_of script s) mine → length mine ≤ most_entries (length (option_map_or (λ d. d.statements) (slice_get script.sessions s) []))
entries_few script s mine o =
    let sts : List Statement = option_map_or (λ d. d.statements) (slice_get script.sessions s) [] in
    let w : AtMost (owed_by true [] + (5 * length sts + 1)) (Next.plan_of script s) = blocks_few script Mode.Normal true sts [] calm_start in
    let i = (few (Next.plan_of script s) (owed_by true [] + (5 * length sts + 1)) mine w o).0 in
    omega (arith, i)
