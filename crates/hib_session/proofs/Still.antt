-- A key on which nothing came since it was last written asks for no change.
use Rattle.std.proofs.Common.{◌≡◌, ℕ, suc, ◌+◌, ◌≤◌, inl, inr, Bool, true, false, cond, not, ◌||◌, List, [], ◌∷◌, length, Some, None, Option, refl, ap, sym, ◌∙◌, subst, arith}
use Rattle.std.proofs.lemmas.Bool.{true≢false, false≢true, or_parts, and_from, le-leb}
use Rattle.std.proofs.lemmas.Slice.Eq.{bytes_eq-Decides}
use Rattle.std.specs.Prelude.{ℤ, int_le, pos, negsuc}
use Rattle.std.specs.List.{filter, list_any}
use Rattle.hib_base.specs.Keys.{same_key}
use Rattle.hib_base.specs.Tables.{key_of}
use Rattle.hib_base.proofs.Tables.{Tested, tested, same_key_refl, same_key_eq}
use Rattle.hib_journal.specs.Types.{Key, Row, Cell, Change, State, Act, Reply, Entry}
use Rattle.hib_journal.specs.Query.{same_cell}
use Rattle.hib_journal.specs.Sessions.{Journal}
use Rattle.hib_journal.specs.Held.{Instance, Arrival, arrival, arrived_key, is_break, stay, held, without_key, same_cells, insert_by, update_by, delete_by, next_version}
use Rattle.hib_journal.proofs.Shapes.{insert_of, update_of, delete_of}
use Rattle.hib_session.specs.Memory.{is_unwritten}
use Rattle.hib_session.proofs.Kept.{later, after_write, arrives_other, fresh, held_later, held_arrives, held_broken}
use Rattle.hib_law.proofs.Basics.{none_some, some_same}
use Rattle.hib_law.proofs.Flushes.{times}
use Rattle.hib_session.proofs.Once.{Asks, AllAsk}

-- ---- the keys on which something came since they were last written

abbrev pub touched_by : Act → List Key → List Key
touched_by (Act.Persist k r) ks = k ∷ without_key k ks
touched_by (Act.Set k cells) ks = k ∷ without_key k ks
touched_by (Act.Remove k) ks = k ∷ without_key k ks
touched_by (Act.Write c) ks = without_key (key_of c) ks
touched_by _ ks = ks

abbrev pub touched : Journal → List Key
touched [] = []
touched (e ∷ m) = touched_by e.act (touched m)

abbrev pub has : Key → List Key → Bool
has k ks = list_any (λ j. same_key j k) ks

pub less_one : {X : Type 0} (b : Bool) (x : X) (ys : List X) (n : ℕ) → length ys ≤ n → length (cond b (x ∷ ys) ys) ≤ suc n
less_one true x ys n i = omega (arith, i)
less_one false x ys n i = omega (arith, i)

pub filter_few : {X : Type 0} (p : X → Bool) (xs : List X) → length (filter p xs) ≤ length xs
filter_few p [] = omega arith
filter_few p (x ∷ xs) = less_one (p x) x (filter p xs) (length xs) (filter_few p xs)

pub without_less : (k : Key) (ks : List Key) → has k ks ≡ true → length (without_key k ks) + 1 ≤ length ks
without_less k [] h = absurd (false≢true h)
without_less k (j ∷ ks) h = by_key (tested (same_key j k)) (without_less k ks) h
  where
    by_key : Tested (same_key j k) → (has k ks ≡ true → length (without_key k ks) + 1 ≤ length ks) → has k (j ∷ ks) ≡ true → length (without_key k (j ∷ ks)) + 1 ≤ length (j ∷ ks)
    by_key (inl p) i h = let l : length (without_key k ks) ≤ length ks = filter_few (λ x. not (same_key x k)) ks in rw p (omega (arith, l))
    by_key (inr p) i h = let g : has k ks ≡ true = rw p at h in let l = i g in rw p (omega (arith, l))

-- another key stays
still_has : (k j : Key) (ks : List Key) → same_key j k ≡ false → has k (without_key j ks) ≡ false → has k ks ≡ false
still_has k j [] n h = refl
still_has k j (i ∷ ks) n h = by_key (tested (same_key i j)) h (still_has k j ks n)
  where
    by_key : Tested (same_key i j) → has k (without_key j (i ∷ ks)) ≡ false → (has k (without_key j ks) ≡ false → has k ks ≡ false) → has k (i ∷ ks) ≡ false
    by_key (inl p) h f =
        let g : has k (without_key j ks) ≡ false = rw p at h in
        let q : same_key i k ≡ false = subst (λ y. same_key y k ≡ false) (sym (same_key_eq i j p)) n in
        rw q (f g)
    by_key (inr p) h f =
        let g : (same_key i k || has k (without_key j ks)) ≡ false = rw p at h in
        let q : (same_key i k ≡ false) × (has k (without_key j ks) ≡ false) = or_parts (same_key i k) (has k (without_key j ks)) g in
        rw q.0 (f q.1)

-- ---- what is held asks for nothing

abbrev pub IsStill : Option Instance → Type 0
IsStill i = (insert_of i ≡ None) × (update_of i ≡ None) × (delete_of i ≡ None)

pub still_none : IsStill None
still_none = (refl, refl, refl)

pub asks_not_still : (i : Option Instance) (c : Change) → Asks i c → IsStill i → ⊥
asks_not_still i c (inl a) s = none_some (sym s.0 ∙ a)
asks_not_still i c (inr (inl a)) s = none_some (sym s.1 ∙ a)
asks_not_still i c (inr (inr a)) s = none_some (sym s.2 ∙ a)

int_refl : (a : ℤ) → int_le a a ≡ true
int_refl (pos n) = le-leb n n (omega arith)
int_refl (negsuc n) = le-leb n n (omega arith)

cell_refl : (a : Cell) → same_cell a a ≡ true
cell_refl (Cell.Int a) = and_from (int_le a a) (int_le a a) (int_refl a) (int_refl a)
cell_refl (Cell.Text t) = (bytes_eq-Decides t t).1 refl
cell_refl (Cell.Bool true) = refl
cell_refl (Cell.Bool false) = refl

cells_refl : (cs : List Cell) → same_cells cs cs ≡ true
cells_refl [] = refl
cells_refl (c ∷ cs) = and_from (same_cell c c) (same_cells cs cs) (cell_refl c) (cells_refl cs)

managed_still : (k : Key) (v : Option ℕ) (b : Row) (cs : List Cell) → cs ≡ b.cells →
    IsStill (Some (record { key = k; state = State.Managed; base = Some b; row = record { version = v; cells = cs } }))
managed_still k v b cs e = (refl, rw (e, cells_refl b.cells) refl, refl)

-- ---- what a change says of the instance that asks for it

abbrev Says : Option Instance → Change → Type 0
Says i (Change.Insert j r) = (z : Instance) × (i ≡ Some z) × (z.state ≡ State.New) × (z.row.cells ≡ r.cells)
Says i (Change.Update j v r) = (z : Instance) × (i ≡ Some z) × (z.state ≡ State.Managed) × (z.row.cells ≡ r.cells)
Says i (Change.Delete j v) = Unit {0}

asks_says : (i : Option Instance) (c : Change) → Asks i c → Says i c
asks_says None c (inl a) = none_some a
asks_says None c (inr (inl a)) = none_some a
asks_says None c (inr (inr a)) = none_some a
asks_says (Some z) c (inl a) = by_state z.state refl a
  where
    by_state : (t : State) → z.state ≡ t → insert_by t z.key z.row ≡ Some c → Says (Some z) c
    by_state State.New p e = subst (λ d. Says (Some z) d) (some_same e) (z, refl, p, refl)
    by_state State.Managed p e = none_some e
    by_state State.Removed p e = none_some e
asks_says (Some z) c (inr (inl a)) = by_state z.state z.base refl a
  where
    by_cells : (b : Row) (x : Bool) → z.state ≡ State.Managed →
        cond x None (Some (Change.Update z.key b.version (record { version = next_version b.version; cells = z.row.cells }))) ≡ Some c → Says (Some z) c
    by_cells b true p e = none_some e
    by_cells b false p e = subst (λ d. Says (Some z) d) (some_same e) (z, refl, p, refl)

    by_state : (t : State) (b : Option Row) → z.state ≡ t → update_by t z.key z.row b ≡ Some c → Says (Some z) c
    by_state State.New b p e = none_some e
    by_state State.Removed b p e = none_some e
    by_state State.Managed None p e = none_some e
    by_state State.Managed (Some b) p e = by_cells b (same_cells z.row.cells b.cells) p e
asks_says (Some z) c (inr (inr a)) = by_state z.state z.base a
  where
    by_state : (t : State) (b : Option Row) → delete_by t z.key b ≡ Some c → Says (Some z) c
    by_state State.New b e = none_some e
    by_state State.Managed b e = none_some e
    by_state State.Removed None e = none_some e
    by_state State.Removed (Some b) e = subst (λ d. Says (Some z) d) (some_same e) tt

-- a written instance asks for nothing
written_still : (z : Instance) (r : Row) (t : State) → z.state ≡ t → (t ≡ State.Removed → ⊥) → z.row.cells ≡ r.cells → IsStill (Some (after_write r z))
written_still z r State.New p n e = (rw p refl, rw (p, e, cells_refl r.cells) refl, rw p refl)
written_still z r State.Managed p n e = (rw p refl, rw (p, e, cells_refl r.cells) refl, rw p refl)
written_still z r State.Removed p n e = absurd (n refl)

write_still : (u : Bool) (k : Key) (c : Change) (x : Reply) (o : Option Instance) → same_key (key_of c) k ≡ true → Asks o c → IsStill (later u k (Act.Write c) x o)
write_still u k (Change.Insert j r) x o s a =
    let w : (z : Instance) × (o ≡ Some z) × (z.state ≡ State.New) × (z.row.cells ≡ r.cells) = asks_says o (Change.Insert j r) a in
    rw (s, w.1) (written_still w.0 r State.New w.2 (λ q. (let f : State.New ≡ State.Removed → ⊥ = λ q. cc in f q)) w.3)
write_still u k (Change.Update j v r) x o s a =
    let w : (z : Instance) × (o ≡ Some z) × (z.state ≡ State.Managed) × (z.row.cells ≡ r.cells) = asks_says o (Change.Update j v r) a in
    rw (s, w.1) (written_still w.0 r State.Managed w.2 (λ q. (let f : State.Managed ≡ State.Removed → ⊥ = λ q. cc in f q)) w.3)
write_still u k (Change.Delete j v) x o s a = rw s still_none

-- ---- an entry at which nothing of the key arrives

abbrev IsPaid : Key → Act → Option Instance → Type 0
IsPaid k a o = (c : Change) → a ≡ Act.Write c → same_key (key_of c) k ≡ true → Asks o c

module _ (u : Bool) (k : Key) (o : Option Instance) (ks : List Key) (s : has k ks ≡ false → IsStill o) where
  other_write : (c : Change) (x : Reply) → same_key (key_of c) k ≡ false → later u k (Act.Write c) x o ≡ o
  other_write (Change.Insert j r) x n = rw n refl
  other_write (Change.Update j v r) x n = rw n refl
  other_write (Change.Delete j v) x n = rw n refl

  named : (j : Key) → has k (j ∷ without_key j ks) ≡ false → (same_key j k ≡ false) × IsStill o
  named j h =
      let p : (same_key j k ≡ false) × (has k (without_key j ks) ≡ false) = or_parts (same_key j k) (has k (without_key j ks)) h in
      (p.0, s (still_has k j ks p.0 p.1))

  later_still : (x : Act) (r : Reply) → IsPaid k x o → has k (touched_by x ks) ≡ false → IsStill (later u k x r o)
  later_still (Act.Write c) r a h = by_key (tested (same_key (key_of c) k))
    where
      by_key : Tested (same_key (key_of c) k) → IsStill (later u k (Act.Write c) r o)
      by_key (inl p) = write_still u k c r o p (a c refl p)
      by_key (inr p) = subst (λ i. IsStill i) (sym (other_write c r p)) (s (still_has k (key_of c) ks p h))
  later_still (Act.Persist j y) r a h = (named j h).1
  later_still (Act.Set j ps) Reply.Set a h = let p = named j h in rw p.0 p.1
  later_still (Act.Set j ps) r a h = (named j h).1
  later_still (Act.Remove j) Reply.Removed a h = let p = named j h in rw p.0 p.1
  later_still (Act.Remove j) r a h = (named j h).1
  later_still x r a h = s h

-- ---- an arrival

-- a new instance is one that was persisted
made_here : (k : Key) (a : Act) (r : Reply) (j : Key) (y : Row) (ks : List Key) → arrival a r ≡ Some (Arrival.Made j y) → same_key j k ≡ true → has k (touched_by a ks) ≡ true
made_here k a r j y ks p s = by_act a r p
  where
    no_read : (i : Key) (z : Row) → ◌≡◌ {A = Option Arrival} (Some (Arrival.Read i z)) (Some (Arrival.Made j y)) → ⊥
    no_read i z q = cc

    same : (i : Key) (z : Row) → ◌≡◌ {A = Option Arrival} (Some (Arrival.Made i z)) (Some (Arrival.Made j y)) → i ≡ j
    same i z q = ap arrived_key (some_same q)

    by_act : (a : Act) (r : Reply) → arrival a r ≡ Some (Arrival.Made j y) → has k (touched_by a ks) ≡ true
    by_act (Act.Get i t) (Reply.Hit z) q = absurd (no_read i z q)
    by_act (Act.Load i) (Reply.Row (Some z)) q = absurd (no_read i z q)
    by_act (Act.Persist i z) Reply.New q = let e : same_key i k ≡ true = subst (λ x. same_key x k ≡ true) (sym (same i z q)) s in rw e refl
    by_act _ _ q = none_some q

-- each key that isn't touched asks for nothing
abbrev pub IsCalm : Journal → Type 0
IsCalm m = (k : Key) → has k (touched m) ≡ false → IsStill (held m k)

pub calm_start : IsCalm []
unfolding held
calm_start k h = still_none

-- what is written was asked for
abbrev pub IsDue : Journal → Act → Type 0
IsDue m a = (c : Change) → a ≡ Act.Write c → Asks (held m (key_of c)) c

pub calm_after : (m : Journal) (e : Entry) → IsCalm m → IsDue m e.act → IsCalm (e ∷ m)
calm_after m e s d k h = by_break (tested (is_break e.act e.reply))
  where
    paid : IsPaid k e.act (held m k)
    paid c q p = subst (λ j. Asks (held m j) c) (same_key_eq (key_of c) k p) (d c q)

    here : (a : Arrival) → arrival e.act e.reply ≡ Some a → same_key (arrived_key a) k ≡ true → IsStill (Some (fresh k a))
    here (Arrival.Read j r) p q = managed_still k r.version r r.cells refl
    here (Arrival.Made j r) p q = absurd (true≢false (sym (made_here k e.act e.reply j r (touched m) p q) ∙ h))

    by_arrival : is_break e.act e.reply ≡ false → (o : Option Arrival) → arrival e.act e.reply ≡ o → IsStill (held (e ∷ m) k)
    by_arrival b None p = subst (λ i. IsStill i) (sym (held_later k e m b (rw p refl)))
        (later_still (is_unwritten k (stay k m)) k (held m k) (touched m) (s k) e.act e.reply paid h)
    by_arrival b (Some a) p = by_key (tested (same_key (arrived_key a) k))
      where
        by_key : Tested (same_key (arrived_key a) k) → IsStill (held (e ∷ m) k)
        by_key (inl q) = subst (λ i. IsStill i) (sym (held_arrives k e m a b p q)) (here a p q)
        by_key (inr q) = subst (λ i. IsStill i) (sym (held_later k e m b (rw (p, q) refl)))
            (later_still (is_unwritten k (stay k m)) k (held m k) (touched m) (s k) e.act e.reply paid h)

    by_break : Tested (is_break e.act e.reply) → IsStill (held (e ∷ m) k)
    by_break (inl b) = subst (λ i. IsStill i) (sym (held_broken k e m b)) still_none
    by_break (inr b) = by_arrival b (arrival e.act e.reply) refl

-- ---- during a flush

-- the acts of a flush that write nothing
abbrev pub is_pause : Act → Bool
is_pause (Act.Pre ts) = true
is_pause (Act.Lock k v f) = true
is_pause (Act.RegionRemove k) = true
is_pause _ = false

abbrev Rests : Act → Reply → Type 0
Rests a r = (is_break a r ≡ false) × (arrival a r ≡ None) × ((u : Bool) (k : Key) (o : Option Instance) → later u k a r o ≡ o)

pause_rests : (a : Act) (r : Reply) → is_pause a ≡ true → Rests a r
pause_rests (Act.Pre ts) r p = (refl, refl, λ u k o. refl)
pause_rests (Act.Lock k v f) r p = (refl, refl, λ u k o. refl)
pause_rests (Act.RegionRemove k) r p = (refl, refl, λ u k o. refl)
pause_rests _ r p = absurd (false≢true p)

held_pause : (m : Journal) (e : Entry) (k : Key) → is_pause e.act ≡ true → held (e ∷ m) k ≡ held m k
held_pause m e k p =
    let w : Rests e.act e.reply = pause_rests e.act e.reply p in
    held_later k e m w.0 (rw w.1 refl) ∙ w.2 (is_unwritten k (stay k m)) k (held m k)

pub ask_pause : (m : Journal) (e : Entry) (cs : List Change) → is_pause e.act ≡ true → AllAsk m cs → AllAsk (e ∷ m) cs
ask_pause m e [] p a = tt
ask_pause m e (c ∷ cs) p a = (subst (λ i. Asks i c) (sym (held_pause m e (key_of c) p)) a.0, ask_pause m e cs p a.1)

-- a write of another key
write_rests : (c : Change) (k : Key) → same_key (key_of c) k ≡ false → (u : Bool) (x : Reply) (o : Option Instance) → later u k (Act.Write c) x o ≡ o
write_rests (Change.Insert j r) k q u x o = rw q refl
write_rests (Change.Update j v r) k q u x o = rw q refl
write_rests (Change.Delete j v) k q u x o = rw q refl

held_write : (m : Journal) (e : Entry) (c : Change) (k : Key) → e.act ≡ Act.Write c → same_key (key_of c) k ≡ false → held (e ∷ m) k ≡ held m k
held_write m e c k p n =
    held_later k e m unbroken nothing
    ∙ subst (λ a. later (is_unwritten k (stay k m)) k a e.reply (held m k) ≡ held m k) (sym p) (write_rests c k n (is_unwritten k (stay k m)) e.reply (held m k))
  where
    unbroken : is_break e.act e.reply ≡ false
    unbroken = subst (λ a. is_break a e.reply ≡ false) (sym p) refl

    nothing : arrives_other k (arrival e.act e.reply) ≡ true
    nothing = subst (λ a. arrives_other k (arrival a e.reply) ≡ true) (sym p) refl

abbrev pub Apart : Key → List Change → Type 0
Apart k [] = Unit {0}
Apart k (d ∷ ds) = (same_key k (key_of d) ≡ false) × Apart k ds

pub ask_write : (m : Journal) (e : Entry) (c : Change) (cs : List Change) → e.act ≡ Act.Write c → Apart (key_of c) cs → AllAsk m cs → AllAsk (e ∷ m) cs
ask_write m e c [] p n a = tt
ask_write m e c (d ∷ cs) p n a = (subst (λ i. Asks i d) (sym (held_write m e c (key_of d) p n.0)) a.0, ask_write m e c cs p n.1 a.1)

other_back : (a b : Key) → same_key a b ≡ false → same_key b a ≡ false
other_back a b p = by_test (tested (same_key b a))
  where
    by_test : Tested (same_key b a) → same_key b a ≡ false
    by_test (inl q) = let e : b ≡ a = same_key_eq b a q in absurd (true≢false (sym (same_key_refl a) ∙ subst (λ y. same_key a y ≡ false) e p))
    by_test (inr q) = q

none_apart : (k : Key) (cs : List Change) → times k cs ≤ 0 → Apart k cs
none_apart k [] l = tt
none_apart k (d ∷ ds) l = by_key (tested (same_key (key_of d) k)) l (none_apart k ds)
  where
    by_key : Tested (same_key (key_of d) k) → times k (d ∷ ds) ≤ 0 → (times k ds ≤ 0 → Apart k ds) → Apart k (d ∷ ds)
    by_key (inl x) l f = let g : suc (times k ds) ≤ 0 = rw x at l in absurd (omega arith)
    by_key (inr x) l f = let g : times k ds ≤ 0 = rw x at l in (other_back (key_of d) k x, f g)

pub once_apart : (c : Change) (cs : List Change) → times (key_of c) (c ∷ cs) ≤ 1 → Apart (key_of c) cs
once_apart c cs l = let g : suc (times (key_of c) cs) ≤ 1 = rw (same_key_refl (key_of c)) at l in none_apart (key_of c) cs (omega (arith, g))

pub once_rest : (k : Key) (c : Change) (cs : List Change) → times k (c ∷ cs) ≤ 1 → times k cs ≤ 1
once_rest k c cs l = by_key (same_key (key_of c) k) l
  where
    by_key : (b : Bool) → cond b (suc (times k cs)) (times k cs) ≤ 1 → times k cs ≤ 1
    by_key true l = omega (arith, l)
    by_key false l = l
