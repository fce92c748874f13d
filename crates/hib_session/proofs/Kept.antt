-- What is held of a key after one more entry of its session.
use Rattle.std.specs.Prelude.{option_and_then, unwrap_or}
use Rattle.std.proofs.Common.{◌≡◌, ℕ, Bool, true, false, cond, not, ◌&&◌, ◌||◌, List, [], ◌∷◌, Some, None, Option, refl, sym, ap, ◌∙◌}
use Rattle.std.proofs.lemmas.Bool.{false≢true, true≢false}
use Rattle.std.specs.List.{list_any}
use Rattle.std.specs.Option.{option_map, option_or}
use Rattle.hib_base.specs.Keys.{same_key}
use Rattle.hib_journal.specs.Types.{Key, Row, Cell, Change, State, Act, Reply, Entry}
use Rattle.hib_journal.specs.Sessions.{Journal}
use Rattle.hib_journal.specs.Held as held
use Rattle.hib_journal.specs.Held.{Instance, Stay, Arrival, arrival, arrived_key, arrived_row, is_break, stay, stay_after, longer, has_left, base_of, last_written, row_written, state_of, cells_set, cells_after, is_inserted, is_undone, removes, deletes, inserts, instance_of, with_cells}
use Rattle.hib_identity_map.specs.Identity.{state_written}
use Rattle.hib_journal.proofs.Words.{is_removed}
use Rattle.hib_session.specs.Memory.{is_unwritten}

-- what an entry makes of the instance of its key

abbrev pub after_write : Row → Instance → Instance
after_write r i = record { key = i.key; state = state_written i.state; base = Some r; row = record { version = r.version; cells = i.row.cells } }

abbrev pub after_removal : Instance → Instance
after_removal i = record { key = i.key; state = State.Removed; base = i.base; row = i.row }

abbrev pub after_sets : List (ℕ × Cell) → Instance → Instance
after_sets ps i = record { key = i.key; state = i.state; base = i.base; row = record { version = i.row.version; cells = with_cells ps i.row.cells } }

abbrev pub unless_unwritten : Bool → Option Instance → Option Instance
unless_unwritten true o = None
unless_unwritten false o = option_map after_removal o

abbrev pub later : Bool → Key → Act → Reply → Option Instance → Option Instance
later u k (Act.Write (Change.Insert j r)) x o = cond (same_key j k) (option_map (after_write r) o) o
later u k (Act.Write (Change.Update j v r)) x o = cond (same_key j k) (option_map (after_write r) o) o
later u k (Act.Write (Change.Delete j v)) x o = cond (same_key j k) None o
later u k (Act.Remove j) Reply.Removed o = cond (same_key j k) (unless_unwritten u o) o
later u k (Act.Set j ps) Reply.Set o = cond (same_key j k) (option_map (after_sets ps) o) o
later u k _ x o = o

-- an instance of these parts, unless it has left
abbrev parts : Key → Bool → Option Row → Bool → List Cell → Row → Option Instance
parts k gone base removed cells made =
    cond gone None (Some (record { key = k; state = state_of base removed; base = base; row = record { version = (unwrap_or base made).version; cells = cells } }))

abbrev is_gone : Bool → Key → Act → Reply → Bool
is_gone u k a r = deletes k a || (removes k a r && u)

or_or : (a b c : Option Row) → option_or (option_or a b) c ≡ option_or a (option_or b c)
or_or None b c = refl
or_or (Some x) b c = refl

base_longer : (k : Key) (e : Entry) (a : Arrival) (m : Journal) → base_of k (a, e ∷ m) ≡ option_or (row_written k e.act) (base_of k (a, m))
base_longer k e (Arrival.Read j r) m = or_or (row_written k e.act) (last_written k m) (Some r)
base_longer k e (Arrival.Made j r) m = refl

left_longer : (k : Key) (e : Entry) (a : Arrival) (m : Journal) → has_left k (a, e ∷ m) ≡ (is_gone (is_unwritten k (Some (a, m))) k e.act e.reply || has_left k (a, m))
left_longer k e (Arrival.Read j r) m = by (deletes k e.act) (removes k e.act e.reply) (list_any (λ e. deletes k e.act) m)
  where
    by : (d r x : Bool) → (d || x) ≡ ((d || (r && false)) || x)
    by true r x = refl
    by false true x = refl
    by false false x = refl
left_longer k e (Arrival.Made j r) m = by (deletes k e.act) (list_any (λ e. deletes k e.act) m) (removes k e.act e.reply) (not (is_inserted k m)) (is_undone k m)
  where
    by : (d x r n u : Bool) → ((d || x) || ((r && n) || u)) ≡ ((d || (r && n)) || (x || u))
    by true x r n u = refl
    by false true true true u = refl
    by false true true false u = refl
    by false true false n u = refl
    by false false r n u = refl

-- by its parts
held_longer : (k : Key) (e : Entry) (a : Arrival) (m : Journal) → option_and_then (λ s. cond (has_left k s) None (Some (instance_of k s))) (Some (a, e ∷ m)) ≡
    parts k (is_gone (is_unwritten k (Some (a, m))) k e.act e.reply || has_left k (a, m)) (option_or (row_written k e.act) (base_of k (a, m)))
    (removes k e.act e.reply || is_removed k m) (cells_after k e.act e.reply (cells_set k m (arrived_row a).cells)) (arrived_row a)
held_longer k e a m = rw (left_longer k e a m, base_longer k e a m) refl

-- a written instance has a base
written_some : (k : Key) (m : Journal) → is_inserted k m ≡ true → (r : Row) × (last_written k m ≡ Some r)
written_some k [] h = absurd (false≢true h)
written_some k (e ∷ m) h = by_act e.act (row_written k e.act) refl h (λ i. written_some k m i)
  where
    by_act : (x : Act) (o : Option Row) → row_written k x ≡ o → (inserts k x || is_inserted k m) ≡ true → (is_inserted k m ≡ true → (r : Row) × (last_written k m ≡ Some r)) →
        (r : Row) × (option_or o (last_written k m) ≡ Some r)
    by_act x (Some r) p h i = (r, refl)
    by_act (Act.Write (Change.Insert j y)) None p h i = by_test (same_key j k) p h i
      where
        by_test : (b : Bool) → cond b (Some y) None ≡ None → (b || is_inserted k m) ≡ true → (is_inserted k m ≡ true → (r : Row) × (last_written k m ≡ Some r)) →
            (r : Row) × (last_written k m ≡ Some r)
        by_test true p h i = absurd (cc)
        by_test false p h i = i h
    by_act _ None p h i = i h

undone_removed : (k : Key) (m : Journal) → is_inserted k m ≡ false → is_undone k m ≡ false → is_removed k m ≡ false
undone_removed k [] n u = refl
undone_removed k (e ∷ m) n u = by (inserts k e.act) (is_inserted k m) refl (removes k e.act e.reply) (is_undone k m) refl (is_removed k m) n u (λ i v. undone_removed k m i v)
  where
    by : (x y : Bool) → is_inserted k m ≡ y → (r w : Bool) → is_undone k m ≡ w → (s : Bool) → (x || y) ≡ false → ((r && not y) || w) ≡ false → (y ≡ false → w ≡ false → s ≡ false) → (r || s) ≡ false
    by true y p r w q s n u f = absurd (true≢false n)
    by false true p r w q s n u f = absurd (true≢false n)
    by false false p true w q s n u f = absurd (true≢false u)
    by false false p false w q s n u f = f refl u

-- it is not marked before it has a base
clean : (k : Key) (a : Arrival) (m : Journal) → has_left k (a, m) ≡ false → base_of k (a, m) ≡ None → is_removed k m ≡ false
clean k (Arrival.Read j r) m l b = absurd (no (last_written k m) b)
  where
    no : (o : Option Row) → option_or o (Some r) ≡ None → ⊥
    no None x = cc
    no (Some y) x = cc
clean k (Arrival.Made j r) m l b = undone_removed k m (not_inserted (is_inserted k m) refl) (second (list_any (λ e. deletes k e.act) m) (is_undone k m) l)
  where
    second : (x y : Bool) → (x || y) ≡ false → y ≡ false
    second true y h = absurd (true≢false h)
    second false y h = h

    not_inserted : (x : Bool) → is_inserted k m ≡ x → is_inserted k m ≡ false
    not_inserted false p = p
    not_inserted true p = let w : (r : Row) × (last_written k m ≡ Some r) = written_some k m p in let n : Some w.0 ≡ None = sym w.1 ∙ b in absurd (cc)

based : (k : Key) (a : Arrival) (m : Journal) → is_unwritten k (Some (a, m)) ≡ false → (r : Row) × (base_of k (a, m) ≡ Some r)
based k (Arrival.Read j x) m u = by (last_written k m)
  where
    by : (o : Option Row) → (r : Row) × (option_or o (Some x) ≡ Some r)
    by None = (x, refl)
    by (Some y) = (y, refl)
based k (Arrival.Made j x) m u = written_some k m (by (is_inserted k m) u)
  where
    by : (b : Bool) → not b ≡ false → b ≡ true
    by true h = refl
    by false h = absurd (true≢false h)

-- the parts after a write, a removal and a set

write_parts : (k : Key) (gone : Bool) (base : Option Row) (removed : Bool) (cells : List Cell) (made r : Row) → (gone ≡ false → base ≡ None → removed ≡ false) →
    parts k gone (Some r) removed cells made ≡ option_map (after_write r) (parts k gone base removed cells made)
write_parts k true base removed cells made r h = refl
write_parts k false (Some b) true cells made r h = refl
write_parts k false (Some b) false cells made r h = refl
write_parts k false None false cells made r h = refl
write_parts k false None true cells made r h = absurd (true≢false (h refl refl))

mark_parts : (k : Key) (gone : Bool) (base : Option Row) (removed : Bool) (cells : List Cell) (made r : Row) → base ≡ Some r →
    parts k gone base true cells made ≡ option_map after_removal (parts k gone base removed cells made)
mark_parts k true base removed cells made r e = refl
mark_parts k false base true cells made r e = rw e refl
mark_parts k false base false cells made r e = rw e refl

set_parts : (k : Key) (gone : Bool) (base : Option Row) (removed : Bool) (cells : List Cell) (made : Row) (ps : List (ℕ × Cell)) →
    parts k gone base removed (with_cells ps cells) made ≡ option_map (after_sets ps) (parts k gone base removed cells made)
set_parts k true base removed cells made ps = refl
set_parts k false base removed cells made ps = refl

module _ (k : Key) (a : Arrival) (m : Journal) where
  abbrev was : Option Instance
  was = option_and_then (λ s. cond (has_left k s) None (Some (instance_of k s))) (Some (a, m))

  abbrev now_by : Act → Reply → Option Instance
  now_by x r =
      parts k (is_gone (is_unwritten k (Some (a, m))) k x r || has_left k (a, m)) (option_or (row_written k x) (base_of k (a, m)))
      (removes k x r || is_removed k m) (cells_after k x r (cells_set k m (arrived_row a).cells)) (arrived_row a)

  write_at : (b : Bool) (r : Row) → parts k (has_left k (a, m)) (option_or (cond b (Some r) None) (base_of k (a, m))) (is_removed k m) (cells_set k m (arrived_row a).cells) (arrived_row a)
      ≡ cond b (option_map (after_write r) was) was
  write_at true r = write_parts k (has_left k (a, m)) (base_of k (a, m)) (is_removed k m) (cells_set k m (arrived_row a).cells) (arrived_row a) r (clean k a m)
  write_at false r = refl

  delete_at : (b : Bool) → parts k ((b || false) || has_left k (a, m)) (base_of k (a, m)) (is_removed k m) (cells_set k m (arrived_row a).cells) (arrived_row a) ≡ cond b None was
  delete_at true = refl
  delete_at false = refl

  remove_at : (b u : Bool) → is_unwritten k (Some (a, m)) ≡ u →
      parts k ((b && u) || has_left k (a, m)) (base_of k (a, m)) (b || is_removed k m) (cells_set k m (arrived_row a).cells) (arrived_row a) ≡ cond b (unless_unwritten u was) was
  remove_at false u p = refl
  remove_at true true p = refl
  remove_at true false p =
      let r : (r : Row) × (base_of k (a, m) ≡ Some r) = based k a m p in
      mark_parts k (has_left k (a, m)) (base_of k (a, m)) (is_removed k m) (cells_set k m (arrived_row a).cells) (arrived_row a) r.0 r.1

  set_at : (b : Bool) (ps : List (ℕ × Cell)) → parts k (has_left k (a, m)) (base_of k (a, m)) (is_removed k m) (cond b (with_cells ps (cells_set k m (arrived_row a).cells)) (cells_set k m (arrived_row a).cells)) (arrived_row a)
      ≡ cond b (option_map (after_sets ps) was) was
  set_at true ps = set_parts k (has_left k (a, m)) (base_of k (a, m)) (is_removed k m) (cells_set k m (arrived_row a).cells) (arrived_row a) ps
  set_at false ps = refl

  now_later : (x : Act) (r : Reply) → now_by x r ≡ later (is_unwritten k (Some (a, m))) k x r was
  now_later (Act.Write (Change.Insert j y)) r = write_at (same_key j k) y
  now_later (Act.Write (Change.Update j v y)) r = write_at (same_key j k) y
  now_later (Act.Write (Change.Delete j v)) r = delete_at (same_key j k)
  now_later (Act.Remove j) Reply.Removed = remove_at (same_key j k) (is_unwritten k (Some (a, m))) refl
  now_later (Act.Set j ps) Reply.Set = set_at (same_key j k) ps
  now_later _ r = refl

later_none : (u : Bool) (k : Key) (x : Act) (r : Reply) → later u k x r None ≡ None
later_none u k (Act.Write (Change.Insert j y)) r = by (same_key j k)
  where
    by : (b : Bool) → ◌≡◌ {A = Option Instance} (cond b None None) None
    by true = refl
    by false = refl
later_none u k (Act.Write (Change.Update j v y)) r = by (same_key j k)
  where
    by : (b : Bool) → ◌≡◌ {A = Option Instance} (cond b None None) None
    by true = refl
    by false = refl
later_none u k (Act.Write (Change.Delete j v)) r = by (same_key j k)
  where
    by : (b : Bool) → ◌≡◌ {A = Option Instance} (cond b None None) None
    by true = refl
    by false = refl
later_none u k (Act.Remove j) Reply.Removed = by (same_key j k) u
  where
    by : (b u : Bool) → cond b (unless_unwritten u None) None ≡ None
    by true true = refl
    by true false = refl
    by false u = refl
later_none u k (Act.Set j ps) Reply.Set = by (same_key j k)
  where
    by : (b : Bool) → ◌≡◌ {A = Option Instance} (cond b None None) None
    by true = refl
    by false = refl
later_none u k _ r = refl

stay_longer : (k : Key) (e : Entry) (o : Option Stay) → option_and_then (λ s. cond (has_left k s) None (Some (instance_of k s))) (longer e o) ≡ later (is_unwritten k o) k e.act e.reply (option_and_then (λ s. cond (has_left k s) None (Some (instance_of k s))) o)
stay_longer k e None = sym (later_none false k e.act e.reply)
stay_longer k e (Some s) = held_longer k e s.0 s.1 ∙ now_later k s.0 s.1 e.act e.reply

-- whether the key of an arrival is another one, or nothing arrives
abbrev pub arrives_other : Key → Option Arrival → Bool
arrives_other k None = true
arrives_other k (Some a) = not (same_key (arrived_key a) k)

other_stay : (k : Key) (e : Entry) (a : Option Arrival) (o : Option Stay) → arrives_other k a ≡ true → stay_after k e a o ≡ longer e o
other_stay k e None o p = refl
other_stay k e (Some a) o p = by_test (same_key (arrived_key a) k) p
  where
    by_test : (b : Bool) → not b ≡ true → cond b (Some (a, [])) (longer e o) ≡ longer e o
    by_test true p = absurd (false≢true p)
    by_test false p = refl

pub later_stay : (k : Key) (e : Entry) (m : Journal) → is_break e.act e.reply ≡ false → arrives_other k (arrival e.act e.reply) ≡ true → stay k (e ∷ m) ≡ longer e (stay k m)
later_stay k e m b a = rw b (other_stay k e (arrival e.act e.reply) (stay k m) a)

-- an entry at which nothing of the key arrives
pub held_later : (k : Key) (e : Entry) (m : Journal) → is_break e.act e.reply ≡ false → arrives_other k (arrival e.act e.reply) ≡ true →
    held.held (e ∷ m) k ≡ later (is_unwritten k (stay k m)) k e.act e.reply (held.held m k)
unfolding held.held
held_later k e m b a = ap (λ x. option_and_then (λ s. cond (has_left k s) None (Some (instance_of k s))) x) (later_stay k e m b a) ∙ stay_longer k e (stay k m)

-- an instance that arrives
abbrev pub fresh : Key → Arrival → Instance
fresh k (Arrival.Read j r) = record { key = k; state = State.Managed; base = Some r; row = r }
fresh k (Arrival.Made j r) = record { key = k; state = State.New; base = None; row = r }

held_fresh : (k : Key) (a : Arrival) → option_and_then (λ s. cond (has_left k s) None (Some (instance_of k s))) (Some (a, [])) ≡ Some (fresh k a)
held_fresh k (Arrival.Read j r) = refl
held_fresh k (Arrival.Made j r) = refl

pub held_arrives : (k : Key) (e : Entry) (m : Journal) (a : Arrival) → is_break e.act e.reply ≡ false → arrival e.act e.reply ≡ Some a → same_key (arrived_key a) k ≡ true →
    held.held (e ∷ m) k ≡ Some (fresh k a)
unfolding held.held
held_arrives k e m a b c d =
    let s : stay k (e ∷ m) ≡ Some (a, []) = rw (b, c, d) refl in
    ap (λ x. option_and_then (λ s. cond (has_left k s) None (Some (instance_of k s))) x) s ∙ held_fresh k a

pub held_broken : (k : Key) (e : Entry) (m : Journal) → is_break e.act e.reply ≡ true → held.held (e ∷ m) k ≡ None
unfolding held.held
held_broken k e m b = rw b refl
