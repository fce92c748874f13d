-- A session changes no row of a read-only entity: what it holds of such a key is as it arrived, so it writes no update of it.
use Rattle.std.proofs.Common.{◌≡◌, ℕ, ◌⊎◌, inl, inr, Bool, true, false, cond, List, [], ◌∷◌, ◌++◌, Some, None, Option, refl, ap, sym, ◌∙◌, subst, arith}
use Rattle.std.proofs.lemmas.Bool.{true≢false, false≢true, and_from, le-leb}
use Rattle.std.specs.Prelude.{ℤ, pos, negsuc, int_le, option_and_then, unwrap_or, is_some}
use Rattle.std.specs.Option.{option_or}
use Rattle.std.specs.List.{flat_map, filter_map, cons_option}
use Rattle.hib_journal.specs.Types.{State, Key, Row, Cell, Change, Strategy, Mode, Script, Act, Reply, Entry}
use Rattle.hib_base.specs.Keys.{same_key}
use Rattle.hib_base.specs.Tables.{Tables, key_of}
use Rattle.hib_journal.specs.Sessions.{Journal, own, is_by, changes, changes_in, floor_in}
use Rattle.std.specs.Str.{bytes_eq}
use Rattle.std.proofs.lemmas.Slice.Eq.{bytes_eq-Decides}
use Rattle.hib_journal.specs.Query.{same_cell}
use Rattle.hib_journal.specs.Held.{Arrival, arrival, arrived_row, Stay, stay, stay_after, is_break, row_written, last_written, base_of, has_left, cells_set, cells_after, with_cells, instance_of, Instance, held, same_cells, next_version, pending, arrived, removed, insert_by, update_by, delete_by, is_fresh}
use Rattle.hib_journal.specs.Next
use Rattle.hib_journal.specs.Next.{tables_in, is_in, strategy}
use Rattle.hib_journal.specs.Legal.{IsLegal, IsStep, reply_of, fault_of, set_unless, row_of}
use Rattle.hib_journal.proofs.Shapes.{insert_of, update_of, delete_of}
use Rattle.hib_base.proofs.Tables.{Tested, tested, same_key_eq}
use Rattle.hib_law.proofs.HeldRows.{Brings, brings, no_arrival, longer_some}
use Rattle.hib_journal.proofs.Plans.{Allows, allows_join, runs_each}
use Rattle.hib_law.proofs.Walks
use Rattle.hib_law.proofs.Walks.{AreGood, is_find_act, is_list_act, is_end_act, is_own_act}
use Rattle.hib_law.proofs.Flushes.{held_key, insert_key, update_key, delete_key}
use Rattle.hib_law.proofs.Basics.{none_some, some_same}

-- cells are the same as themselves

int_refl : (a : ℤ) → int_le a a ≡ true
int_refl (pos n) = le-leb n n (omega arith)
int_refl (negsuc n) = le-leb n n (omega arith)

text_refl : (xs : List ℕ) → bytes_eq xs xs ≡ true
text_refl xs = (bytes_eq-Decides xs xs).1 refl

cell_refl : (c : Cell) → same_cell c c ≡ true
cell_refl (Cell.Int a) = and_from (int_le a a) (int_le a a) (int_refl a) (int_refl a)
cell_refl (Cell.Text a) = text_refl a
cell_refl (Cell.Bool true) = refl
cell_refl (Cell.Bool false) = refl

cells_refl : (xs : List Cell) → same_cells xs xs ≡ true
cells_refl [] = refl
cells_refl (x ∷ xs) = and_from (same_cell x x) (same_cells xs xs) (cell_refl x) (cells_refl xs)

abbrev pub AllowedOnly : Key → Journal → Act → Type 0
AllowedOnly k m (Act.Write (Change.Update j v r)) = same_key j k ≡ false
AllowedOnly k m _ = Unit {0}

-- no set of k is answered Set
abbrev pub Refuses : Key → Journal → Entry → Type 0
Refuses k m e = (ps : List (ℕ × Cell)) → e.act ≡ Act.Set k ps → e.reply ≡ Reply.Set → ⊥

-- what is held of k has the cells that arrived
abbrev pub IsTrue : Key → Arrival → Journal → Type 0
IsTrue k a l = (cells_set k l (arrived_row a).cells ≡ (arrived_row a).cells) × ((b : Row) → last_written k l ≡ Some b → b.cells ≡ (arrived_row a).cells)

abbrev pub IsAsArrived : Key → Journal → Type 0
IsAsArrived k m = (a : Arrival) (l : Journal) → stay k m ≡ Some (a, l) → IsTrue k a l

set_none : (k : Key) (m : Journal) (e : Entry) (cs : List Cell) → Refuses k m e → cells_after k e.act e.reply cs ≡ cs
set_none k m e cs f = by_act e.act e.reply refl refl
  where
    by_key : (j : Key) (ps : List (ℕ × Cell)) → e.act ≡ Act.Set j ps → e.reply ≡ Reply.Set → Tested (same_key j k) → cond (same_key j k) (with_cells ps cs) cs ≡ cs
    by_key j ps p q (inl s) = absurd (f ps (p ∙ ap (λ z. Act.Set z ps) (same_key_eq j k s)) q)
    by_key j ps p q (inr s) = rw s refl

    by_act : (a : Act) (r : Reply) → e.act ≡ a → e.reply ≡ r → cells_after k a r cs ≡ cs
    by_act (Act.Set j ps) Reply.Set p q = by_key j ps p q (tested (same_key j k))
    by_act _ _ p q = refl

-- an entry keeps it, if what it writes of k has those cells
arrived_on : (k : Key) (m : Journal) (e : Entry) → IsAsArrived k m → Refuses k m e →
    ((a : Arrival) (l : Journal) (r : Row) → stay k m ≡ Some (a, l) → row_written k e.act ≡ Some r → r.cells ≡ (arrived_row a).cells) → IsAsArrived k (e ∷ m)
arrived_on k m e w f g a l p = by_break (tested (is_break e.act e.reply))
  where
    later : (d : Journal) → stay k m ≡ Some (a, d) → l ≡ e ∷ d → IsTrue k a l
    later d q u = subst (λ z. IsTrue k a z) (sym u) (set_none k m e (cells_set k d (arrived_row a).cells) f ∙ (w a d q).0, written (row_written k e.act) refl)
      where
        written : (o : Option Row) → row_written k e.act ≡ o → (b : Row) → option_or (row_written k e.act) (last_written k d) ≡ Some b → b.cells ≡ (arrived_row a).cells
        written None x b y = let z : last_written k d ≡ Some b = rw x at y in (w a d q).1 b z
        written (Some r) x b y = let z : Some r ≡ Some b = rw x at y in ap (λ i. i.cells) (sym (some_same z)) ∙ g a d r q x

    by_arrival : Brings k (arrival e.act e.reply) → stay_after k e (arrival e.act e.reply) (stay k m) ≡ Some (a, l) → IsTrue k a l
    by_arrival (Brings.It z u v) q =
        let x : Some (z, []) ≡ Some (a, l) = rw (u, v) at q in
        let y : (z, []) ≡ (a, l) = some_same x in
        subst (λ s. IsTrue k s.0 s.1) y (refl, λ b c. none_some c)
    by_arrival (Brings.Other o) q =
        let d : (d : Journal) × (stay k m ≡ Some (a, d)) × (l ≡ e ∷ d) = longer_some e (stay k m) a l (sym (no_arrival k (arrival e.act e.reply) e (stay k m) o) ∙ q) in
        later d.0 d.1 d.2

    by_break : Tested (is_break e.act e.reply) → IsTrue k a l
    by_break (inl x) = let y : ◌≡◌ {A = Option Stay} None (Some (a, l)) = rw x at p in none_some y
    by_break (inr x) = let y : stay_after k e (arrival e.act e.reply) (stay k m) ≡ Some (a, l) = rw x at p in by_arrival (brings k (arrival e.act e.reply)) y

-- acts that write nothing
abbrev is_plain : Act → Bool
is_plain (Act.Write c) = false
is_plain _ = true

plain_allowed : (k : Key) (m : Journal) (a : Act) → is_plain a ≡ true → AllowedOnly k m a
plain_allowed k m (Act.Write c) p = absurd (false≢true p)
plain_allowed k m _ p = tt

plain_none : (k : Key) (a : Act) → is_plain a ≡ true → row_written k a ≡ None
plain_none k (Act.Write c) p = absurd (false≢true p)
plain_none k _ p = refl

plain_on : (k : Key) (m : Journal) (e : Entry) → IsAsArrived k m → Refuses k m e → is_plain e.act ≡ true → IsAsArrived k (e ∷ m)
plain_on k m e w f p = arrived_on k m e w f (λ a l r q x. none_some (sym (plain_none k e.act p) ∙ x))

find_plain : (a : Act) → is_find_act a ≡ true → is_plain a ≡ true
find_plain (Act.Find k) p = refl
find_plain (Act.Get k t) p = refl
find_plain (Act.Load k) p = refl
find_plain (Act.Put k r t f) p = refl
find_plain _ p = absurd (false≢true p)

list_plain : (a : Act) → is_list_act a ≡ true → is_plain a ≡ true
list_plain (Act.Look q) p = refl
list_plain (Act.Check q t) p = refl
list_plain (Act.List q) p = refl
list_plain (Act.Keep q t l) p = refl
list_plain _ p = absurd (false≢true p)

own_plain : (a : Act) → is_own_act a ≡ true → is_plain a ≡ true
own_plain (Act.Set k cells) p = refl
own_plain (Act.Remove k) p = refl
own_plain Act.Clear p = refl
own_plain _ p = absurd (false≢true p)

end_plain : (a : Act) → is_end_act a ≡ true → is_plain a ≡ true
end_plain (Act.AfterInsert k r f) p = refl
end_plain (Act.AfterUpdate k i r) p = refl
end_plain (Act.Unlock k i) p = refl
end_plain (Act.RegionRemove k) p = refl
end_plain _ p = absurd (false≢true p)

-- a pending change is of what is held of its key
abbrev IsFrom : Journal → Change → Type 0
IsFrom m c = (insert_of (held m (key_of c)) ≡ Some c) ⊎ ((update_of (held m (key_of c)) ≡ Some c) ⊎ (delete_of (held m (key_of c)) ≡ Some c))

abbrev AllFrom : Journal → List Change → Type 0
AllFrom m [] = Unit {0}
AllFrom m (c ∷ cs) = IsFrom m c × AllFrom m cs

from_append : (m : Journal) (xs ys : List Change) → AllFrom m xs → AllFrom m ys → AllFrom m (xs ++ ys)
from_append m [] ys a b = b
from_append m (x ∷ xs) ys a b = (a.0, from_append m xs ys a.1 b)

from_filter : (m : Journal) (f : Option Instance → Option Change) → ((z : Instance) (c : Change) → f (Some z) ≡ Some c → key_of c ≡ z.key) → f None ≡ None →
    ((c : Change) → f (held m (key_of c)) ≡ Some c → IsFrom m c) → (ks : List Key) → AllFrom m (filter_map (λ j. f (held m j)) ks)
from_filter m f g n h [] = tt
from_filter m f g n h (j ∷ ks) = by_change (f (held m j)) refl (from_filter m f g n h ks)
  where
    by_held : (c : Change) (i : Option Instance) → held m j ≡ i → f i ≡ Some c → f (held m (key_of c)) ≡ Some c
    by_held c None p e = none_some (sym n ∙ e)
    by_held c (Some z) p e = subst (λ y. f (held m y) ≡ Some c) (sym (g z c e ∙ held_key m j z p)) (rw p e)

    by_change : (o : Option Change) → f (held m j) ≡ o → AllFrom m (filter_map (λ j. f (held m j)) ks) →
        AllFrom m (cons_option (f (held m j)) (filter_map (λ j. f (held m j)) ks))
    by_change None p a = rw p a
    by_change (Some c) p a = rw p (h c (by_held c (held m j) refl p), a)

from_pending : (m : Journal) → AllFrom m (pending m)
unfolding pending
from_pending m =
    from_append m (filter_map (λ j. insert_of (held m j)) (arrived m) ++ filter_map (λ j. update_of (held m j)) (arrived m)) (filter_map (λ j. delete_of (held m j)) (removed m))
    (from_append m (filter_map (λ j. insert_of (held m j)) (arrived m)) (filter_map (λ j. update_of (held m j)) (arrived m))
    (from_filter m insert_of insert_key refl (λ c e. inl e) (arrived m)) (from_filter m update_of update_key refl (λ c e. inr (inl e)) (arrived m)))
    (from_filter m delete_of delete_key refl (λ c e. inr (inr e)) (removed m))

-- what is held, if it has the cells that arrived
pub record IsHeldAs (k : Key) (m : Journal) (z : Instance) : Type 0 where
  pub arrival : Arrival
  pub rest : Journal
  pub stay : stay k m ≡ Some (arrival, rest)
  pub row : z.row.cells ≡ (arrived_row arrival).cells
  pub base : (b : Row) → z.base ≡ Some b → b.cells ≡ (arrived_row arrival).cells

held_as : (k : Key) (m : Journal) (z : Instance) → IsAsArrived k m → held m k ≡ Some z → IsHeldAs k m z
unfolding held
held_as k m z w e = by_stay (stay k m) refl e
  where
    base_cells : (a : Arrival) (l : Journal) → IsTrue k a l → (b : Row) → base_of k (a, l) ≡ Some b → b.cells ≡ (arrived_row a).cells
    base_cells (Arrival.Read j r) l t b q = by_written (last_written k l) refl q
      where
        by_written : (o : Option Row) → last_written k l ≡ o → option_or o (Some r) ≡ Some b → b.cells ≡ r.cells
        by_written None x y = ap (λ i. i.cells) (sym (some_same y))
        by_written (Some d) x y = t.1 b (x ∙ y)
    base_cells (Arrival.Made j r) l t b q = t.1 b q

    by_left : (a : Arrival) (l : Journal) → stay k m ≡ Some (a, l) → (x : Bool) → cond x None (Some (instance_of k (a, l))) ≡ Some z → IsHeldAs k m z
    by_left a l p true e = none_some e
    by_left a l p false e =
        let g : instance_of k (a, l) ≡ z = some_same e in
        let t : IsTrue k a l = w a l p in
        record {
          arrival = a;
          rest = l;
          stay = p;
          row = ap (λ i. i.row.cells) (sym g) ∙ t.0;
          base = λ b q. base_cells a l t b (ap (λ i. i.base) g ∙ q);
        }

    by_stay : (s : Option Stay) → stay k m ≡ s → option_and_then (λ x. cond (has_left k x) None (Some (instance_of k x))) s ≡ Some z → IsHeldAs k m z
    by_stay None p e = none_some e
    by_stay (Some s) p e = by_left s.0 s.1 p (has_left k s) e

no_update : (k : Key) (z : Instance) (m : Journal) (c : Change) → IsHeldAs k m z → update_of (Some z) ≡ Some c → ⊥
no_update k z m c h e = by_state z.state z.base refl e
  where
    by_cells : (b : Row) → same_cells z.row.cells b.cells ≡ true → (x : Bool) → same_cells z.row.cells b.cells ≡ x →
        cond x None (Some (Change.Update z.key b.version (record { version = next_version b.version; cells = z.row.cells }))) ≡ Some c → ⊥
    by_cells b t true p e = none_some e
    by_cells b t false p e = true≢false (sym t ∙ p)

    by_state : (t : State) (b : Option Row) → z.base ≡ b → update_by t z.key z.row b ≡ Some c → ⊥
    by_state State.New b q e = none_some e
    by_state State.Removed b q e = none_some e
    by_state State.Managed None q e = none_some e
    by_state State.Managed (Some b) q e =
        by_cells b (rw (h.row, h.base b q) (cells_refl (arrived_row h.arrival).cells)) (same_cells z.row.cells b.cells) refl e

insert_row : (z : Instance) (j : Key) (r : Row) → insert_of (Some z) ≡ Some (Change.Insert j r) → z.row ≡ r
insert_row z j r e = by_state z.state e
  where
    by_state : (t : State) → insert_by t z.key z.row ≡ Some (Change.Insert j r) → z.row ≡ r
    by_state State.New e = let g : Change.Insert z.key z.row ≡ Change.Insert j r = some_same e in cc
    by_state State.Managed e = none_some e
    by_state State.Removed e = none_some e

module _ (k : Key) where
  abbrev Allow : List Act → Journal → (Journal → Type 0) → Type 0
  Allow = Allows (AllowedOnly k) (Refuses k)

  abbrev W : Journal → Type 0
  W = IsAsArrived k

  keeps_plain : (a : Act) → is_plain a ≡ true → Walks.Keeps (AllowedOnly k) (Refuses k) W a
  keeps_plain a p m w = (plain_allowed k m a p, λ e q r. plain_on k m e w r (rw q p))

  module _ (start : Journal) (w0 : W start) where
    -- in the midst of a flush that began at start
    abbrev Flushing : Journal → Type 0
    Flushing m = W m × ((a : Arrival) (l : Journal) → stay k start ≡ Some (a, l) → (d : Journal) × (stay k m ≡ Some (a, d)))

    stays_on : (m : Journal) (e : Entry) → arrival e.act e.reply ≡ None → is_break e.act e.reply ≡ false →
        ((a : Arrival) (l : Journal) → stay k start ≡ Some (a, l) → (d : Journal) × (stay k m ≡ Some (a, d))) →
        (a : Arrival) (l : Journal) → stay k start ≡ Some (a, l) → (d : Journal) × (stay k (e ∷ m) ≡ Some (a, d))
    stays_on m e n b f a l p = let d : (d : Journal) × (stay k m ≡ Some (a, d)) = f a l p in (e ∷ d.0, rw (b, n, d.1) refl)

    -- an act of a flush other than a Write
    before_on : (m : Journal) (e : Entry) (a : Act) → e.act ≡ a → is_plain a ≡ true → ((r : Reply) → arrival a r ≡ None) → ((r : Reply) → is_break a r ≡ false) →
        Flushing m → Refuses k m e → Flushing (e ∷ m)
    before_on m e a p n x y w f = (plain_on k m e w.0 f (rw p n), stays_on m e (rw p (x e.reply)) (rw p (y e.reply)) w.1)

    allow_one : (a : Act) (m : Journal) → is_plain a ≡ true → ((r : Reply) → arrival a r ≡ None) → ((r : Reply) → is_break a r ≡ false) →
        Flushing m → Allow (a ∷ []) m Flushing
    allow_one a m n x y w = (plain_allowed k m a n, λ e p r. before_on m e a p n x y w r)

    write_allowed : (c : Change) (m : Journal) → IsFrom start c → AllowedOnly k m (Act.Write c)
    write_allowed (Change.Insert j r) m f = tt
    write_allowed (Change.Delete j v) m f = tt
    write_allowed (Change.Update j v r) m f = by_key (tested (same_key j k))
      where
        by_held : (i : Option Instance) → held start k ≡ i → (insert_of i ≡ Some (Change.Update j v r)) ⊎ ((update_of i ≡ Some (Change.Update j v r)) ⊎ (delete_of i ≡ Some (Change.Update j v r))) → ⊥
        by_held None p (inl e) = none_some e
        by_held None p (inr (inl e)) = none_some e
        by_held None p (inr (inr e)) = none_some e
        by_held (Some z) p (inl e) = not_insert z.state e
          where
            not_insert : (t : State) → insert_by t z.key z.row ≡ Some (Change.Update j v r) → ⊥
            not_insert State.New e = let g : Change.Insert z.key z.row ≡ Change.Update j v r = some_same e in cc
            not_insert State.Managed e = none_some e
            not_insert State.Removed e = none_some e
        by_held (Some z) p (inr (inl e)) = no_update k z start (Change.Update j v r) (held_as k start z w0 p) e
        by_held (Some z) p (inr (inr e)) = not_delete z.state z.base e
          where
            not_delete : (t : State) (b : Option Row) → delete_by t z.key b ≡ Some (Change.Update j v r) → ⊥
            not_delete State.New b e = none_some e
            not_delete State.Managed b e = none_some e
            not_delete State.Removed None e = none_some e
            not_delete State.Removed (Some b) e = let g : Change.Delete z.key b.version ≡ Change.Update j v r = some_same e in cc

        by_key : Tested (same_key j k) → same_key j k ≡ false
        by_key (inl s) =
            let g : IsFrom start (Change.Update j v r) = f in
            let h : (insert_of (held start k) ≡ Some (Change.Update j v r)) ⊎ ((update_of (held start k) ≡ Some (Change.Update j v r)) ⊎ (delete_of (held start k) ≡ Some (Change.Update j v r))) =
            subst (λ y. (insert_of (held start y) ≡ Some (Change.Update j v r)) ⊎ ((update_of (held start y) ≡ Some (Change.Update j v r)) ⊎ (delete_of (held start y) ≡ Some (Change.Update j v r)))) (same_key_eq j k s) g in
            absurd (by_held (held start k) refl h)
        by_key (inr s) = s

    -- what a write of a flush writes of k has the cells that arrived
    written_cells : (c : Change) (m : Journal) → Flushing m → IsFrom start c → (a : Arrival) (l : Journal) (r : Row) → stay k m ≡ Some (a, l) →
        row_written k (Act.Write c) ≡ Some r → r.cells ≡ (arrived_row a).cells
    written_cells (Change.Delete j v) m w f a l r p e = none_some e
    written_cells (Change.Update j v x) m w f a l r p e =
        let g : same_key j k ≡ false = write_allowed (Change.Update j v x) m f in
        let h : ◌≡◌ {A = Option Row} None (Some r) = rw g at e in none_some h
    written_cells (Change.Insert j x) m w f a l r p e = by_key (tested (same_key j k)) e f
      where
        by_held : (i : Option Instance) → held start k ≡ i → (insert_of i ≡ Some (Change.Insert j x)) ⊎ ((update_of i ≡ Some (Change.Insert j x)) ⊎ (delete_of i ≡ Some (Change.Insert j x))) →
            x.cells ≡ (arrived_row a).cells
        by_held None q (inl e) = none_some e
        by_held None q (inr (inl e)) = none_some e
        by_held None q (inr (inr e)) = none_some e
        by_held (Some z) q (inl e) =
            let h : IsHeldAs k start z = held_as k start z w0 q in
            let d : (d : Journal) × (stay k m ≡ Some (h.arrival, d)) = w.1 h.arrival h.rest h.stay in
            let y : (h.arrival, d.0) ≡ (a, l) = some_same (sym d.1 ∙ p) in
            ap (λ i. i.cells) (sym (insert_row z j x e)) ∙ (h.row ∙ ap (λ s. (arrived_row s.0).cells) y)
        by_held (Some z) q (inr (inl e)) = absurd (no_update k z start (Change.Insert j x) (held_as k start z w0 q) e)
        by_held (Some z) q (inr (inr e)) = absurd (not_delete z.state z.base e)
          where
            not_delete : (t : State) (b : Option Row) → delete_by t z.key b ≡ Some (Change.Insert j x) → ⊥
            not_delete State.New b e = none_some e
            not_delete State.Managed b e = none_some e
            not_delete State.Removed None e = none_some e
            not_delete State.Removed (Some b) e = let g : Change.Delete z.key b.version ≡ Change.Insert j x = some_same e in cc

        by_key : Tested (same_key j k) → cond (same_key j k) (Some x) None ≡ Some r → IsFrom start (Change.Insert j x) → r.cells ≡ (arrived_row a).cells
        by_key (inl s) e g =
            let y : Some x ≡ Some r = rw s at e in
            let h : (insert_of (held start k) ≡ Some (Change.Insert j x)) ⊎ ((update_of (held start k) ≡ Some (Change.Insert j x)) ⊎ (delete_of (held start k) ≡ Some (Change.Insert j x))) =
            subst (λ y. (insert_of (held start y) ≡ Some (Change.Insert j x)) ⊎ ((update_of (held start y) ≡ Some (Change.Insert j x)) ⊎ (delete_of (held start y) ≡ Some (Change.Insert j x)))) (same_key_eq j k s) g in
            ap (λ i. i.cells) (sym (some_same y)) ∙ by_held (held start k) refl h
        by_key (inr s) e g = let y : ◌≡◌ {A = Option Row} None (Some r) = rw s at e in none_some y

    allow_write : (c : Change) (m : Journal) → Flushing m → IsFrom start c → Allow (Act.Write c ∷ []) m Flushing
    allow_write c m w f = (
      write_allowed c m f,
      λ e p r. (
        arrived_on k m e w.0 r (λ a l x q y. written_cells c m w f a l x q (ap (λ z. row_written k z) (sym p) ∙ y)),
        stays_on m e (rw p refl) (rw p refl) w.1,
      ),
    )

    module _ (script : Script) where
      allow_cached : (g : Strategy) (j : Key) (v : Option ℕ) (f : ℕ) (m : Journal) → Flushing m → Allow (Next.before_cached g j v f) m Flushing
      allow_cached Strategy.ReadWrite j v f m w = allow_one (Act.Lock j v f) m refl (λ r. refl) (λ r. refl) w
      allow_cached Strategy.Uncached j v f m w = w
      allow_cached Strategy.ReadOnly j v f m w = allow_one (Act.RegionRemove j) m refl (λ r. refl) (λ r. refl) w
      allow_cached Strategy.Nonstrict j v f m w = allow_one (Act.RegionRemove j) m refl (λ r. refl) (λ r. refl) w

      allow_key : (j : Key) (v : Option ℕ) (m : Journal) → Flushing m → Allow (Next.before_key script start j v) m Flushing
      allow_key j v m w = by_in (is_in j (changes_in start))
        where
          by_in : (x : Bool) → Allow (cond x [] (Next.before_cached (strategy script j.entity) j (cond (is_fresh j start) v None) (floor_in start))) m Flushing
          by_in true = w
          by_in false = allow_cached (strategy script j.entity) j (cond (is_fresh j start) v None) (floor_in start) m w

      allow_before : (c : Change) (m : Journal) → Flushing m → Allow (Next.before_write script start c) m Flushing
      allow_before (Change.Insert j r) m w = w
      allow_before (Change.Update j v r) m w = allow_key j v m w
      allow_before (Change.Delete j v) m w = allow_key j v m w

      allow_writes : (cs : List Change) (m : Journal) → AllFrom start cs → Flushing m → Allow (Next.writes script start cs) m W
      allow_writes [] m a w = w.0
      allow_writes (c ∷ cs) m a w =
          allows_join (AllowedOnly k) (Refuses k) (Next.before_write script start c ++ Act.Write c ∷ []) (Next.writes script start cs) m
          Flushing W
          (allows_join (AllowedOnly k) (Refuses k) (Next.before_write script start c) (Act.Write c ∷ []) m Flushing Flushing
          (allow_before c m w) (λ n x. allow_write c n x a.0))
          (λ n x. allow_writes cs n a.1 x)

  module _ (script : Script) where
    goes_flush : Walks.Goes (AllowedOnly k) (Refuses k) (Next.flush script) W W
    goes_flush m w = runs_each (AllowedOnly k) (Refuses k) (Next.flush_of script m (pending m)) m W (by_pending (pending m) (from_pending m))
      where
        by_pending : (cs : List Change) → AllFrom m cs → Allow (Next.flush_of script m cs) m W
        by_pending [] a = w
        by_pending (c ∷ cs) a = (
          tt,
          λ e p r. allow_writes m w script (c ∷ cs) (e ∷ m) a
              (before_on m w m e (Act.Pre (tables_in script (c ∷ cs))) p refl (λ x. refl) (λ x. refl) (w, λ x y q. (y, q)) r),
        )

    allow_stamps : (ts : List ℕ) (m : Journal) → W m → Allow (Next.stamps_of ts) m W
    allow_stamps [] m w = w
    allow_stamps (t ∷ ts) m w = keeps_plain (Act.Stamp (t ∷ ts)) refl m w

    allow_completion : (mode : Mode) (d : Bool) (past m : Journal) → W m → Allow (Next.completion script mode d past) m W
    allow_completion mode d past m w =
        allows_join (AllowedOnly k) (Refuses k) (keys ++ Next.stamps_of (tables_in script (changes_in past))) (Act.End ∷ []) m W W
        (allows_join (AllowedOnly k) (Refuses k) keys (Next.stamps_of (tables_in script (changes_in past))) m W W
        (Walks.allow_keys (AllowedOnly k) (Refuses k) W script mode (λ a p. keeps_plain a (end_plain a p)) past d (changes_in past) (Next.keys_of (changes_in past)) m w)
        (λ n x. allow_stamps (tables_in script (changes_in past)) n x))
        (λ n x. keeps_plain Act.End refl n x)
      where
        keys : List Act
        keys = flat_map (λ j. Next.complete script mode past d (changes_in past) j) (Next.keys_of (changes_in past))

    good : AreGood (AllowedOnly k) (Refuses k) script W W
    good = record {
      find = λ mode j. Walks.goes_find (AllowedOnly k) (Refuses k) W script mode (λ a p. keeps_plain a (find_plain a p)) j;
      persist = λ j r p. keeps_plain (Act.Persist j r) refl;
      own = λ a p. keeps_plain a (own_plain a p);
      flush = goes_flush;
      answer = λ mode q. Walks.goes_answer (AllowedOnly k) (Refuses k) W script mode (λ a p. keeps_plain a (list_plain a p)) q;
      commit = λ mode m w go g. (
        tt,
        λ e p r.
            runs_each (AllowedOnly k) (Refuses k) (Next.completion script mode (Next.is_committed_reply e.reply) (e ∷ m)) (e ∷ m) W
            (allow_completion mode (Next.is_committed_reply e.reply) (e ∷ m) (e ∷ m) (plain_on k m e w r (rw p refl))) go g,
      );
      rollback = λ mode m w go g. (
        tt,
        λ e p r.
            runs_each (AllowedOnly k) (Refuses k) (Next.completion script mode false (e ∷ m)) (e ∷ m) W
            (allow_completion mode false (e ∷ m) (e ∷ m) (plain_on k m e w r (rw p refl))) go g,
      );
      begins = Walks.goes_act (AllowedOnly k) (Refuses k) W Act.Begin (keeps_plain Act.Begin refl);
    }

    module _ (start : Tables) (s : ℕ) (only : strategy script k.entity ≡ Strategy.ReadOnly) where
      refuses : (m h : Journal) (e : Entry) → IsStep script (Some start) h e → Refuses k m e
      refuses m h e t ps p q = elim t.reply [
        | inl r ↦
            let g : e.reply ≡ cond (is_some (row_of (held (own (unwrap_or e.session 0) h) k))) (set_unless (strategy script k.entity)) Reply.Unknown =
            subst (λ a. e.reply ≡ reply_of script start h (unwrap_or e.session 0) e.tick a) p r in
            let f : Reply.Set ≡ cond (is_some (row_of (held (own (unwrap_or e.session 0) h) k))) Reply.ReadOnly Reply.Unknown =
            sym q ∙ (g ∙ ap (λ x. cond (is_some (row_of (held (own (unwrap_or e.session 0) h) k))) (set_unless x) Reply.Unknown) only) in
            not_set (is_some (row_of (held (own (unwrap_or e.session 0) h) k))) f
        | inr f ↦
            let g : fault_of (changes (unwrap_or e.session 0) h) (Act.Set k ps) ≡ Some e.reply = subst (λ a. fault_of (changes (unwrap_or e.session 0) h) a ≡ Some e.reply) p f in
            none_some g
      ]
        where
          not_set : (b : Bool) → Reply.Set ≡ cond b Reply.ReadOnly Reply.Unknown → ⊥
          not_set true e = cc
          not_set false e = cc

      nothing_arrived : IsAsArrived k []
      nothing_arrived a l p = none_some p

      -- an entry of a session writes no update of k
      pub allowed_only : (h : Journal) (e : Entry) → IsLegal script (Some start) h → IsStep script (Some start) h e → is_by s e ≡ true → AllowedOnly k (own s h) e.act
      allowed_only h e l t p = Walks.allowed (AllowedOnly k) (Refuses k) script W W good (Some start) s (λ g d u q. refuses (own s g) g d u) nothing_arrived h e l t p
