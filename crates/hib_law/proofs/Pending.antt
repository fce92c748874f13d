-- What a flush would write of one key: it goes by what is held of the key.
use Rattle.std.specs.Option.{option_or}
use Rattle.std.proofs.Common.{◌≡◌, inl, inr, Bool, true, false, cond, not, ◌&&◌, ◌||◌, List, [], ◌∷◌, Some, None, Option, refl, ap, sym, ◌∙◌, subst}
use Rattle.std.proofs.lemmas.Bool.{or_parts}
use Rattle.std.specs.List.{list_any}
use Rattle.hib_journal.specs.Types.{State, Key, Row, Change, Act, Reply}
use Rattle.hib_base.specs.Keys.{same_key}
use Rattle.hib_base.specs.Tables.{key_of}
use Rattle.hib_journal.specs.Sessions.{Journal, changes_in, changes_after}
use Rattle.hib_journal.specs.Held.{Arrival, arrival, arrived_key, Stay, stay, stay_after, is_break, row_written, last_written, base_of, has_left, deletes, removes, is_inserted, is_undone, Instance, insert_by, update_by, delete_by, next_version, same_cells}
use Rattle.hib_journal.specs.Next.{is_in}
use Rattle.hib_journal.proofs.Shapes.{insert_of, update_of, delete_of}
use Rattle.hib_base.proofs.Tables.{Tested, tested}
use Rattle.hib_law.proofs.HeldRows.{Brings, brings, no_arrival, longer_some, any_append}
use Rattle.hib_law.proofs.Basics.{none_some, some_same}

-- each new instance of k came only if k was not in the changes
abbrev pub IsFair : Key → Journal → Type 0
IsFair k [] = Unit {0}
IsFair k (e ∷ m) = ((j : Key) (r : Row) → arrival e.act e.reply ≡ Some (Arrival.Made j r) → same_key j k ≡ true → is_in k (changes_in m) ≡ false) × IsFair k m

made_keeps : (a : Act) (r : Reply) (j : Key) (x : Row) (cs : List Change) → arrival a r ≡ Some (Arrival.Made j x) → changes_after a cs ≡ cs
made_keeps Act.Begin r j x cs p = none_some p
made_keeps (Act.Write c) r j x cs p = none_some p
made_keeps _ r j x cs p = refl

-- an act that neither writes a row of k nor deletes it leaves k out of the changes
not_in_after : (k : Key) (a : Act) (cs : List Change) → is_in k cs ≡ false → row_written k a ≡ None → deletes k a ≡ false → is_in k (changes_after a cs) ≡ false
not_in_after k Act.Begin cs n p d = refl
not_in_after k (Act.Write c) cs n p d = any_append (λ d. same_key (key_of d) k) cs c ∙ rw n (other c p d)
  where
    row_none : (b : Bool) (r : Row) → cond b (Some r) None ≡ None → b ≡ false
    row_none true r q = none_some (sym q)
    row_none false r q = refl

    other : (c : Change) → row_written k (Act.Write c) ≡ None → deletes k (Act.Write c) ≡ false → same_key (key_of c) k ≡ false
    other (Change.Insert j r) p d = row_none (same_key j k) r p
    other (Change.Update j v r) p d = row_none (same_key j k) r p
    other (Change.Delete j v) p d = d
not_in_after k _ cs n p d = n

or_row_none : (x y : Option Row) → option_or x y ≡ None → (x ≡ None) × (y ≡ None)
or_row_none None y p = (refl, p)
or_row_none (Some r) y p = none_some (sym p)

-- a new instance that is held is not in the changes
pub new_unwritten : (k : Key) (m : Journal) (a : Arrival) (l : Journal) → IsFair k m → stay k m ≡ Some (a, l) → has_left k (a, l) ≡ false →
    base_of k (a, l) ≡ None → is_in k (changes_in m) ≡ false
new_unwritten k [] a l f p q b = refl
new_unwritten k (e ∷ m) a l f p q b = by_break (tested (is_break e.act e.reply)) (new_unwritten k m)
  where
    left_rest : (a : Arrival) (d : Journal) → has_left k (a, e ∷ d) ≡ false → (deletes k e.act ≡ false) × (has_left k (a, d) ≡ false)
    left_rest (Arrival.Read j r) d q = or_parts (deletes k e.act) (list_any (λ e. deletes k e.act) d) q
    left_rest (Arrival.Made j r) d q =
        let x : ((deletes k e.act || list_any (λ e. deletes k e.act) d) ≡ false) × (is_undone k (e ∷ d) ≡ false) =
        or_parts (deletes k e.act || list_any (λ e. deletes k e.act) d) (is_undone k (e ∷ d)) q in
        let y : (deletes k e.act ≡ false) × (list_any (λ e. deletes k e.act) d ≡ false) = or_parts (deletes k e.act) (list_any (λ e. deletes k e.act) d) x.0 in
        let z : ((removes k e.act e.reply && not (is_inserted k d)) ≡ false) × (is_undone k d ≡ false) =
        or_parts (removes k e.act e.reply && not (is_inserted k d)) (is_undone k d) x.1 in
        (y.0, rw (y.1, z.1) refl)

    base_rest : (a : Arrival) (d : Journal) → base_of k (a, e ∷ d) ≡ None → (row_written k e.act ≡ None) × (base_of k (a, d) ≡ None)
    base_rest (Arrival.Read j r) d b = none_some (sym (or_row_none (option_or (row_written k e.act) (last_written k d)) (Some r) b).1)
    base_rest (Arrival.Made j r) d b = or_row_none (row_written k e.act) (last_written k d) b

    by_break : Tested (is_break e.act e.reply) → ((a : Arrival) (l : Journal) → IsFair k m → stay k m ≡ Some (a, l) → has_left k (a, l) ≡ false →
        base_of k (a, l) ≡ None → is_in k (changes_in m) ≡ false) → is_in k (changes_in (e ∷ m)) ≡ false
    by_break (inl y) i = let g : ◌≡◌ {A = Option Stay} None (Some (a, l)) = rw y at p in none_some g
    by_break (inr y) i =
        let w : stay_after k e (arrival e.act e.reply) (stay k m) ≡ Some (a, l) = rw y at p in by_arrival (brings k (arrival e.act e.reply)) w
      where
        made : (z : Arrival) → arrival e.act e.reply ≡ Some z → same_key (arrived_key z) k ≡ true → ◌≡◌ {A = Option Stay} (Some (z, [])) (Some (a, l)) → is_in k (changes_in (e ∷ m)) ≡ false
        made (Arrival.Read j r) u v g = let c : Some r ≡ None = ap (λ s. base_of k s) (some_same g) ∙ b in none_some (sym c)
        made (Arrival.Made j r) u v g = rw (made_keeps e.act e.reply j r (changes_in m) u) (f.0 j r u v)

        by_arrival : Brings k (arrival e.act e.reply) → stay_after k e (arrival e.act e.reply) (stay k m) ≡ Some (a, l) → is_in k (changes_in (e ∷ m)) ≡ false
        by_arrival (Brings.It z u v) w = let g : ◌≡◌ {A = Option Stay} (Some (z, [])) (Some (a, l)) = rw (u, v) at w in made z u v g
        by_arrival (Brings.Other o) w =
            let d : (d : Journal) × (stay k m ≡ Some (a, d)) × (l ≡ e ∷ d) =
            longer_some e (stay k m) a l (sym (no_arrival k (arrival e.act e.reply) e (stay k m) o) ∙ w) in
            let x : (deletes k e.act ≡ false) × (has_left k (a, d.0) ≡ false) = left_rest a d.0 (subst (λ z. has_left k (a, z) ≡ false) d.2 q) in
            let y : (row_written k e.act ≡ None) × (base_of k (a, d.0) ≡ None) = base_rest a d.0 (subst (λ z. base_of k (a, z) ≡ None) d.2 b) in
            not_in_after k e.act (changes_in m) (i a d.0 f.1 d.1 x.1 y.1) y.0 x.0

-- what a pending change says of what is held of its key
abbrev pub PendingBy : Option Instance → Change → Type 0
PendingBy i (Change.Insert j r) = (z : Instance) × (i ≡ Some z) × (z.state ≡ State.New) × (r ≡ z.row)
PendingBy i (Change.Update j v r) =
    (z : Instance) × (b : Row) × (i ≡ Some z) × (z.state ≡ State.Managed) × (z.base ≡ Some b) × (b.version ≡ v) × (r.version ≡ next_version v)
PendingBy i (Change.Delete j v) = (z : Instance) × (b : Row) × (i ≡ Some z) × (z.state ≡ State.Removed) × (z.base ≡ Some b) × (b.version ≡ v)

pub insert_says : (i : Option Instance) (c : Change) → insert_of i ≡ Some c → PendingBy i c
insert_says None c e = none_some e
insert_says (Some z) c e = by_state z.state refl e
  where
    by_state : (t : State) → z.state ≡ t → insert_by z.state z.key z.row ≡ Some c → PendingBy (Some z) c
    by_state State.New p e =
        let g : Some (Change.Insert z.key z.row) ≡ Some c = rw p at e in
        subst (λ d. PendingBy (Some z) d) (some_same g) (z, refl, p, refl)
    by_state State.Managed p e = let g : ◌≡◌ {A = Option Change} None (Some c) = rw p at e in none_some g
    by_state State.Removed p e = let g : ◌≡◌ {A = Option Change} None (Some c) = rw p at e in none_some g

pub delete_says : (i : Option Instance) (c : Change) → delete_of i ≡ Some c → PendingBy i c
delete_says None c e = none_some e
delete_says (Some z) c e = by_state z.state z.base refl refl e
  where
    by_state : (t : State) (b : Option Row) → z.state ≡ t → z.base ≡ b → delete_by z.state z.key z.base ≡ Some c → PendingBy (Some z) c
    by_state State.New b p q e = let g : ◌≡◌ {A = Option Change} None (Some c) = rw p at e in none_some g
    by_state State.Managed b p q e = let g : ◌≡◌ {A = Option Change} None (Some c) = rw p at e in none_some g
    by_state State.Removed None p q e = let g : ◌≡◌ {A = Option Change} None (Some c) = rw (p, q) at e in none_some g
    by_state State.Removed (Some b) p q e =
        let g : Some (Change.Delete z.key b.version) ≡ Some c = rw (p, q) at e in
        subst (λ d. PendingBy (Some z) d) (some_same g) (z, b, refl, p, q, refl)

pub update_says : (i : Option Instance) (c : Change) → update_of i ≡ Some c → PendingBy i c
update_says None c e = none_some e
update_says (Some z) c e = by_state z.state z.base refl refl e
  where
    up : Row → Change
    up b = Change.Update z.key b.version (record { version = next_version b.version; cells = z.row.cells })

    by_cells : (b : Row) (x : Bool) → z.state ≡ State.Managed → z.base ≡ Some b →
        cond x None (Some (Change.Update z.key b.version (record { version = next_version b.version; cells = z.row.cells }))) ≡ Some c → PendingBy (Some z) c
    by_cells b true p q e = none_some e
    by_cells b false p q e = subst (λ d. PendingBy (Some z) d) (some_same e) (z, b, refl, p, q, refl, refl)

    by_state : (t : State) (b : Option Row) → z.state ≡ t → z.base ≡ b → update_by z.state z.key z.row z.base ≡ Some c → PendingBy (Some z) c
    by_state State.New b p q e = let g : ◌≡◌ {A = Option Change} None (Some c) = rw p at e in none_some g
    by_state State.Removed b p q e = let g : ◌≡◌ {A = Option Change} None (Some c) = rw p at e in none_some g
    by_state State.Managed None p q e = let g : ◌≡◌ {A = Option Change} None (Some c) = rw (p, q) at e in none_some g
    by_state State.Managed (Some b) p q e =
        let g : cond (same_cells z.row.cells b.cells) None (Some (Change.Update z.key b.version (record { version = next_version b.version; cells = z.row.cells }))) ≡ Some c = rw (p, q) at e in
        by_cells b (same_cells z.row.cells b.cells) p q g
