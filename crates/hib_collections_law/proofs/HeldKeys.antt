-- What a session holds of a key, and what an entry leaves of it.
use Rattle.std.proofs.Common.{◌≡◌, Bool, true, false, cond, not, ◌&&◌, ◌||◌, ◌∷◌, Some, None, refl, ap, sym, ◌∙◌, subst}
use Rattle.std.proofs.lemmas.Bool.{or_parts}
use Rattle.std.specs.List.{list_any}
use Rattle.hib_journal.specs.Types.{Key, Row, Entry}
use Rattle.hib_base.specs.Keys.{same_key}
use Rattle.hib_journal.specs.Sessions.{Journal}
use Rattle.hib_journal.specs.Held.{Arrival, arrival, arrived_key, arrived_row, stay, stay_after, is_break, row_written, base_of, has_left, deletes, removes, is_inserted, is_undone, Instance, instance_of, held}
use Rattle.hib_law.proofs.HeldRows.{no_arrival, longer_some}
use Rattle.hib_law.proofs.Basics.{none_some, some_same}

-- a session holds k, and the row that it read or wrote of it last is b
abbrev pub Holds : Key → Row → Journal → Type 0
Holds k b m = (a : Arrival) × (l : Journal) × (stay k m ≡ Some (a, l)) × (has_left k (a, l) ≡ false) × (base_of k (a, l) ≡ Some b)

-- an entry that neither brings k nor takes it away
pub record IsQuiet (k : Key) (e : Entry) : Type 0 where
  pub stays : is_break e.act e.reply ≡ false
  pub brings : (a : Arrival) → arrival e.act e.reply ≡ Some a → same_key (arrived_key a) k ≡ false
  pub written : row_written k e.act ≡ None
  pub deleted : deletes k e.act ≡ false

pub stay_quiet : (k : Key) (e : Entry) (m : Journal) → IsQuiet k e → stay k (e ∷ m) ≡ stay_after k e (arrival e.act e.reply) (stay k m)
stay_quiet k e m q = rw (q.stays)

pub left_more : (k : Key) (e : Entry) (a : Arrival) (l : Journal) → deletes k e.act ≡ false → removes k e.act e.reply ≡ false → has_left k (a, e ∷ l) ≡ has_left k (a, l)
left_more k e (Arrival.Read j r) l d n = rw d
left_more k e (Arrival.Made j r) l d n = rw (d, n)

pub base_more : (k : Key) (e : Entry) (a : Arrival) (l : Journal) → row_written k e.act ≡ None → base_of k (a, e ∷ l) ≡ base_of k (a, l)
base_more k e (Arrival.Read j r) l p = rw p
base_more k e (Arrival.Made j r) l p = rw p

-- what is held goes on being held by such an entry, if it removes nothing
pub holds_on : (k : Key) (b : Row) (e : Entry) (m : Journal) → IsQuiet k e → removes k e.act e.reply ≡ false → Holds k b m → Holds k b (e ∷ m)
holds_on k b e m q n (a, l, s, w, p) = (
  a,
  e ∷ l,
  stay_quiet k e m q ∙ (no_arrival k (arrival e.act e.reply) e (stay k m) q.brings ∙ rw s refl),
  left_more k e a l q.deleted n ∙ w,
  base_more k e a l q.written ∙ p,
)

-- and it was held before
pub left_before : (k : Key) (e : Entry) (a : Arrival) (l : Journal) → has_left k (a, e ∷ l) ≡ false → has_left k (a, l) ≡ false
left_before k e (Arrival.Read j r) l w = (or_parts (deletes k e.act) (list_any (λ d. deletes k d.act) l) w).1
left_before k e (Arrival.Made j r) l w =
    let x : ((deletes k e.act || list_any (λ d. deletes k d.act) l) ≡ false) × (is_undone k (e ∷ l) ≡ false) =
    or_parts (deletes k e.act || list_any (λ d. deletes k d.act) l) (is_undone k (e ∷ l)) w in
    let y : (deletes k e.act ≡ false) × (list_any (λ d. deletes k d.act) l ≡ false) = or_parts (deletes k e.act) (list_any (λ d. deletes k d.act) l) x.0 in
    let z : ((removes k e.act e.reply && not (is_inserted k l)) ≡ false) × (is_undone k l ≡ false) =
    or_parts (removes k e.act e.reply && not (is_inserted k l)) (is_undone k l) x.1 in
    rw (y.1, z.1) refl

pub holds_before : (k : Key) (b : Row) (e : Entry) (m : Journal) → IsQuiet k e → Holds k b (e ∷ m) → Holds k b m
holds_before k b e m q (a, l, s, w, p) =
    let g : (d : Journal) × (stay k m ≡ Some (a, d)) × (l ≡ e ∷ d) =
    longer_some e (stay k m) a l (sym (no_arrival k (arrival e.act e.reply) e (stay k m) q.brings) ∙ (sym (stay_quiet k e m q) ∙ s)) in (
      a,
      g.0,
      g.1,
      left_before k e a g.0 (subst (λ z. has_left k (a, z) ≡ false) g.2 w),
      sym (base_more k e a g.0 q.written) ∙ subst (λ z. base_of k (a, z) ≡ Some b) g.2 p,
    )

-- the version of what is held, if it has no base
pub held_version : (k : Key) (m : Journal) (z : Instance) (a : Arrival) (l : Journal) → held m k ≡ Some z → stay k m ≡ Some (a, l) → base_of k (a, l) ≡ None →
    z.row.version ≡ (arrived_row a).version
unfolding held
held_version k m z a l h s b =
    let g : cond (has_left k (a, l)) None (Some (instance_of k (a, l))) ≡ Some z = rw s at h in
    by_left (has_left k (a, l)) g
  where
    by_left : (x : Bool) → cond x None (Some (instance_of k (a, l))) ≡ Some z → z.row.version ≡ (arrived_row a).version
    by_left true g = none_some g
    by_left false g = ap (λ i. i.row.version) (sym (some_same g)) ∙ rw b refl
