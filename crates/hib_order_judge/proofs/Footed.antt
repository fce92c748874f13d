-- On what the instances of a session rest, after one more of its entries.
use Rattle.std.specs.Prelude.{not, ◌&&◌, ◌||◌, option_map, option_and_then}
use Rattle.std.specs.Option.{option_or, option_flatten}
use Rattle.std.specs.List.{list_any}
use Rattle.std.proofs.Common.{◌≡◌, ℕ, Bool, true, false, cond, [], ◌∷◌, Some, None, Option, refl, ap, ◌∙◌}
use Rattle.std.proofs.Math.Bool.{and-true, and-false}
use Rattle.hib_base.specs.Keys.{same_key}
use Rattle.hib_journal.specs.Types.{Key, Row, Change, Commit, Part, Act, Reply, Entry}
use Rattle.hib_journal.specs.Sessions.{Journal}
use Rattle.hib_journal.specs.Held.{Arrival, Stay, Instance, instance_of, stay, longer, has_left, base_of, is_inserted, is_undone, is_begin, held, row_written, deletes, inserts, removes, last_written}
use Rattle.hib_order_law.specs.Judged.{before_write, writes_key, rests_on}
use Rattle.hib_order_judge.specs.Footings.{Basis, is_fresh, basis_by, basis_in, basis_after, rest_in, rest_after}

-- of an instance that stays, after an entry that deletes it, removes it, inserts it or writes a row of it
basis_longer : (d x i : Bool) → Option Row → Option Basis → Option Basis
basis_longer d x i w None = None
basis_longer d x i w (Some b) = cond (d || (x && b.fresh)) None (Some (record { row = option_or w b.row; fresh = b.fresh && not i }))

or_third : (a b c : Option Row) → option_or (option_or a b) c ≡ option_or a (option_or b c)
or_third None b c = refl
or_third (Some r) b c = refl

longer_is : (k : Key) (e : Entry) (s : Option Stay) →
    basis_by k (longer e s) ≡ basis_longer (deletes k e.act) (removes k e.act e.reply) (inserts k e.act) (row_written k e.act) (basis_by k s)
unfolding basis_longer
longer_is k e None = refl
longer_is k e (Some (Arrival.Read j r, m)) = by (deletes k e.act) (removes k e.act e.reply) (list_any (λ d. deletes k d.act) m)
  where
    by : (d x l : Bool) → cond (d || l) None (Some (record { row = option_or (option_or (row_written k e.act) (last_written k m)) (Some r); fresh = false }))
        ≡ basis_longer d x (inserts k e.act) (row_written k e.act) (cond l None (Some (record { row = option_or (last_written k m) (Some r); fresh = false })))
    by true x true = refl
    by true x false = refl
    by false x true = refl
    by false true false = rw or_third
    by false false false = rw or_third
longer_is k e (Some (Arrival.Made j r, m)) =
    by (deletes k e.act) (removes k e.act e.reply) (inserts k e.act) (list_any (λ d. deletes k d.act) m) (is_inserted k m) (is_undone k m)
  where
    by : (d x i l n u : Bool) → cond ((d || l) || ((x && not n) || u)) None (Some (record { row = option_or (row_written k e.act) (last_written k m); fresh = not (i || n) }))
        ≡ basis_longer d x i (row_written k e.act) (cond (l || u) None (Some (record { row = last_written k m; fresh = not n })))
    by true x i true n u = refl
    by true x i false n true = refl
    by true x i false n false = refl
    by false x i true n u = refl
    by false true i false true true = refl
    by false true i false false true = refl
    by false false i false n true = refl
    by false true true false true false = refl
    by false true false false true false = refl
    by false true i false false false = refl
    by false false true false true false = refl
    by false false true false false false = refl
    by false false false false true false = refl
    by false false false false false false = refl

longer_same : (o : Option Basis) → basis_longer false false false None o ≡ o
unfolding basis_longer
longer_same None = refl
longer_same (Some b) = ap (λ f. Some (record b { fresh = f })) (and-true b.fresh)

-- an instance that an act doesn't name stays as it is
kept : (k : Key) (e : Entry) (s : Option Stay) → deletes k e.act ≡ false → removes k e.act e.reply ≡ false → inserts k e.act ≡ false →
    row_written k e.act ≡ None → basis_by k (longer e s) ≡ basis_by k s
kept k e s d x i w = longer_is k e s ∙ rw (d, x, i, w) (longer_same (basis_by k s))

-- a row arrives, of this key or another
arrives : (k j : Key) (e : Entry) (a : Arrival) (b : Option Basis) (s : Option Stay) → deletes k e.act ≡ false → removes k e.act e.reply ≡ false →
    inserts k e.act ≡ false → row_written k e.act ≡ None → basis_by k (Some (a, [])) ≡ b →
    basis_by k (cond (same_key j k) (Some (a, [])) (longer e s)) ≡ cond (same_key j k) b (basis_by k s)
arrives k j e a b s d x i w p = by (same_key j k)
  where
    by : (t : Bool) → basis_by k (cond t (Some (a, [])) (longer e s)) ≡ cond t b (basis_by k s)
    by true = p
    by false = kept k e s d x i w

inserted : (t : Bool) (r : Row) (o : Option Basis) →
    basis_longer false false t (cond t (Some r) None) o ≡ cond t (option_and_then (λ x. Some (record { row = Some r; fresh = false })) o) o
unfolding basis_longer
inserted true r None = refl
inserted true r (Some b) = ap (λ f. Some (record { row = Some r; fresh = f })) (and-false b.fresh)
inserted false r o = longer_same o

updated : (t : Bool) (r : Row) (o : Option Basis) →
    basis_longer false false false (cond t (Some r) None) o ≡ cond t (option_and_then (λ x. Some (record { row = Some r; fresh = x.fresh })) o) o
unfolding basis_longer
updated true r None = refl
updated true r (Some b) = ap (λ f. Some (record { row = Some r; fresh = f })) (and-true b.fresh)
updated false r o = longer_same o

deleted : (t : Bool) (o : Option Basis) → basis_longer t false false None o ≡ cond t (option_and_then (λ x. None) o) o
unfolding basis_longer
deleted true None = refl
deleted true (Some b) = refl
deleted false o = longer_same o

removed : (t : Bool) (o : Option Basis) → basis_longer false t false None o ≡ cond t (option_and_then (λ x. cond x.fresh None (Some x)) o) o
unfolding basis_longer
removed true None = refl
removed true (Some b) = ap (λ f. cond b.fresh None (Some (record b { fresh = f }))) (and-true b.fresh)
removed false o = longer_same o

same_if : (t : Bool) (o : Option Basis) → o ≡ cond t o o
same_if true o = refl
same_if false o = refl

-- by the act and the reply of the entry
more : (k : Key) (n : ℕ) (by : Option ℕ) (p : Part) (a : Act) (r : Reply) (m : Journal) →
    basis_in k (record { tick = n; session = by; part = p; act = a; reply = r } ∷ m) ≡ basis_after k a r (basis_in k m)
more k n by p (Act.Get j t) (Reply.Hit r) m =
    arrives k j (record { tick = n; session = by; part = p; act = Act.Get j t; reply = Reply.Hit r }) (Arrival.Read j r)
    (Some (record { row = Some r; fresh = false })) (stay k m) refl refl refl refl refl
more k n by p (Act.Get j t) r m =
    kept k (record { tick = n; session = by; part = p; act = Act.Get j t; reply = r }) (stay k m) refl refl refl refl ∙ same_if (same_key j k) (basis_in k m)
more k n by p (Act.Load j) (Reply.Row (Some r)) m =
    arrives k j (record { tick = n; session = by; part = p; act = Act.Load j; reply = Reply.Row (Some r) }) (Arrival.Read j r)
    (Some (record { row = Some r; fresh = false })) (stay k m) refl refl refl refl refl
more k n by p (Act.Load j) r m =
    kept k (record { tick = n; session = by; part = p; act = Act.Load j; reply = r }) (stay k m) refl refl refl refl ∙ same_if (same_key j k) (basis_in k m)
more k n by p (Act.Persist j x) Reply.New m =
    arrives k j (record { tick = n; session = by; part = p; act = Act.Persist j x; reply = Reply.New }) (Arrival.Made j x)
    (Some (record { row = None; fresh = true })) (stay k m) refl refl refl refl refl
more k n by p (Act.Persist j x) r m =
    kept k (record { tick = n; session = by; part = p; act = Act.Persist j x; reply = r }) (stay k m) refl refl refl refl ∙ same_if (same_key j k) (basis_in k m)
more k n by p (Act.Write (Change.Insert j x)) r m =
    longer_is k (record { tick = n; session = by; part = p; act = Act.Write (Change.Insert j x); reply = r }) (stay k m) ∙ inserted (same_key j k) x (basis_in k m)
more k n by p (Act.Write (Change.Update j v x)) r m =
    longer_is k (record { tick = n; session = by; part = p; act = Act.Write (Change.Update j v x); reply = r }) (stay k m) ∙ updated (same_key j k) x (basis_in k m)
more k n by p (Act.Write (Change.Delete j v)) r m =
    longer_is k (record { tick = n; session = by; part = p; act = Act.Write (Change.Delete j v); reply = r }) (stay k m) ∙ deleted (same_key j k) (basis_in k m)
more k n by p (Act.Remove j) Reply.Removed m =
    longer_is k (record { tick = n; session = by; part = p; act = Act.Remove j; reply = Reply.Removed }) (stay k m) ∙ removed (same_key j k) (basis_in k m)
more k n by p (Act.Remove j) r m =
    kept k (record { tick = n; session = by; part = p; act = Act.Remove j; reply = r }) (stay k m) refl refl refl refl ∙ same_if (same_key j k) (basis_in k m)
more k n by p Act.Clear r m = refl
more k n by p Act.Rollback r m = refl
more k n by p Act.Commit (Reply.Commit Commit.Committed) m =
    kept k (record { tick = n; session = by; part = p; act = Act.Commit; reply = Reply.Commit Commit.Committed }) (stay k m) refl refl refl refl
more k n by p Act.Commit r m = refl
more k n by p a r m = kept k (record { tick = n; session = by; part = p; act = a; reply = r }) (stay k m) refl refl refl refl

pub basis_more : (k : Key) (e : Entry) (m : Journal) → basis_in k (e ∷ m) ≡ basis_after k e.act e.reply (basis_in k m)
basis_more k e m = more k e.tick e.session e.part e.act e.reply m

-- the base of what is held is the row on which it rests
pub base_is : (k : Key) (m : Journal) → option_and_then (λ (i : Instance). i.base) (held m k) ≡ option_and_then (λ (b : Basis). b.row) (basis_in k m)
unfolding held
base_is k m = by (stay k m)
  where
    at : (s : Stay) (l : Bool) → option_and_then (λ (i : Instance). i.base) (cond l None (Some (instance_of k s)))
        ≡ option_and_then (λ (b : Basis). b.row) (cond l None (Some (record { row = base_of k s; fresh = is_fresh k s })))
    at s true = refl
    at s false = refl

    by : (o : Option Stay) → option_and_then (λ (i : Instance). i.base) (option_and_then (λ s. cond (has_left k s) None (Some (instance_of k s))) o)
        ≡ option_and_then (λ (b : Basis). b.row) (basis_by k o)
    by None = refl
    by (Some s) = at s (has_left k s)

rest_by : (b w : Bool) (r : Option Row) (x : Option (Option Row)) (o : Option Journal) (m : Journal) (f : Journal → Option Row) → f m ≡ r → option_map f o ≡ x →
    option_map f (cond b None (option_or o (cond w (Some m) None))) ≡ cond b None (option_or x (cond w (Some r) None))
rest_by true w r x o m f p q = refl
rest_by false true r x None m f p q = rw (← q) (ap Some p)
rest_by false false r x None m f p q = rw (← q) refl
rest_by false w r x (Some l) m f p q = rw (← q) refl

-- the base before the first write of a key
pub rest_more : (k : Key) (e : Entry) (m : Journal) → rest_in k (e ∷ m) ≡ rest_after k e.act (basis_in k m) (rest_in k m)
rest_more k e m =
    rest_by (is_begin e.act) (writes_key k e.act) (option_and_then (λ (b : Basis). b.row) (basis_in k m)) (rest_in k m) (before_write k m) m
    (λ l. option_and_then (λ (i : Instance). i.base) (held l k)) (base_is k m) refl

pub rests_are : (k : Key) (mine : Journal) → rests_on k mine ≡ option_flatten (rest_in k mine)
rests_are k mine = by (before_write k mine)
  where
    by : (o : Option Journal) → option_and_then (λ m. option_and_then (λ (i : Instance). i.base) (held m k)) o
        ≡ option_flatten (option_map (λ m. option_and_then (λ (i : Instance). i.base) (held m k)) o)
    by None = refl
    by (Some m) = refl
