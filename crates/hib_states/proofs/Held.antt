-- A copy of which nothing is told stays.
use Rattle.std.specs.Prelude.{option_and_then, unwrap_or}
use Rattle.std.specs.List.{list_any}
use Rattle.std.specs.Option.{option_map_or, option_or}
use Rattle.std.proofs.Common.{ℕ, ◌≡◌, ◌==◌, Bool, true, false, cond, not, ◌&&◌, ◌||◌, List, ◌∷◌, Some, None, Option, refl, sym, ap, ◌∙◌, subst, inl, inr, eq-eqb}
use Rattle.std.proofs.Math.Bool.{and-false, or-false}
use Rattle.std.proofs.lemmas.Bool.{eqb-true}
use Rattle.hib_base.specs.Keys.{same_key}
use Rattle.hib_base.specs.Tables.{key_of}
use Rattle.hib_base.proofs.Tables.{Tested, tested}
use Rattle.hib_journal.specs.Types.{Key, Row, Cell, Change, Act, Reply, Entry}
use Rattle.hib_journal.specs.Held.{Arrival, arrival, arrived_key, arrived_row, Stay, stay, stay_after, longer, held, has_left, is_undone, is_inserted, instance_of, base_of, last_written, row_written, deletes, removes, cells_after, cells_set, with_cells, is_break}
use Rattle.hib_journal.specs.Held.{state_of as state_of_base}
use Rattle.hib_journal.specs.Legal.{row_of}
use Rattle.hib_journal.specs.Sessions.{Journal, own}
use Rattle.hib_journal.proofs.Sessions.{own_self, own_other}
use Rattle.hib_states.specs.States.{copied_in}
use Rattle.hib_states.proofs.Choices.{and_true}
use Rattle.hib_journal.proofs.Words.{is_removed}
use Rattle.hib_states.proofs.Taken.{copy_after, has_key}

-- of another key nothing is written, deleted, removed or set
pub record Spares (k : Key) (a : Act) (r : Reply) : Type 0 where
  pub written : row_written k a ≡ None
  pub deletes : deletes k a ≡ false
  pub removes : removes k a r ≡ false
  pub cells : (cs : List Cell) → cells_after k a r cs ≡ cs
  pub arrives : option_map_or (λ x. same_key (arrived_key x) k) (arrival a r) false ≡ false

other_key : (k j : Key) → has_key (Some j) k ≡ false → same_key j k ≡ false
other_key k j p = sym (or-false (same_key j k)) ∙ p

spares_write : (k : Key) (c : Change) (r : Reply) → same_key (key_of c) k ≡ false → Spares k (Act.Write c) r
spares_write k (Change.Insert j w) r p = record { written = ap (λ b. cond b (Some w) None) p; deletes = refl; removes = refl; cells = λ cs. refl; arrives = refl }
spares_write k (Change.Update j v w) r p = record { written = ap (λ b. cond b (Some w) None) p; deletes = refl; removes = refl; cells = λ cs. refl; arrives = refl }
spares_write k (Change.Delete j v) r p = record { written = refl; deletes = p; removes = refl; cells = λ cs. refl; arrives = refl }

spares : (k : Key) (a : Act) (r : Reply) → has_key (copied_in a r) k ≡ false → Spares k a r
spares k (Act.Get j t) (Reply.Hit w) p = record { written = refl; deletes = refl; removes = refl; cells = λ cs. refl; arrives = other_key k j p }
spares k (Act.Load j) (Reply.Row (Some w)) p = record { written = refl; deletes = refl; removes = refl; cells = λ cs. refl; arrives = other_key k j p }
spares k (Act.Persist j w) Reply.New p = record { written = refl; deletes = refl; removes = refl; cells = λ cs. refl; arrives = other_key k j p }
spares k (Act.Set j cells) Reply.Set p =
    record { written = refl; deletes = refl; removes = refl; cells = λ cs. ap (λ b. cond b (with_cells cells cs) cs) (other_key k j p); arrives = refl }
spares k (Act.Remove j) Reply.Removed p = record { written = refl; deletes = refl; removes = other_key k j p; cells = λ cs. refl; arrives = refl }
spares k (Act.Write c) r p = spares_write k c r (other_key k (key_of c) p)
spares k _ _ p = record { written = refl; deletes = refl; removes = refl; cells = λ cs. refl; arrives = refl }

stay_longer : (k : Key) (e : Entry) (m : Journal) → is_break e.act e.reply ≡ false → Spares k e.act e.reply → stay k (e ∷ m) ≡ longer e (stay k m)
stay_longer k e m b s = rw b (by (arrival e.act e.reply) s.arrives)
  where
    by : (o : Option Arrival) → option_map_or (λ x. same_key (arrived_key x) k) o false ≡ false → stay_after k e o (stay k m) ≡ longer e (stay k m)
    by None p = refl
    by (Some x) p = rw p refl

module _ (k : Key) (e : Entry) (s : Spares k e.act e.reply) where
  has_left_same : (x : Arrival) (l : Journal) → has_left k (x, e ∷ l) ≡ has_left k (x, l)
  has_left_same (Arrival.Read j r) l = ap (λ b. b || list_any (λ d. deletes k d.act) l) s.deletes
  has_left_same (Arrival.Made j r) l =
      λ i. ap (λ b. b || list_any (λ d. deletes k d.act) l) s.deletes i || ap (λ b. (b && not (is_inserted k l)) || is_undone k l) s.removes i

  base_same : (x : Arrival) (l : Journal) → base_of k (x, e ∷ l) ≡ base_of k (x, l)
  base_same (Arrival.Read j r) l = ap (λ o. option_or (option_or o (last_written k l)) (Some r)) s.written
  base_same (Arrival.Made j r) l = ap (λ o. option_or o (last_written k l)) s.written

  instance_same : (x : Arrival) (l : Journal) → instance_of k (x, e ∷ l) ≡ instance_of k (x, l)
  instance_same x l = λ i. record {
    key = k;
    state = state_of_base (base_same x l i) (ap (λ b. b || is_removed k l) s.removes i);
    base = base_same x l i;
    row = record { version = (unwrap_or (base_same x l i) (arrived_row x)).version; cells = s.cells (cells_set k l (arrived_row x).cells) i };
  }

  held_by : (o : Option Stay) → option_and_then (λ y. cond (has_left k y) None (Some (instance_of k y))) (longer e o)
      ≡ option_and_then (λ y. cond (has_left k y) None (Some (instance_of k y))) o
  held_by None = refl
  held_by (Some (x, l)) = λ i. cond (has_left_same x l i) None (Some (instance_same x l i))

held_kept : (k : Key) (e : Entry) (m : Journal) → is_break e.act e.reply ≡ false → has_key (copied_in e.act e.reply) k ≡ false → held (e ∷ m) k ≡ held m k
unfolding held
held_kept k e m b p =
    let s : Spares k e.act e.reply = spares k e.act e.reply p in
    ap (option_and_then (λ y. cond (has_left k y) None (Some (instance_of k y)))) (stay_longer k e m b s) ∙ held_by k e s (stay k m)

held_gone : (k : Key) (e : Entry) (m : Journal) → is_break e.act e.reply ≡ true → held (e ∷ m) k ≡ None
unfolding held
held_gone k e m b = rw b refl

pub copies_next : (h : Journal) (e : Entry) (m : ℕ) (j : Key) → copy_after h e e.session m j (row_of (held (own m h) j)) ≡ row_of (held (own m (e ∷ h)) j)
copies_next h e m j = by e.session refl
  where
    broken : Bool
    broken = is_break e.act e.reply

    known : Bool
    known = has_key (copied_in e.act e.reply) j

    mine : Tested broken → Tested known → cond broken None (cond known (row_of (held (e ∷ own m h) j)) (row_of (held (own m h) j))) ≡ row_of (held (e ∷ own m h) j)
    mine (inl b) q = ap (λ c. cond c None (cond known (row_of (held (e ∷ own m h) j)) (row_of (held (own m h) j)))) b ∙ sym (ap row_of (held_gone j e (own m h) b))
    mine (inr b) (inl q) =
        ap (λ c. cond c None (cond known (row_of (held (e ∷ own m h) j)) (row_of (held (own m h) j)))) b
        ∙ ap (λ c. cond c (row_of (held (e ∷ own m h) j)) (row_of (held (own m h) j))) q
    mine (inr b) (inr q) =
        ap (λ c. cond c None (cond known (row_of (held (e ∷ own m h) j)) (row_of (held (own m h) j)))) b
        ∙ ap (λ c. cond c (row_of (held (e ∷ own m h) j)) (row_of (held (own m h) j))) q ∙ sym (ap row_of (held_kept j e (own m h) b q))

    at : (n : ℕ) → e.session ≡ Some n → Tested (n == m) → copy_after h e (Some n) m j (row_of (held (own m h) j)) ≡ row_of (held (own m (e ∷ h)) j)
    at n p (inl q) =
        let is : own n (e ∷ h) ≡ e ∷ own m h = subst (λ z. own n (e ∷ h) ≡ e ∷ own z h) (eqb-true n m q) (own_self n e h (rw p (eq-eqb n n refl))) in
        ap (λ b. cond (broken && b) None (cond (known && b) (row_of (held (own n (e ∷ h)) j)) (row_of (held (own m h) j)))) q
        ∙ (λ i. cond (and_true broken i) None (cond (and_true known i) (row_of (held (is i) j)) (row_of (held (own m h) j))))
        ∙ mine (tested broken) (tested known) ∙ sym (ap (λ (l : Journal). row_of (held l j)) (own_self m e h (rw p q)))
    at n p (inr q) =
        ap (λ b. cond (broken && b) None (cond (known && b) (row_of (held (own n (e ∷ h)) j)) (row_of (held (own m h) j)))) q
        ∙ (λ i. cond (and-false broken i) None (cond (and-false known i) (row_of (held (own n (e ∷ h)) j)) (row_of (held (own m h) j))))
        ∙ sym (ap (λ (l : Journal). row_of (held l j)) (own_other m e h (rw p q)))

    by : (o : Option ℕ) → e.session ≡ o → copy_after h e e.session m j (row_of (held (own m h) j)) ≡ row_of (held (own m (e ∷ h)) j)
    by None p = rw p refl
    by (Some n) p = ap (λ (o : Option ℕ). copy_after h e o m j (row_of (held (own m h) j))) p ∙ at n p (tested (n == m))
