-- What the derived comparisons say equal is equal, and the other way round.
use Rattle.std.proofs.Common.{rules, ◌≡◌, ℕ, Bool, true, ap, refl, subst, nat_eq, List, [], ◌∷◌}
use Rattle.std.specs.Prelude.{Decides, ◌&&◌, Option}
use Rattle.std.specs.Cmp.Lexicographic.{pointwise}
use Rattle.hib_base.specs.Types.{Key, Cell, Row, Change, Act, Reply, Commit, Checked, Miss, Put, Locked, Unlocked, Inserted, Updated, Evicted, Outcome}
use Rattle.hib_base.specs.contracts.numbers.EntityNoPartialEq.TheImpl.{eq-value as entity_eq}
use Rattle.hib_base.specs.contracts.numbers.KeyPartialEq.TheImpl.{eq-value as key_eq}
use Rattle.hib_base.specs.contracts.rows.CellPartialEq.TheImpl.{eq-value as cell_eq}
use Rattle.hib_base.specs.contracts.rows.RowPartialEq.TheImpl.{eq-value as row_eq}
use Rattle.hib_base.specs.contracts.rows.ChangePartialEq.TheImpl.{eq-value as change_eq}
use Rattle.hib_base.specs.contracts.entries.ActPartialEq.TheImpl.{eq-value as act_eq}
use Rattle.hib_base.specs.contracts.replies.ReplyPartialEq.TheImpl.{eq-value as reply_eq}

and-split : {a b : Bool} → a && b ≡ true → (a ≡ true) × (b ≡ true)
and-split {a} {b} e = Prim.search (rules)

and-join : {a b : Bool} → a ≡ true → b ≡ true → a && b ≡ true
and-join {a} {b} p q = Prim.search (rules)

-- ---- lists

-- a test that decides equality decides it of lists
module _ {A : Type 0} (test : A → A → Bool) (decides : (x y : A) → Decides (test x y) (x ≡ y)) where
  pub list_decides : (xs ys : List A) → Decides (pointwise test xs ys) (xs ≡ ys)
  list_decides [] [] = Prim.search (rules)
  list_decides [] (y ∷ ys) = Prim.search (rules)
  list_decides (x ∷ xs) [] = Prim.search (rules)
  list_decides (x ∷ xs) (y ∷ ys) = Prim.search (rules, decides x y, list_decides xs ys)

-- ---- keys and names

pub key_decides : (a b : Key) → Decides (key_eq.it a b) (a ≡ b)
key_decides a b = Prim.search (rules)

pub names_decide : (xs ys : List ℕ) → Decides (pointwise entity_eq.it xs ys) (xs ≡ ys)
names_decide = list_decides entity_eq.it (λ x y. Prim.search (rules))

-- ---- rows and changes

pub cell_decides : (a b : Cell) → Decides (cell_eq.it a b) (a ≡ b)
cell_decides a b = Prim.search (rules)

pub cells_decide : (xs ys : List Cell) → Decides (pointwise cell_eq.it xs ys) (xs ≡ ys)
cells_decide = list_decides cell_eq.it cell_decides

set_decides : (x y : ℕ × Cell) → Decides (nat_eq x.0 y.0 && cell_eq.it x.1 y.1) (x ≡ y)
set_decides x y = Prim.search (rules, cell_decides)

sets_decide : (xs ys : List (ℕ × Cell)) → Decides (pointwise (λ x y. nat_eq x.0 y.0 && cell_eq.it x.1 y.1) xs ys) (xs ≡ ys)
sets_decide = list_decides (λ x y. nat_eq x.0 y.0 && cell_eq.it x.1 y.1) set_decides

same_set : (k l : Key) (xs ys : List (ℕ × Cell)) → key_eq.it k l ≡ true → pointwise (λ x y. nat_eq x.0 y.0 && cell_eq.it x.1 y.1) xs ys ≡ true → Act.Set k xs ≡ Act.Set l ys
same_set k l xs ys p q = cc ((key_decides k l).0 p, (sets_decide xs ys).0 q)

pub row_decides : (a b : Row) → Decides (row_eq.it a b) (a ≡ b)
row_decides a b = Prim.search (rules, cells_decide)

pub change_decides : (a b : Change) → Decides (change_eq.it a b) (a ≡ b)
change_decides (Change.Insert k r) b = Prim.search (rules, row_decides)
change_decides (Change.Update k v r) b = Prim.search (rules, row_decides)
change_decides (Change.Delete k v) b = Prim.search (rules)

-- ---- acts

act_same : (a : Act) → act_eq.it a a ≡ true
act_same Act.Begin = Prim.search (rules)
act_same Act.End = Prim.search (rules)
act_same (Act.Kill n) = Prim.search (rules)
act_same Act.Restart = Prim.search (rules)
act_same (Act.Find k) = Prim.search (rules)
act_same (Act.Persist k r) = Prim.search (rules, row_decides)
act_same (Act.Set k xs) = and-join ((key_decides k k).1 refl) ((sets_decide xs xs).1 refl)
act_same (Act.Remove k) = Prim.search (rules)
act_same Act.Clear = Prim.search (rules)
act_same (Act.Load k) = Prim.search (rules)
act_same (Act.List n) = Prim.search (rules)
act_same (Act.Write c) = (change_decides c c).1 refl
act_same Act.Commit = Prim.search (rules)
act_same Act.Rollback = Prim.search (rules)
act_same (Act.Pre ts) = (names_decide ts ts).1 refl
act_same (Act.Stamp ts) = (names_decide ts ts).1 refl
act_same (Act.Check n m) = Prim.search (rules)
act_same (Act.Look n) = Prim.search (rules)
act_same (Act.Keep n m l) = Prim.search (rules, cells_decide)
act_same (Act.Get k n) = Prim.search (rules)
act_same (Act.Put k r n m) = Prim.search (rules, row_decides)
act_same (Act.Lock k v n) = Prim.search (rules)
act_same (Act.Unlock k n) = Prim.search (rules)
act_same (Act.AfterInsert k r n) = Prim.search (rules, row_decides)
act_same (Act.AfterUpdate k n r) = Prim.search (rules, row_decides)
act_same (Act.RegionRemove k) = Prim.search (rules)
act_same (Act.Evict k) = Prim.search (rules)

act_begin : (b : Act) → act_eq.it Act.Begin b ≡ true → Act.Begin ≡ b
act_begin b e = Prim.search (rules)

act_end : (b : Act) → act_eq.it Act.End b ≡ true → Act.End ≡ b
act_end b e = Prim.search (rules)

act_kill : (n : ℕ) (b : Act) → act_eq.it (Act.Kill n) b ≡ true → (Act.Kill n) ≡ b
act_kill n b e = Prim.search (rules)

act_restart : (b : Act) → act_eq.it Act.Restart b ≡ true → Act.Restart ≡ b
act_restart b e = Prim.search (rules)

act_find : (k : Key) (b : Act) → act_eq.it (Act.Find k) b ≡ true → (Act.Find k) ≡ b
act_find k b e = Prim.search (rules)

act_persist : (k : Key) (r : Row) (b : Act) → act_eq.it (Act.Persist k r) b ≡ true → (Act.Persist k r) ≡ b
act_persist k r b e = Prim.search (rules, row_decides)

act_set : (k : Key) (xs : List (ℕ × Cell)) (b : Act) → act_eq.it (Act.Set k xs) b ≡ true → (Act.Set k xs) ≡ b
act_set k xs (Act.Set l ys) e = same_set k l xs ys (and-split e).0 (and-split e).1
act_set k xs b e = Prim.search (rules)

act_remove : (k : Key) (b : Act) → act_eq.it (Act.Remove k) b ≡ true → (Act.Remove k) ≡ b
act_remove k b e = Prim.search (rules)

act_clear : (b : Act) → act_eq.it Act.Clear b ≡ true → Act.Clear ≡ b
act_clear b e = Prim.search (rules)

act_load : (k : Key) (b : Act) → act_eq.it (Act.Load k) b ≡ true → (Act.Load k) ≡ b
act_load k b e = Prim.search (rules)

act_list : (n : ℕ) (b : Act) → act_eq.it (Act.List n) b ≡ true → (Act.List n) ≡ b
act_list n b e = Prim.search (rules)

act_write : (c : Change) (b : Act) → act_eq.it (Act.Write c) b ≡ true → (Act.Write c) ≡ b
act_write c (Act.Write d) e = ap Act.Write ((change_decides c d).0 e)
act_write c b e = Prim.search (rules)

act_commit : (b : Act) → act_eq.it Act.Commit b ≡ true → Act.Commit ≡ b
act_commit b e = Prim.search (rules)

act_rollback : (b : Act) → act_eq.it Act.Rollback b ≡ true → Act.Rollback ≡ b
act_rollback b e = Prim.search (rules)

act_pre : (ts : List ℕ) (b : Act) → act_eq.it (Act.Pre ts) b ≡ true → (Act.Pre ts) ≡ b
act_pre ts (Act.Pre us) e = ap Act.Pre ((names_decide ts us).0 e)
act_pre ts b e = Prim.search (rules)

act_stamp : (ts : List ℕ) (b : Act) → act_eq.it (Act.Stamp ts) b ≡ true → (Act.Stamp ts) ≡ b
act_stamp ts (Act.Stamp us) e = ap Act.Stamp ((names_decide ts us).0 e)
act_stamp ts b e = Prim.search (rules)

act_check : (n m : ℕ) (b : Act) → act_eq.it (Act.Check n m) b ≡ true → (Act.Check n m) ≡ b
act_check n m b e = Prim.search (rules)

act_look : (n : ℕ) (b : Act) → act_eq.it (Act.Look n) b ≡ true → (Act.Look n) ≡ b
act_look n b e = Prim.search (rules)

act_keep : (n m : ℕ) (l : List Cell) (b : Act) → act_eq.it (Act.Keep n m l) b ≡ true → (Act.Keep n m l) ≡ b
act_keep n m l b e = Prim.search (rules, cells_decide)

act_get : (k : Key) (n : ℕ) (b : Act) → act_eq.it (Act.Get k n) b ≡ true → (Act.Get k n) ≡ b
act_get k n b e = Prim.search (rules)

act_put : (k : Key) (r : Row) (n m : ℕ) (b : Act) → act_eq.it (Act.Put k r n m) b ≡ true → (Act.Put k r n m) ≡ b
act_put k r n m b e = Prim.search (rules, row_decides)

act_lock : (k : Key) (v : Option ℕ) (n : ℕ) (b : Act) → act_eq.it (Act.Lock k v n) b ≡ true → (Act.Lock k v n) ≡ b
act_lock k v n b e = Prim.search (rules)

act_unlock : (k : Key) (n : ℕ) (b : Act) → act_eq.it (Act.Unlock k n) b ≡ true → (Act.Unlock k n) ≡ b
act_unlock k n b e = Prim.search (rules)

act_afterinsert : (k : Key) (r : Row) (n : ℕ) (b : Act) → act_eq.it (Act.AfterInsert k r n) b ≡ true → (Act.AfterInsert k r n) ≡ b
act_afterinsert k r n b e = Prim.search (rules, row_decides)

act_afterupdate : (k : Key) (n : ℕ) (r : Row) (b : Act) → act_eq.it (Act.AfterUpdate k n r) b ≡ true → (Act.AfterUpdate k n r) ≡ b
act_afterupdate k n r b e = Prim.search (rules, row_decides)

act_regionremove : (k : Key) (b : Act) → act_eq.it (Act.RegionRemove k) b ≡ true → (Act.RegionRemove k) ≡ b
act_regionremove k b e = Prim.search (rules)

act_evict : (k : Key) (b : Act) → act_eq.it (Act.Evict k) b ≡ true → (Act.Evict k) ≡ b
act_evict k b e = Prim.search (rules)

act_equal : (a b : Act) → act_eq.it a b ≡ true → a ≡ b
act_equal Act.Begin = act_begin
act_equal Act.End = act_end
act_equal (Act.Kill n) = act_kill n
act_equal Act.Restart = act_restart
act_equal (Act.Find k) = act_find k
act_equal (Act.Persist k r) = act_persist k r
act_equal (Act.Set k xs) = act_set k xs
act_equal (Act.Remove k) = act_remove k
act_equal Act.Clear = act_clear
act_equal (Act.Load k) = act_load k
act_equal (Act.List n) = act_list n
act_equal (Act.Write c) = act_write c
act_equal Act.Commit = act_commit
act_equal Act.Rollback = act_rollback
act_equal (Act.Pre ts) = act_pre ts
act_equal (Act.Stamp ts) = act_stamp ts
act_equal (Act.Check n m) = act_check n m
act_equal (Act.Look n) = act_look n
act_equal (Act.Keep n m l) = act_keep n m l
act_equal (Act.Get k n) = act_get k n
act_equal (Act.Put k r n m) = act_put k r n m
act_equal (Act.Lock k v n) = act_lock k v n
act_equal (Act.Unlock k n) = act_unlock k n
act_equal (Act.AfterInsert k r n) = act_afterinsert k r n
act_equal (Act.AfterUpdate k n r) = act_afterupdate k n r
act_equal (Act.RegionRemove k) = act_regionremove k
act_equal (Act.Evict k) = act_evict k

pub act_decides : (a b : Act) → Decides (act_eq.it a b) (a ≡ b)
act_decides a b = (act_equal a b, λ e. subst (λ c. act_eq.it a c ≡ true) e (act_same a))

-- ---- replies

reply_same : (a : Reply) → reply_eq.it a a ≡ true
reply_same (Reply.Began n) = Prim.search (rules)
reply_same (Reply.Ended o) = Prim.search (rules)
reply_same Reply.Done = Prim.search (rules)
reply_same (Reply.Row o) = Prim.search (rules, row_decides)
reply_same Reply.New = Prim.search (rules)
reply_same Reply.Known = Prim.search (rules)
reply_same Reply.Set = Prim.search (rules)
reply_same Reply.Unknown = Prim.search (rules)
reply_same Reply.ReadOnly = Prim.search (rules)
reply_same Reply.Removed = Prim.search (rules)
reply_same Reply.Cleared = Prim.search (rules)
reply_same (Reply.Listed l) = Prim.search (rules, cells_decide)
reply_same Reply.Fault = Prim.search (rules)
reply_same Reply.Written = Prim.search (rules)
reply_same (Reply.Commit c) = Prim.search (rules)
reply_same (Reply.Stamped n) = Prim.search (rules)
reply_same (Reply.Check c) = Prim.search (rules)
reply_same (Reply.Found n l) = Prim.search (rules, cells_decide)
reply_same Reply.Absent = Prim.search (rules)
reply_same (Reply.Kept o) = Prim.search (rules)
reply_same (Reply.Hit r) = Prim.search (rules, row_decides)
reply_same (Reply.Miss m) = Prim.search (rules)
reply_same (Reply.Put p) = Prim.search (rules)
reply_same (Reply.Locked l) = Prim.search (rules)
reply_same (Reply.Unlocked u) = Prim.search (rules)
reply_same (Reply.Inserted i) = Prim.search (rules)
reply_same (Reply.Updated u) = Prim.search (rules)
reply_same Reply.Dropped = Prim.search (rules)
reply_same (Reply.Evicted g) = Prim.search (rules)

reply_began : (n : ℕ) (b : Reply) → reply_eq.it (Reply.Began n) b ≡ true → (Reply.Began n) ≡ b
reply_began n b e = Prim.search (rules)

reply_ended : (o : Outcome) (b : Reply) → reply_eq.it (Reply.Ended o) b ≡ true → (Reply.Ended o) ≡ b
reply_ended o b e = Prim.search (rules)

reply_done : (b : Reply) → reply_eq.it Reply.Done b ≡ true → Reply.Done ≡ b
reply_done b e = Prim.search (rules)

reply_row : (o : Option Row) (b : Reply) → reply_eq.it (Reply.Row o) b ≡ true → (Reply.Row o) ≡ b
reply_row o b e = Prim.search (rules, row_decides)

reply_new : (b : Reply) → reply_eq.it Reply.New b ≡ true → Reply.New ≡ b
reply_new b e = Prim.search (rules)

reply_known : (b : Reply) → reply_eq.it Reply.Known b ≡ true → Reply.Known ≡ b
reply_known b e = Prim.search (rules)

reply_set : (b : Reply) → reply_eq.it Reply.Set b ≡ true → Reply.Set ≡ b
reply_set b e = Prim.search (rules)

reply_unknown : (b : Reply) → reply_eq.it Reply.Unknown b ≡ true → Reply.Unknown ≡ b
reply_unknown b e = Prim.search (rules)

reply_readonly : (b : Reply) → reply_eq.it Reply.ReadOnly b ≡ true → Reply.ReadOnly ≡ b
reply_readonly b e = Prim.search (rules)

reply_removed : (b : Reply) → reply_eq.it Reply.Removed b ≡ true → Reply.Removed ≡ b
reply_removed b e = Prim.search (rules)

reply_cleared : (b : Reply) → reply_eq.it Reply.Cleared b ≡ true → Reply.Cleared ≡ b
reply_cleared b e = Prim.search (rules)

reply_listed : (l : List Cell) (b : Reply) → reply_eq.it (Reply.Listed l) b ≡ true → (Reply.Listed l) ≡ b
reply_listed l b e = Prim.search (rules, cells_decide)

reply_fault : (b : Reply) → reply_eq.it Reply.Fault b ≡ true → Reply.Fault ≡ b
reply_fault b e = Prim.search (rules)

reply_written : (b : Reply) → reply_eq.it Reply.Written b ≡ true → Reply.Written ≡ b
reply_written b e = Prim.search (rules)

reply_commit : (c : Commit) (b : Reply) → reply_eq.it (Reply.Commit c) b ≡ true → (Reply.Commit c) ≡ b
reply_commit c b e = Prim.search (rules)

reply_stamped : (n : ℕ) (b : Reply) → reply_eq.it (Reply.Stamped n) b ≡ true → (Reply.Stamped n) ≡ b
reply_stamped n b e = Prim.search (rules)

reply_check : (c : Checked) (b : Reply) → reply_eq.it (Reply.Check c) b ≡ true → (Reply.Check c) ≡ b
reply_check c b e = Prim.search (rules)

reply_found : (n : ℕ) (l : List Cell) (b : Reply) → reply_eq.it (Reply.Found n l) b ≡ true → (Reply.Found n l) ≡ b
reply_found n l b e = Prim.search (rules, cells_decide)

reply_absent : (b : Reply) → reply_eq.it Reply.Absent b ≡ true → Reply.Absent ≡ b
reply_absent b e = Prim.search (rules)

reply_kept : (o : Option ℕ) (b : Reply) → reply_eq.it (Reply.Kept o) b ≡ true → (Reply.Kept o) ≡ b
reply_kept o b e = Prim.search (rules)

reply_hit : (r : Row) (b : Reply) → reply_eq.it (Reply.Hit r) b ≡ true → (Reply.Hit r) ≡ b
reply_hit r b e = Prim.search (rules, row_decides)

reply_miss : (m : Miss) (b : Reply) → reply_eq.it (Reply.Miss m) b ≡ true → (Reply.Miss m) ≡ b
reply_miss m b e = Prim.search (rules)

reply_put : (p : Put) (b : Reply) → reply_eq.it (Reply.Put p) b ≡ true → (Reply.Put p) ≡ b
reply_put p b e = Prim.search (rules)

reply_locked : (l : Locked) (b : Reply) → reply_eq.it (Reply.Locked l) b ≡ true → (Reply.Locked l) ≡ b
reply_locked l b e = Prim.search (rules)

reply_unlocked : (u : Unlocked) (b : Reply) → reply_eq.it (Reply.Unlocked u) b ≡ true → (Reply.Unlocked u) ≡ b
reply_unlocked u b e = Prim.search (rules)

reply_inserted : (i : Inserted) (b : Reply) → reply_eq.it (Reply.Inserted i) b ≡ true → (Reply.Inserted i) ≡ b
reply_inserted i b e = Prim.search (rules)

reply_updated : (u : Updated) (b : Reply) → reply_eq.it (Reply.Updated u) b ≡ true → (Reply.Updated u) ≡ b
reply_updated u b e = Prim.search (rules)

reply_dropped : (b : Reply) → reply_eq.it Reply.Dropped b ≡ true → Reply.Dropped ≡ b
reply_dropped b e = Prim.search (rules)

reply_evicted : (g : Evicted) (b : Reply) → reply_eq.it (Reply.Evicted g) b ≡ true → (Reply.Evicted g) ≡ b
reply_evicted g b e = Prim.search (rules)

reply_equal : (a b : Reply) → reply_eq.it a b ≡ true → a ≡ b
reply_equal (Reply.Began n) = reply_began n
reply_equal (Reply.Ended o) = reply_ended o
reply_equal Reply.Done = reply_done
reply_equal (Reply.Row o) = reply_row o
reply_equal Reply.New = reply_new
reply_equal Reply.Known = reply_known
reply_equal Reply.Set = reply_set
reply_equal Reply.Unknown = reply_unknown
reply_equal Reply.ReadOnly = reply_readonly
reply_equal Reply.Removed = reply_removed
reply_equal Reply.Cleared = reply_cleared
reply_equal (Reply.Listed l) = reply_listed l
reply_equal Reply.Fault = reply_fault
reply_equal Reply.Written = reply_written
reply_equal (Reply.Commit c) = reply_commit c
reply_equal (Reply.Stamped n) = reply_stamped n
reply_equal (Reply.Check c) = reply_check c
reply_equal (Reply.Found n l) = reply_found n l
reply_equal Reply.Absent = reply_absent
reply_equal (Reply.Kept o) = reply_kept o
reply_equal (Reply.Hit r) = reply_hit r
reply_equal (Reply.Miss m) = reply_miss m
reply_equal (Reply.Put p) = reply_put p
reply_equal (Reply.Locked l) = reply_locked l
reply_equal (Reply.Unlocked u) = reply_unlocked u
reply_equal (Reply.Inserted i) = reply_inserted i
reply_equal (Reply.Updated u) = reply_updated u
reply_equal Reply.Dropped = reply_dropped
reply_equal (Reply.Evicted g) = reply_evicted g

pub reply_decides : (a b : Reply) → Decides (reply_eq.it a b) (a ≡ b)
reply_decides a b = (reply_equal a b, λ e. subst (λ c. reply_eq.it a c ≡ true) e (reply_same a))
