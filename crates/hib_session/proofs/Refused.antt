-- The acts that complete a transaction whose commit wasn't applied, of those that complete one whose commit was.
use Rattle.std.proofs.Common.{◌≡◌, ℕ, zero, suc, ◌+◌, ◌<◌, add-one, arith, length, Bool, true, false, cond, ◌&&◌, List, [], ◌∷◌, ◌++◌, filter, map, set, get_or, Some, None, Option, option_and_then, refl, ap, ◌∙◌}
use Rattle.std.specs.List.{flat_map}
use Rattle.hib_base.specs.Tables.{row_left, first_on, last_on}
use Rattle.hib_journal.specs.Types.{Key, Row, Change, Strategy, Mode, Script, Act}
use Rattle.hib_journal.specs.Sessions.{Journal, floor_in, changes_in}
use Rattle.hib_journal.specs.Next.{mode_puts, strategy, lock_id, complete_insert, complete_update, complete_by, complete, keys_of, stamps_of, tables_in, completion}
use Rattle.hib_session.specs.Ahead.{refused_act, is_kept, refused_of}

-- ---- acts that are turned one after another

abbrev pub turned : ℕ → List Act → List Act
turned zero acts = acts
turned (suc i) [] = []
turned (suc i) (a ∷ acts) = refused_act a ∷ turned i acts

pub all_turned : (acts : List Act) → turned (length acts) acts ≡ map refused_act acts
all_turned [] = refl
all_turned (a ∷ acts) = ap (λ xs. refused_act a ∷ xs) (all_turned acts)

turned_suc : (acts : List Act) (i : ℕ) (d : Act) → i < length acts → set (turned i acts) i (refused_act (get_or (turned i acts) i d)) ≡ turned (suc i) acts
turned_suc [] i d l = absurd (omega (arith, l))
turned_suc (a ∷ acts) zero d l = refl
turned_suc (a ∷ acts) (suc i) d l = let m : i < length acts = omega (arith, l) in ap (λ xs. refused_act a ∷ xs) (turned_suc acts i d m)

turned_more : (acts : List Act) (i : ℕ) (d : Act) → i < length acts → set (turned i acts) i (refused_act (get_or (turned i acts) i d)) ≡ turned (i + 1) acts
turned_more acts i d l = rw add-one (turned_suc acts i d l)

-- one more
pub turned_at : (acts xs : List Act) (i : ℕ) (d y : Act) → i < length acts → xs ≡ turned i acts → y ≡ refused_act (get_or xs i d) → set xs i y ≡ turned (i + 1) acts
turned_at acts xs i d y l e f = ap (set xs i) f ∙ (ap (λ zs. set zs i (refused_act (get_or zs i d))) e ∙ turned_more acts i d l)

-- ---- what completes a transaction

refused_append : (xs ys : List Act) → refused_of (xs ++ ys) ≡ refused_of xs ++ refused_of ys
refused_append [] ys = refl
refused_append (x ∷ xs) ys = by (is_kept x) (refused_append xs ys)
  where
    by : (b : Bool) → refused_of (xs ++ ys) ≡ refused_of xs ++ refused_of ys →
        map refused_act (cond b (x ∷ filter is_kept (xs ++ ys)) (filter is_kept (xs ++ ys))) ≡ map refused_act (cond b (x ∷ filter is_kept xs) (filter is_kept xs)) ++ refused_of ys
    by true i = ap (λ zs. refused_act x ∷ zs) i
    by false i = i

refused_insert : (g : Strategy) (k : Key) (r : Option Row) (floor : ℕ) → refused_of (complete_insert g k r floor) ≡ complete_insert g k None floor
refused_insert Strategy.ReadOnly k (Some r) floor = refl
refused_insert Strategy.ReadOnly k None floor = refl
refused_insert Strategy.ReadWrite k (Some r) floor = refl
refused_insert Strategy.ReadWrite k None floor = refl
refused_insert Strategy.Nonstrict k r floor = refl
refused_insert Strategy.Uncached k r floor = refl

refused_update : (g : Strategy) (k : Key) (i : ℕ) (r : Option Row) → refused_of (complete_update g k i r) ≡ complete_update g k i None
refused_update Strategy.ReadWrite k i (Some r) = refl
refused_update Strategy.ReadWrite k i None = refl
refused_update Strategy.ReadOnly k i r = refl
refused_update Strategy.Nonstrict k i r = refl
refused_update Strategy.Uncached k i r = refl

refused_by : (c : Option Change) (g : Strategy) (k : Key) (i floor : ℕ) (r : Option Row) → refused_of (complete_by c g k i floor r) ≡ complete_by c g k i floor None
refused_by None g k i floor r = refl
refused_by (Some (Change.Insert j x)) g k i floor r = refused_insert g k r floor
refused_by (Some (Change.Update j v x)) g k i floor r = refused_update g k i r
refused_by (Some (Change.Delete j v)) g k i floor r = refused_update g k i r

refused_keys : (script : Script) (m : Mode) (mine : Journal) (ks : List Key) →
    refused_of (flat_map (λ k. complete script m mine true (changes_in mine) k) ks) ≡ flat_map (λ k. complete script m mine false (changes_in mine) k) ks
refused_keys script m mine [] = refl
refused_keys script m mine (k ∷ ks) =
    refused_append (complete script m mine true (changes_in mine) k) (flat_map (λ k. complete script m mine true (changes_in mine) k) ks)
    ∙ rw (refused_by (first_on k (changes_in mine)) (strategy script k.entity) k (lock_id k mine) (floor_in mine) (cond (true && mode_puts m) (option_and_then row_left (last_on k (changes_in mine))) None), refused_keys script m mine ks) refl

refused_stamps : (ns : List ℕ) → refused_of (stamps_of ns) ≡ stamps_of ns
refused_stamps [] = refl
refused_stamps (n ∷ ns) = refl

with_end : (xs ys : List Act) (ns : List ℕ) → refused_of xs ≡ ys → refused_of (xs ++ stamps_of ns ++ Act.End ∷ []) ≡ ys ++ stamps_of ns ++ Act.End ∷ []
with_end xs ys ns h = refused_append (xs ++ stamps_of ns) (Act.End ∷ []) ∙ ap (λ zs. zs ++ Act.End ∷ []) (refused_append xs (stamps_of ns) ∙ rw (h, refused_stamps ns) refl)

pub refused_completion : (script : Script) (m : Mode) (mine : Journal) → refused_of (completion script m true mine) ≡ completion script m false mine
refused_completion script m mine =
    with_end (flat_map (λ k. complete script m mine true (changes_in mine) k) (keys_of (changes_in mine))) (flat_map (λ k. complete script m mine false (changes_in mine) k) (keys_of (changes_in mine)))
    (tables_in script (changes_in mine)) (refused_keys script m mine (keys_of (changes_in mine)))

-- of a list that is that of an applied commit, the one that is due
pub picked : (script : Script) (m : Mode) (mine : Journal) (acts : List Act) (committed : Bool) → acts ≡ completion script m true mine → cond committed acts (refused_of acts) ≡ completion script m committed mine
picked script m mine acts true e = e
picked script m mine acts false e = ap refused_of e ∙ refused_completion script m mine
