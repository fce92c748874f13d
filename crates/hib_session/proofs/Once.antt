-- The changes that are pending: each is of what is held of its key, and each key has one at most.
use Rattle.std.proofs.Common.{◌≡◌, ℕ, suc, ◌≤◌, ◌⊎◌, inl, inr, Bool, true, false, cond, List, [], ◌∷◌, ◌++◌, Some, None, Option, refl, sym, ◌∙◌, subst, arith}
use Rattle.std.proofs.lemmas.Bool.{true≢false}
use Rattle.std.specs.List.{filter_map, cons_option}
use Rattle.hib_journal.specs.Types.{Key, Change}
use Rattle.hib_base.specs.Keys.{same_key}
use Rattle.hib_base.specs.Tables.{key_of}
use Rattle.hib_journal.specs.Sessions.{Journal}
use Rattle.hib_journal.specs.Held.{held, Instance, pending, arrived, removed}
use Rattle.hib_journal.proofs.Shapes.{insert_of, update_of, delete_of}
use Rattle.hib_base.proofs.Tables.{Tested, tested}
use Rattle.hib_law.proofs.Basics.{none_some}
use Rattle.hib_law.proofs.Flushes.{held_key, insert_key, update_key, delete_key, times, Names, IsOnceIn, once_pending as is_once}

-- ---- each pending change is what the instance of its key asks for

abbrev pub Asks : Option Instance → Change → Type 0
Asks i c = (insert_of i ≡ Some c) ⊎ ((update_of i ≡ Some c) ⊎ (delete_of i ≡ Some c))

abbrev pub Says : (Option Instance → Option Change) → Type 0
Says f = ((z : Instance) (c : Change) → f (Some z) ≡ Some c → key_of c ≡ z.key) × (f None ≡ None)

-- in m, each of these changes
abbrev pub AllAsk : Journal → List Change → Type 0
AllAsk m [] = Unit {0}
AllAsk m (c ∷ cs) = Asks (held m (key_of c)) c × AllAsk m cs

key_of_held : (f : Option Instance → Option Change) → Says f → (m : Journal) (j : Key) (c : Change) → f (held m j) ≡ Some c → key_of c ≡ j
key_of_held f s m j c e = by_held (held m j) refl e
  where
    by_held : (i : Option Instance) → held m j ≡ i → f i ≡ Some c → key_of c ≡ j
    by_held None p e = none_some (sym s.1 ∙ e)
    by_held (Some z) p e = s.0 z c e ∙ held_key m j z p

all_filter : (f : Option Instance → Option Change) → Says f → ((i : Option Instance) (c : Change) → f i ≡ Some c → Asks i c) → (m : Journal) (ks : List Key) → AllAsk m (filter_map (λ j. f (held m j)) ks)
all_filter f s a m [] = tt
all_filter f s a m (j ∷ ks) = by_change (f (held m j)) refl (all_filter f s a m ks)
  where
    by_change : (o : Option Change) → f (held m j) ≡ o → AllAsk m (filter_map (λ j. f (held m j)) ks) → AllAsk m (cons_option (f (held m j)) (filter_map (λ j. f (held m j)) ks))
    by_change None p r = rw p r
    by_change (Some c) p r = rw p (subst (λ y. Asks (held m y) c) (sym (key_of_held f s m j c p)) (a (held m j) c p), r)

all_append : (m : Journal) (xs ys : List Change) → AllAsk m xs → AllAsk m ys → AllAsk m (xs ++ ys)
all_append m [] ys a b = b
all_append m (x ∷ xs) ys a b = (a.0, all_append m xs ys a.1 b)

pub all_pending : (m : Journal) → AllAsk m (pending m)
unfolding pending
all_pending m =
    all_append m (filter_map (λ j. insert_of (held m j)) (arrived m) ++ filter_map (λ j. update_of (held m j)) (arrived m)) (filter_map (λ j. delete_of (held m j)) (removed m))
    (all_append m (filter_map (λ j. insert_of (held m j)) (arrived m)) (filter_map (λ j. update_of (held m j)) (arrived m))
    (all_filter insert_of (insert_key, refl) (λ i c e. inl e) m (arrived m)) (all_filter update_of (update_key, refl) (λ i c e. inr (inl e)) m (arrived m)))
    (all_filter delete_of (delete_key, refl) (λ i c e. inr (inr e)) m (removed m))

-- ---- each key is changed once at most by a flush

none_times : (k : Key) (m : Journal) (cs : List Change) → Names k m cs ≡ false → times k cs ≡ 0
none_times k m [] n = refl
none_times k m (c ∷ cs) n = by_key (tested (same_key (key_of c) k)) n (none_times k m cs)
  where
    by_key : Tested (same_key (key_of c) k) → Names k m (c ∷ cs) ≡ false → (Names k m cs ≡ false → times k cs ≡ 0) → times k (c ∷ cs) ≡ 0
    by_key (inl x) n i = let g : ◌≡◌ {A = Bool} true false = rw x at n in absurd (true≢false g)
    by_key (inr x) n i = let g : Names k m cs ≡ false = rw x at n in rw x (i g)

once_times : (k : Key) (m : Journal) (cs : List Change) → IsOnceIn k m cs → times k cs ≤ 1
once_times k m [] o = omega arith
once_times k m (c ∷ cs) o = by_key (tested (same_key (key_of c) k)) (once_times k m cs o.1)
  where
    by_key : Tested (same_key (key_of c) k) → times k cs ≤ 1 → times k (c ∷ cs) ≤ 1
    by_key (inl x) l = let z : times k cs ≡ 0 = none_times k m cs (o.0 x) in rw (x, z) (omega arith)
    by_key (inr x) l = rw x l

pub once_pending : (k : Key) (m : Journal) → times k (pending m) ≤ 1
once_pending k m = once_times k m (pending m) (is_once k m)
