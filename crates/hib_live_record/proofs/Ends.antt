-- Sessions whose last transactions are ended, one after the other.
use Rattle.std.proofs.Common.{◌≡◌, ◌<◌, ◌≤◌, ◌+◌, ◌-◌, inl, inr, ℕ, zero, suc, Bool, true, false, cond, List, [], ◌∷◌, ◌++◌, map, take, drop, length, slice_set, slice_index_or, refl, sym, ap, subst, ◌∙◌, append-nil, arith, Result, Ok, Err}
use Rattle.std.specs.Prelude.{OnErr}
use Rattle.hib_base.proofs.Tables.{Tested, tested}
use Rattle.hib_base.specs.Scripts.{are_over, ends}
use Rattle.hib_journal.specs.Types.{Statement, SessionDef, Order, Script}
use Rattle.hib_live_law.specs.Grown.{IsLonger, AreLonger, HasGrown}
use Rattle.hib_live_record.specs.Recorded.{ended}

over_last : (ts : List Statement) (n : ℕ) (d : Statement) → length ts ≡ suc n → ends (slice_index_or ts n d) ≡ are_over ts
over_last [] n d l = absurd (omega (arith, l))
over_last (t ∷ []) zero d l = refl
over_last (t ∷ []) (suc n) d l = absurd (omega (arith, l))
over_last (t ∷ u ∷ ts) zero d l = absurd (omega (arith, l))
over_last (t ∷ u ∷ ts) (suc n) d l = over_last (u ∷ ts) n d (omega (arith, l))

pub over_at : (ts : List Statement) (d : Statement) → 0 < length ts → ends (slice_index_or ts (length ts - 1) d) ≡ are_over ts
over_at ts d l = over_last ts (length ts - 1) d (omega (arith, l))

longer_ended : (d : SessionDef) → IsLonger d (ended d)
longer_ended d = by (tested (are_over d.statements))
  where
    by : Tested (are_over d.statements) → IsLonger d (ended d)
    by (inl p) = rw p (record { more = []; statements = sym (append-nil d.statements) })
    by (inr p) = rw p (record { more = Statement.Rollback ∷ []; statements = refl })

longer_same : (ds : List SessionDef) → AreLonger ds ds
longer_same [] = tt
longer_same (d ∷ ds) = (record { more = []; statements = sym (append-nil d.statements) }, longer_same ds)

-- the first ones are ended
abbrev pub part : List SessionDef → ℕ → List SessionDef
part ds n = map ended (take n ds) ++ drop n ds

pub part_at : (ds : List SessionDef) (n : ℕ) (d : SessionDef) → slice_index_or (part ds n) n d ≡ slice_index_or ds n d
part_at [] zero d = refl
part_at [] (suc n) d = refl
part_at (e ∷ ds) zero d = refl
part_at (e ∷ ds) (suc n) d = part_at ds n d

pub part_next : (ds : List SessionDef) (n : ℕ) (e d : SessionDef) → n < length ds → e ≡ ended (slice_index_or ds n d) → slice_set (part ds n) n e ≡ part ds (suc n)
part_next [] n e d l p = absurd (omega (arith, l))
part_next (c ∷ ds) zero e d l p = ap (λ x. x ∷ ds) p
part_next (c ∷ ds) (suc n) e d l p = ap (λ xs. ended c ∷ xs) (part_next ds n e d (omega (arith, l)) p)

pub part_done : (ds : List SessionDef) (n : ℕ) → length ds ≤ n → part ds n ≡ map ended ds
part_done [] zero l = refl
part_done [] (suc n) l = refl
part_done (d ∷ ds) zero l = absurd (omega (arith, l))
part_done (d ∷ ds) (suc n) l = ap (λ xs. ended d ∷ xs) (part_done ds n (omega (arith, l)))

longer_part : (ds : List SessionDef) (n : ℕ) → AreLonger ds (part ds n)
longer_part [] n = tt
longer_part (d ∷ ds) zero = longer_same (d ∷ ds)
longer_part (d ∷ ds) (suc n) = (longer_ended d, longer_part ds n)

part_kept : (ds : List SessionDef) (n : ℕ) (e d : SessionDef) → n < length ds → e ≡ slice_index_or ds n d → slice_set (part ds n) n e ≡ part ds n
part_kept [] n e d l p = absurd (omega (arith, l))
part_kept (c ∷ ds) zero e d l p = ap (λ x. x ∷ ds) p
part_kept (c ∷ ds) (suc n) e d l p = ap (λ xs. ended c ∷ xs) (part_kept ds n e d (omega (arith, l)) p)

-- if one of them stays as it is
pub longer_kept : (ds : List SessionDef) (n : ℕ) (e d : SessionDef) → n < length ds → e ≡ slice_index_or ds n d → AreLonger ds (slice_set (part ds n) n e)
longer_kept ds n e d l p = subst (λ xs. AreLonger ds xs) (sym (part_kept ds n e d l p)) (longer_part ds n)

longer_all : (ds : List SessionDef) → AreLonger ds (map ended ds)
longer_all [] = tt
longer_all (d ∷ ds) = (longer_ended d, longer_all ds)

pub grown_same : (s : Script) → HasGrown s s
grown_same s = record { timeout = refl; results = refl; mapping = refl; queries = refl; sessions = longer_same s.sessions }

pub grown_ended : (s : Script) (os : List Order) → HasGrown s (record s { sessions = map ended s.sessions; schedule = os })
grown_ended s os = record { timeout = refl; results = refl; mapping = refl; queries = refl; sessions = longer_all s.sessions }

pub on_err : {A E : Type 0} {P : Type 0} (r : Result A E) → P → OnErr r P
on_err (Ok x) p = tt
on_err (Err e) p = p
