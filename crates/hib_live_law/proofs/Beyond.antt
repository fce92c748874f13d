-- A session that a script doesn't have: it has no entry in a legal journal, it isn't open, and it wasn't killed.
use Rattle.std.specs.Prelude.{slice_get}
use Rattle.std.proofs.Common.{◌≡◌, ℕ, inl, inr, Bool, true, false, cond, ◌==◌, [], ◌∷◌, Some, None, Option, refl, sym, subst, ◌∙◌}
use Rattle.std.proofs.lemmas.Bool.{true≢false, eqb-true}
use Rattle.hib_base.specs.Tables.{Tables}
use Rattle.hib_base.proofs.Tables.{Tested, tested}
use Rattle.hib_journal.specs.Types.{Script, Act}
use Rattle.hib_journal.specs.Sessions.{Journal, own, is_by, is_session, is_open, open_after, killed_by}
use Rattle.hib_journal.specs.Next.{next, is_cached}
use Rattle.hib_journal.specs.Legal.{IsLegal, due, may_come}
use Rattle.hib_journal.proofs.Steps.{next_act}
use Rattle.hib_live_law.specs.Grown.{IsUnused}

no_act : (a : Act) → ◌≡◌ {A = Option Act} None (Some a) → ⊥
no_act a p = cc

-- no act is due in it
nothing_due : (script : Script) (n : ℕ) → slice_get script.sessions n ≡ None → next script n [] ≡ None
unfolding next
nothing_due script n p = rw p refl

-- a kill names an open session
kill_open : (script : Script) (h : Journal) (x : Option Act) (m : ℕ) → may_come script h x ≡ Some (Act.Kill m) → is_open m h ≡ true
kill_open script h None m p = absurd (no_act (Act.Kill m) p)
kill_open script h (Some (Act.Kill k)) m p = by_test (tested (is_open k h))
  where
    by_test : Tested (is_open k h) → is_open m h ≡ true
    by_test (inr q) = absurd (no_act (Act.Kill m) (rw q at p))
    by_test (inl q) = let e : Some (Act.Kill k) ≡ Some (Act.Kill m) = rw q at p in let s : k ≡ m = cc in subst (λ z. is_open z h ≡ true) s q
kill_open script h (Some (Act.Evict k)) m p = by_test (tested (is_cached script k.entity))
  where
    by_test : Tested (is_cached script k.entity) → is_open m h ≡ true
    by_test (inr q) = absurd (no_act (Act.Kill m) (rw q at p))
    by_test (inl q) = let e : Some (Act.Evict k) ≡ Some (Act.Kill m) = rw q at p in absurd (cc)
kill_open script h (Some _) m p = absurd (cc)

unkilled : (script : Script) (h : Journal) (x : Option Act) (n : ℕ) (a : Act) → may_come script h x ≡ Some a → is_open n h ≡ false → killed_by n a (is_open n h) ≡ false
unkilled script h x n (Act.Kill m) p o = by_test (tested (m == n))
  where
    by_test : Tested (m == n) → (m == n) ≡ false
    by_test (inr q) = q
    by_test (inl q) = absurd (true≢false (sym (subst (λ z. is_open z h ≡ true) (eqb-true m n q) (kill_open script h x m p)) ∙ o))
unkilled script h x n Act.Restart p o = o
unkilled script h x n _ p o = refl

unopened : (n : ℕ) (by : Option ℕ) (a : Act) (o : Bool) → is_session n by ≡ false → o ≡ false → open_after n by a o ≡ false
unopened n by Act.Begin o p q = rw (p, q) refl
unopened n by Act.End o p q = rw (p, q) refl
unopened n by (Act.Kill m) o p q = rw q (same (m == n))
  where
    same : (b : Bool) → cond b false false ≡ false
    same true = refl
    same false = refl
unopened n by Act.Restart o p q = refl
unopened n by _ o p q = q

pub unused : (script : Script) (told : Option Tables) (n : ℕ) (h : Journal) → slice_get script.sessions n ≡ None → IsLegal script told h → IsUnused n h
unused script told n [] p l = record { apart = refl; closed = refl; unkilled = refl }
unused script told n (e ∷ h) p l = by_session (tested (is_by n e)) (unused script told n h p l.0)
  where
    by_session : Tested (is_by n e) → IsUnused n h → IsUnused n (e ∷ h)
    by_session (inl q) before =
        let due_now : next script n (own n h) ≡ Some e.act = (next_act script told h e n l.1 q).1 in
        absurd (no_act e.act (sym (nothing_due script n p) ∙ subst (λ m. next script n m ≡ Some e.act) before.apart due_now))
    by_session (inr q) before =
        let k : killed_by n e.act (is_open n h) ≡ false = unkilled script h (due script h e) n e.act l.1.act before.closed in
        record {
          apart = rw q before.apart;
          closed = unopened n e.session e.act (is_open n h) q before.closed;
          unkilled = rw k before.unkilled;
        }
