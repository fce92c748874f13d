-- A session that is made ready has the entries that it had, so lists go on from it as before.
use Rattle.std.proofs.Common.{ℕ, cond, ◌==◌, sym, subst}
use Rattle.hib_journal.specs.Types.{Part}
use Rattle.hib_journal.specs.Sessions.{Journal}
use Rattle.hib_parts.specs.Listed.{WorkerState, IsKept}
use Rattle.hib_parts.specs.Run.{with_own, AreOfRun, AreOfRunOneByOne, GoesOn}

module _ (l : Part → Journal) (w v : WorkerState) (kept : IsKept w v) where
  run_kept : (others : ℕ → Journal) → AreOfRun l (with_own w others) → AreOfRun l (with_own v others)
  run_kept others a =
      subst (λ n. AreOfRun l (λ s. cond (n == s) v.list (others s))) (sym kept.number)
      (subst (λ k. AreOfRun l (λ s. cond (w.number == s) k (others s))) (sym kept.list) a)

  in_order_kept : (others : ℕ → Journal) → AreOfRunOneByOne l (with_own w others) w.number w.list → AreOfRunOneByOne l (with_own v others) v.number v.list
  in_order_kept others a =
      subst (λ n. AreOfRunOneByOne l (λ s. cond (n == s) v.list (others s)) n v.list) (sym kept.number)
      (subst (λ k. AreOfRunOneByOne l (λ s. cond (w.number == s) k (others s)) w.number k) (sym kept.list) a)

  pub goes_on_ready : (m : Part → Journal) (u : WorkerState) → GoesOn l v m u → GoesOn l w m u
  goes_on_ready m u g = record {
    on = λ others a. g.on others (run_kept others a);
    one_by_one = λ others a. g.one_by_one others (in_order_kept others a);
  }

  pub stays_ready : GoesOn l w l v
  stays_ready = record { on = run_kept; one_by_one = in_order_kept }
