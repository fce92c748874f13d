-- What the stamps answer is due, and afterwards they stand for the list with the entry.
use Rattle.std.proofs.Common.{◌≡◌, ℕ, ◌+◌, ◌<◌, false, List, [], ◌∷◌, length, None, Option, refl, sym, ap, ◌∙◌, subst}
use Rattle.std.proofs.lemmas.List.{length-set, length-replicate}
use Rattle.std.proofs.lemmas.Bool.{true≢false}
use Rattle.std.specs.Prelude.{slice_set, Some, unwrap_or}
use Rattle.std.specs.List.{All}
use Rattle.hib_journal.specs.Types.{Part, Script, Act, Reply}
use Rattle.hib_journal.specs.Sessions.{Journal, is_restart}
use Rattle.hib_journal.specs.Lists.{entry_at}
use Rattle.hib_journal.specs.Next.{tables_of}
use Rattle.hib_update_stamps.specs.Stamped.{Stamped, stamped, unstamped, checked}
use Rattle.hib_update_stamps.specs.Standing.{IsStamps, stamps_after}
use Rattle.hib_engines.specs.Laws.{Laws}
use Rattle.hib_engines.specs.Served.{is_for, IsServed}
use Rattle.hib_engines.specs.Stamps.{AreStamps}
use Rattle.hib_engines.proofs.QueryTables.{all_tables}

pub stamped_length : (ts : List ℕ) (time : ℕ) (xs : Stamped) → length (stamped ts time xs) ≡ length xs
stamped_length [] time xs = refl
stamped_length (t ∷ ts) time xs = stamped_length ts time (slice_set xs t (Some time)) ∙ length-set xs t (Some time)

follows : Laws → (script : Script) (l : Journal) (by : Option ℕ) (now : ℕ) (a : Act) (r : Reply) (x y : Stamped) → AreStamps script l x → y ≡ stamps_after script.timeout now a x → length y ≡ length x →
    AreStamps script (entry_at now by a r ∷ l) y
follows w script l by now a r x y k q n = record {
  stands = subst (λ z. IsStamps script.timeout z (entry_at now by a r ∷ l)) (sym q) (w.stamps_follow script.timeout x l (entry_at now by a r) k.stands);
  tables = n ∙ k.tables;
}

pub pre_served : Laws → (script : Script) (l : Journal) (by : Option ℕ) (now : ℕ) (ts : List ℕ) (r : Reply) (x y : Stamped) → AreStamps script l x →
    r ≡ Reply.Stamped (now + script.timeout) → y ≡ stamped ts (now + script.timeout) x → IsServed (λ m. AreStamps script m y) script l by now (Act.Pre ts) r
pre_served w script l by now ts r x y k p q = record {
  reply = λ start. p;
  stands = follows w script l by now (Act.Pre ts) r x y k q (ap length q ∙ stamped_length ts (now + script.timeout) x);
}

pub stamp_served : Laws → (script : Script) (l : Journal) (by : Option ℕ) (now : ℕ) (ts : List ℕ) (r : Reply) (x y : Stamped) → AreStamps script l x →
    r ≡ Reply.Stamped now → y ≡ stamped ts now x → IsServed (λ m. AreStamps script m y) script l by now (Act.Stamp ts) r
stamp_served w script l by now ts r x y k p q = record {
  reply = λ start. p;
  stands = follows w script l by now (Act.Stamp ts) r x y k q (ap length q ∙ stamped_length ts now x);
}

pub check_served : Laws → (script : Script) (l : Journal) (by : Option ℕ) (now q t : ℕ) (r : Reply) (x : Stamped) → AreStamps script l x →
    r ≡ Reply.Check (checked t (tables_of script q) x) → IsServed (λ m. AreStamps script m x) script l by now (Act.Check q t) r
check_served w script l by now q t r x k p = record {
  reply = λ start. p ∙ ap (λ c. Reply.Check c) (w.stamps_answer script.timeout x l k.stands t (tables_of script q)
      (subst (λ n. All (λ i. i < n) (tables_of script q)) (sym k.tables) (all_tables script q)));
  stands = follows w script l by now (Act.Check q t) r x x k refl refl;
}

untouched : (a : Act) (s timeout now : ℕ) (x : Stamped) → is_for Part.Stamps a s ≡ false → is_restart a ≡ false → stamps_after timeout now a x ≡ x
untouched (Act.Pre ts) s timeout now x p q = absurd (true≢false p)
untouched (Act.Stamp ts) s timeout now x p q = absurd (true≢false p)
untouched Act.Restart s timeout now x p q = absurd (true≢false q)
untouched _ s timeout now x p q = refl

-- an entry of another part, but for a restart, leaves them
pub stamps_stay : Laws → (script : Script) (l : Journal) (by : Option ℕ) (now : ℕ) (a : Act) (r : Reply) (x : Stamped) → AreStamps script l x → is_for Part.Stamps a (unwrap_or by 0) ≡ false →
    is_restart a ≡ false → AreStamps script (entry_at now by a r ∷ l) x
stamps_stay w script l by now a r x k p q = follows w script l by now a r x x k (sym (untouched a (unwrap_or by 0) script.timeout now x p q)) refl

pub restart_stamps : Laws → (script : Script) (l : Journal) (now : ℕ) (x y : Stamped) → AreStamps script l x → y ≡ unstamped (length x) → AreStamps script (entry_at now None Act.Restart Reply.Done ∷ l) y
restart_stamps w script l now x y k q = follows w script l None now Act.Restart Reply.Done x y k q (ap length q ∙ length-replicate (length x) None)
