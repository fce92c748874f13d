-- A run obeys the law, and what each step gives a factory.
use Rattle.std.proofs.Common.{◌≡◌, ℕ, ◌+◌, ◌-◌, ◌≤◌, true, List, IfSome, Some, Option, subst, arith}
use Rattle.hib_base.specs.Tables.{Tables, in_order}
use Rattle.hib_journal.specs.Types.{Key, Script, Strategy}
use Rattle.hib_journal.specs.Next.{strategy}
use Rattle.hib_engines.specs.Origin.{Origin}
use Rattle.hib_bulk.specs.Types.{BulkDef}
use Rattle.hib_bulk_law.specs.Plain.{Bulked}
use Rattle.hib_bulk_law.specs.Legal.{IsLegal}
use Rattle.hib_bulk_law.specs.Law.{AtEachEntry, IsKeyCoherent, IsLoadView, AreInOrder}
use Rattle.hib_bulk.specs.Standing.{BulkPartsState}
use Rattle.hib_bulk.specs.Run.{IsRun, Obeys}

pub obeys : ((script : Script) (lines : List BulkDef) (start : Tables) (k : Key) → strategy script k.entity ≡ Strategy.ReadWrite → in_order start ≡ true → (h : Bulked) → IsLegal script lines (Some start) h →
    IsKeyCoherent script lines start k h) →
    ((script : Script) (lines : List BulkDef) (start : Tables) (h : Bulked) → IsLegal script lines (Some start) h → AtEachEntry (IsLoadView script lines start) h) →
    ((script : Script) (lines : List BulkDef) (told : Option Tables) (h : Bulked) → IsLegal script lines told h → AreInOrder script lines h) →
    (script : Script) (lines : List BulkDef) (from : Origin) (h : Bulked) (x : BulkPartsState) → IsRun script lines from h x → Obeys script lines from.tables h
obeys rows loads order script lines from h x run = record {
  rows = λ start q k r. rows script lines start k r (subst (λ o. IfSome o (λ t. in_order t ≡ true)) q run.ordered) h (subst (λ o. IsLegal script lines o h) q run.legal);
  loads = λ start q. loads script lines start h (subst (λ o. IsLegal script lines o h) q run.legal);
  order = order script lines from.tables h run.legal;
}

pub rejoined : (m n : ℕ) → m ≤ n → m + (n - m) ≡ n
rejoined m n l = omega (arith, l)
