-- What a call leaves of a factory.
use Rattle.std.specs.Prelude.{◌≡◌, ◌+◌, ◌≤◌, true, false, ⊤, is_ok, OnOk, OnErr, Result}
use Rattle.std.specs.declared.alloc.AllocError.{AllocError}
use Rattle.hib_journal.specs.Types.{Order, Script}
use Rattle.hib_journal.specs.Kept.{past}
use Rattle.hib_journal.specs.Played.{play_order}
use Rattle.hib_law.specs.Law.{Obeys}
use Rattle.hib_core.specs.Standing.{Origin}
use Rattle.hib_core.specs.Bound.{outside_count}
use Rattle.hib_core.specs.Factory.{CoreState, FactoryState, IsAsked, IsAskedOnceMore, Hears}
use Rattle.hib_core.specs.Playing.{played, GoesOn, Leads}

-- the journal obeys the law; and if memory ran out it has gone on from what it was, the keeper was asked once more than it says at most,
-- and `refused` says so, which else it says as before
pub record HasRun {T : Type 0} (script : Script) (from : Origin) (r : Result T AllocError) (x y : FactoryState) : Type 0 where
  pub law : Obeys script from.tables (past y.journal)
  pub going : OnOk r (y.refused ≡ x.refused)
  pub stands : OnErr r (GoesOn (past x.journal) (past y.journal))
  pub asked : OnErr r (x.refused ≡ false → IsAskedOnceMore from (past y.journal) y.engines)
  pub refused : OnErr r (y.refused ≡ true)

-- ---- an order in which sessions have no part: a kill, an eviction or a restart

-- it was carried out, by one entry at most; or memory ran out, and nothing has changed but the answer of `refused`
pub record IsCarriedOut (script : Script) (from : Origin) (order : Order) (r : Result ⊤ AllocError) (x y : CoreState) : Type 0 where
  pub leads : OnOk r (Leads (play_order script order) played (past x.journal) (past y.journal))
  pub outside : outside_count (past y.journal) ≤ outside_count (past x.journal) + 1
  pub law : Obeys script from.tables (past y.journal)
  pub going : OnOk r (y.refused ≡ x.refused)
  pub same : OnErr r (past y.journal ≡ past x.journal)
  pub err : OnErr r (y ≡ record x { journal = y.journal; refused = true })
  pub asks : y.refused ≡ false → IsAsked from (past y.journal) y.engines
  pub asked : OnErr r (x.refused ≡ false → IsAskedOnceMore from (past y.journal) y.engines)

-- and its entry was told. If memory ran out and no listener is newly deaf, nothing has changed but the answer of `refused`; if one is,
-- the order was carried out, and only its entry not heard by all. If one was deaf before, nothing has changed
pub record IsObeyed (script : Script) (from : Origin) (order : Order) (r : Result ⊤ AllocError) (x y : FactoryState) : Type 0 where
  pub ran : HasRun script from r x y
  pub leads : OnOk r (Leads (play_order script order) played (past x.journal) (past y.journal))
  pub outside : outside_count (past y.journal) ≤ outside_count (past x.journal) + 1
  pub hears : Hears (past x.journal) (past y.journal) (is_ok r) x.told y.told
  pub same : OnErr r (y.deaf ≡ x.deaf → past y.journal ≡ past x.journal)
  pub err : OnErr r (y.deaf ≡ x.deaf → y ≡ record x { journal = y.journal; refused = true })
  pub unheard : OnErr r (x.deaf ≡ false → y.deaf ≡ true → Leads (play_order script order) played (past x.journal) (past y.journal))
  pub deaf : x.deaf ≡ true → y ≡ x
