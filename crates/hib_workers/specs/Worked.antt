-- What workers leave of the factory that they were handed.
use Rattle.std.specs.Prelude.{◌≡◌, ℕ, true, false, [], None}
use Rattle.hib_journal.specs.Types.{Script}
use Rattle.hib_journal.specs.Kept.{past}
use Rattle.hib_law.specs.Law.{Obeys}
use Rattle.hib_session.specs.Bound.{outside_count}
use Rattle.hib_core.specs.Factory.{FactoryState, IsAskedOnceMore}
use Rattle.hib_core.specs.Playing.{GoesOn}
use Rattle.hib_engines.specs.Origin.{Origin}

-- the most workers that a run takes
abbrev pub max_workers : ℕ
max_workers = 64

-- a factory on which workers took turns, and the one that they were handed
pub record IsWorked (script : Script) (from : Origin) (handed now : FactoryState) : Type 0 where
  -- steps of sessions alone: no kill, no eviction and no restart
  pub inside : outside_count (past now.journal) ≡ 0
  pub law : Obeys script from.tables (past now.journal)
  pub on : GoesOn (past handed.journal) (past now.journal)
  -- if memory ran out, the keeper was asked at most once more than the journal says
  pub asked : handed.refused ≡ false → now.refused ≡ true → IsAskedOnceMore from (past now.journal) now.engines
  -- if it had run out before, nothing was done
  pub same : handed.refused ≡ true → now ≡ handed

-- a factory that nobody handed in
abbrev pub none_handed : FactoryState
none_handed = record {
  journal = record { list = []; spare = 0 };
  engines = record {
    store = record { tables = None; faults = 0; asked = 0; written = []; entities = 0; indexed = false };
    registry = [];
    stamps = [];
    regions = [];
    results = record { capacity = 0; kept = [] };
  };
  sessions = [];
  refused = false;
  told = [];
  deaf = false;
}
