-- What stands for the journal of a run, and what a turn does, of all that the sessions share together.
use Rattle.std.specs.Prelude.{List}
use Rattle.hib_journal.specs.Types.{Script}
use Rattle.hib_session.specs.Session.{number_of}
use Rattle.hib_engines.specs.Origin.{Origin}
use Rattle.hib_collections_law.specs.declared.entries.Def.{Def}
use Rattle.hib_collections.specs.Kept.{past}
use Rattle.hib_collections.specs.Run.{IsRun, Leaves, Serves, Turns}
use Rattle.hib_collections.specs.declared.members.Gatherer.{Gatherer}
use Rattle.hib_collections.specs.declared.shared.GatherShared.{GatherShared}
use Rattle.hib_collections.specs.declared.turns.Turned.{Turned}

-- the engines and the regions stand for the journal
abbrev pub IsShared : {K : Type 0} → Script → List Def → Origin → GatherShared K → Type 0
IsShared script defs from x = IsRun script defs from (past x.journal) x.engines x.regions.items

-- one entry of gatherer u was added, and all stands for the journal with it
abbrev pub HasServed : {K : Type 0} → Script → List Def → Origin → GatherShared K → GatherShared K → Gatherer → Gatherer → Turned → Type 0
HasServed script defs from x y u v t = Serves script defs from (number_of u.session) (past x.journal) (past y.journal) x.engines y.engines y.regions.items v t

-- nothing was added: all is as before, but for the keeper's counts, if what was due calls it
abbrev pub HasLeft : {K : Type 0} → Script → List Def → GatherShared K → GatherShared K → Gatherer → Gatherer → Type 0
HasLeft script defs x y u v = Leaves script defs (past x.journal) (past y.journal) x.engines y.engines x.regions.items y.regions.items u v

-- one or the other
abbrev pub HasTurned : {K : Type 0} → Script → List Def → Origin → GatherShared K → GatherShared K → Gatherer → Gatherer → Turned → Type 0
HasTurned script defs from x y u v t =
    Turns script defs from (number_of u.session) (past x.journal) (past y.journal) x.engines y.engines x.regions.items y.regions.items u v t
