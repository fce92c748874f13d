-- The types of hib_base that are named here, from one place. Declares nothing.
pub use Rattle.hib_base.specs.declared.numbers.Key.{Key}
pub use Rattle.hib_base.specs.declared.rows.Row.{Row}
pub use Rattle.hib_base.specs.declared.rows.Change.{Change}
pub use Rattle.hib_base.specs.declared.replies.Commit.{Commit}
pub use Rattle.hib_base.specs.declared.scripts.Query.{Query}
pub use Rattle.hib_base.specs.declared.scripts.Cond.{Cond}
