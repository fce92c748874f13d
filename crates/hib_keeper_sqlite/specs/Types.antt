-- The types that are named here, from one place. Declares nothing.
pub use Rattle.hib_base.specs.declared.numbers.Key.{Key}
pub use Rattle.hib_base.specs.declared.rows.Row.{Row}
pub use Rattle.hib_base.specs.declared.rows.Change.{Change}
pub use Rattle.hib_outside.specs.declared.keeper.Applied.{Applied}
