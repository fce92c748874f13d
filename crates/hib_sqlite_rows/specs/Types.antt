-- The types of hib_base that are named here, from one place. Declares nothing.
pub use Rattle.hib_base.specs.declared.numbers.Key.{Key}
pub use Rattle.hib_base.specs.declared.rows.Cell.{Cell}
pub use Rattle.hib_base.specs.declared.rows.Row.{Row}
