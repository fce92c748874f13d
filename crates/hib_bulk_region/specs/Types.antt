-- The types of hib_bulk_law that are named here, from one place. Declares nothing.
pub use Rattle.hib_bulk_law.specs.declared.bulks.BulkDef.{BulkDef}
pub use Rattle.hib_bulk_law.specs.declared.bulks.BulkAct.{BulkAct}
pub use Rattle.hib_bulk_law.specs.declared.bulks.BulkReply.{BulkReply}
pub use Rattle.hib_bulk_law.specs.declared.bulks.BulkEntry.{BulkEntry}
