-- Answers of the region's calls as replies.
use Rattle.hib_journal.specs.Types.{Reply}
use Rattle.hib_room_laws.specs.Answers as Room
use Rattle.hib_bulk_region.specs.Types.{BulkReply}
use Rattle.hib_bulk_region.specs.declared.answers.BulkGot.{BulkGot}
use Rattle.hib_bulk_region.specs.declared.answers.BulkPut.{BulkPut}
use Rattle.hib_bulk_region.specs.declared.answers.BulkInserted.{BulkInserted}

abbrev pub got_reply : BulkGot → BulkReply
got_reply (BulkGot.Wide n) = BulkReply.Wide n
got_reply (BulkGot.Plain g) = BulkReply.Plain (Room.got_reply g)

abbrev pub put_reply : BulkPut → BulkReply
put_reply (BulkPut.Wide n) = BulkReply.Wide n
put_reply (BulkPut.WideEarly u) = BulkReply.WideEarly u
put_reply (BulkPut.Plain p) = BulkReply.Plain (Reply.Put p)

abbrev pub inserted_reply : BulkInserted → BulkReply
inserted_reply (BulkInserted.Wide n) = BulkReply.Wide n
inserted_reply (BulkInserted.WideEarly u) = BulkReply.WideEarly u
inserted_reply (BulkInserted.Plain p) = BulkReply.Plain (Reply.Inserted p)
