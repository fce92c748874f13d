use Rattle.hib_order_law.proofs.Search.{search_begins, search_goes_on, search_rises, search_ends, search_stops, search_due}
use Rattle.hib_order_law.proofs.searches_are_complete.Goals as goal

pub returns : goal.returns
returns c = record { begins = search_begins; goes_on = search_goes_on; rises = search_rises; ends = search_ends; stops = search_stops; due = search_due }
