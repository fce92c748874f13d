-- One key at one node, with no journal in sight.
mod Sight
mod Protocol
-- Who does an entry, and what its reply is.
mod Rules
-- The committed rows of a key, by the number of commits on it.
mod Rows
-- The queue of a node, and how many commits it knows.
mod Queues
-- What sessions have seen of a key.
mod Seen
-- Each entry as one key at one node sees it.
mod Views
mod Steps
-- A sound key is coherent at every entry; and what is claimed of its item.
mod Whole
mod Since
mod Items
-- What is legal by its parts and by its sessions is legal.
mod Apart
mod Told
mod Parted
