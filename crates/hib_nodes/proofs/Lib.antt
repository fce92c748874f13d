-- What parts see, and ticks.
mod Lists
mod Apart
-- What parts stand for, and what they answer.
mod Stands
mod Replies
mod Answered
mod Fenced
-- What waits, and where sessions are.
mod Queues
mod Waiting
mod Named
mod Chosen
mod Sides
mod OwnAnswers
-- A run begins, and goes on.
mod Begun
mod Going
mod Delivering
mod Turned
mod Still
mod Refused
mod Stepped
mod Obeyed
mod Closing
mod Served
-- What is played.
mod Playing
