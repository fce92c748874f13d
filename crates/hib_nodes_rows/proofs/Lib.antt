pub mod Run
mod OldItem
mod FencedPut
