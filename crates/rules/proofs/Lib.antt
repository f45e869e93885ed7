-- The laws that callers cite: what a free ruling says, what a request changes and keeps, and what rows of requests give.
-- `InPlace` serves this crate's own proofs alone.
pub mod Rulings
pub mod Changes
pub mod Kept
pub mod Replays
mod InPlace
