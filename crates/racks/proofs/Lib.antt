-- The laws that callers cite, a file for each idea.
pub mod RackBytes
pub mod StatePlaces
pub mod StateBytes
pub mod StateRule
pub mod FirstState
pub mod Percents
pub mod Sums
mod StateChunks
