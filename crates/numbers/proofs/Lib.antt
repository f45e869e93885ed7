-- The laws that callers cite, a file for each idea; `Differences` serves this crate's own proofs alone.
pub mod Bytes
pub mod Numbers
pub mod Parts
pub mod Layouts
pub mod Forms
pub mod Laying
pub mod Slots
pub mod Lending
pub mod Comparison
mod Differences
pub mod BigEndian
pub mod Testing
