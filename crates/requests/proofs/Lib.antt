-- The laws that callers cite: requests written and read back, and what is known of a request that was read. `Bytes`
-- serves this crate's own proofs alone.
pub mod Chains
pub mod Written
pub mod Formed
mod Bytes
