-- The laws of the rounds that the functions' proofs cite, and those on the block step that other crates cite.
pub mod RoundLaws
