-- The laws of the pads that the functions' proofs cite, and `Macs`, which other crates cite too.
pub mod Pads
pub mod Macs
