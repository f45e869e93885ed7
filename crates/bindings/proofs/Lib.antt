-- The laws of what is hashed and of sealing that other crates cite.
pub mod Hashes
pub mod Seals
