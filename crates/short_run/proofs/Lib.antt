-- A run of the keeper that ships meets the condition's own premises.
pub mod Premises
