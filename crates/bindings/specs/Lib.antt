-- Document 01, 'What is hashed', and the sealing of a record.
pub mod Hashed
pub mod Sealing
