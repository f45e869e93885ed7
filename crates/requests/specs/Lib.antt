-- Document 01's requests: their bytes, when they are well formed, what they ask, what they count for, and what is known of one that was
-- read.
pub mod Layout
pub mod Formed
pub mod Kinds
pub mod Requests
pub mod Counted
pub mod Range
