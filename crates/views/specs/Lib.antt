-- What the answers of view and resume say, and what view shows of a state.
pub mod Told
pub mod Seen
