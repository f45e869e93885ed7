-- Document 01's charge rules on a state of any number of racks, what requests in order give and sum up to, what the functions ask
-- for, and the acceptance table.
pub mod Rules
pub mod Ready
pub mod Replay
pub mod Sums
pub mod Counted
pub mod Table
