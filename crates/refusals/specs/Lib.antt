-- Refusals, their numbers, and what tests find.
pub mod Numbers
pub mod Tested
