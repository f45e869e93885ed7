-- FIPS 180-4, section 4.2.2, and section 6.2.2 for one block: the constants, the schedule, and the step from one hash value
-- to the next.
pub mod Constants
pub mod Schedule
pub mod Step
