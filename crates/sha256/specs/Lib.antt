-- FIPS 180-4, sections 5 and 6.2: SHA-256 of a message that is a whole number of bytes; sections 3 and 4 and the step for one
-- block are the crates below. `Continued` is not in the standard: it names the same computation from the middle of a message
-- on, and a law ties it to the whole. `Examples` has the standard's worked examples, computed by the checker.
pub mod Padding
pub mod Parsing
pub mod Computation
pub mod Continued
pub mod Examples
