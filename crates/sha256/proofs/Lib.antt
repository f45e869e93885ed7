-- The laws that the functions' proofs cite: the digest's bytes, the schedule and the padded message. `ContinuedLaws` is for other crates too.
pub mod DigestLaws
pub mod ScheduleLaws
pub mod MessageLaws
pub mod ContinuedLaws
