-- What each of the five calls answers, over any design, and the design that ships; and, as statements, what the answers are like.
pub mod Design
pub mod Hashing
pub mod Rows
pub mod Judging
pub mod Answers
pub mod Edition
pub mod Accepting
pub mod Written
pub mod RepeatIsPerform
pub mod Unchanged
pub mod Strength
