-- What is proved of the faces, and that each promise leaves one outcome.
pub mod Answers
pub mod Uniqueness
