-- What is proved of open.
pub mod Cases
