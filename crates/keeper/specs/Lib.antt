-- What resume hands back, and what a C caller gets.
pub mod Lent
pub mod Numbers
