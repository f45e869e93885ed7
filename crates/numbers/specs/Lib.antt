-- What the crate's contracts cite: numbers in bytes, parts of lists, comparing. Assumes nothing.
pub mod Numbers
pub mod Parts
pub mod Comparing
