-- FIPS 180-4, sections 3 and 4.1.2: words, their operations, and the six functions of SHA-256.
pub mod Words
pub mod Functions
