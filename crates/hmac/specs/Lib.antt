-- HMAC-SHA-256 as FIPS 198-1 states it, and what a key comes to before any message is known.
pub mod Hmac
pub mod Preparation
