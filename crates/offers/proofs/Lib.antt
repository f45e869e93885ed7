-- The laws that callers cite: what the tests have found, what is known once they have passed, and when an authenticator is valid.
pub mod Passing
pub mod Authenticators
