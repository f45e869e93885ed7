-- What the answers of open say.
pub mod Told
