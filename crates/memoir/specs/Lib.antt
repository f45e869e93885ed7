-- Memoir-Basic's two actions, transcribed from the published report, document 01's instance of them, and what is proved of them.
pub mod Primitives
pub mod Storage
pub mod PerformOperation
pub mod RepeatOperation
pub mod Instance
pub mod Actions
pub mod Theorems
