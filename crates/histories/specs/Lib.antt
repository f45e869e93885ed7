-- Runs of calls and power cuts, what each call did, the premises, what is proved, and a run written out.
pub mod Folds
pub mod Calls
pub mod Did
pub mod Runs
pub mod Premises
pub mod Laws
pub mod Statements
pub mod Duty
pub mod Ties
pub mod Closed
pub mod Toy
pub mod Witness
pub mod WitnessRun
pub mod WitnessDuty
