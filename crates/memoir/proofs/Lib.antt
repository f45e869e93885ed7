-- That perform and repeat are the report's two actions, that a refused call leaves every variable as it was, and that the private state is
-- empty.
pub mod Variables
pub mod Answers
pub mod Enabling
pub mod Performs
pub mod Repeats
pub mod Possibles
pub mod Stays
pub mod PrivateStates
pub mod ThisEdition
