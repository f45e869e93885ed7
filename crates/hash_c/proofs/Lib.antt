-- The cases of an outcome, which both functions' proofs cite.
mod Outcomes
