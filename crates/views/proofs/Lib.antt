-- What the verdicts of view and of resume come to, case by case.
pub mod Shown
pub mod Chosen
