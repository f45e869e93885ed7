-- A run of three calls, computed with the real hash.
pub mod ShortRun
