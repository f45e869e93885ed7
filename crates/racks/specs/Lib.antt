-- Document 01's racks: their four figures and their bytes, the state as a list of them, the state rule, and what view shows.
pub mod Racks
pub mod Layout
pub mod Rule
pub mod Figures
pub mod Edition
