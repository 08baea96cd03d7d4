pub mod Tallies
pub mod Views
