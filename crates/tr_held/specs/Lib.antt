pub mod Holding
pub mod Kept
