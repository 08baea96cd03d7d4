pub mod Failures
pub mod Kept
pub mod Tree
