pub mod Archives
pub mod Content
pub mod Failures
pub mod Faults
pub mod Kept
pub mod Making
pub mod Paths
