pub mod Image
pub mod Kept
pub mod Traces
