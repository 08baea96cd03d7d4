pub mod Archive
pub mod Lines
pub mod Recovering
