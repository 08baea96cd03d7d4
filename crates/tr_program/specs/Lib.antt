pub mod Endings
pub mod Exports
pub mod Runs
