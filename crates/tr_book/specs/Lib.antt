pub mod Bodies
pub mod Closed
pub mod Counters
pub mod Parts
pub mod Runs
pub mod Snaps
