pub mod Faults
pub mod Feeding
pub mod Pools
pub mod Sides
pub mod Threads
pub mod Turns
