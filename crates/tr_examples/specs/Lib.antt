pub mod Files
pub mod Offers
pub mod Rotations
pub mod Snapshots
pub mod Tour
