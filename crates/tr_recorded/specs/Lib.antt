pub mod Found
pub mod Made
pub mod Recorded
pub mod Written
