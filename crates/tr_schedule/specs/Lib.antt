pub mod Due
pub mod Schedules
