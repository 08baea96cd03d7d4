pub mod Accounts
pub mod Holds
pub mod Logs
pub mod Moments
pub mod Seats
pub mod StreamSteps
pub mod Takes
