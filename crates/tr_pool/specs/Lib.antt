pub mod Faults
pub mod Fed
pub mod Judging
pub mod Logs
pub mod Reports
