pub mod Ledgers
pub mod Views
