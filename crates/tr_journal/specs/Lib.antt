pub mod Journals
pub mod Views
pub mod Whole
