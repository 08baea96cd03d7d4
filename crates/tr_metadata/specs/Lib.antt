pub mod Metadata
pub mod Reader
pub mod Recovery
