pub mod ArchiveName
pub mod Audit
pub mod Civil
pub mod Faults
pub mod Files
pub mod Reading
