pub mod ArchiveNameLemmas
pub mod AuditLemmas
pub mod FeedsLemmas
pub mod FileLemmas
pub mod GapLemmas
pub mod OnlyLemmas
pub mod ReadingLemmas
pub mod WaitingLemmas
