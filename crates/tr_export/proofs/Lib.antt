pub mod ArchiveLemmas
pub mod FileLemmas
pub mod HeldLemmas
pub mod MakingLemmas
