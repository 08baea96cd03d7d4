pub mod KeptLemmas
pub mod LawLemmas
pub mod MemoryLemmas
pub mod ScanLemmas
pub mod TraceLemmas
pub mod WindowLemmas
