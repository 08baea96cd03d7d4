pub mod LineLemmas
pub mod MadeLemmas
pub mod PartLemmas
pub mod SpanLemmas
