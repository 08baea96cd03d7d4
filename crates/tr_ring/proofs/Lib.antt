pub mod MoveLemmas
pub mod PageLemmas
pub mod RecordLemmas
