pub mod PageLemmas
pub mod StoreLemmas
