pub mod BookLemmas
pub mod ListLemmas
pub mod NameLemmas
pub mod TimeLemmas
