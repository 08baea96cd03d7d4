pub mod AnswerLemmas
mod FileLemmas
pub mod FlawLemmas
pub mod ListLemmas
pub mod ReadLemmas
mod TellingLemmas
