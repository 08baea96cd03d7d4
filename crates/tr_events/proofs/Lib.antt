mod BackLemmas
pub mod DeclaredLemmas
mod EndLemmas
pub mod EnvLemmas
pub mod FoundLemmas
mod ListLemmas
pub mod NumberLemmas
mod PartLemmas
mod OrderLemmas
mod PackLemmas
pub mod SplitLemmas
pub mod UnpackLemmas
pub mod WritingLemmas
