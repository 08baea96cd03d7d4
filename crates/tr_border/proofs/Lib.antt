mod AbsentLemmas
mod CopyLemmas
mod NameLemmas
mod NumberLemmas
