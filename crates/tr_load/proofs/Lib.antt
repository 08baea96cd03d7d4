pub mod LoadLemmas
pub mod TellLemmas
pub mod WatchLemmas
pub mod WorkLemmas
