pub mod TotalLemmas
