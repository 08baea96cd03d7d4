pub mod CountLemmas
pub mod Steps
pub mod WordLemmas
