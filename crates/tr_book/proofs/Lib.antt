pub mod BookLemmas
pub mod ChangeLemmas
pub mod ClosedLemmas
pub mod PacketLemmas
pub mod PlaceLemmas
pub mod RowLemmas
pub mod SearchLemmas
