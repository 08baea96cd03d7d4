pub mod ColumnLemmas
pub mod PacketLemmas
