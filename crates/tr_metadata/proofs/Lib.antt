mod ClassLemmas
mod EventLemmas
mod FieldLemmas
mod PacketLemmas
mod RangeLemmas
pub mod RecoveryLemmas
