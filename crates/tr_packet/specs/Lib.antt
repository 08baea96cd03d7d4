pub mod Decoding
pub mod Faults
pub mod Metadata
pub mod Order
pub mod Packets
pub mod Seen
pub mod Stores
pub mod Texts
