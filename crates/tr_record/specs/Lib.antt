pub mod Bytes
pub mod Pieces
pub mod Raw
pub mod Reading
pub mod Records
pub mod Streams
pub mod Weight
pub mod Whole
