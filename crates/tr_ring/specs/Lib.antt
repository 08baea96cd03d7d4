pub mod ClosedBuffer
pub mod Heads
pub mod Pages
pub mod Ring
