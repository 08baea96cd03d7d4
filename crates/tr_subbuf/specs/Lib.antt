pub mod Page
pub mod Stores
pub mod SubBuffer
