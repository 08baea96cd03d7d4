pub mod Names
pub mod Apart
pub mod Handles
pub mod Moved
pub mod Sending
pub mod Sent
