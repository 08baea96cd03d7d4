pub mod Asks
pub mod Codes
pub mod Outs
pub mod Inputs
pub mod Texts
pub mod Pairs
pub mod Audits
pub mod Replies
