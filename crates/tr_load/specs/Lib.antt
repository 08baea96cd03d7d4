pub mod Crews
pub mod Loads
pub mod Plans
pub mod Rounds
pub mod Telling
pub mod Texts
pub mod Watching
pub mod Works
