pub mod Geometry
pub mod Names
pub mod Offsets
pub mod SessionModes
