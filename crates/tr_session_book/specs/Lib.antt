pub mod Book
pub mod BookSteps
pub mod Faults
pub mod Names
